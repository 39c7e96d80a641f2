use Rattle.std.proofs.Common.{◌≡◌, ◌∙◌, ◌≤◌, length, sym, ap, arith}
use Rattle.std.proofs.lemmas.List.{length-map}
use Rattle.jo_value.specs.declared.limits.TheConstants.{MOST_SCRIPTS}
use Rattle.jo_parse_tree.specs.ScriptViews.{script_tree}
use Rattle.jo_model.proofs.WellFormed.{well_formed-after}
use Rattle.jo_parse.specs.Parsed.{Parsed, trees_of}
use Rattle.jo_answer.specs.Answers.{IsRun}
use Rattle.jo_answer.specs.Texts.{ended_bytes}
use Rattle.jo_answer.proofs.Outputs.{output_left}
use Rattle.jo_answer.proofs.Runnable.{due_of_run}
use Rattle.jo_answer.proofs.due.answer_to_set.Goals as goal

pub returns-clause-due : goal.returns-clause-due
returns-clause-due g c = λ bytes accepted.
    let set = c.args.set in
    let options = c.args.options in
    let ended = c.in_ok-ended.ended in
    let scripts = trees_of set in
    let run : IsRun options ended bytes (ended_bytes options.form set.1 ended) = record {
      scripts = scripts;
      texts = set.1;
      set = accepted;
      run = c.in_ok-ended.ensures;
      output_is = output_left options.form scripts set.1 options.turns ended c.in_ok-ended.ensures;
    } in
    due_of_run c.verdict_of.result options bytes (ended_bytes options.form set.1 ended) ended (rw (← c.deref.ensures.value) c.verdict_of.ensures) run

pub returns-clause-printable : goal.returns-clause-printable
returns-clause-printable g c =
    let ended = c.in_ok-ended.ended in
    let long : length ended.scripts.items ≡ length (trees_of c.args.set) =
    sym (length-map ended.scripts.items (λ e. e.outcome)) ∙ c.in_ok-ended.ensures.history.as_many in
    let count = length-map c.args.set.0 script_tree in
    let seen = ap (λ (s : Parsed). length s.0) c.set.view_is in
    let few : length ended.scripts.items ≤ MOST_SCRIPTS = omega (arith, long, count, seen, c.set.invariant.1) in
    (few, well_formed-after ended.closed.passes ended.closed.view.past.seen)
