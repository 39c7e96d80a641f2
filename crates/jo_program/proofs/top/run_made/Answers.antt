use Rattle.std.proofs.Common.{ℕ, ◌≤◌, List, sym, subst, arith, length}
use Rattle.jo_value.specs.declared.limits.TheConstants.{MOST_INPUT}
use Rattle.jo_answer.specs.declared.due.Verdict.{Verdict}
use Rattle.jo_answer.specs.Answers.{IsDue}
use Rattle.jo_answer.specs.Texts.{ended_of, text_of}
use Rattle.jo_made.specs.Made.{made}
use Rattle.jo_made.proofs.Lengths.{made_short}
use Rattle.jo_program.specs.Run.{made_options, status_of}
use Rattle.jo_program.proofs.Inputs.{judged_whole}
use Rattle.jo_program.proofs.Written.{judged_printed, kept_of_printed}
use Rattle.jo_program.proofs.top.run_made.Goals as goal

pub returns-in-Ok-clause-kept : goal.returns-in-Ok-clause-kept
returns-in-Ok-clause-kept g c =
    let said = c.in-Ok.answer.verdict in
    let options = made_options c.args.number in
    let set = made c.args.number in
    let text = text_of c.in-Ok.answer.due in
    let is = λ (said : Verdict) (written : List ℕ). IsDue said options set c.print_answer.result.ended written in
    kept_of_printed is said text (g.K.Sink.held c.args.sink.now) (g.K.Sink.held c.print_answer.new.sink) c.print_answer.result.status c.print_answer.ensures.printed
    (subst (λ e. IsDue said options set e text) (sym c.print_answer.ensures.ended) c.in-Ok.ensures.due)

pub returns-in-Ok-clause-judged : goal.returns-in-Ok-clause-judged
returns-in-Ok-clause-judged g c =
    let said = c.in-Ok.answer.verdict in
    let set = made c.args.number in
    let few : length set ≤ MOST_INPUT = omega (arith, made_short c.args.number) in
    judged_printed (status_of said) c.print_answer.result.status set c.print_answer.ensures.printed.said
    (judged_whole (made_options c.args.number) said set (ended_of c.in-Ok.answer.due) (text_of c.in-Ok.answer.due) few c.in-Ok.ensures.due)
