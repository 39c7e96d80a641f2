use Rattle.std.proofs.Common.{ℕ, List, sym, subst}
use Rattle.jo_answer.specs.declared.due.Verdict.{Verdict}
use Rattle.jo_answer.specs.Texts.{text_of}
use Rattle.jo_program.specs.Run.{status_of, IsAnswer}
use Rattle.jo_program.proofs.Written.{judged_printed_of, kept_of_printed}
use Rattle.jo_program.proofs.top.run_read.Goals as goal

pub returns-in-Ok-clause-kept : goal.returns-in-Ok-clause-kept
returns-in-Ok-clause-kept g c =
    let said = c.in-Ok.answer.verdict in
    let left = g.S.Source.left c.args.source.now in
    let left' = g.S.Source.left c.answer_of.new.source in
    let text = text_of c.in-Ok.answer.due in
    let is = λ (said : Verdict) (written : List ℕ). IsAnswer c.args.options said left left' c.print_answer.result.ended written in
    kept_of_printed is said text (g.K.Sink.held c.args.sink.now) (g.K.Sink.held c.print_answer.new.sink) c.print_answer.result.status c.print_answer.ensures.printed
    (subst (λ e. IsAnswer c.args.options said left left' e text) (sym c.print_answer.ensures.ended) c.in-Ok.ensures.due)

pub returns-in-Ok-clause-judged : goal.returns-in-Ok-clause-judged
returns-in-Ok-clause-judged g c =
    judged_printed_of (g.S.Source.left c.args.source.now) (status_of c.in-Ok.answer.verdict) c.print_answer.result.status
    c.print_answer.ensures.printed.said c.in-Ok.ensures.judged
