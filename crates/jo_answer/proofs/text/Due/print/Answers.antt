use Rattle.std.proofs.Common.{◌≡◌, ◌∙◌, OnErr, ap, sym, subst}
use Rattle.jo_io.specs.Bytes.{AppendsPart}
use Rattle.jo_answer.specs.Texts.{ended_bytes, text_of}
use Rattle.jo_answer.proofs.text.Due.print.Goals as goal

pub returns-in-Output-clause-err : goal.returns-in-Output-clause-err
returns-in-Output-clause-err g c =
    let printed = c.print_ended-result in
    let due = c.in-Output in
    let text : ended_bytes due.form c.texts.result.now due.ended ≡ text_of c.args.self =
    ap (λ t. ended_bytes due.form t due.ended) c.texts.ensures ∙ ap text_of (sym due.is) in
    subst (λ t. OnErr printed.result (AppendsPart (g.K.Sink.held c.args.sink.now) (g.K.Sink.held printed.new.sink) t)) text printed.ensures.err
