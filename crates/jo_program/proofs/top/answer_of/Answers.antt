use Rattle.jo_answer.specs.Texts.{ended_of, text_of}
use Rattle.jo_program.proofs.Inputs.{answered, judged}
use Rattle.jo_program.proofs.top.answer_of.Goals as goal

pub returns-clause-judged : goal.returns-clause-judged
returns-clause-judged g c =
    let answer = c.in_ok-answer in
    let left = g.S.Source.left c.args.source.now in
    let left' = g.S.Source.left c.read_all.new.source in
    let said = answer.answer.verdict in
    let ended = ended_of answer.answer.due in
    let text = text_of answer.answer.due in
    judged left left' c.args.options said ended text
    (answered left left' c.args.options said c.deref.result.now ended text
    (rw c.deref.ensures.value c.in_ok-bytes.ensures.read) (rw c.deref.ensures.value c.in_ok-bytes.ensures.whole) answer.ensures.whole answer.ensures.due)
