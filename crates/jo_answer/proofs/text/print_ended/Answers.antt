use Rattle.std.proofs.Common.{rules}
use Rattle.jo_io.proofs.Advancing.{advances-err}
use Rattle.jo_io.proofs.Printed.{prints-whole}
use Rattle.jo_answer.proofs.text.print_ended.Goals as goal

pub returns-clause-err : goal.returns-clause-err
returns-clause-err g c =
    let whole = prints-whole _ _ _ c.new-printer.ensures.at_start c.print_form.ensures c.finish.ensures in
    let part = advances-err _ _ _ _ _ _ whole in
    search (rules, part)
