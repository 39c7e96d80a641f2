use Rattle.jo_io.proofs.Printed.{prints-both}
use Rattle.jo_print.proofs.print.run.print_run.Goals as goal

pub returns : goal.returns
returns g c =
    let word = rw c.outcome_word.ensures at c.put-2.ensures in
    prints-both (prints-both (prints-both (prints-both c.print_lines.ensures c.put_integer.ensures) c.put.ensures) word) c.put-3.ensures
