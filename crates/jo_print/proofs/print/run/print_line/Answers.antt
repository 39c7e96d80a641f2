use Rattle.jo_io.proofs.Printed.{prints-both}
use Rattle.jo_print.proofs.print.run.print_line.Goals as goal

pub returns : goal.returns
returns g c = prints-both (prints-both c.put_integer.ensures c.put.ensures) c.put-2.ensures
