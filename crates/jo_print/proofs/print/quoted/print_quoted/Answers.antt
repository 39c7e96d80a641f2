use Rattle.jo_io.proofs.Printed.{prints-both}
use Rattle.jo_print.proofs.print.quoted.print_quoted.Goals as goal

pub returns : goal.returns
returns g c = prints-both (prints-both c.put.ensures c.print_all_escaped.ensures) c.put-2.ensures
