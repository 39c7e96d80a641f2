use Rattle.jo_io.proofs.Printed.{prints-both}
use Rattle.jo_print.proofs.print.value.print_object.Goals as goal

pub returns : goal.returns
returns g c = prints-both (prints-both (prints-both c.put.ensures c.put_integer.ensures) c.put-2.ensures) c.put_integer-2.ensures
