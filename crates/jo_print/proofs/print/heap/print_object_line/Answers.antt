use Rattle.jo_io.proofs.Printed.{prints-both}
use Rattle.jo_print.proofs.print.heap.print_object_line.Goals as goal

pub returns : goal.returns
returns g c = prints-both (prints-both (prints-both c.print_object.ensures c.put.ensures) c.print_properties.ensures) c.put-2.ensures
