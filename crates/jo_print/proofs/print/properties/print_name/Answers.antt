use Rattle.jo_io.proofs.Printed.{prints-both}
use Rattle.jo_print.proofs.print.properties.print_name.Goals as goal

pub returns : goal.returns
returns g c = prints-both (prints-both (rw c.bytes.ensures at c.print_quoted.ensures) c.put.ensures) c.print_property_value.ensures
