use Rattle.jo_io.proofs.Printed.{prints-both}
use Rattle.jo_print.proofs.print.properties.print_element.Goals as goal

pub returns : goal.returns
returns g c = prints-both (prints-both c.put_integer.ensures c.put.ensures) c.print_property_value.ensures
