use Rattle.jo_io.proofs.Printed.{prints-both}
use Rattle.jo_io.proofs.printer.Printer.put.Goals as goal

pub returns-then-bytes-gt-MOST_WAITING : goal.returns-then-bytes-gt-MOST_WAITING
returns-then-bytes-gt-MOST_WAITING g c = prints-both c.make_room.ensures.printed c.send.ensures

pub returns-else-bytes-gt-MOST_WAITING : goal.returns-else-bytes-gt-MOST_WAITING
returns-else-bytes-gt-MOST_WAITING g c = prints-both c.make_room.ensures.printed c.keep.ensures
