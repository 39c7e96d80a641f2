use Rattle.jo_io.proofs.Printed.{prints-both}
use Rattle.jo_answer.proofs.text.print_whole.Goals as goal

pub returns : goal.returns
returns g c =
    let scripts = rw c.deref.ensures.value at c.print_scripts.ensures in
    prints-both scripts c.print_heap.ensures
