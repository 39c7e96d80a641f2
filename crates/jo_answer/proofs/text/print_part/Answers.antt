use Rattle.jo_io.proofs.Printed.{prints-both}
use Rattle.jo_answer.proofs.text.print_part.Goals as goal

pub returns-then-counted : goal.returns-then-counted
returns-then-counted g c =
    let run = rw c.deref.ensures.value at c.print_run.ensures in
    rw c.if-counted.true (prints-both run c.print_counts.ensures)
