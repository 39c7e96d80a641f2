use Rattle.jo_rule.specs.Names.{cell}
use Rattle.jo_steps.specs.inner.Locking.{HasTried}
use Rattle.jo_steps.proofs.heap.Heap.lock_cell.Given as goal

abbrev pub ghosts-exchange_by : goal.ghosts-exchange_by
ghosts-exchange_by a = record { passes = a.heap.now.passes; name = cell a.about.now.0; told = HasTried a.heap.now.passes a.about.now.0 a.about.now.1 }
