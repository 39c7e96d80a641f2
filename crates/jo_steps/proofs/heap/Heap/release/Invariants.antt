use Rattle.jo_rule.specs.Names.{cell}
use Rattle.jo_steps.specs.inner.Locking.{HasReleased, token}
use Rattle.jo_steps.proofs.heap.Heap.release.Given as goal

abbrev pub ghosts-store_by : goal.ghosts-store_by
ghosts-store_by a = record { passes = a.heap.now.passes; name = cell a.about.now.0; told = λ v stored u. HasReleased a.heap.now.passes (token a.about.now.0 a.about.now.1) a.about.now.2 a.about.now.3 v u }
