use Rattle.jo_rule.specs.Names.{cell}
use Rattle.jo_steps.specs.inner.KindsOfLoads.{looked}
use Rattle.jo_steps.proofs.heap.Heap.load_cell.Given as goal

abbrev pub ghosts-load_by : goal.ghosts-load_by
ghosts-load_by a = record { passes = a.heap.now.passes; name = cell a.about.now.0; told = looked a.heap.now.passes a.about.now.0 a.about.now.1 }
