use Rattle.jo_rule.specs.Names.{epoch}
use Rattle.jo_steps.specs.inner.KindsOfLoads.{stayed}
use Rattle.jo_steps.proofs.heap.Heap.join_pass.Given as goal

abbrev pub ghosts-load_by : goal.ghosts-load_by
ghosts-load_by a = record { passes = a.heap.now.passes; name = epoch; told = stayed }
