use Rattle.jo_rule.specs.Names.{word_numbered}
use Rattle.jo_steps.specs.inner.KindsOfLoads.{loaded_own}
use Rattle.jo_steps.proofs.heap.Heap.load_own.Given as goal

abbrev pub ghosts-load_by : goal.ghosts-load_by
ghosts-load_by a = record { passes = a.heap.now.passes; name = word_numbered a.heap.now.passes a.at; told = loaded_own a.heap.now.passes a.at }
