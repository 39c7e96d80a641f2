use Rattle.jo_rule.specs.Names.{word_numbered}
use Rattle.jo_steps.specs.inner.Storing.{HasStored}
use Rattle.jo_steps.proofs.heap.Heap.store_own.Given as goal

abbrev pub ghosts-store_by : goal.ghosts-store_by
ghosts-store_by a = record { passes = a.heap.now.passes; name = word_numbered a.heap.now.passes a.at; told = λ v stored u. HasStored a.heap.now.passes a.at a.word v u }
