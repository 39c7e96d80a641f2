use Rattle.jo_model.specs.Heaps.{shared}
use Rattle.jo_heap_tests.specs.Working.{MayCall, Stays}
use Rattle.jo_heap_tests.proofs.side_by_side.raise.Given as goal

abbrev pub invariant-loop : goal.invariant-loop
invariant-loop g l = MayCall l.heap shared l.pass × Stays l.initial.pass.view l.pass.view
