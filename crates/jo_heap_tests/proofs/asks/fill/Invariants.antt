use Rattle.jo_heap_tests.specs.Working.{MayCall, Stays}
use Rattle.jo_heap_tests.proofs.asks.fill.Given as goal

abbrev pub invariant-loop-id : goal.invariant-loop-id
invariant-loop-id g l = MayCall l.heap l.o l.pass × Stays l.initial.pass.view l.pass.view
