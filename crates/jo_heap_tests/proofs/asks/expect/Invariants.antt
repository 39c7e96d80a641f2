use Rattle.jo_heap_tests.specs.Working.{MayCall, Stays}
use Rattle.jo_heap_tests.proofs.asks.expect.Given as goal

abbrev pub invariant-loop-row : goal.invariant-loop-row
invariant-loop-row g l = MayCall l.heap l.o l.pass × Stays l.initial.pass.view l.pass.view
