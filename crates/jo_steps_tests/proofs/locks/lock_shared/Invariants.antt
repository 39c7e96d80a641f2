use Rattle.jo_steps.specs.Views.{IsPassOf}
use Rattle.jo_steps_tests.specs.Sharing.{MayTake, Stays}
use Rattle.jo_steps_tests.proofs.locks.lock_shared.Given as goal

abbrev pub invariant-loop : goal.invariant-loop
invariant-loop g l = IsPassOf l.heap l.pass × MayTake l.heap.passes l.pass.view × Stays l.initial.pass.view l.pass.view
