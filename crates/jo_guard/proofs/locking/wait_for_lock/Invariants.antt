use Rattle.jo_steps.specs.Views.{IsPassOf}
use Rattle.jo_guard.proofs.Waiting.{HasWaited}
use Rattle.jo_guard.proofs.locking.wait_for_lock.Given as goal

abbrev pub invariant-loop : goal.invariant-loop
invariant-loop g l = IsPassOf l.heap l.pass × HasWaited l.heap.passes l.initial.pass.view l.pass.view
