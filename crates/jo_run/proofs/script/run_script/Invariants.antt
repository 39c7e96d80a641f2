use Rattle.jo_vm.specs.Machines.{stands}
use Rattle.jo_guard.specs.Ready.{IsReady}
use Rattle.jo_run.proofs.Running.{GoesOn}
use Rattle.jo_run.proofs.script.run_script.Given as goal

abbrev pub invariant-loop : goal.invariant-loop
invariant-loop g l = IsReady l.heap l.pass × GoesOn l.heap.passes (stands l.initial.vm) (stands l.vm) l.initial.pass.view l.pass.view
