use Rattle.jo_vm.specs.Machines.{IsFree, stands}
use Rattle.jo_vm_tests.proofs.driving.ending.Given as goal

abbrev pub invariant-loop : goal.invariant-loop
invariant-loop l = IsFree (stands l.vm)
