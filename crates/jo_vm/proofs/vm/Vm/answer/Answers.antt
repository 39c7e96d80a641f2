use Rattle.std.proofs.Common.{arith}
use Rattle.jo_vm.proofs.Steps.{prepared_same}
use Rattle.jo_vm.proofs.vm.Vm.answer.Goals as goal

pub invariant_of-self : goal.invariant_of-self
invariant_of-self c =
    let e = c.self.inside.execution in
    record { prepared = prepared_same e c.settle.new.self c.settle.ensures.fixed e.at c.self.invariant.prepared; reach = omega arith }

pub invariant_of-self-in-Some : goal.invariant_of-self-in-Some
invariant_of-self-in-Some c =
    let e = c.self.inside.execution in
    record { prepared = prepared_same e c.settle.new.self c.settle.ensures.fixed e.at c.self.invariant.prepared; reach = omega arith }
