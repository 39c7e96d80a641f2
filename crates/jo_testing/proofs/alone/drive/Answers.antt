use Rattle.jo_vm.specs.Machines.{stands}
use Rattle.jo_testing.proofs.Steps.{GoesOn, call_goes_on}
use Rattle.jo_testing.proofs.alone.drive.Goals as goal

pub loop-call-preserved : goal.loop-call-preserved
loop-call-preserved c =
    let called = c.in-Call.ensures in
    let step : GoesOn (stands c.loop-call.vm) (stands c.answer.new.self) c.loop-call.heap c.call.new.self =
    call_goes_on (stands c.loop-call.vm) (stands c.next.new.self) (stands c.answer.new.self) c.loop-call.heap c.call.new.self c.in-Call.call
    c.next.new.self.lines called.answered c.answer.ensures.answered c.in_ok-reply-in-Call.reply c.loop-call.invariant.calls
    called.was called.becomes c.answer.ensures.was c.answer.ensures.becomes c.in_ok-reply-in-Call.ensures.ok in
    record {
      free = step.free;
      calls = step.calls;
      all = λ heap lines outcome left. c.loop-call.invariant.all heap lines outcome (step.ends heap lines outcome left);
    }
