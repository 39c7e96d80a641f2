use Rattle.jo_vm.specs.Machines.{stands}
use Rattle.jo_run.proofs.Running.{goes_on_after_call, goes_on_after_turn, goes_on_at_start, run_at_end, valid_asked}
use Rattle.jo_run.proofs.script.run_script.Goals as goal

pub loop-init : goal.loop-init
loop-init g c = (c.requires.ready, goes_on_at_start c.args.heap.now.passes c.args.vm.now c.args.pass.now.view c.requires.may)

pub loop-preserved-in-Turn : goal.loop-preserved-in-Turn
loop-preserved-in-Turn g c = (
  c.loop.invariant.0,
  goes_on_after_turn c.args.heap.now.passes (stands c.args.vm.now) c.loop.vm c.next-in-loop.new.self c.args.pass.now.view c.loop.pass.view
      c.loop.invariant.1 c.in-Turn.ensures,
)

pub make_call-reply-requires-clause-valid : goal.make_call-reply-requires-clause-valid
make_call-reply-requires-clause-valid g c =
    valid_asked c.args.heap.now.passes (stands c.args.vm.now) c.loop.vm c.next-in-loop.new.self c.args.pass.now.view c.loop.pass.view c.in-Call.call
    c.loop.invariant.1 c.in-Call.ensures

pub loop-preserved : goal.loop-preserved
loop-preserved g c = (
  c.make_call-reply.ensures.ready,
  goes_on_after_call c.args.heap.now.passes (stands c.args.vm.now) c.loop.vm c.next-in-loop.new.self c.answer.new.self
      c.args.pass.now.view c.loop.pass.view c.make_call-reply.new.pass.view c.in-Call.call c.make_call-reply.result c.loop.invariant.1
      c.in-Call.ensures c.make_call-reply.ensures.placed c.answer.ensures,
)

pub returns-in-End-clause-run : goal.returns-in-End-clause-run
returns-in-End-clause-run g c = λ script texts turns at.
    run_at_end c.args.heap.now.passes c.args.vm.now c.loop.vm c.next-in-loop.new.self c.args.pass.now.view c.loop.pass.view
    c.in-End.outcome script texts turns c.loop.invariant.1 c.in-End.ensures at
