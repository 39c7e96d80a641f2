use Rattle.std.proofs.Common.{ap, refl, sym}
use Rattle.jo_model.specs.declared.call.Call.TheVariants.{Names}
use Rattle.jo_model.specs.declared.call.Reply.TheVariants as reply
use Rattle.jo_steps.specs.Holding.{lock_of}
use Rattle.jo_read.proofs.Reading.{block_before, may_answer, read_placed, read_ready}
use Rattle.jo_read.proofs.names.Goals as goal

pub release-requires-clause-event : goal.release-requires-clause-event
release-requires-clause-event g c = may_answer c.wait_for_lock-held.ensures.taken c.names-names.ensures.only (Names c.args.o) refl c.requires.valid tt

pub returns-clause-ready : goal.returns-clause-ready
returns-clause-ready g c =
    read_ready (Names c.args.o) c.requires.ready c.release.ensures.pass c.wait_for_lock-held.ensures.taken c.names-names.ensures.only c.release.ensures.view

pub returns-clause-placed : goal.returns-clause-placed
returns-clause-placed g c =
    let taken = c.wait_for_lock-held.ensures.taken in
    let z = (lock_of c.wait_for_lock-held.new.pass.view).content in
    let names = c.names-names.ensures.names z (block_before taken) in
    read_placed taken c.names-names.ensures.only (Names c.args.o) (reply.Names c.names-names.result) c.release.ensures.view (ap reply.Names (sym names))
