use Rattle.std.proofs.Common.{refl}
use Rattle.jo_model.specs.declared.call.Call.TheVariants as call
use Rattle.jo_guard.proofs.Holding.{may_place}
use Rattle.jo_guard.proofs.Finishing.{ready_still}
use Rattle.jo_write.proofs.Held.{held_written, written_used}
use Rattle.jo_write.proofs.writing.delete.Goals as goal

pub release-requires-clause-event : goal.release-requires-clause-event
release-requires-clause-event g c =
    let held = held_written c.wait_for_lock-held.ensures.taken c.locate-place.ensures.only c.take_out.new.pass.view c.take_out.ensures.only c.take_out.ensures.held.lock in
    may_place held (call.Delete c.args.o c.args.key) refl c.requires.valid tt

pub returns-clause-ready : goal.returns-clause-ready
returns-clause-ready g c =
    let taken = c.wait_for_lock-held.ensures.taken in
    let looked = c.locate-place.ensures.only in
    let u = c.take_out.new.pass.view in
    let only = c.take_out.ensures.only in
    ready_still c.requires.ready c.release.ensures.pass (held_written taken looked u only c.take_out.ensures.held.lock) c.release.ensures.view (written_used taken looked u only)
