use Rattle.std.proofs.Common.{refl}
use Rattle.jo_model.specs.declared.call.Call.TheVariants.{Delete}
use Rattle.jo_value.specs.declared.value.Key.TheVariants.{Name}
use Rattle.jo_guard.proofs.Holding.{may_place}
use Rattle.jo_heap_tests.proofs.Keeping.{holds_read, holds_taken, holds_written, may_again}
use Rattle.jo_heap_tests.proofs.held.delete_held.Goals as goal

pub release-requires-clause-event : goal.release-requires-clause-event
release-requires-clause-event g c =
    let taken = holds_taken c.wait_for_lock-held.ensures.taken in
    let found = holds_read (holds_written taken c.remove.ensures.only c.remove.ensures.held.lock (c.remove.ensures.block _ taken.block)) c.look.ensures.only in
    may_place found.holding (Delete c.args.o (Name c.args.name)) refl (record { object = c.requires.may.born; key = tt; values = tt }) tt

pub returns-clause-may : goal.returns-clause-may
returns-clause-may g c =
    let taken = holds_taken c.wait_for_lock-held.ensures.taken in
    let found = holds_read (holds_written taken c.remove.ensures.only c.remove.ensures.held.lock (c.remove.ensures.block _ taken.block)) c.look.ensures.only in
    may_again c.requires.may c.release.ensures.pass found.holding found.used c.release.ensures.view
