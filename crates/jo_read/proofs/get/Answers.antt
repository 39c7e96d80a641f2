use Rattle.std.proofs.Common.{ap, refl}
use Rattle.jo_model.specs.declared.call.Call.TheVariants.{Get}
use Rattle.jo_model.specs.declared.call.Reply.TheVariants as reply
use Rattle.jo_value.specs.declared.value.Value.TheVariants.{Undefined}
use Rattle.jo_model.specs.Objects.{property}
use Rattle.jo_steps.specs.Holding.{lock_of}
use Rattle.jo_read.proofs.Reading.{block_before, may_answer, nothing_found, read_placed, read_ready, value_found}
use Rattle.jo_read.proofs.get.Goals as goal

pub release-requires-clause-event : goal.release-requires-clause-event
release-requires-clause-event g c = may_answer c.wait_for_lock-held.ensures.taken c.look-slot.ensures.only (Get c.args.o c.args.key) refl c.requires.valid tt

pub returns-in-Holds-clause-ready : goal.returns-in-Holds-clause-ready
returns-in-Holds-clause-ready g c =
    read_ready (Get c.args.o c.args.key) c.requires.ready c.release.ensures.pass c.wait_for_lock-held.ensures.taken c.look-slot.ensures.only c.release.ensures.view

pub returns-in-Holds-clause-placed : goal.returns-in-Holds-clause-placed
returns-in-Holds-clause-placed g c =
    let taken = c.wait_for_lock-held.ensures.taken in
    let z = (lock_of c.wait_for_lock-held.new.pass.view).content in
    let slot = c.in-Holds.ensures.found z (block_before taken) in
    read_placed taken c.look-slot.ensures.only (Get c.args.o c.args.key) (reply.Found c.in-Holds.value) c.release.ensures.view (ap reply.Found (value_found (property z c.args.key) c.in-Holds.value slot))

pub returns-in-Absent-clause-ready : goal.returns-in-Absent-clause-ready
returns-in-Absent-clause-ready g c =
    read_ready (Get c.args.o c.args.key) c.requires.ready c.release.ensures.pass c.wait_for_lock-held.ensures.taken c.look-slot.ensures.only c.release.ensures.view

pub returns-in-Absent-clause-placed : goal.returns-in-Absent-clause-placed
returns-in-Absent-clause-placed g c =
    let taken = c.wait_for_lock-held.ensures.taken in
    let z = (lock_of c.wait_for_lock-held.new.pass.view).content in
    let slot = c.in-Absent.ensures.found z (block_before taken) in
    read_placed taken c.look-slot.ensures.only (Get c.args.o c.args.key) (reply.Found Undefined) c.release.ensures.view (ap reply.Found (nothing_found (property z c.args.key) slot))
