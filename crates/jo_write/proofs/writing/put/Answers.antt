use Rattle.std.proofs.Common.{◌≡◌, refl, ap, ◌∙◌, rules, subst}
use Rattle.jo_value.specs.declared.capacities.TheConstants.{ELEMENT_CAPACITIES}
use Rattle.jo_value.specs.declared.value.Key.TheVariants.{Index}
use Rattle.jo_value.specs.Words.{IsTyped}
use Rattle.jo_model.specs.declared.call.Call.TheVariants as call
use Rattle.jo_model.specs.declared.call.Reply.TheVariants as reply
use Rattle.jo_model.specs.Valid.{IsValidKey}
use Rattle.jo_rule.specs.declared.event.Event.TheVariants.{Place, Refuse}
use Rattle.jo_rule.specs.Dictionaries.{IsKeyWord, block_size}
use Rattle.jo_rule.specs.Steps.{with_named}
use Rattle.jo_rule.specs.Tidy.{own_changes}
use Rattle.jo_rule.specs.Views.{View}
use Rattle.jo_steps.specs.Holding.{lock_of}
use Rattle.jo_model.specs.Objects.{Object}
use Rattle.jo_model.specs.One.{put_in}
use Rattle.jo_steps.specs.Views.{PassView}
use Rattle.jo_guard.specs.Releasing.{HasReleased}
use Rattle.jo_guard.proofs.Finishing.{finished_place, finished_refuse, ready_again, ready_still}
use Rattle.jo_guard.proofs.Holding.{may_place, may_refuse, taken_block, value_in_range}
use Rattle.jo_write.specs.Answers.{least_above, need_for}
use Rattle.jo_write.proofs.Held.{held_made, held_read, held_still, held_written, read_used, still_storage, written_content, written_used}
use Rattle.jo_write.proofs.Puts.{address_then, covered, fault, filled_then, lawful, put_done, reply_then, spent_by, takes}
use Rattle.jo_write.proofs.Storage.{enough_left, need_is_few}
use Rattle.jo_write.proofs.writing.put.Given.{Over}
use Rattle.jo_write.proofs.writing.put.Goals.{After-release_moved}
use Rattle.jo_write.proofs.writing.put.Goals as goal

-- ---- there is room

pub add-requires-clause-value : goal.add-requires-clause-value
add-requires-clause-value g c =
    let typed : IsTyped c.args.value = search rules in (value_in_range c.args.heap.now.passes c.args.pass.now.view.past.seen c.args.value c.requires.valid.values, typed)

pub release-requires-clause-event : goal.release-requires-clause-event
release-requires-clause-event g c =
    let typed : IsTyped c.args.value = search rules in
    let key : IsKeyWord c.args.key = search rules in
    let held = held_written c.wait_for_lock-held.ensures.taken c.locate.ensures.only c.add.new.pass.view c.add.ensures.only c.add.ensures.held.lock in
    may_place held (call.Put c.args.o c.args.key c.args.value) refl c.requires.valid (key, (value_in_range c.args.heap.now.passes c.args.pass.now.view.past.seen c.args.value c.requires.valid.values, typed))

pub returns-in-At-clause-ready : goal.returns-in-At-clause-ready
returns-in-At-clause-ready g c =
    let taken = c.wait_for_lock-held.ensures.taken in
    let held = held_written taken c.locate.ensures.only c.add.new.pass.view c.add.ensures.only c.add.ensures.held.lock in
    ready_still c.requires.ready c.release.ensures.pass held c.release.ensures.view
    (written_used taken c.locate.ensures.only c.add.new.pass.view c.add.ensures.only)

pub returns-in-At-clause-placed : goal.returns-in-At-clause-placed
returns-in-At-clause-placed g c =
    let w = c.wait_for_lock-held.new.pass.view in
    let held = held_written c.wait_for_lock-held.ensures.taken c.locate.ensures.only c.add.new.pass.view c.add.ensures.only c.add.ensures.held.lock in
    let content = written_content c.wait_for_lock-held.ensures.taken c.locate.ensures.only c.add.new.pass.view c.add.ensures.only in
    finished_place held (call.Put c.args.o c.args.key c.args.value) reply.Done c.release.ensures.view
    (ap (λ (z : Object). (put_in z c.args.key c.args.value).1) content ∙ put_done (lock_of w).room (lock_of w).content c.args.key c.args.value (c.in-At.ensures.room (lock_of w).content (taken_block _ _ _ _ _ c.wait_for_lock-held.ensures.taken)))

-- ---- there is none for a name

pub release-requires-in-NoMoreNames-clause-event : goal.release-requires-in-NoMoreNames-clause-event
release-requires-in-NoMoreNames-clause-event g c =
    let typed : IsTyped c.args.value = search rules in
    let key : IsKeyWord c.args.key = search rules in
    let held = held_read c.wait_for_lock-held.ensures.taken c.locate.ensures.only in
    may_place held (call.Put c.args.o c.args.key c.args.value) refl c.requires.valid (key, (value_in_range c.args.heap.now.passes c.args.pass.now.view.past.seen c.args.value c.requires.valid.values, typed))

pub returns-in-NoMoreNames-clause-ready : goal.returns-in-NoMoreNames-clause-ready
returns-in-NoMoreNames-clause-ready g c =
    let taken = c.wait_for_lock-held.ensures.taken in
    ready_still c.requires.ready c.release-in-NoMoreNames.ensures.pass (held_read taken c.locate.ensures.only) c.release-in-NoMoreNames.ensures.view
    (read_used taken c.locate.ensures.only)

-- ---- an index is beyond the room

pub block_with-requires-clause-value : goal.block_with-requires-clause-value
block_with-requires-clause-value g c =
    let typed : IsTyped c.args.value = search rules in (value_in_range c.args.heap.now.passes c.args.pass.now.view.past.seen c.args.value c.requires.valid.values, typed)

pub release_moved-requires-clause-event : goal.release_moved-requires-clause-event
release_moved-requires-clause-event g c =
    let typed : IsTyped c.args.value = search rules in
    let key : IsKeyWord c.args.key = search rules in
    let held = held_made c.wait_for_lock-held.ensures.taken c.locate.ensures.only c.block_with.new.pass.view c.in-Ok.ensures.made.only in
    may_place held (call.Put c.args.o c.args.key c.args.value) refl c.requires.valid (key, (value_in_range c.args.heap.now.passes c.args.pass.now.view.past.seen c.args.value c.requires.valid.values, typed))

-- the block that was made was left with the object
left : (g : Over) (c : After-release_moved g) → HasReleased c.args.heap.now.passes (Place (call.Put c.args.o c.args.key c.args.value))
    (with_named c.block_with.new.pass.view.storage c.locate.new.pass.view.storage.used (block_size (least_above ELEMENT_CAPACITIES c.in-Beyond.index))) c.block_with.new.pass.view c.release_moved.new.pass.view
left g c =
    let taken = c.wait_for_lock-held.ensures.taken in
    let only = c.locate.ensures.only in
    let here = c.in-Beyond.ensures.room _ (taken_block _ _ _ _ _ c.wait_for_lock-held.ensures.taken) in
    let made = c.in-Ok.ensures.made in
    c.release_moved.ensures.view c.locate.new.pass.view.storage.used (least_above ELEMENT_CAPACITIES c.in-Beyond.index) (address_then c.args.value taken only here made) (filled_then c.args.value taken only here made)

pub returns-in-Ok-clause-ready : goal.returns-in-Ok-clause-ready
returns-in-Ok-clause-ready g c =
    let taken = c.wait_for_lock-held.ensures.taken in
    let only = c.locate.ensures.only in
    let here = c.in-Beyond.ensures.room _ (taken_block _ _ _ _ _ c.wait_for_lock-held.ensures.taken) in
    let made = c.in-Ok.ensures.made in
    ready_again c.requires.ready c.release_moved.ensures.pass (held_made taken only c.block_with.new.pass.view made.only) (left g c)
    (covered c.args.value taken only here made (left g c) refl c.requires.ready.tidy (subst IsValidKey here.0 c.requires.valid.key))

pub returns-in-Ok-clause-placed : goal.returns-in-Ok-clause-placed
returns-in-Ok-clause-placed g c =
    let taken = c.wait_for_lock-held.ensures.taken in
    let only = c.locate.ensures.only in
    let here = c.in-Beyond.ensures.room _ (taken_block _ _ _ _ _ c.wait_for_lock-held.ensures.taken) in
    let made = c.in-Ok.ensures.made in
    finished_place (held_made taken only c.block_with.new.pass.view made.only) (call.Put c.args.o c.args.key c.args.value) reply.Done (left g c) (reply_then c.args.value taken only here made)

pub returns-in-Ok-clause-done : goal.returns-in-Ok-clause-done
returns-in-Ok-clause-done g c = takes c.args.value c.wait_for_lock-held.ensures.taken c.locate.ensures.only (c.in-Beyond.ensures.room _ (taken_block _ _ _ _ _ c.wait_for_lock-held.ensures.taken)) c.in-Ok.ensures.made (left g c) refl

-- ---- storage does not suffice

pub release-requires-in-Err-clause-event : goal.release-requires-in-Err-clause-event
release-requires-in-Err-clause-event g c =
    let taken = c.wait_for_lock-held.ensures.taken in
    let only = c.locate.ensures.only in
    let here = c.in-Beyond.ensures.room _ (taken_block _ _ _ _ _ c.wait_for_lock-held.ensures.taken) in
    may_refuse (held_still taken only (ap (λ (p : PassView). p.view) c.in-Err.ensures.spent.1)) (call.Put c.args.o c.args.key c.args.value) c.in-Err.spent refl c.requires.valid
    (lawful c.args.value taken only here c.in-Err.ensures.spent.0 c.requires.ready.tidy (subst IsValidKey here.0 c.requires.valid.key))

pub returns-in-Err-clause-ready : goal.returns-in-Err-clause-ready
returns-in-Err-clause-ready g c =
    let taken = c.wait_for_lock-held.ensures.taken in
    let only = c.locate.ensures.only in
    let same : c.block_with.new.pass.view ≡ c.locate.new.pass.view = ap (λ (p : PassView). p.view) c.in-Err.ensures.spent.1 in
    ready_still c.requires.ready c.release-in-Err.ensures.pass (held_still taken only same) c.release-in-Err.ensures.view
    (ap (λ (x : View). x.storage.used) same ∙ read_used taken only)

pub returns-in-Err-clause-placed : goal.returns-in-Err-clause-placed
returns-in-Err-clause-placed g c =
    let taken = c.wait_for_lock-held.ensures.taken in
    let only = c.locate.ensures.only in
    let here = c.in-Beyond.ensures.room _ (taken_block _ _ _ _ _ c.wait_for_lock-held.ensures.taken) in
    finished_refuse (held_still taken only (ap (λ (p : PassView). p.view) c.in-Err.ensures.spent.1)) (call.Put c.args.o c.args.key c.args.value) c.in-Err.spent
    (own_changes c.args.heap.now.passes c.args.pass.now.view) c.release-in-Err.ensures.view
    (lawful c.args.value taken only here c.in-Err.ensures.spent.0 c.requires.ready.tidy (subst IsValidKey here.0 c.requires.valid.key))

pub returns-in-Err-clause-enough : goal.returns-in-Err-clause-enough
returns-in-Err-clause-enough g c =
    let taken = c.wait_for_lock-held.ensures.taken in
    let here = c.in-Beyond.ensures.room _ (taken_block _ _ _ _ _ c.wait_for_lock-held.ensures.taken) in
    λ few spent e. enough_left c.args.heap.now.passes (need_for (Index c.in-Beyond.index)) c.args.pass.now.view c.in-Err.spent c.requires.ready.tidy
    (need_is_few c.in-Beyond.index (subst IsValidKey here.0 c.requires.valid.key)) few (spent_by c.args.value taken c.locate.ensures.only here c.in-Err.ensures.spent.0)

pub returns-in-Err-clause-refused : goal.returns-in-Err-clause-refused
returns-in-Err-clause-refused g c =
    let taken = c.wait_for_lock-held.ensures.taken in
    let only = c.locate.ensures.only in
    let same : c.block_with.new.pass.view ≡ c.locate.new.pass.view = ap (λ (p : PassView). p.view) c.in-Err.ensures.spent.1 in
    let gone = c.release-in-Err.ensures.view in (
      fault c.args.value taken only (c.in-Beyond.ensures.room _ (taken_block _ _ _ _ _ c.wait_for_lock-held.ensures.taken)) c.in-Err.ensures.spent.0
          (subst (λ (x : View). HasReleased c.args.heap.now.passes (Refuse (call.Put c.args.o c.args.key c.args.value) c.in-Err.spent) c.block_with.new.pass.view.storage x c.release-in-Err.new.pass.view) same gone),
      still_storage taken only same gone,
    )
