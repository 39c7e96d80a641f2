use Rattle.std.proofs.Common.{refl, sym, ap, ◌∙◌, rules}
use Rattle.jo_value.specs.declared.value.Value.TheVariants as value
use Rattle.jo_value.specs.Words.{IsTyped}
use Rattle.jo_model.specs.declared.call.Call.TheVariants as call
use Rattle.jo_model.specs.declared.call.Reply.TheVariants as reply
use Rattle.jo_model.specs.Objects.{Object, value_of}
use Rattle.jo_rule.specs.Dictionaries.{IsKeyWord}
use Rattle.jo_steps.specs.Holding.{lock_of}
use Rattle.jo_guard.proofs.Finishing.{finished_place, ready_still}
use Rattle.jo_guard.proofs.Holding.{may_place, value_in_range}
use Rattle.jo_write.proofs.Held.{changed_content, changed_used, held_changed}
use Rattle.jo_write.proofs.Swaps.{absent_value, found_value}
use Rattle.jo_write.proofs.writing.cas.Goals as goal

pub swap-slot-requires-clause-value : goal.swap-slot-requires-clause-value
swap-slot-requires-clause-value g c =
    let typed : IsTyped c.args.desired = search rules in (value_in_range c.args.heap.now.passes c.args.pass.now.view.past.seen c.args.desired c.requires.valid.values.1, typed)

pub release-requires-clause-event : goal.release-requires-clause-event
release-requires-clause-event g c =
    let typed : IsTyped c.args.desired = search rules in
    let key : IsKeyWord c.args.key = search rules in
    may_place (held_changed c.wait_for_lock-held.ensures.taken c.swap-slot.ensures.only c.swap-slot.ensures.held.lock) (call.Cas c.args.o c.args.key c.args.expected c.args.desired) refl c.requires.valid
    (key, (value_in_range c.args.heap.now.passes c.args.pass.now.view.past.seen c.args.desired c.requires.valid.values.1, typed))

pub returns-in-Holds-clause-ready : goal.returns-in-Holds-clause-ready
returns-in-Holds-clause-ready g c =
    let taken = c.wait_for_lock-held.ensures.taken in
    let only = c.swap-slot.ensures.only in
    ready_still c.requires.ready c.release.ensures.pass (held_changed taken only c.swap-slot.ensures.held.lock) c.release.ensures.view (changed_used taken only)

pub returns-in-Holds-clause-placed : goal.returns-in-Holds-clause-placed
returns-in-Holds-clause-placed g c =
    let only = c.swap-slot.ensures.only in
    let z = (lock_of c.wait_for_lock-held.new.pass.view).content in
    finished_place (held_changed c.wait_for_lock-held.ensures.taken only c.swap-slot.ensures.held.lock) (call.Cas c.args.o c.args.key c.args.expected c.args.desired) (reply.Found c.in-Holds.value) c.release.ensures.view
    (ap (λ (q : Object). reply.Found (value_of q c.args.key)) (changed_content c.wait_for_lock-held.ensures.taken only) ∙ ap reply.Found (found_value z c.args.key c.in-Holds.value (sym c.in-Holds.is ∙ c.swap-slot.ensures.found)))

pub returns-in-Absent-clause-ready : goal.returns-in-Absent-clause-ready
returns-in-Absent-clause-ready g c =
    let taken = c.wait_for_lock-held.ensures.taken in
    let only = c.swap-slot.ensures.only in
    ready_still c.requires.ready c.release.ensures.pass (held_changed taken only c.swap-slot.ensures.held.lock) c.release.ensures.view (changed_used taken only)

pub returns-in-Absent-clause-placed : goal.returns-in-Absent-clause-placed
returns-in-Absent-clause-placed g c =
    let only = c.swap-slot.ensures.only in
    let z = (lock_of c.wait_for_lock-held.new.pass.view).content in
    finished_place (held_changed c.wait_for_lock-held.ensures.taken only c.swap-slot.ensures.held.lock) (call.Cas c.args.o c.args.key c.args.expected c.args.desired) (reply.Found value.Undefined) c.release.ensures.view
    (ap (λ (q : Object). reply.Found (value_of q c.args.key)) (changed_content c.wait_for_lock-held.ensures.taken only) ∙ ap reply.Found (absent_value z c.args.key (sym c.in-Absent.is ∙ c.swap-slot.ensures.found)))
