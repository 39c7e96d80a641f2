use Rattle.std.proofs.Common.{refl, rules, subst, sym}
use Rattle.jo_value.specs.declared.value.Key.TheVariants.{Name}
use Rattle.jo_value.specs.declared.value.Value.TheVariants.{Bool}
use Rattle.jo_model.specs.declared.call.Call.TheVariants.{Put}
use Rattle.jo_model.specs.Objects.{Object}
use Rattle.jo_model.specs.One.{put_in}
use Rattle.jo_rule.specs.Dictionaries.{IsKeyWord}
use Rattle.jo_steps.specs.Holding.{HasBlockOf}
use Rattle.jo_guard.proofs.Holding.{may_place}
use Rattle.jo_heap_tests.proofs.Keeping.{holds_read, holds_taken, holds_written, may_again, same_content}
use Rattle.jo_heap_tests.proofs.held.put_held.Goals as goal

pub look-requires-2-clause-block : goal.look-requires-2-clause-block
look-requires-2-clause-block g c =
    let counted = holds_read (holds_read (holds_taken c.wait_for_lock-held.ensures.taken) c.look.ensures.only) c.len.ensures.only in
    (_, c.place.ensures.block _ counted.block)

pub release-requires-clause-event : goal.release-requires-clause-event
release-requires-clause-event g c =
    let counted = holds_read (holds_read (holds_taken c.wait_for_lock-held.ensures.taken) c.look.ensures.only) c.len.ensures.only in
    let found = holds_read (holds_written counted c.place.ensures.only c.place.ensures.held.lock (c.place.ensures.block _ counted.block)) c.look-2.ensures.only in
    let key : IsKeyWord (Name c.args.name) = search rules in
    may_place found.holding (Put c.args.o (Name c.args.name) (Bool c.args.flag)) refl (record { object = c.requires.may.born; key = tt; values = tt }) (key, (tt, tt))

pub release-requires-clause-block : goal.release-requires-clause-block
release-requires-clause-block g c =
    let counted = holds_read (holds_read (holds_taken c.wait_for_lock-held.ensures.taken) c.look.ensures.only) c.len.ensures.only in
    let found = holds_read (holds_written counted c.place.ensures.only c.place.ensures.held.lock (c.place.ensures.block _ counted.block)) c.look-2.ensures.only in
    let same = same_content c.wait_for_lock-held.new.pass.view c.look.new.pass.view c.len.new.pass.view c.place.new.pass.view c.look-2.new.pass.view
    c.look.ensures.only c.len.ensures.only c.place.ensures.only c.look-2.ensures.only in
    subst (λ (z : Object). HasBlockOf c.look-2.new.pass.view (put_in z (Name c.args.name) (Bool c.args.flag)).0) (sym same) found.block

pub returns-clause-may : goal.returns-clause-may
returns-clause-may g c =
    let counted = holds_read (holds_read (holds_taken c.wait_for_lock-held.ensures.taken) c.look.ensures.only) c.len.ensures.only in
    let found = holds_read (holds_written counted c.place.ensures.only c.place.ensures.held.lock (c.place.ensures.block _ counted.block)) c.look-2.ensures.only in
    may_again c.requires.may c.release.ensures.pass found.holding found.used c.release.ensures.view
