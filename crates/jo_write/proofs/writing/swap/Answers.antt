use Rattle.std.proofs.Common.{◌≡◌, true, false, None, ◌∙◌, sym, ap, subst, rules}
use Rattle.jo_value.specs.Values.{is_strictly_equal}
use Rattle.jo_value.specs.declared.value.Key.{Key}
use Rattle.jo_value.specs.declared.words.slot.Slot.TheVariants.{Holds}
use Rattle.jo_model.specs.Objects.{Object, property}
use Rattle.jo_rule.specs.Dictionaries.{slot_in}
use Rattle.jo_steps.specs.Holding.{HasBlockOf, lock_of}
use Rattle.jo_dict.specs.Blocks.{IsRoomFor}
use Rattle.jo_dict.specs.Locating.{IsLocated}
use Rattle.jo_dict.proofs.Locating.{located_still}
use Rattle.jo_dict.proofs.Views.{counts_then, same_block}
use Rattle.jo_write.proofs.Swaps.{is_absent, stayed, stayed_absent, swapped}
use Rattle.jo_write.proofs.writing.swap.Goals as goal

pub add-requires-clause-place : goal.add-requires-clause-place
add-requires-clause-place c =
    let w = c.locate-place.new.pass.view in
    let u = c.find-slot.new.pass.view in
    (c.args.key, subst (IsLocated u c.args.key) c.in-At.is (located_still w u c.args.key c.locate-place.result c.find-slot.ensures.only c.locate-place.ensures.place))

pub returns-in-Holds-clause-block : goal.returns-in-Holds-clause-block
returns-in-Holds-clause-block c =
    let v = c.args.pass.now.view in
    let w = c.locate-place.new.pass.view in
    let u = c.find-slot.new.pass.view in
    let z = (lock_of v).content in
    let same : is_strictly_equal c.in-Holds.found c.args.expected ≡ true = search rules in
    let block = same_block v w z c.locate-place.ensures.only c.requires.block in
    let found : Holds c.in-Holds.found ≡ slot_in (property z c.args.key) = sym c.in-Holds.is ∙ c.find-slot.ensures.found z c.args.key block c.locate-place.ensures.place in
    let spot = subst (IsLocated u c.args.key) c.in-At.is (located_still w u c.args.key c.locate-place.result c.find-slot.ensures.only c.locate-place.ensures.place) in
    subst (λ (q : Object). HasBlockOf c.add.new.pass.view q) (swapped z c.args.key c.in-Holds.found c.args.expected c.args.desired found same) (c.add.ensures.block z c.args.key (same_block w u z c.find-slot.ensures.only block) spot)

pub returns-else-eq-clause-block : goal.returns-else-eq-clause-block
returns-else-eq-clause-block c =
    let v = c.args.pass.now.view in
    let w = c.locate-place.new.pass.view in
    let u = c.find-slot.new.pass.view in
    let z = (lock_of v).content in
    let other : is_strictly_equal c.in-Holds.found c.args.expected ≡ false = search rules in
    let block = same_block v w z c.locate-place.ensures.only c.requires.block in
    let found : Holds c.in-Holds.found ≡ slot_in (property z c.args.key) = sym c.in-Holds.is ∙ c.find-slot.ensures.found z c.args.key block c.locate-place.ensures.place in
    subst (λ (q : Object). HasBlockOf u q) (stayed z c.args.key c.in-Holds.found c.args.expected c.args.desired found other) (same_block w u z c.find-slot.ensures.only block)

pub returns-in-NoMoreNames-clause-block : goal.returns-in-NoMoreNames-clause-block
returns-in-NoMoreNames-clause-block c =
    let v = c.args.pass.now.view in
    let w = c.locate-place.new.pass.view in
    let u = c.find-slot.new.pass.view in
    let z = (lock_of v).content in
    let room = subst (IsRoomFor (lock_of v).room z c.args.key) c.in-NoMoreNames.is (c.locate-place.ensures.room z c.requires.block) in
    subst (λ (q : Object). HasBlockOf u q) (stayed_absent z c.args.key c.args.expected c.args.desired (is_absent z c.args.key room.0)) (same_block v u z (counts_then v w u c.locate-place.ensures.only c.find-slot.ensures.only) c.requires.block)

pub returns-in-Beyond-clause-block : goal.returns-in-Beyond-clause-block
returns-in-Beyond-clause-block c =
    let v = c.args.pass.now.view in
    let w = c.locate-place.new.pass.view in
    let u = c.find-slot.new.pass.view in
    let z = (lock_of v).content in
    let room = subst (IsRoomFor (lock_of v).room z c.args.key) c.in-Beyond.is (c.locate-place.ensures.room z c.requires.block) in
    let none : property z c.args.key ≡ None = ap (property z) room.0 ∙ c.requires.block.properties.beyond _ room.1 in
    subst (λ (q : Object). HasBlockOf u q) (stayed_absent z c.args.key c.args.expected c.args.desired none) (same_block v u z (counts_then v w u c.locate-place.ensures.only c.find-slot.ensures.only) c.requires.block)
