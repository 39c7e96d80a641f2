use Rattle.std.proofs.Common.{refl, subst}
use Rattle.jo_dict.specs.Locating.{IsSpot}
use Rattle.jo_dict.proofs.Views.{same_room, stores_as}
use Rattle.jo_dict.proofs.Changed.{index_put, pair_put}
use Rattle.jo_dict.proofs.changing.add.Goals as goal

pub returns-in-Pair-clause-block : goal.returns-in-Pair-clause-block
returns-in-Pair-clause-block c z key b is =
    let v = c.args.pass.now.view in
    let u = c.store_held.new.pass.view in
    let stored = stores_as refl c.value_at.ensures c.slot_word-word.ensures c.store_held.ensures.words in
    pair_put b (same_room v u c.store_held.ensures.only) key _ _ c.args.value (subst (IsSpot v key) c.in-Pair.is is) c.requires.value stored

pub returns-in-Element-clause-block : goal.returns-in-Element-clause-block
returns-in-Element-clause-block c z key b is =
    let v = c.args.pass.now.view in
    let u = c.store_held-in-Element.new.pass.view in
    let stored = stores_as refl c.element_at.ensures c.slot_word-word.ensures c.store_held-in-Element.ensures.words in
    index_put b (same_room v u c.store_held-in-Element.ensures.only) key _ c.args.value (subst (IsSpot v key) c.in-Element.is is) c.requires.value stored
