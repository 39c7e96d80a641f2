use Rattle.std.proofs.Common.{refl, subst}
use Rattle.jo_dict.specs.Locating.{IsSpot}
use Rattle.jo_dict.proofs.Views.{same_room, stores_as}
use Rattle.jo_dict.proofs.Changed.{index_taken, none_taken}
use Rattle.jo_dict.proofs.Locating.{none_at_end}
use Rattle.jo_dict.proofs.changing.take_at.Goals as goal

pub returns-in-End-clause-block : goal.returns-in-End-clause-block
returns-in-End-clause-block c z key b is =
    none_taken key b (none_at_end b.properties key _ _ (subst (IsSpot c.args.pass.now.view key) c.in-End.is is))

pub returns-in-Element-clause-block : goal.returns-in-Element-clause-block
returns-in-Element-clause-block c z key b is =
    let v = c.args.pass.now.view in
    let u = c.store_held.new.pass.view in
    let absent = stores_as refl c.element_at.ensures c.slot_word.ensures c.store_held.ensures.words in
    index_taken b (same_room v u c.store_held.ensures.only) key _ (subst (IsSpot v key) c.in-Element.is is) absent
