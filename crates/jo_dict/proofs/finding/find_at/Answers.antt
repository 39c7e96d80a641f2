use Rattle.std.proofs.Common.{sym, ap, ◌∙◌, subst}
use Rattle.jo_model.specs.Objects.{property}
use Rattle.jo_rule.specs.Dictionaries.{slot_in}
use Rattle.jo_dict.specs.Locating.{IsSpot}
use Rattle.jo_dict.specs.inner.Stored.{held_words}
use Rattle.jo_dict.proofs.Reading.{slot_valid}
use Rattle.jo_dict.proofs.Locating.{element_slot, none_at_end, pair_slot}
use Rattle.jo_dict.proofs.finding.find_at.Goals as goal

pub returns-in-Pair-clause-found : goal.returns-in-Pair-clause-found
returns-in-Pair-clause-found c z key b is =
    let v = c.args.pass.now.view in
    c.slot_at.ensures.slot (slot_in (property z key)) (slot_valid z key b.words)
    (pair_slot b.properties key _ _ (subst (IsSpot v key) c.in-Pair.is is) ∙ ap (held_words v) (sym c.value_at.ensures))

pub returns-in-End-clause-found : goal.returns-in-End-clause-found
returns-in-End-clause-found c z key b is =
    sym (ap slot_in (none_at_end b.properties key _ _ (subst (IsSpot c.args.pass.now.view key) c.in-End.is is)))

pub returns-in-Element-clause-found : goal.returns-in-Element-clause-found
returns-in-Element-clause-found c z key b is =
    let v = c.args.pass.now.view in
    c.slot_at-in-Element.ensures.slot (slot_in (property z key)) (slot_valid z key b.words)
    (element_slot b.properties key _ (subst (IsSpot v key) c.in-Element.is is) ∙ ap (held_words v) (sym c.element_at.ensures))
