use Rattle.std.proofs.Common.{◌<◌, ◌∙◌, ◌+◌, ◌-◌, ◌*◌, ap, refl, subst, ℕ, arith, length}
use Rattle.jo_value.specs.declared.value.Key.TheVariants.{Name}
use Rattle.jo_model.specs.Objects.{without_property}
use Rattle.jo_model.proofs.WellFormedObjects.{well_formed-delete}
use Rattle.jo_dict.specs.inner.Stored.{held_words}
use Rattle.jo_dict.specs.inner.Places.{IsClosed}
use Rattle.jo_dict.proofs.Views.{stores_as, same_room, block_has}
use Rattle.jo_dict.proofs.Wording.{words_less}
use Rattle.jo_dict.proofs.Taking.{name_taken}
use Rattle.jo_dict.proofs.Locating.{named_names, named_place}
use Rattle.jo_dict.proofs.changing.take_pair.Goals as goal

pub returns-clause-block : goal.returns-clause-block
returns-clause-block c z name b is =
    let v = c.args.pass.now.view in
    let t = c.close_gap.new.pass.view in
    let u = c.store_held.new.pass.view in
    let names = named_names b.properties is in
    let lt : c.args.at < length z.names = omega (arith, c.requires.names.0, names) in
    let closed = subst (λ (n : ℕ). IsClosed (held_words v) (2 + 2 * c.args.at) (2 + 2 * n) (held_words t)) names c.close_gap.ensures.closed in
    let count = stores_as refl refl (ap (λ (n : ℕ). n - 1) (c.from.ensures ∙ names)) c.store_held.ensures.words in
    block_has v u (without_property z (Name name)) (same_room t u c.store_held.ensures.only ∙ same_room v t c.close_gap.ensures.only)
    (name_taken b.properties name (named_place b.properties is) (held_words t) (held_words u) lt closed count)
    (words_less z (Name name) b.words) (well_formed-delete z (Name name) b.formed)
