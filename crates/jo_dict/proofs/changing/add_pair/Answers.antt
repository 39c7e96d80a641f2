use Rattle.std.proofs.Common.{◌≡◌, ◌<◌, ◌∙◌, ◌+◌, ap, refl, rules, arith, ℕ, length}
use Rattle.jo_value.specs.declared.value.Key.TheVariants.{Name}
use Rattle.jo_model.specs.One.{put_in}
use Rattle.jo_model.proofs.WellFormedObjects.{well_formed-put}
use Rattle.jo_dict.specs.inner.Stored.{held_words}
use Rattle.jo_dict.proofs.Views.{stores_as, same_room, block_has}
use Rattle.jo_dict.proofs.Wording.{words_put}
use Rattle.jo_dict.proofs.Adding.{name_done, not_there}
use Rattle.jo_dict.proofs.Locating.{named_names, named_place}
use Rattle.jo_dict.proofs.changing.add_pair.Goals as goal

pub returns-clause-block : goal.returns-clause-block
returns-clause-block c z b is =
    let v = c.args.pass.now.view in
    let u = c.store_held.new.pass.view in
    let t = c.store_held-2.new.pass.view in
    let w = c.store_held-3.new.pass.view in
    let names = named_names b.properties is in
    let few : length z.names < 64 = omega (arith, c.requires.few, names) in
    let value = stores_as refl c.value_at.ensures c.slot_word-word.ensures c.store_held.ensures.words in
    let name = stores_as refl c.name_at.ensures c.from.ensures c.store_held-2.ensures.words in
    let count = stores_as refl refl (ap (λ (n : ℕ). n + 1) (c.from-2.ensures ∙ names)) c.store_held-3.ensures.words in
    let small : c.args.name.0 < 65536 = search rules in
    block_has v w (put_in z (Name c.args.name) c.args.value).0
    (same_room t w c.store_held-3.ensures.only ∙ same_room u t c.store_held-2.ensures.only ∙ same_room v u c.store_held.ensures.only)
    (name_done b.properties c.args.name c.args.value (held_words u) (held_words t) (held_words w) (not_there b.properties c.args.name (named_place b.properties is) names) names few value name count)
    (words_put z (Name c.args.name) c.args.value (small, c.requires.value) b.words) (well_formed-put z (Name c.args.name) c.args.value b.formed)
