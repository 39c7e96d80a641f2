-- The held block after what is at a spot was changed, by the words that were stored.
use Rattle.std.proofs.Common.{◌≡◌, ℕ, ◌+◌, ◌*◌, ◌<◌, refl, sym, ap, ◌∙◌, subst, arith, length, is_some, None}
use Rattle.jo_value.specs.declared.value.Key.{Key}
use Rattle.jo_value.specs.declared.value.Key.TheVariants.{Name, Index}
use Rattle.jo_value.specs.declared.value.NameId.{NameId}
use Rattle.jo_value.specs.declared.value.Value.{Value}
use Rattle.jo_value.specs.declared.words.slot.Slot.TheVariants.{Holds}
use Rattle.jo_value.specs.Words.{IsSlot, slot_bits}
use Rattle.jo_model.specs.Objects.{Object, property, without_property}
use Rattle.jo_model.specs.One.{delete_in, put_in}
use Rattle.jo_model.proofs.WellFormedObjects.{well_formed-delete, well_formed-put, without-absent}
use Rattle.jo_rule.specs.Views.{View}
use Rattle.jo_steps.specs.Holding.{lock_of, HasBlockOf}
use Rattle.jo_dict.specs.declared.place.Spot.TheVariants.{Element, Pair}
use Rattle.jo_dict.specs.Locating.{IsSpot}
use Rattle.jo_dict.specs.inner.Stored.{Stores, held_words}
use Rattle.jo_dict.proofs.Views.{block_has, stores_as}
use Rattle.jo_dict.proofs.Wording.{words_less, words_put}
use Rattle.jo_dict.proofs.Reading.{small_names}
use Rattle.jo_dict.proofs.Adding.{element_put, value_done}
use Rattle.jo_dict.proofs.Taking.{element_taken}
use Rattle.jo_dict.proofs.Locating.{named_names, named_place, pair_below}

module _ {v u : View} {z : Object} (b : HasBlockOf v z) (same : (lock_of u).room ≡ (lock_of v).room) where
  pub pair_put : (key : Key) (at names : ℕ) (x : Value) → IsSpot v key (Pair at names) → IsSlot (Holds x) → Stores (held_words v) (3 + 2 * at) (slot_bits (Holds x)) (held_words u) → HasBlockOf u (put_in z key x).0
  pair_put (Index index) at names x h valid s = absurd h
  pair_put (Name name) at names x h valid s =
      let lt = pair_below b.properties name at names h in
      let is = named_place b.properties h.0 in
      let word = is.here lt in
      let few = (small_names b.properties b.words).small at lt in
      let small : name.0 < 65536 = omega arith in
      block_has v u (put_in z (Name name) x).0 same (value_done b.properties name is x (held_words u) lt s)
      (words_put z (Name name) x (small, valid) b.words) (well_formed-put z (Name name) x b.formed)

  pub index_put : (key : Key) (i : ℕ) (x : Value) → IsSpot v key (Element i) → IsSlot (Holds x) → Stores (held_words v) (130 + i) (slot_bits (Holds x)) (held_words u) → HasBlockOf u (put_in z key x).0
  index_put (Name name) i x h valid s = absurd h
  index_put (Index index) i x h valid s =
      let here = stores_as refl (ap (λ (k : ℕ). 130 + k) h.0) refl s in
      block_has v u (put_in z (Index index) x).0 same (element_put (held_words v) (held_words u) (lock_of v).room z index x b.properties h.1 here)
      (words_put z (Index index) x (tt, valid) b.words) (well_formed-put z (Index index) x b.formed)

  pub index_taken : (key : Key) (i : ℕ) → IsSpot v key (Element i) → Stores (held_words v) (130 + i) 0 (held_words u) → HasBlockOf u (delete_in z key).0
  index_taken (Name name) i h s = absurd h
  index_taken (Index index) i h s =
      let here = stores_as refl (ap (λ (k : ℕ). 130 + k) h.0) refl s in
      block_has v u (without_property z (Index index)) same (element_taken (held_words v) (held_words u) (lock_of v).room z index b.properties b.formed h.1 here)
      (words_less z (Index index) b.words) (well_formed-delete z (Index index) b.formed)

-- where nothing is there, nothing is taken
pub none_taken : {v : View} {z : Object} (key : Key) → HasBlockOf v z → property z key ≡ None → HasBlockOf v (delete_in z key).0
none_taken {v} {z} key b e = subst (HasBlockOf v) (sym (without-absent z key (ap is_some e))) b
