-- A block from which a property was taken, by its words.
use Rattle.std.proofs.Common.{◌≡◌, ◌≢◌, ℕ, ◌+◌, ◌-◌, ◌*◌, ◌<◌, ◌≤◌, sym, ap, ◌∙◌, subst, arith, ⊎_elim, length, remove, is_some}
use Rattle.std.proofs.lemmas.Bool.{cases_lt}
use Rattle.std.proofs.lemmas.List.Edits.{length-remove, get_or-remove_below, get_or-remove_above}
use Rattle.jo_value.specs.declared.value.Key.TheVariants.{Name, Index}
use Rattle.jo_value.specs.declared.value.NameId.{NameId}
use Rattle.jo_value.specs.declared.words.slot.Slot.TheVariants.{Holds}
use Rattle.jo_value.specs.Words.{slot_bits}
use Rattle.jo_model.specs.Objects.{Object, without_property}
use Rattle.jo_model.specs.WellFormed.{IsWellFormed}
use Rattle.jo_model.proofs.WellFormedObjects.{without-absent}
use Rattle.jo_rule.specs.Dictionaries.{HasProperties, slot_in}
use Rattle.jo_dict.specs.inner.Stored.{Stores}
use Rattle.jo_dict.specs.inner.Places.{IsPlaceOf, IsClosed}
use Rattle.jo_dict.proofs.Reading.{no_pair, pair_words, name_place_is, name_absent}
use Rattle.jo_dict.proofs.Elements.{take_rising, take_else}
use Rattle.jo_dict.proofs.Adding.{HasPairs, with_pairs, with_element}

-- ---- a name

module _ {f : ℕ → ℕ} {room : ℕ} {z : Object} (p : HasProperties f room z) (name : NameId) {place : ℕ} (is : IsPlaceOf f (length z.names) name.0 place) where
  pub name_kept : place ≡ length z.names → without_property z (Name name) ≡ z
  name_kept e = without-absent z (Name name) (ap is_some (name_absent p name is e))

  pairs_left : (a g : ℕ → ℕ) → place < length z.names → IsClosed f (2 + 2 * place) (2 + 2 * length z.names) a → ((k : ℕ) → k ≢ 1 → g k ≡ a k) → HasPairs g (remove z.names place)
  pairs_left a g lt closed same = record {
    pair = λ j h.
        let size = length-remove z.names place lt in
        ⊎_elim
        (λ (below : j < place).
        let q = get_or-remove_below z.names place no_pair j below lt in
        let w = pair_words p j (omega arith) in (
          same (2 + 2 * j) (λ e. omega arith) ∙ closed.before (2 + 2 * j) (omega arith) ∙ w.0 ∙ sym (ap (λ p. p.0.0) q),
          same (3 + 2 * j) (λ e. omega arith) ∙ closed.before (3 + 2 * j) (omega arith) ∙ w.1 ∙ sym (ap (λ p. slot_bits (Holds p.1)) q),
        ))
        (λ (above : place ≤ j).
        let q = get_or-remove_above z.names place no_pair j above lt in
        let w = pair_words p (j + 1) (omega arith) in
        let first : 2 + 2 * j + 2 ≡ 2 + 2 * (j + 1) = omega arith in
        let second : 3 + 2 * j + 2 ≡ 3 + 2 * (j + 1) = omega arith in (
          same (2 + 2 * j) (λ e. omega arith) ∙ closed.moved (2 + 2 * j) (omega arith) (omega arith) ∙ ap f first ∙ w.0 ∙ sym (ap (λ p. p.0.0) q),
          same (3 + 2 * j) (λ e. omega arith) ∙ closed.moved (3 + 2 * j) (omega arith) (omega arith) ∙ ap f second ∙ w.1 ∙ sym (ap (λ p. slot_bits (Holds p.1)) q),
        ))
        (cases_lt j place);
  }

  pub name_taken : (a g : ℕ → ℕ) → place < length z.names → IsClosed f (2 + 2 * place) (2 + 2 * length z.names) a → Stores a 1 (length z.names - 1) g → HasProperties g room (without_property z (Name name))
  name_taken a g lt closed s =
      let size = length-remove z.names place lt in
      let few = p.few in
      let count : length z.names - 1 ≡ length (remove z.names place) = omega arith in
      let made = with_pairs f g room z (remove z.names place) p (omega arith) (s.here ∙ count) (pairs_left a g lt closed s.others)
      (λ k le. s.others k (λ e. omega arith) ∙ closed.behind k (omega arith) (omega arith)) in
      subst (λ k. HasProperties g room (record z { names = remove z.names k })) (sym (name_place_is p name is)) made

-- ---- an element

pub element_kept : (f : ℕ → ℕ) (room : ℕ) (z : Object) (index : ℕ) → HasProperties f room z → room ≤ index → without_property z (Index index) ≡ z
element_kept f room z index p le = without-absent z (Index index) (ap is_some (p.beyond index le))

pub element_taken : (f g : ℕ → ℕ) (room : ℕ) (z : Object) (index : ℕ) → HasProperties f room z → IsWellFormed z → index < room → Stores f (130 + index) 0 g → HasProperties g room (without_property z (Index index))
element_taken f g room z index p formed lt s =
    let here = take_rising z.elements index formed.rising in
    with_element f g room z _ index 0 p lt s (ap (λ o. slot_bits (slot_in o)) here) (λ j n. take_else z.elements index j n)
