-- What a block has, read from its words.
use Rattle.std.proofs.Common.{◌≡◌, ℕ, zero, suc, ◌+◌, ◌*◌, ◌<◌, ◌≤◌, refl, sym, ap, ◌∙◌, arith, List, [], ◌∷◌, ◌++◌, length, map, take, get_or, slice_get, option_map, Some, None}
use Rattle.std.proofs.lemmas.Bool.{ne_eqb, eq-eqb}
use Rattle.std.proofs.lemmas.List.{take_all, map_more}
use Rattle.std.proofs.lemmas.List.Sums.{position_or_len_is}
use Rattle.std.proofs.lemmas.Option.{slice_get-get_or, slice_get_past}
use Rattle.jo_value.specs.declared.value.Key.{Key}
use Rattle.jo_value.specs.declared.value.Key.TheVariants.{Name, Index}
use Rattle.jo_value.specs.declared.value.NameId.{NameId}
use Rattle.jo_value.specs.declared.value.Value.{Value}
use Rattle.jo_value.specs.declared.value.Value.TheVariants.{Undefined}
use Rattle.jo_value.specs.declared.words.slot.Slot.TheVariants.{Holds}
use Rattle.jo_value.specs.Words.{IsHeader, IsSlot, slot_bits}
use Rattle.jo_value.specs.Values.{is_same_name}
use Rattle.jo_model.specs.Objects.{Object, property, name_place, element_place}
use Rattle.jo_rule.specs.Dictionaries.{HasProperties, slot_in}
use Rattle.jo_rule.specs.Contents.{HasWords}
use Rattle.jo_dict.specs.inner.Places.{AreNameWords, IsPlaceOf, names_in}

-- a pair that stands nowhere
abbrev pub no_pair : NameId × Value
no_pair = (record { 0 = 0 }, Undefined)

-- the header of a block tells its room
pub is_header : (room : ℕ) → room ≤ 1024 → IsHeader (record { names = 64; elements = room })
is_header room le = record { names = omega arith; elements = omega arith }

-- ---- each value has a word

slot_by : {A : Type 0} (l : List (A × Value)) (j : ℕ) → ((k : ℕ) (d : A × Value) → k < length l → IsSlot (Holds (get_or l k d).1)) → IsSlot (slot_in (option_map (λ p. p.1) (slice_get l j)))
slot_by [] j all = tt
slot_by (p ∷ l) zero all = all 0 p (omega arith)
slot_by (p ∷ l) (suc j) all = slot_by l j (λ k d h. all (suc k) d (omega arith))

pub slot_valid : (z : Object) (key : Key) → HasWords z → IsSlot (slot_in (property z key))
slot_valid z (Name name) h = slot_by z.names (name_place z name) (λ k d lt. (h.names k d lt).1)
slot_valid z (Index index) h = slot_by z.elements (element_place z index) (λ k d lt. h.elements k d lt)

module _ {words : ℕ → ℕ} {room : ℕ} {z : Object} (p : HasProperties words room z) where
  -- ---- the words of pair j

  pub pair_words : (j : ℕ) → j < length z.names → (words (2 + 2 * j) ≡ (get_or z.names j no_pair).0.0) × (words (3 + 2 * j) ≡ slot_bits (Holds (get_or z.names j no_pair).1))
  pair_words j lt = p.names j (get_or z.names j no_pair).0 (get_or z.names j no_pair).1 (slice_get-get_or z.names j no_pair lt)

  pub small_names : HasWords z → AreNameWords words (length z.names)
  small_names h = record { small = λ j lt. (let e = (pair_words j lt).0 in let small = (h.names j no_pair lt).0 in omega arith) }

  -- ---- a name

  pub name_place_is : (name : NameId) {place : ℕ} → IsPlaceOf words (length z.names) name.0 place → name_place z name ≡ place
  name_place_is name {place} is = position_or_len_is (λ p. is_same_name p.0 name) z.names place no_pair is.to
      (λ k lt. let to = is.to in ne_eqb (get_or z.names k no_pair).0.0 name.0 (λ e. is.before k lt ((pair_words k (omega arith)).0 ∙ e)))
      (λ lt. eq-eqb (get_or z.names place no_pair).0.0 name.0 (sym (pair_words place lt).0 ∙ is.here lt))

  pub name_absent : (name : NameId) {place : ℕ} → IsPlaceOf words (length z.names) name.0 place → place ≡ length z.names → property z (Name name) ≡ None
  name_absent name {place} is e =
      ap (λ k. option_map (λ p. p.1) (slice_get z.names k)) (name_place_is name is) ∙ ap (option_map (λ p. p.1)) (slice_get_past z.names place (omega arith))

  pub name_there : (name : NameId) {place : ℕ} → IsPlaceOf words (length z.names) name.0 place → place < length z.names → property z (Name name) ≡ Some (get_or z.names place no_pair).1
  name_there name {place} is lt =
      ap (λ k. option_map (λ p. p.1) (slice_get z.names k)) (name_place_is name is) ∙ ap (option_map (λ p. p.1)) (slice_get-get_or z.names place no_pair lt)

  pub name_found : (name : NameId) {place : ℕ} → IsPlaceOf words (length z.names) name.0 place → place < length z.names → slot_bits (slot_in (property z (Name name))) ≡ words (3 + 2 * place)
  name_found name {place} is lt = ap (λ v. slot_bits (slot_in v)) (name_there name is lt) ∙ sym (pair_words place lt).1

  -- ---- the names

  names_read : (n : ℕ) → n ≤ length z.names → map (λ p. p.0) (take n z.names) ≡ names_in words n
  names_read zero le = refl
  names_read (suc n) le =
      let lt : n < length z.names = omega arith in
      let q = get_or z.names n no_pair in
      let name : q.0 ≡ record { 0 = words (2 + 2 * n) } = (λ i. record { 0 = sym (pair_words n lt).0 i }) in
      let e : suc n ≡ n + 1 = omega arith in
      ap (λ k. map (λ p. p.0) (take k z.names)) e ∙ map_more (λ p. p.0) z.names n no_pair lt ∙ ap (λ l. l ++ q.0 ∷ []) (names_read n (omega arith)) ∙ ap (λ m. names_in words n ++ m ∷ []) name

  pub all_names : map (λ p. p.0) z.names ≡ names_in words (length z.names)
  all_names = ap (map (λ p. p.0)) (sym (take_all (length z.names) z.names (omega arith))) ∙ names_read (length z.names) (omega arith)
