-- A block to which a property was added, by its words.
use Rattle.std.proofs.Common.{◌≡◌, ◌≢◌, ℕ, zero, suc, ◌+◌, ◌*◌, ◌<◌, ◌≤◌, Bool, true, false, nat_lt, count_by, insert, refl, sym, ap, ◌∙◌, subst, arith, ⊎_elim, List, [], ◌∷◌, ◌++◌, length, get_or, set, slice_get, option_map, is_some, Option, Some, None}
use Rattle.std.proofs.lemmas.Bool.{cases_eq, cases_lt, lt-leb}
use Rattle.std.proofs.lemmas.List.{length-set, length_push, get_or-set_same, get_or-set_other, get_or_append_left, get_or_push}
use Rattle.std.proofs.lemmas.Option.{get_or_from_slice_get, slice_get_within}
use Rattle.jo_value.specs.declared.value.Key.{Key}
use Rattle.jo_value.specs.declared.value.Key.TheVariants.{Name, Index}
use Rattle.jo_value.specs.declared.value.NameId.{NameId}
use Rattle.jo_value.specs.declared.value.Value.{Value}
use Rattle.jo_value.specs.declared.words.slot.Slot.TheVariants.{Holds}
use Rattle.jo_value.specs.Words.{slot_bits}
use Rattle.jo_model.specs.Objects.{Object, has_property, is_full_for, with_value, with_property}
use Rattle.jo_model.specs.One.{put_in}
use Rattle.jo_rule.specs.Dictionaries.{HasProperties, slot_in}
use Rattle.jo_dict.specs.inner.Stored.{Stores}
use Rattle.jo_dict.specs.inner.Places.{IsPlaceOf}
use Rattle.jo_dict.proofs.Reading.{no_pair, pair_words, name_place_is, name_there, name_absent}
use Rattle.jo_dict.proofs.Elements.{at_index, place_in, set_here, set_else, put_here, put_else}

-- ---- what a Put makes of an object

put_there : (z : Object) (key : Key) (v : Value) → has_property z key ≡ true → (put_in z key v).0 ≡ with_value z key v
put_there z key v e = rw e refl

put_new : (z : Object) (key : Key) (v : Value) → has_property z key ≡ false → is_full_for z key ≡ false → (put_in z key v).0 ≡ with_property z key v
put_new z key v e f = rw (e, f) refl

-- ---- pairs

-- the first pairs of a block are those of a list
pub record HasPairs (words : ℕ → ℕ) (names : List (NameId × Value)) : Type 0 where
  pub pair : (j : ℕ) → j < length names → (words (2 + 2 * j) ≡ (get_or names j no_pair).0.0) × (words (3 + 2 * j) ≡ slot_bits (Holds (get_or names j no_pair).1))

-- a block has the properties of an object with other names, where its elements are as they were
pub with_pairs : (f g : ℕ → ℕ) (room : ℕ) (z : Object) (names : List (NameId × Value)) → HasProperties f room z → length names ≤ 64 → g 1 ≡ length names → HasPairs g names
    → ((k : ℕ) → 130 ≤ k → g k ≡ f k) → HasProperties g room (record z { names = names })
with_pairs f g room z names p few count pairs same = record {
  few = few;
  count = count;
  names = λ j name v e.
      let q = get_or_from_slice_get names j (name, v) no_pair e in
      let w = pairs.pair j (slice_get_within names j (name, v) e) in
      (w.0 ∙ ap (λ p. p.0.0) q, w.1 ∙ ap (λ p. slot_bits (Holds p.1)) q);
  elements = λ i lt. same (130 + i) (omega arith) ∙ p.elements i lt;
  beyond = p.beyond;
}

-- ---- a name that is there, or not

module _ {f : ℕ → ℕ} {room : ℕ} {z : Object} (p : HasProperties f room z) (name : NameId) {place : ℕ} (is : IsPlaceOf f (length z.names) name.0 place) where
  pub there : place < length z.names → has_property z (Name name) ≡ true
  there lt = ap is_some (name_there p name is lt)

  value_pairs : (v : Value) (g : ℕ → ℕ) → place < length z.names → Stores f (3 + 2 * place) (slot_bits (Holds v)) g → HasPairs g (set z.names place (name, v))
  value_pairs v g lt s = record {
    pair = λ j h.
        let size = length-set z.names place (name, v) in
        ⊎_elim
        (λ (e : j ≡ place).
        let q : get_or (set z.names place (name, v)) j no_pair ≡ (name, v) = ap (λ k. get_or (set z.names place (name, v)) k no_pair) e ∙ get_or-set_same z.names place (name, v) no_pair lt in
        let first : g (2 + 2 * place) ≡ name.0 = s.others (2 + 2 * place) (λ h. omega arith) ∙ is.here lt in
        (ap (λ k. g (2 + 2 * k)) e ∙ first ∙ sym (ap (λ p. p.0.0) q), ap (λ k. g (3 + 2 * k)) e ∙ s.here ∙ sym (ap (λ p. slot_bits (Holds p.1)) q)))
        (λ (n : j ≢ place).
        let q = get_or-set_other z.names place j (name, v) no_pair n in
        let w = pair_words p j (omega arith) in
        (s.others (2 + 2 * j) (λ h. omega arith) ∙ w.0 ∙ sym (ap (λ p. p.0.0) q), s.others (3 + 2 * j) (λ h. n (omega arith)) ∙ w.1 ∙ sym (ap (λ p. slot_bits (Holds p.1)) q)))
        (cases_eq j place);
  }

  value_put : (v : Value) (g : ℕ → ℕ) → place < length z.names → Stores f (3 + 2 * place) (slot_bits (Holds v)) g → HasProperties g room (with_value z (Name name) v)
  value_put v g lt s =
      let size = length-set z.names place (name, v) in
      let few = p.few in
      let made = with_pairs f g room z (set z.names place (name, v)) p (omega arith) (s.others 1 (λ h. omega arith) ∙ p.count ∙ sym size) (value_pairs v g lt s) (λ k le. s.others k (λ h. omega arith)) in
      subst (λ k. HasProperties g room (record z { names = set z.names k (name, v) })) (sym (name_place_is p name is)) made

  pub not_there : place ≡ length z.names → has_property z (Name name) ≡ false
  not_there e = ap is_some (name_absent p name is e)

  -- what a Put makes of it
  pub value_done : (v : Value) (g : ℕ → ℕ) → place < length z.names → Stores f (3 + 2 * place) (slot_bits (Holds v)) g → HasProperties g room (put_in z (Name name) v).0
  value_done v g lt s = subst (HasProperties g room) (sym (put_there z (Name name) v (there lt))) (value_put v g lt s)

-- ---- a new name

module _ {f : ℕ → ℕ} {room : ℕ} {z : Object} (p : HasProperties f room z) (name : NameId) {place : ℕ} where
  more_pairs : (v : Value) (g : ℕ → ℕ) → place ≡ length z.names → g (2 + 2 * place) ≡ name.0 → g (3 + 2 * place) ≡ slot_bits (Holds v) → ((k : ℕ) → 1 < k → k < 2 + 2 * place → g k ≡ f k)
      → HasPairs g (z.names ++ (name, v) ∷ [])
  more_pairs v g e first second same = record {
    pair = λ j h.
        let size = length_push z.names (name, v) in
        ⊎_elim
        (λ (t : j ≡ place).
        let q : get_or (z.names ++ (name, v) ∷ []) j no_pair ≡ (name, v) = get_or_push z.names (name, v) no_pair j (omega arith) in
        (ap (λ k. g (2 + 2 * k)) t ∙ first ∙ sym (ap (λ p. p.0.0) q), ap (λ k. g (3 + 2 * k)) t ∙ second ∙ sym (ap (λ p. slot_bits (Holds p.1)) q)))
        (λ (n : j ≢ place).
        let lt : j < length z.names = omega arith in
        let q = get_or_append_left z.names ((name, v) ∷ []) no_pair j lt in
        let w = pair_words p j lt in
        (same (2 + 2 * j) (omega arith) (omega arith) ∙ w.0 ∙ sym (ap (λ p. p.0.0) q), same (3 + 2 * j) (omega arith) (omega arith) ∙ w.1 ∙ sym (ap (λ p. slot_bits (Holds p.1)) q)))
        (cases_eq j place);
  }

  name_put : (v : Value) (a b g : ℕ → ℕ) → place ≡ length z.names → length z.names < 64 → Stores f (3 + 2 * place) (slot_bits (Holds v)) a → Stores a (2 + 2 * place) name.0 b → Stores b 1 (length z.names + 1) g
      → HasProperties g room (with_property z (Name name) v)
  name_put v a b g e room_is s t u =
      let size = length_push z.names (name, v) in
      let first : g (2 + 2 * place) ≡ name.0 = u.others (2 + 2 * place) (λ h. omega arith) ∙ t.here in
      let second : g (3 + 2 * place) ≡ slot_bits (Holds v) = u.others (3 + 2 * place) (λ h. omega arith) ∙ t.others (3 + 2 * place) (λ h. omega arith) ∙ s.here in
      let same : (k : ℕ) → 1 < k → k ≢ 2 + 2 * place → k ≢ 3 + 2 * place → g k ≡ f k = λ k lt n m. u.others k (λ h. omega arith) ∙ t.others k n ∙ s.others k m in
      with_pairs f g room z (z.names ++ (name, v) ∷ []) p (omega arith) (u.here ∙ sym size) (more_pairs v g e first second (λ k lt h. same k lt (λ q. omega arith) (λ q. omega arith)))
      (λ k le. same k (omega arith) (λ q. omega arith) (λ q. omega arith))

  -- what a Put makes of it
  pub name_done : (v : Value) (a b g : ℕ → ℕ) → has_property z (Name name) ≡ false → place ≡ length z.names → length z.names < 64 → Stores f (3 + 2 * place) (slot_bits (Holds v)) a → Stores a (2 + 2 * place) name.0 b → Stores b 1 (length z.names + 1) g
      → HasProperties g room (put_in z (Name name) v).0
  name_done v a b g new e lt s t u = subst (HasProperties g room) (sym (put_new z (Name name) v new (lt-leb 64 (length z.names) lt))) (name_put v a b g e lt s t u)

-- ---- an element

-- a block has the properties of an object with another value at an index, where its pairs are as they were
pub with_element : (f g : ℕ → ℕ) (room : ℕ) (z : Object) (elements : List (ℕ × Value)) (index : ℕ) (word : ℕ) → HasProperties f room z → index < room → Stores f (130 + index) word g
    → slot_bits (slot_in (at_index elements index)) ≡ word → ((j : ℕ) → j ≢ index → at_index elements j ≡ at_index z.elements j) → HasProperties g room (record z { elements = elements })
with_element f g room z elements index word p lt s here others =
    let few = p.few in
    record {
      few = p.few;
      count = s.others 1 (λ h. omega arith) ∙ p.count;
      names = λ j name v e.
          let w = p.names j name v e in
          let h = slice_get_within z.names j (name, v) e in
          (s.others (2 + 2 * j) (λ q. omega arith) ∙ w.0, s.others (3 + 2 * j) (λ q. omega arith) ∙ w.1);
      elements = λ i h. ⊎_elim
          (λ (e : i ≡ index). ap (λ k. g (130 + k)) e ∙ s.here ∙ sym here ∙ sym (ap (λ k. slot_bits (slot_in (at_index elements k))) e))
          (λ (n : i ≢ index). s.others (130 + i) (λ q. n (omega arith)) ∙ p.elements i h ∙ sym (ap (λ o. slot_bits (slot_in o)) (others i n))) (cases_eq i index);
      beyond = λ i le. others i (λ e. omega arith) ∙ p.beyond i le;
    }

within : (l : List (ℕ × Value)) (k : ℕ) → is_some (option_map (λ p. p.1) (slice_get l k)) ≡ true → k < length l
within [] k e = (let no : false ≡ true = e in absurd cc)
within (x ∷ l) zero e = omega arith
within (x ∷ l) (suc k) e = omega (arith, within l k e)

none_of : (o : Option Value) → is_some o ≡ false → o ≡ None
none_of None e = refl
none_of (Some v) e = (let no : true ≡ false = e in absurd cc)

element_by : (f g : ℕ → ℕ) (room : ℕ) (z : Object) (index : ℕ) (v : Value) (b : Bool) → has_property z (Index index) ≡ b → HasProperties f room z → index < room → Stores f (130 + index) (slot_bits (Holds v)) g
    → HasProperties g room (put_in z (Index index) v).0
element_by f g room z index v true e p lt s =
    let place = place_in z.elements index in
    let here = set_here z.elements index v (within z.elements place e) in
    let made = with_element f g room z (set z.elements place (index, v)) index (slot_bits (Holds v)) p lt s (ap (λ o. slot_bits (slot_in o)) here) (λ j n. set_else z.elements index j v n) in
    subst (HasProperties g room) (sym (put_there z (Index index) v e)) made
element_by f g room z index v false e p lt s =
    let c = count_by (λ p. nat_lt p.0 index) z.elements in
    let here = put_here c z.elements index v (none_of (at_index z.elements index) e) in
    let made = with_element f g room z (insert z.elements c (index, v)) index (slot_bits (Holds v)) p lt s (ap (λ o. slot_bits (slot_in o)) here) (λ j n. put_else c z.elements index j v n) in
    subst (HasProperties g room) (sym (put_new z (Index index) v e refl)) made

pub element_put : (f g : ℕ → ℕ) (room : ℕ) (z : Object) (index : ℕ) (v : Value) → HasProperties f room z → index < room → Stores f (130 + index) (slot_bits (Holds v)) g
    → HasProperties g room (put_in z (Index index) v).0
element_put f g room z index v p lt s = element_by f g room z index v (has_property z (Index index)) refl p lt s
