-- The first index that is there, from one on, by the values at each.
use Rattle.std.proofs.Common.{◌≡◌, ◌≢◌, ◌∙◌, ℕ, ◌<◌, ◌≤◌, ◌+◌, ◌==◌, suc, eqb, true, false, List, [], ◌∷◌, map, ap, sym, refl, arith, ⊎_elim, Option, Some, None}
use Rattle.std.specs.Prelude.{slice_get, option_map}
use Rattle.std.specs.List.{position_or_len}
use Rattle.std.specs.List.Sorted.{IsStrictlyIncreasing}
use Rattle.std.proofs.lemmas.Bool.{cases_lt, eq-eqb, ne_eqb}
use Rattle.jo_value.specs.declared.value.Value.{Value}
use Rattle.jo_model.specs.Reading.{place_from}
use Rattle.jo_model.proofs.InOrder.{place-here, place-later}
use Rattle.jo_model.proofs.Rising.{tail-rises}

-- the value at an index
abbrev at_index : List (ℕ × Value) → ℕ → Option Value
at_index xs i = option_map (λ p. p.1) (slice_get xs (position_or_len (λ p. p.0 == i) xs))

at_first : (x : ℕ × Value) (xs : List (ℕ × Value)) → at_index (x ∷ xs) x.0 ≡ Some x.1
at_first x xs = let e : eqb x.0 x.0 ≡ true = eq-eqb x.0 x.0 refl in rw e refl

at_next : (x : ℕ × Value) (xs : List (ℕ × Value)) (i : ℕ) → x.0 ≢ i → at_index (x ∷ xs) i ≡ at_index xs i
at_next x xs i apart =
    let e : eqb x.0 i ≡ false = ne_eqb x.0 i apart in
    let more : 1 + position_or_len (λ p. p.0 == i) xs ≡ suc (position_or_len (λ p. p.0 == i) xs) = omega arith in
    rw e (ap (λ k. option_map (λ p. p.1) (slice_get (x ∷ xs) k)) more)

-- the first element whose index is not below this number
abbrev next_from : ℕ → List (ℕ × Value) → Option (ℕ × Value)
next_from low xs = slice_get xs (place_from low xs)

next-here : (low : ℕ) (x : ℕ × Value) (xs : List (ℕ × Value)) → low ≤ x.0 → next_from low (x ∷ xs) ≡ Some x
next-here low x xs le = ap (slice_get (x ∷ xs)) (place-here low x xs le)

next-later : (low : ℕ) (x : ℕ × Value) (xs : List (ℕ × Value)) → x.0 < low → next_from low (x ∷ xs) ≡ next_from low xs
next-later low x xs lt = ap (slice_get (x ∷ xs)) (place-later low x xs lt)

-- an index that is there after another is above it
above : (x : ℕ × Value) (xs : List (ℕ × Value)) (i : ℕ) (v : Value) → IsStrictlyIncreasing (map (λ p. p.0) (x ∷ xs)) → at_index xs i ≡ Some v → x.0 < i
above x [] i v up found = let never : ⊥ = cc in absurd never
above x (y ∷ ys) i v up found =
    let step : x.0 < y.0 = up 0 (omega arith) in ⊎_elim
    (λ (lt : x.0 < i). lt)
    (λ (le : i ≤ x.0).
    let later : y.0 < i = above y ys i v (tail-rises x.0 (map (λ p. p.0) (y ∷ ys)) up) (sym (at_next y ys i (λ e. omega (arith, e, step, le))) ∙ found) in
    absurd (omega (arith, later, step, le)))
    (cases_lt x.0 i)

-- the index that is there, where none is before it from the number on
pub first-found : (low index : ℕ) (v : Value) (xs : List (ℕ × Value)) → IsStrictlyIncreasing (map (λ p. p.0) xs) → low ≤ index
    → ((i : ℕ) → low ≤ i → i < index → at_index xs i ≡ None) → at_index xs index ≡ Some v → next_from low xs ≡ Some (index, v)
first-found low index v [] up le none found = let never : ⊥ = cc in absurd never
first-found low index v (x ∷ xs) up le none found = ⊎_elim
    (λ (lt : x.0 < low). next-later low x xs lt ∙ first-found low index v xs (tail-rises x.0 (map (λ p. p.0) xs) up) le
    (λ i from below. sym (at_next x xs i (λ e. omega (arith, e, lt, from))) ∙ none i from below)
    (sym (at_next x xs index (λ e. omega (arith, e, lt, le))) ∙ found))
    (λ (from : low ≤ x.0). ⊎_elim
    (λ (lt : x.0 < index). let no : Some x.1 ≡ None = sym (at_first x xs) ∙ none x.0 from lt in absurd cc)
    (λ (ge : index ≤ x.0). ⊎_elim
    (λ (lt : index < x.0).
    let later : x.0 < index = above x xs index v up (sym (at_next x xs index (λ e. omega (arith, e, lt))) ∙ found) in
    absurd (omega (arith, later, lt)))
    (λ (last : x.0 ≤ index).
    let same : x.0 ≡ index = omega (arith, last, ge) in
    let both : Some x.1 ≡ Some v = sym (at_first x xs) ∙ (ap (at_index (x ∷ xs)) same ∙ found) in
    let value : x.1 ≡ v = cc in
    next-here low x xs from ∙ (λ i. Some (same i, value i)))
    (cases_lt index x.0))
    (cases_lt x.0 index))
    (cases_lt x.0 low)

-- none is, where none is there from the number on
pub none-found : (low : ℕ) (xs : List (ℕ × Value)) → ((i : ℕ) → low ≤ i → at_index xs i ≡ None) → next_from low xs ≡ None
none-found low [] none = refl
none-found low (x ∷ xs) none = ⊎_elim
    (λ (lt : x.0 < low). next-later low x xs lt ∙ none-found low xs (λ i from. sym (at_next x xs i (λ e. omega (arith, e, lt, from))) ∙ none i from))
    (λ (from : low ≤ x.0). let no : Some x.1 ≡ None = sym (at_first x xs) ∙ none x.0 from in absurd cc)
    (cases_lt x.0 low)
