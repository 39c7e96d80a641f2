-- The elements of an object from a number on.
use Rattle.std.proofs.Common.{◌≡◌, ℕ, ◌<◌, ◌≤◌, ◌+◌, suc, Bool, true, false, List, [], ◌∷◌, map, drop, refl, sym, ap, ◌∙◌, arith}
use Rattle.std.specs.Prelude.{Option, Some, slice_get, nat_le}
use Rattle.std.specs.List.Sorted.{IsStrictlyIncreasing}
use Rattle.std.proofs.lemmas.Bool.{le-leb, lt-leb, leb-true, leb-false}
use Rattle.jo_value.specs.declared.value.Value.{Value}
use Rattle.jo_model.specs.Reading.{place_from}
use Rattle.jo_model.proofs.Rising.{tail-rises}

abbrev rest_from : ℕ → List (ℕ × Value) → List (ℕ × Value)
rest_from low elements = drop (place_from low elements) elements

pub place-here : (low : ℕ) (x : ℕ × Value) (xs : List (ℕ × Value)) → low ≤ x.0 → place_from low (x ∷ xs) ≡ 0
place-here low x xs le = rw (le-leb low x.0 le) refl

pub place-later : (low : ℕ) (x : ℕ × Value) (xs : List (ℕ × Value)) → x.0 < low → place_from low (x ∷ xs) ≡ suc (place_from low xs)
place-later low x xs lt = rw (lt-leb low x.0 lt) (omega arith)

rest-here : (low : ℕ) (x : ℕ × Value) (xs : List (ℕ × Value)) → low ≤ x.0 → rest_from low (x ∷ xs) ≡ x ∷ xs
rest-here low x xs le = ap (λ n. drop n (x ∷ xs)) (place-here low x xs le)

rest-later : (low : ℕ) (x : ℕ × Value) (xs : List (ℕ × Value)) → x.0 < low → rest_from low (x ∷ xs) ≡ rest_from low xs
rest-later low x xs lt = ap (λ n. drop n (x ∷ xs)) (place-later low x xs lt)

pub rest-zero : (xs : List (ℕ × Value)) → rest_from 0 xs ≡ xs
rest-zero [] = refl
rest-zero (x ∷ xs) = rest-here 0 x xs (omega arith)

-- those after the first
rest-after : (x : ℕ × Value) (xs : List (ℕ × Value)) → IsStrictlyIncreasing (map (λ p. p.0) (x ∷ xs)) → rest_from (x.0 + 1) xs ≡ xs
rest-after x [] up = refl
rest-after x (y ∷ ys) up = let above : x.0 < y.0 = up 0 (omega arith) in rest-here (x.0 + 1) y ys (omega (arith, above))

-- the one found and those after it
pub record Found (low : ℕ) (xs : List (ℕ × Value)) (p : ℕ × Value) : Type 0 where
  pub rest : rest_from low xs ≡ p ∷ rest_from (p.0 + 1) xs
  pub least : low ≤ p.0

found_here : (low : ℕ) (x p : ℕ × Value) (xs : List (ℕ × Value)) → low ≤ x.0 → x ≡ p → IsStrictlyIncreasing (map (λ p. p.0) (x ∷ xs)) → Found low (x ∷ xs) p
found_here low x p xs le same up = rw (← same) (record {
  rest = rest-here low x xs le ∙ ap (λ l. x ∷ l) (sym (rest-later (x.0 + 1) x xs (omega arith) ∙ rest-after x xs up));
  least = le;
})

found_later : (low : ℕ) (x p : ℕ × Value) (xs : List (ℕ × Value)) → x.0 < low → Found low xs p → Found low (x ∷ xs) p
found_later low x p xs lt so_far =
    let least = so_far.least in record {
      rest = rest-later low x xs lt ∙ so_far.rest ∙ ap (λ l. p ∷ l) (sym (rest-later (p.0 + 1) x xs (omega (arith, lt, least))));
      least = least;
    }

found_by : (low : ℕ) (x : ℕ × Value) (xs : List (ℕ × Value)) (p : ℕ × Value) (v : Bool) → nat_le low x.0 ≡ v → IsStrictlyIncreasing (map (λ p. p.0) (x ∷ xs))
    → slice_get (x ∷ xs) (place_from low (x ∷ xs)) ≡ Some p → (slice_get xs (place_from low xs) ≡ Some p → Found low xs p) → Found low (x ∷ xs) p
found_by low x xs p true e up found later =
    let le = leb-true low x.0 e in
    let first : Some x ≡ Some p = rw (place-here low x xs le) at found in
    let same : x ≡ p = cc first in found_here low x p xs le same up
found_by low x xs p false e up found later =
    let lt = leb-false low x.0 e in
    let there : slice_get xs (place_from low xs) ≡ Some p = rw (place-later low x xs lt) at found in
    found_later low x p xs lt (later there)

pub found-rest : (low : ℕ) (xs : List (ℕ × Value)) (p : ℕ × Value) → IsStrictlyIncreasing (map (λ p. p.0) xs) → slice_get xs (place_from low xs) ≡ Some p → Found low xs p
found-rest low [] p up found = let never : ⊥ = cc in absurd never
found-rest low (x ∷ xs) p up found =
    found_by low x xs p (nat_le low x.0) refl up found (λ there. found-rest low xs p (tail-rises x.0 (map (λ p. p.0) xs) up) there)

-- the same, of what a call answered
pub found-next : (low : ℕ) (xs : List (ℕ × Value)) (p : ℕ × Value) (answer : Option (ℕ × Value)) → IsStrictlyIncreasing (map (λ p. p.0) xs)
    → answer ≡ slice_get xs (place_from low xs) → answer ≡ Some p → Found low xs p
found-next low xs p answer up is some = found-rest low xs p up (sym is ∙ some)
