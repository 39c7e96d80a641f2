-- Rising numbers: one more put after the lower ones, and one taken out.
use Rattle.std.proofs.Common.{◌≡◌, ◌<◌, ◌≤◌, ◌+◌, ◌==◌, ℕ, zero, suc, Bool, true, false, cond, ltb, List, [], ◌∷◌, length, ap, sym, refl, subst, ◌∙◌, arith, ⊎_elim, get_or, insert, remove, count_by, nat_lt}
use Rattle.std.specs.List.{list_any}
use Rattle.std.specs.List.Sorted.{IsStrictlyIncreasing}
use Rattle.std.proofs.lemmas.Bool.{cases_lt, lt-ltb, le-ltb, eqb-false, or_parts}
use Rattle.std.proofs.lemmas.List.Sums.{sum_by-cons}
use Rattle.std.proofs.lemmas.List.Kept.{AllPairs-from_increasing}
use Rattle.std.proofs.lemmas.List.Quantifiers.{all_pairs_remove}

-- each number is above the one before it, and the first is not below this one
abbrev RisesFrom : ℕ → List ℕ → Type 0
RisesFrom low [] = Unit {0}
RisesFrom low (n ∷ ns) = (low ≤ n) × RisesFrom (suc n) ns

next-place : (n : ℕ) (ns : List ℕ) (k : ℕ) → get_or (n ∷ ns) (k + 1) 0 ≡ get_or ns k 0
next-place n ns k = let e : k + 1 ≡ suc k = omega arith in ap (λ j. get_or (n ∷ ns) j 0) e

pub tail-rises : (n : ℕ) (ns : List ℕ) → IsStrictlyIncreasing (n ∷ ns) → IsStrictlyIncreasing ns
tail-rises n ns up k h =
    let step : get_or ns k 0 < get_or (n ∷ ns) (suc k + 1) 0 = up (suc k) (omega arith) in
    let e : get_or (n ∷ ns) (suc k + 1) 0 ≡ get_or ns (k + 1) 0 = let same : suc k + 1 ≡ suc (k + 1) = omega arith in ap (λ j. get_or (n ∷ ns) j 0) same in
    subst (λ m. get_or ns k 0 < m) e step

from_increasing : (low : ℕ) (ns : List ℕ) → ((n : ℕ) (rest : List ℕ) → ns ≡ n ∷ rest → low ≤ n) → IsStrictlyIncreasing ns → RisesFrom low ns
from_increasing low [] first up = tt
from_increasing low (n ∷ []) first up = (first n [] refl, tt)
from_increasing low (n ∷ m ∷ ms) first up =
    (first n (m ∷ ms) refl, from_increasing (suc n) (m ∷ ms) (λ k rest e. let lt : n < m = up 0 (omega arith) in let same : m ≡ k = cc in omega arith) (tail-rises n (m ∷ ms) up))

to_increasing : (low : ℕ) (ns : List ℕ) → RisesFrom low ns → IsStrictlyIncreasing ns
to_increasing low [] r k h = absurd (omega arith)
to_increasing low (n ∷ []) r k h = absurd (omega arith)
to_increasing low (n ∷ m ∷ ms) r zero h = r.1.0
to_increasing low (n ∷ m ∷ ms) r (suc k) h =
    let step : get_or (m ∷ ms) k 0 < get_or (m ∷ ms) (k + 1) 0 = to_increasing (suc n) (m ∷ ms) r.1 k (omega arith) in
    let e : get_or (m ∷ ms) (k + 1) 0 ≡ get_or (n ∷ m ∷ ms) (suc k + 1) 0 = sym (let same : suc k + 1 ≡ suc (k + 1) = omega arith in ap (λ j. get_or (n ∷ m ∷ ms) j 0) same) in
    subst (λ p. get_or (m ∷ ms) k 0 < p) e step

-- how many numbers are lower than y
abbrev lower : ℕ → List ℕ → ℕ
lower y ns = count_by (λ n. nat_lt n y) ns

lower-cons : (y n : ℕ) (ns : List ℕ) (b : Bool) → ltb n y ≡ b → lower y (n ∷ ns) ≡ cond b 1 0 + lower y ns
lower-cons y n ns b e = sum_by-cons (λ m. cond (ltb m y) 1 0) n ns ∙ ap (λ t. cond t 1 0 + lower y ns) e

lower-yes : (y n : ℕ) (ns : List ℕ) → n < y → suc (lower y ns) ≡ lower y (n ∷ ns)
lower-yes y n ns lt = let e = lower-cons y n ns true (lt-ltb n y lt) in omega (arith, e)

lower-none : (y n : ℕ) (ns : List ℕ) → y ≤ n → lower y ns ≡ lower y (n ∷ ns)
lower-none y n ns le = let e = lower-cons y n ns false (le-ltb n y le) in omega (arith, e)

none-lower : (low y : ℕ) (ns : List ℕ) → RisesFrom low ns → y ≤ low → 0 ≡ lower y ns
none-lower low y [] r le = refl
none-lower low y (n ∷ ns) r le = none-lower (suc n) y ns r.1 (omega arith) ∙ lower-none y n ns (omega arith)

put-rises : (low y : ℕ) (ns : List ℕ) → RisesFrom low ns → low ≤ y → list_any (λ n. n == y) ns ≡ false → RisesFrom low (insert ns (lower y ns) y)
put-rises low y [] r le absent = (le, tt)
put-rises low y (n ∷ ns) r le absent =
    let here : ((n == y) ≡ false) × (list_any (λ n. n == y) ns ≡ false) = or_parts (n == y) (list_any (λ n. n == y) ns) absent in
    let P : ℕ → Type 0 = λ k. RisesFrom low (insert (n ∷ ns) k y) in
    ⊎_elim
    (λ lt. subst P (lower-yes y n ns lt) (r.0, put-rises (suc n) y ns r.1 lt here.1))
    (λ ge. let apart : n ≡ y → ⊥ = eqb-false n y here.0 in
    let above : suc y ≤ n = omega arith in
    subst P (none-lower n y (n ∷ ns) (omega arith, r.1) ge) (le, (above, r.1)))
    (cases_lt n y)

-- a number that is not among them goes after the lower ones
pub rises-put : (ns : List ℕ) (y : ℕ) → IsStrictlyIncreasing ns → list_any (λ n. n == y) ns ≡ false → IsStrictlyIncreasing (insert ns (count_by (λ n. nat_lt n y) ns) y)
rises-put ns y up absent = to_increasing 0 _ (put-rises 0 y ns (from_increasing 0 ns (λ n rest e. omega arith) up) (omega arith) absent)

-- and one is taken out
pub rises-remove : (ns : List ℕ) (i : ℕ) → i < length ns → IsStrictlyIncreasing ns → IsStrictlyIncreasing (remove ns i)
rises-remove ns i lt up k h =
    let R : ℕ → ℕ → Type 0 = λ x y. x < y in
    all_pairs_remove R ns i lt (AllPairs-from_increasing ns up) k (k + 1) 0 (omega arith) h
