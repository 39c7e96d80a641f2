-- The least capacity above an index.
use Rattle.std.proofs.Common.{◌≡◌, ◌+◌, ◌<◌, ◌≤◌, ℕ, List, [], ◌∷◌, ◌++◌, length, get_or, drop, refl, ap, ◌∙◌, arith}
use Rattle.std.specs.Prelude.{nat_lt}
use Rattle.std.proofs.lemmas.Bool.{cond_both, lt-ltb, le-ltb, ltb-true, ltb-false}
use Rattle.std.proofs.lemmas.List.{drop_more}
use Rattle.jo_value.specs.declared.capacities.TheConstants.{ELEMENT_CAPACITIES}
use Rattle.jo_value.specs.declared.limits.TheConstants.{MOST_INDEX}
use Rattle.jo_write.specs.Answers.{least_above}

-- the capacities but for the last
abbrev lower : List ℕ
lower = 0 ∷ 4 ∷ 8 ∷ 16 ∷ 32 ∷ 64 ∷ 128 ∷ 256 ∷ 512 ∷ []

least_is_above : (es : List ℕ) (last n : ℕ) → n < last → n < least_above (es ++ last ∷ []) n
least_is_above [] last n lt = cond_both (nat_lt n last) last 0 (λ e. n < e) (λ is. lt) (λ is. (let not_less = ltb-false n last is in absurd (omega arith)))
least_is_above (e ∷ es) last n lt = cond_both (nat_lt n e) e (least_above (es ++ last ∷ []) n) (λ e. n < e) (λ is. ltb-true n e is) (λ is. least_is_above es last n lt)

-- none of them is larger than the last
abbrev AreUpTo : ℕ → List ℕ → Type 0
AreUpTo most [] = Unit {0}
AreUpTo most (e ∷ es) = (e ≤ most) × AreUpTo most es

least_is_few : (most n : ℕ) (es : List ℕ) → AreUpTo most es → least_above es n ≤ most
least_is_few most n [] up = omega arith
least_is_few most n (e ∷ es) up = cond_both (nat_lt n e) e (least_above es n) (λ e. e ≤ most) (λ is. up.0) (λ is. least_is_few most n es up.1)

-- each index is below a capacity, and none is larger than what all indexes need
pub capacity_bounds : (n : ℕ) → n ≤ MOST_INDEX → (n < least_above ELEMENT_CAPACITIES n) × (least_above ELEMENT_CAPACITIES n ≤ MOST_INDEX + 1)
capacity_bounds n le = (
  least_is_above lower 1024 n (omega arith),
  least_is_few 1024 n ELEMENT_CAPACITIES (omega arith, (omega arith, (omega arith, (omega arith, (omega arith, (omega arith, (omega arith, (omega arith, (omega arith, (omega arith, tt)))))))))),
)

-- the first of them is the least one, where it is above
pub least_here : (es : List ℕ) (i n : ℕ) → i < length es → n < get_or es i 0 → least_above (drop i es) n ≡ get_or es i 0
least_here es i n lt less = ap (λ l. least_above l n) (drop_more es i 0 lt) ∙ rw (lt-ltb n (get_or es i 0) less) refl

pub least_later : (es : List ℕ) (i n : ℕ) → i < length es → get_or es i 0 ≤ n → least_above (drop i es) n ≡ least_above (drop (i + 1) es) n
least_later es i n lt less = ap (λ l. least_above l n) (drop_more es i 0 lt) ∙ rw (le-ltb n (get_or es i 0) less) refl
