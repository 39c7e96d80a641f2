-- One more element of a list.
use Rattle.std.proofs.Common.{◌≡◌, ◌<◌, ◌≤◌, ℕ, zero, suc, ◌+◌, List, ◌∷◌, drop, length, get_or, arith, refl, ap, sym, ◌∙◌, add-one}
use Rattle.std.proofs.Math.Seq.{drop-cons}

-- a list from an element on begins with it
pub drop-at : {X : Type 0} (xs : List X) (i : ℕ) (x : X) → i < length xs → x ≡ get_or xs i x → drop i xs ≡ x ∷ drop (i + 1) xs
drop-at xs i x below is = drop-cons xs i x below ∙ (ap (λ v. v ∷ drop (suc i) xs) (sym is) ∙ ap (λ k. x ∷ drop k xs) (sym (add-one i)))

-- the same, with the place behind the element
pub drop-from : {X : Type 0} (xs : List X) (i at : ℕ) (x : X) → at ≡ i + 1 → i < length xs → x ≡ get_or xs i x → drop i xs ≡ x ∷ drop at xs
drop-from xs i at x e below is = drop-at xs i x below is ∙ ap (λ k. x ∷ drop k xs) (sym e)

-- a list from nothing on is the list
pub drop-none : {X : Type 0} (xs : List X) (at : ℕ) → at ≤ 0 → drop at xs ≡ xs
drop-none xs zero le = refl
drop-none xs (suc at) le = absurd (omega (arith, le))
