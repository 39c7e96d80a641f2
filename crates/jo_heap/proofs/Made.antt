-- The passes of a new heap, as the first one makes them.
use Rattle.std.proofs.Common.{◌≡◌, ◌+◌, ◌<◌, ◌⊎◌, ℕ, zero, suc, false, eqb, List, [], ◌∷◌, ◌++◌, length, slice_get, get_or, set, Some, refl, sym, ap, ◌∙◌, subst, ⊎_elim, inl, inr, arith, length-append}
use Rattle.std.proofs.lemmas.Bool.{ne_eqb}
use Rattle.std.proofs.lemmas.Option.{slice_get_read}
use Rattle.jo_rule.specs.Views.{View}
use Rattle.jo_rule.specs.Steps.{new_view, opening_view, split_left, split_right}
use Rattle.jo_steps.specs.Views.{HeapView, PassView, IsPassOf}
use Rattle.jo_heap.specs.Opening.{opened_view, AreOpened}

-- the passes that were made so far
pub record AreMade (h : HeapView) (ps : List PassView) : Type 0 where
  pub some : 0 < length ps
  pub each : (t : ℕ) (p : PassView) → slice_get ps t ≡ Some p → IsPassOf h p × (p.view ≡ opened_view (length ps) t)

abbrev first_view : ℕ → View
first_view made = record opening_view { made = made }

abbrev other_view : ℕ → View
other_view t = record new_view { number = t }

other_is : (n k : ℕ) → opened_view n (suc k) ≡ other_view (suc k)
other_is n k = let e : eqb (suc k) 0 ≡ false = ne_eqb (suc k) 0 (λ f. omega (arith, f)) in rw e refl

-- the first one, where it was read
pub first_made : (h : HeapView) (ps : List PassView) (p : PassView) → AreMade h ps → p ≡ get_or ps 0 p → IsPassOf h p × (p.view ≡ first_view (length ps))
first_made h ps p m read = m.each 0 p (slice_get_read ps (length ps) 0 p refl m.some read)

-- an item of a list with one more is one of the list, or the last
last_or_before : {A : Type 0} (xs : List A) (x : A) (k : ℕ) (y : A) → slice_get (xs ++ x ∷ []) k ≡ Some y → (slice_get xs k ≡ Some y) ⊎ ((k ≡ length xs) × (x ≡ y))
last_or_before [] x zero y e = inr (refl, cc)
last_or_before [] x (suc k) y e = absurd cc
last_or_before (z ∷ xs) x zero y e = inl e
last_or_before (z ∷ xs) x (suc k) y e = ⊎_elim (λ f. inl f) (λ f. inr (ap suc f.0, f.1)) (last_or_before xs x k y e)

first_after : (n : ℕ) (old new : View) → old ≡ first_view n → new ≡ split_left old → new ≡ opened_view (n + 1) 0
first_after n old new e f = f ∙ ap split_left e

other_after : (n k : ℕ) (old next : View) → old ≡ first_view (suc n) → next ≡ split_right old → next ≡ opened_view k (suc n)
other_after n k old next e f = f ∙ (ap split_right e ∙ sym (other_is k n))

-- the first one makes the next
pub next_made : (h : HeapView) (ps : List PassView) (old new next : PassView) → AreMade h ps → old ≡ get_or ps 0 old
    → IsPassOf h new → new.view ≡ split_left old.view → IsPassOf h next → next.view ≡ split_right old.view → AreMade h (set ps 0 new ++ next ∷ [])
next_made h [] old new next m read ok left ok' right = let some = m.some in absurd (omega (arith, some))
next_made h (p ∷ rest) old new next m read ok left ok' right =
    let count : length (new ∷ (rest ++ next ∷ [])) ≡ length (p ∷ rest) + 1 = (let e = length-append rest (next ∷ []) in omega (arith, e)) in record {
      some = omega arith;
      each = λ t q e. subst (λ (x : ℕ). IsPassOf h q × (q.view ≡ opened_view x t)) (sym count) (by t q e);
    }
  where
    first : old.view ≡ first_view (length (p ∷ rest))
    first = (first_made h (p ∷ rest) old m read).1

    by : (t : ℕ) (q : PassView) → slice_get (new ∷ (rest ++ next ∷ [])) t ≡ Some q → IsPassOf h q × (q.view ≡ opened_view (length (p ∷ rest) + 1) t)
    by zero q e =
        let is : new ≡ q = cc in
        subst (λ (x : PassView). IsPassOf h x × (x.view ≡ opened_view (length (p ∷ rest) + 1) 0)) is (ok, first_after (length (p ∷ rest)) old.view new.view first left)
    by (suc t) q e = ⊎_elim
        (λ (f : slice_get rest t ≡ Some q). let was = m.each (suc t) q f in (was.0, was.1 ∙ (other_is (length (p ∷ rest)) t ∙ sym (other_is (length (p ∷ rest) + 1) t))))
        (λ (f : (t ≡ length rest) × (next ≡ q)).
        subst (λ (x : ℕ × PassView). IsPassOf h x.1 × (x.1.view ≡ opened_view (length (p ∷ rest) + 1) (suc x.0))) (λ i. (sym f.0 i, f.1 i))
        (ok', other_after (length rest) (length (p ∷ rest) + 1) old.view next.view first right)) (last_or_before rest next t q e)

-- all are made
pub all_made : (h : HeapView) (ps : List PassView) → AreMade h ps → length ps ≡ h.passes → AreOpened h ps
all_made h ps m all = record { all = all; each = λ t p e. subst (λ (n : ℕ). IsPassOf h p × (p.view ≡ opened_view n t)) all (m.each t p e) }
