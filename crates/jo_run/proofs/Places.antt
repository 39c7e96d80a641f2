-- Lists by places, and what a pass keeps of others by their numbers.
use Rattle.std.proofs.Common.{◌≡◌, ℕ, zero, suc, ◌+◌, ◌<◌, ◌⊎◌, true, false, eqb, List, [], ◌∷◌, ◌++◌, length, map, slice_get, slice_index_or, Some, refl, ap, ◌∙◌, subst, ⊎_elim, inl, inr, arith}
use Rattle.std.specs.Prelude.{All}
use Rattle.std.proofs.lemmas.Bool.{eq-eqb, ne_eqb}
use Rattle.std.proofs.lemmas.Option.{slice_get-get_or, slice_get_within}
use lib.ListN.{get_elem?}
use mathlib.Core.Option.{some}
use Rattle.jo_rule.specs.Ending.{kept_calls, listed}
use Rattle.jo_rule.specs.Views.{Kept}
use Rattle.jo_heap.specs.Closing.{kept_counts, kept_tries}
use Rattle.jo_run.specs.inner.Begun.{Beside}

-- ---- places

-- an item of a list with one more is one of the list, or the last
pub last_or_before : {A : Type 0} (xs : List A) (x : A) (k : ℕ) (y : A) → slice_get (xs ++ x ∷ []) k ≡ Some y → (slice_get xs k ≡ Some y) ⊎ ((k ≡ length xs) × (x ≡ y))
last_or_before [] x zero y e = inr (refl, cc)
last_or_before [] x (suc k) y e = absurd cc
last_or_before (z ∷ xs) x zero y e = inl e
last_or_before (z ∷ xs) x (suc k) y e = ⊎_elim (λ f. inl f) (λ f. inr (ap suc f.0, f.1)) (last_or_before xs x k y e)

-- what stands at a place within
pub there : {A : Type 0} (xs : List A) (k : ℕ) → k < length xs → (x : A) × (slice_get xs k ≡ Some x)
there [] k lt = absurd (omega (arith, lt))
there (x ∷ xs) zero lt = (x, refl)
there (x ∷ xs) (suc k) lt = there xs k (omega (arith, lt))

pub same_there : {A : Type 0} (xs : List A) (k : ℕ) (x y : A) → slice_get xs k ≡ Some x → slice_get xs k ≡ Some y → x ≡ y
same_there xs k x y e f = cc

-- where all items are so, each is
pub all_there : {A : Type 0} (P : A → Type 0) (xs : List A) → ((k : ℕ) (x : A) → slice_get xs k ≡ Some x → P x) → All P xs
all_there P xs each = λ k d lt. each k (slice_index_or xs k d) (slice_get-get_or xs k d lt)

pub at_or : {A : Type 0} (xs : List A) (k : ℕ) (x d : A) → slice_get xs k ≡ Some x → slice_index_or xs k d ≡ x
at_or [] k x d e = absurd cc
at_or (y ∷ xs) zero x d e = cc
at_or (y ∷ xs) (suc k) x d e = at_or xs k x d e

pub all_at : {A : Type 0} (P : A → Type 0) (xs : List A) (k : ℕ) (x : A) → All P xs → slice_get xs k ≡ Some x → P x
all_at P xs k x all e = subst P (at_or xs k x x e) (all k x (slice_get_within xs k x e))

-- under a function
module _ {A B : Type 0} (f : A → B) where
  pub at_map : (xs : List A) (k : ℕ) (x : A) → slice_get xs k ≡ Some x → slice_get (map f xs) k ≡ Some (f x)
  at_map [] k x e = absurd cc
  at_map (y ∷ xs) zero x e = cc
  at_map (y ∷ xs) (suc k) x e = at_map xs k x e

  pub from_map : (xs : List A) (k : ℕ) (y : B) → slice_get (map f xs) k ≡ Some y → (x : A) × (slice_get xs k ≡ Some x) × (f x ≡ y)
  from_map [] k y e = absurd cc
  from_map (x ∷ xs) zero y e = (x, refl, cc)
  from_map (x ∷ xs) (suc k) y e = from_map xs k y e

  pub len_map : (xs : List A) → length (map f xs) ≡ length xs
  len_map [] = refl
  len_map (x ∷ xs) = ap suc (len_map xs)

-- the lists of the table of words and those of std have the same items
pub elem_there : {A : Type 0} (xs : List A) (k : ℕ) (x : A) → slice_get xs k ≡ Some x → get_elem? xs k ≡ some x
elem_there [] k x e = absurd cc
elem_there (y ∷ xs) zero x e = cc
elem_there (y ∷ xs) (suc k) x e = elem_there xs k x e

pub listed_there : {A : Type 0} (n k : ℕ) (f : ℕ → A) → k < n → slice_get (listed n f) k ≡ Some (f k)
listed_there zero k f lt = absurd (omega (arith, lt))
listed_there (suc n) zero f lt = refl
listed_there (suc n) (suc k) f lt = listed_there n k (λ j. f (suc j)) (omega (arith, lt))

-- ---- two lists

module _ {A B : Type 0} (R : A → B → Type 0) where
  -- one more of both
  pub beside_both : (xs : List A) (ys : List B) (x : A) (y : B) → length ys ≡ length xs → Beside R xs ys → R x y → Beside R (xs ++ x ∷ []) (ys ++ y ∷ [])
  beside_both xs ys x y len each r k a b e f = ⊎_elim
      (λ (was : slice_get xs k ≡ Some a). ⊎_elim
      (λ (old : slice_get ys k ≡ Some b). each k a b was old)
      (λ (last : (k ≡ length ys) × (y ≡ b)). let n = last.0 in let lt = slice_get_within xs k a was in absurd (omega (arith, len, n, lt)))
      (last_or_before ys y k b f))
      (λ (last : (k ≡ length xs) × (x ≡ a)). ⊎_elim
      (λ (old : slice_get ys k ≡ Some b). let n = last.0 in let lt = slice_get_within ys k b old in absurd (omega (arith, len, n, lt)))
      (λ (last' : (k ≡ length ys) × (y ≡ b)). subst (λ (p : A × B). R p.0 p.1) (λ i. (last.1 i, last'.1 i)) r)
      (last_or_before ys y k b f)) (last_or_before xs x k a e)

  -- one more of the second
  pub beside_more : (xs : List A) (ys : List B) (x : A) (y : B) → slice_get xs (length ys) ≡ Some x → Beside R xs ys → R x y → Beside R xs (ys ++ y ∷ [])
  beside_more xs ys x y at each r k a b e f = ⊎_elim
      (λ (old : slice_get ys k ≡ Some b). each k a b e old)
      (λ (last : (k ≡ length ys) × (y ≡ b)).
      let same : x ≡ a = same_there xs k x a (ap (slice_get xs) last.0 ∙ at) e in
      subst (λ (p : A × B). R p.0 p.1) (λ i. (same i, last.1 i)) r) (last_or_before ys y k b f)

-- ---- what is kept, by number

-- this is kept of pass t
pub record IsKeptOf (kept : List Kept) (t : ℕ) (q : Kept) : Type 0 where
  pub calls : kept_calls kept t ≡ q.calls
  pub counts : kept_counts kept t ≡ q.counts
  pub tries : kept_tries kept t ≡ q.tries

-- where the numbers go up one by one
pub kept_there : (kept : List Kept) (n k : ℕ) (q : Kept) → ((j : ℕ) (p : Kept) → slice_get kept j ≡ Some p → p.number ≡ n + j)
    → slice_get kept k ≡ Some q → IsKeptOf kept (n + k) q
kept_there [] n k q numbers e = absurd cc
kept_there (p ∷ kept) n zero q numbers e =
    let same : p ≡ q = cc in
    let at : eqb p.number (n + 0) ≡ true = eq-eqb p.number (n + 0) (numbers 0 p refl) in
    subst (λ (x : Kept). IsKeptOf (p ∷ kept) (n + 0) x) same (record { calls = rw at refl; counts = rw at refl; tries = rw at refl })
kept_there (p ∷ kept) n (suc k) q numbers e =
    let number = numbers 0 p refl in
    let past : eqb p.number (n + suc k) ≡ false = ne_eqb p.number (n + suc k) (λ same. omega (arith, number, same)) in
    let up : suc n + k ≡ n + suc k = omega arith in
    let rest : IsKeptOf kept (n + suc k) q = subst (λ (t : ℕ). IsKeptOf kept t q) up
    (kept_there kept (suc n) k q (λ j r f. let m = numbers (suc j) r f in omega (arith, m)) e) in
    record { calls = rw past rest.calls; counts = rw past rest.counts; tries = rw past rest.tries }
