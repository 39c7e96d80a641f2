-- Sums of signed numbers over a list.
use Rattle.std.proofs.Common.{◌≡◌, ℤ, pos, ◌+ℤ◌, List, [], ◌∷◌, ◌++◌, fold, sym, ap, ◌∙◌, arith}
use Rattle.std.proofs.lemmas.Int.{ints}
use Rattle.std.proofs.lemmas.List.Sums.{fold-append}
use Rattle.jo_totals.specs.Totals.{sum_of}

plus-assoc : (a b c : ℤ) → (a +ℤ b) +ℤ c ≡ a +ℤ (b +ℤ c)
plus-assoc a b c = omega (arith, ints)

zero-plus : (a : ℤ) → pos 0 +ℤ a ≡ a
zero-plus a = omega (arith, ints)

plus-zero : (a : ℤ) → a +ℤ pos 0 ≡ a
plus-zero a = omega (arith, ints)

-- a sum that begins at another number
sum_of-from : {X : Type 0} (f : X → ℤ) (a : ℤ) (xs : List X) → fold (λ sum x. sum +ℤ f x) a xs ≡ a +ℤ sum_of f xs
sum_of-from f a [] = sym (plus-zero a)
sum_of-from f a (x ∷ xs) =
    sum_of-from f (a +ℤ f x) xs ∙ plus-assoc a (f x) (sum_of f xs)
    ∙ ap (λ n. a +ℤ n) (sym (sum_of-from f (pos 0 +ℤ f x) xs ∙ ap (λ n. n +ℤ sum_of f xs) (zero-plus (f x))))

pub sum_of-cons : {X : Type 0} (f : X → ℤ) (x : X) (xs : List X) → sum_of f (x ∷ xs) ≡ f x +ℤ sum_of f xs
sum_of-cons f x xs = sum_of-from f (pos 0 +ℤ f x) xs ∙ ap (λ n. n +ℤ sum_of f xs) (zero-plus (f x))

pub sum_of-append : {X : Type 0} (f : X → ℤ) (xs ys : List X) → sum_of f (xs ++ ys) ≡ sum_of f xs +ℤ sum_of f ys
sum_of-append f xs ys = fold-append (λ sum x. sum +ℤ f x) (pos 0) xs ys ∙ sum_of-from f (sum_of f xs) ys
