-- Beginnings and rests of a reversed list.
use Rattle.std.proofs.Common.{◌≡◌, ◌∙◌, ℕ, ◌-◌, ◌≤◌, List, ◌++◌, length, take, drop, reverse, sym, ap, arith, ⊎_elim, length-drop}
use Rattle.std.proofs.lemmas.Bool.{cases_lt}
use Rattle.std.proofs.lemmas.List.{take-append-drop, take_all, reverse-append, length-reverse, reverse-reverse}
use Rattle.std.proofs.Math.Seq.{take-append_seam, drop-append_seam}
use Rattle.std.proofs.Math.ListN.{drop_of_length-le}

module _ {A : Type 0} (count : ℕ) (xs : List A) where
  -- how many stand before the last `count`
  abbrev before : ℕ
  before = length xs - count

  parts : reverse xs ≡ reverse (drop before xs) ++ reverse (take before xs)
  parts = ap reverse (sym (take-append-drop before xs)) ∙ reverse-append (take before xs) (drop before xs)

  few : count ≤ length xs → length (reverse (drop before xs)) ≡ count
  few le = length-reverse (drop before xs) ∙ length-drop before xs ∙ omega (arith, le)

  none_before : length xs ≤ count → before ≡ 0
  none_before ge = omega (arith, ge)

  short : length xs ≤ count → length (reverse xs) ≤ count
  short ge = let e = length-reverse xs in omega (arith, e, ge)

  -- the first of a reversed list are the last ones, reversed
  pub take-reverse : take count (reverse xs) ≡ reverse (drop before xs)
  take-reverse =
      ⊎_elim
      (λ lt. let le : count ≤ length xs = omega (arith, lt) in
      ap (λ ys. take count ys) parts
      ∙ ap (λ n. take n (reverse (drop before xs) ++ reverse (take before xs))) (sym (few le))
      ∙ take-append_seam (reverse (drop before xs)) (reverse (take before xs)))
      (λ ge. take_all count (reverse xs) (short ge) ∙ ap (λ n. reverse (drop n xs)) (sym (none_before ge)))
      (cases_lt count (length xs))

  pub drop-reverse : drop count (reverse xs) ≡ reverse (take before xs)
  drop-reverse =
      ⊎_elim
      (λ lt. let le : count ≤ length xs = omega (arith, lt) in
      ap (λ ys. drop count ys) parts
      ∙ ap (λ n. drop n (reverse (drop before xs) ++ reverse (take before xs))) (sym (few le))
      ∙ drop-append_seam (reverse (drop before xs)) (reverse (take before xs)))
      (λ ge. drop_of_length-le (reverse xs) (short ge) ∙ ap (λ n. reverse (take n xs)) (sym (none_before ge)))
      (cases_lt count (length xs))

  -- the last ones, in order
  pub reverse-take-reverse : reverse (take count (reverse xs)) ≡ drop before xs
  reverse-take-reverse = ap reverse take-reverse ∙ reverse-reverse (drop before xs)

module _ {A : Type 0} (d now : List A) (s count len : ℕ) (start : s ≡ len - count) (whole : len ≡ length d) (view : reverse d ≡ now) where
  split : s ≡ length d - count
  split = start ∙ ap (λ n. n - count) whole

  within : length (drop s d) ≤ length d - s
  within = let e = length-drop s d in omega (arith, e)

  pub last_of : take (length d - s) (drop s d) ≡ reverse (take count now)
  last_of =
      take_all (length d - s) (drop s d) within ∙ ap (λ n. drop n d) split
      ∙ sym (reverse-take-reverse count d) ∙ ap (λ ys. reverse (take count ys)) view

  pub drop_last_of : reverse (take s d) ≡ drop count now
  drop_last_of = ap (λ n. reverse (take n d)) split ∙ sym (drop-reverse count d) ∙ ap (λ ys. drop count ys) view
