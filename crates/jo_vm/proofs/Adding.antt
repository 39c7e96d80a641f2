-- Pieces that are added one after another.
use Rattle.std.proofs.Common.{◌≡◌, ◌∙◌, ◌≤◌, ◌<◌, ◌+◌, ℕ, Bool, true, false, List, [], ◌∷◌, ◌++◌, length, take, drop, map, flat_map, get_or, ap, arith, append_assoc, length-append}
use Rattle.std.proofs.lemmas.Bool.{false≢true}
use Rattle.std.proofs.lemmas.List.{take-map, length-map}
use Rattle.std.proofs.Math.ListN.{get_or-map}
use Rattle.std.proofs.lemmas.List.Folds.{length-flat_map-take}
use Rattle.jo_model.specs.Printed.{joined}
use Rattle.jo_vm.specs.inner.Lines.{Adds}

module _ {a b c p q : List ℕ} {r s : Bool} (first : Adds a b p r) (done : r ≡ true) (next : Adds b c q s) where
  longer : length b ≡ length a + length p
  longer = ap length (first.whole done) ∙ length-append a p

  kept_both : (more : List ℕ) × (c ≡ a ++ more)
  kept_both = (first.kept.0 ++ next.kept.0, next.kept.1 ∙ ap (λ t. t ++ next.kept.0) first.kept.1 ∙ append_assoc a first.kept.0 next.kept.0)

  longer_by : length (p ++ q) ≡ length p + length q
  longer_by = length-append p q

  -- two pieces, of which the first is done
  pub adds_then : Adds a c (p ++ q) s
  adds_then = record {
    whole = λ e. next.whole e ∙ ap (λ t. t ++ q) (first.whole done) ∙ append_assoc a p q;
    full = λ e. let over = next.full e in omega (arith, longer, over, longer_by);
    kept = kept_both;
  }

  -- the second of two pieces does not fit, so that nothing does in which both stand
  pub adds_not_all : s ≡ false → (all : List ℕ) → length p + length q ≤ length all → Adds a c all false
  adds_not_all failed all le = record {
    whole = λ e. absurd (false≢true e);
    full = λ _. let over = next.full failed in omega (arith, longer, over, le);
    kept = kept_both;
  }

module _ {X : Type 0} (g : X → List ℕ) (f : List ℕ → List ℕ) (xs : List X) (i : ℕ) (d : X) where
  -- one element more of a list
  pub beside : i < length xs → length (flat_map f (map g (take i xs))) + length (f (g (get_or xs i d))) ≤ length (flat_map f (map g xs))
  beside lt =
      let within : i < length (map g xs) = let e = length-map xs g in omega (arith, e, lt) in
      let all = length-flat_map-take f (map g xs) i (g d) within in
      let before = ap (λ ys. length (flat_map f ys)) (take-map g i xs) in
      let here = ap (λ y. length (f y)) (get_or-map g xs i d) in
      omega (arith, all, before, here)

-- a list that is not empty, joined: its first element and those behind it
pub joined_first : {X : Type 0} (g : X → List ℕ) (between : List ℕ) (xs rest : List X) (d : X) → 1 ≤ length xs → rest ≡ drop 1 xs
    → g (get_or xs 0 d) ++ flat_map (λ u. between ++ u) (map g rest) ≡ joined between (map g xs)
joined_first g between [] rest d le e = absurd (omega (arith, le))
joined_first g between (x ∷ xs) rest d le e = ap (λ ys. g x ++ flat_map (λ u. between ++ u) (map g ys)) e
