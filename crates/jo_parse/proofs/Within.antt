-- Where the scripts of a set end, and what is left at a turn of a loop over a list.
use Rattle.std.proofs.Common.{◌≡◌, ◌∙◌, ap, refl, ℕ, zero, suc, ◌+◌, ◌<◌, ◌≤◌, List, [], ◌∷◌, length, map, drop, get_or, add-one, drop-cons, arith}
use Rattle.jo_parse_grammar.specs.Cuts.{Section, AreWithin}

pub within_more : (few most : ℕ) (sections : List Section) → few ≤ most → AreWithin few sections → AreWithin most sections
within_more few most [] h w = tt
within_more few most (section ∷ sections) h w = (omega (arith, w.0), within_more few most sections h w.1)

-- the views of what is left at a turn
pub views_left : {X Y : Type 0} (view : X → Y) (xs : List X) (i : ℕ) (d : X) → i < length xs
    → map view (drop i xs) ≡ view (get_or xs i d) ∷ map view (drop (i + 1) xs)
views_left view xs i d h = ap (map view) (drop-cons xs i d h) ∙ cc (add-one i)

-- nothing is left after the last turn
pub none_left : {X : Type 0} (xs : List X) (i : ℕ) → length xs ≤ i → drop i xs ≡ []
none_left [] zero h = refl
none_left [] (suc i) h = refl
none_left (x ∷ xs) zero h = let nothing : ⊥ = omega arith in absurd nothing
none_left (x ∷ xs) (suc i) h = none_left xs i (omega arith)
