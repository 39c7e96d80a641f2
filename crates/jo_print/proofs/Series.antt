-- Properties with a comma between each two.
use Rattle.std.proofs.Common.{◌≡◌, ℕ, Bool, true, false, List, [], ◌∷◌, ◌++◌, codes, map, refl, sym, ap, ◌∙◌, append_assoc, arith}
use Rattle.std.specs.Prelude.{Option, Some, None, slice_get, is_none, is_some, not, flat_map}
use Rattle.std.proofs.lemmas.List.Concat.{flat_map-append}
use Rattle.jo_model.specs.Printed.{joined}
use Rattle.jo_model.specs.Reading.{place_from}
use Rattle.jo_model.proofs.InOrder.{place-here}
use Rattle.jo_print.specs.inner.Series.{lead, series}
use Rattle.jo_value.specs.declared.value.Value.{Value}

pub series-nil : (is_first : Bool) → series is_first [] ≡ []
series-nil true = refl
series-nil false = refl

pub series-cons : (is_first : Bool) (t : List ℕ) (texts : List (List ℕ)) → series is_first (t ∷ texts) ≡ (lead is_first ++ t) ++ series false texts
series-cons true t texts = refl
series-cons false t texts = refl

-- ---- elements, and then names

pub bare : {X : Type 0} (found : Option X) (v : Bool) → is_some found ≡ not v → v ≡ is_none found
bare None true e = refl
bare None false e = e
bare (Some x) true e = e
bare (Some x) false e = refl

pub joined-both : {X : Type 0} (f : ℕ × Value → List ℕ) (g : X → List ℕ) (elements : List (ℕ × Value)) (names : List X) (v : Bool)
    → v ≡ is_none (slice_get elements (place_from 0 elements)) → joined (codes ", ") (map f elements ++ map g names) ≡ joined (codes ", ") (map f elements) ++ series v (map g names)
joined-both f g [] names v is = rw is refl
joined-both f g (x ∷ xs) names v is =
    let more : v ≡ false = is ∙ ap (λ n. is_none (slice_get (x ∷ xs) n)) (place-here 0 x xs (omega arith)) in
    rw more (ap (λ l. f x ++ l) (flat_map-append (λ u. codes ", " ++ u) (map f xs) (map g names)) ∙ sym (append_assoc (f x) (flat_map (λ u. codes ", " ++ u) (map f xs)) (flat_map (λ u. codes ", " ++ u) (map g names))))
