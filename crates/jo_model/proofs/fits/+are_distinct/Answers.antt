use Rattle.std.proofs.Common.{length, not, ◌∙◌, ap, ◌≡◌, ◌↔◌, IsTrue, Bool, true, false, List, [], ◌∷◌, refl, sym, subst, rules, arith}
use Rattle.std.specs.List.{IsDistinct, AllByRecursion, list_any}
use Rattle.std.proofs.lemmas.Bool.{or_parts, false≢true}
use Rattle.std.proofs.lemmas.Iterator.{YieldsList-from_slice}
use Rattle.std.proofs.lemmas.Iterator.Search.{any_from_yields_List}
use Rattle.jo_value.specs.declared.value.NameId.{NameId}
use Rattle.jo_value.specs.Values.{is_same_name}
use Rattle.jo_model.proofs.fits.+are_distinct.Goals as goal

-- a name that no other equals differs from each of them
all_differ : (x : NameId) (names : List NameId) → list_any (is_same_name x) names ≡ false → AllByRecursion (λ y. is_same_name x y ≡ false) names
all_differ x [] e = tt
all_differ x (y ∷ ys) e = let parts : (is_same_name x y ≡ false) × (list_any (is_same_name x) ys ≡ false) = or_parts (is_same_name x y) (list_any (is_same_name x) ys) e in (parts.0, all_differ x ys parts.1)

-- and where it differs from each, none equals it
none_equals : (x : NameId) (names : List NameId) → AllByRecursion (λ y. is_same_name x y ≡ false) names → list_any (is_same_name x) names ≡ false
none_equals x [] h = refl
none_equals x (y ∷ ys) h = let rest : list_any (is_same_name x) ys ≡ false = none_equals x ys h.1 in cc (h.0)

none : (names : List NameId) → length names ≡ 0 → IsTrue true ↔ IsDistinct is_same_name names
unfolding IsDistinct
none [] e = (λ _. tt, λ _. refl)
none (x ∷ names) e = absurd (omega arith)

apart : (names : List NameId) (x : NameId) (rest : List NameId) (r : Bool) → names ≡ x ∷ rest → list_any (is_same_name x) rest ≡ false
    → IsTrue r ↔ IsDistinct is_same_name rest → IsTrue r ↔ IsDistinct is_same_name names
unfolding IsDistinct
apart names x rest r e any h =
    let P : List NameId → Type 0 = λ l. IsDistinct is_same_name l in
    (λ t. subst P (sym e) (all_differ x rest any, h.0 t), λ d. let both : P (x ∷ rest) = subst P e d in h.1 both.1)

equal : (names : List NameId) (x : NameId) (rest : List NameId) (r : Bool) → names ≡ x ∷ rest → list_any (is_same_name x) rest ≡ true
    → r ≡ false → IsTrue r ↔ IsDistinct is_same_name names
unfolding IsDistinct
equal names x rest r e any answer =
    let P : List NameId → Type 0 = λ l. IsDistinct is_same_name l in
    (λ t. absurd (false≢true (sym answer ∙ t)), λ d. let both : P (x ∷ rest) = subst P e d in let n : list_any (is_same_name x) rest ≡ false = none_equals x rest both.0 in cc)

pub returns-in-None : goal.returns-in-None
returns-in-None t c = none c.args.names.now c.in-None.ensures.cases

pub returns-then-not-any : goal.returns-then-not-any
returns-then-not-any t c =
    let e = any_from_yields_List (λ y. is_same_name c.in-Some.first.now y) _ _ c.any.result c.any.ensures.ran (YieldsList-from_slice c.in-Some.rest.now cc) (λ x b q h. search rules) in
    apart c.args.names.now c.in-Some.first.now c.in-Some.rest.now _ c.in-Some.ensures.cases.0 (sym e ∙ c.if-not-any.true) c.are_distinct.ensures

pub returns-else-not-any : goal.returns-else-not-any
returns-else-not-any t c =
    let e = any_from_yields_List (λ y. is_same_name c.in-Some.first.now y) _ _ c.any.result c.any.ensures.ran (YieldsList-from_slice c.in-Some.rest.now cc) (λ x b q h. search rules) in
    equal c.args.names.now c.in-Some.first.now c.in-Some.rest.now _ c.in-Some.ensures.cases.0 (sym e ∙ c.if-not-any.false) (ap not c.if-not-any.false)
