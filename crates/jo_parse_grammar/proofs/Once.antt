-- Where a script has no fault, each block declares a name once.
use Rattle.std.proofs.Common.{refl}
use Rattle.std.specs.Prelude.{◌≡◌, ℕ, Bool, true, false, if◌then◌else◌, List, [], ◌∷◌, ◌++◌}
use Rattle.jo_parse_tree.specs.declared.word.Ident.{Ident}
use Rattle.jo_parse_tree.specs.Trees.{Binding, declares, Items, no_items, declare, perform}
use Rattle.jo_parse_tree.specs.Blocks.{names_of, declared_in}
use Rattle.jo_parse_grammar.specs.Declarations.{twice, Found, uses_of_optional, Scope, at_beginning, scope_after, scope_after_all, is_among, faults_of_uses, faults_of_name, faults_of_bindings, faults_of_head, faults_of, faults_of_items}

-- none of the names is among those before, nor there again
abbrev pub AreNew : List ℕ → List ℕ → Type 0
AreNew before [] = Unit {0}
AreNew before (name ∷ names) = (is_among before name ≡ false) × AreNew (name ∷ before) names

front : (founds others : List Found) → founds ++ others ≡ [] → founds ≡ []
front [] others e = refl
front (found ∷ founds) others e = let false_ : ⊥ = cc in absurd false_

back : (founds others : List Found) → founds ++ others ≡ [] → others ≡ []
back [] others e = e
back (found ∷ founds) others e = let false_ : ⊥ = cc in absurd false_

new_name : (again : Bool) (x : Ident) (others : List Found) → (if again then (twice, x.place) ∷ [] else []) ++ others ≡ [] → again ≡ false
new_name true x others e = let false_ : ⊥ = cc in absurd false_
new_name false x others e = refl

new_bindings : (scope : Scope) (outer : List Scope) (bindings : List Binding) (names : List ℕ)
    → faults_of_bindings scope outer bindings ≡ [] → AreNew (scope_after_all scope bindings).ended names → AreNew scope.ended (names_of bindings ++ names)
new_bindings scope outer [] names e h = h
new_bindings scope outer (b ∷ bindings) names e h = (
  new_name (is_among scope.ended b.0.text.0) b.0 _ e,
  new_bindings (scope_after scope b.0) outer bindings names (back (faults_of_uses (scope ∷ outer) (uses_of_optional b.1)) _ (back (faults_of_name scope b.0) _ e)) h,
)

new_items : (scope : Scope) (outer : List Scope) (items : Items) → faults_of_items scope outer items ≡ [] → AreNew scope.ended (declared_in items)
new_items scope outer no_items e = tt
new_items scope outer (declare bindings items) e =
    new_bindings scope outer bindings (declared_in items) (front (faults_of_bindings scope outer bindings) _ e)
    (new_items (scope_after_all scope bindings) outer items (back (faults_of_bindings scope outer bindings) _ e))
new_items scope outer (perform statement items) e = new_items scope outer items (back (faults_of (scope ∷ outer) statement) _ e)

-- the script itself, and any block in it
pub a_block_declares_a_name_once : (outer : List Scope) (items : Items) → faults_of_items (at_beginning (declared_in items)) outer items ≡ [] → AreNew [] (declared_in items)
a_block_declares_a_name_once outer items e = new_items (at_beginning (declared_in items)) outer items e

-- the head of a `for`
pub a_head_declares_a_name_once : (outer : List Scope) (bindings : List Binding) → faults_of_head outer (declares bindings) ≡ [] → AreNew [] (names_of bindings ++ [])
a_head_declares_a_name_once outer bindings e = new_bindings (at_beginning (names_of bindings)) outer bindings [] e tt
