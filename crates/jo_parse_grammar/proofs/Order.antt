-- The faults of a script come in order of place, where the places of its identifiers rise.
use Rattle.std.specs.Prelude.{ℕ, ◌<◌, Bool, true, false, if◌then◌else◌, List, [], ◌∷◌, ◌++◌}
use Rattle.jo_parse_tree.specs.declared.word.Ident.{Ident}
use Rattle.jo_parse_tree.specs.Trees.{Binding, Head, declares, begins, Statement, empty, block, when, either, while, for, break, continue, print, print_names, evaluate, Items, no_items, declare, perform}
use Rattle.jo_parse_tree.specs.Blocks.{names_of, declared_in, declared_by}
use Rattle.jo_parse_grammar.specs.Declarations.{ScopeFault, undeclared, twice, Found, uses_of, uses_of_optional, uses_of_all, Scope, at_beginning, at_end, scope_after, scope_after_all, is_among, is_bound, faults_of_uses, faults_of_bindings, faults_of_head, faults_of, faults_of_items, faults}

-- ---- the identifiers of a script, in uses and declarations, in the order in which they are written

abbrev pub identifiers_of_bindings : List Binding → List Ident
identifiers_of_bindings [] = []
identifiers_of_bindings (b ∷ bindings) = b.0 ∷ (uses_of_optional b.1 ++ identifiers_of_bindings bindings)

abbrev pub identifiers_of_head : Head → List Ident
identifiers_of_head (declares bindings) = identifiers_of_bindings bindings
identifiers_of_head (begins e) = uses_of_optional e

abbrev mutual
  pub identifiers_of : Statement → List Ident
  identifiers_of empty = []
  identifiers_of (block items) = identifiers_of_items items
  identifiers_of (when c a) = uses_of c ++ identifiers_of a
  identifiers_of (either c a b) = uses_of c ++ (identifiers_of a ++ identifiers_of b)
  identifiers_of (while c a) = uses_of c ++ identifiers_of a
  identifiers_of (for head c step a) = identifiers_of_head head ++ ((uses_of_optional c ++ uses_of_optional step) ++ identifiers_of a)
  identifiers_of break = []
  identifiers_of continue = []
  identifiers_of (print es) = uses_of_all es
  identifiers_of (print_names e) = uses_of e
  identifiers_of (evaluate e) = uses_of e

  pub identifiers_of_items : Items → List Ident
  identifiers_of_items no_items = []
  identifiers_of_items (declare bindings items) = identifiers_of_bindings bindings ++ identifiers_of_items items
  identifiers_of_items (perform statement items) = identifiers_of statement ++ identifiers_of_items items

-- ---- rising places

abbrev pub IsAbove : ℕ → List ℕ → Type 0
IsAbove place [] = Unit {0}
IsAbove place (p ∷ places) = (place < p) × IsAbove place places

abbrev pub Rise : List ℕ → Type 0
Rise [] = Unit {0}
Rise (p ∷ places) = IsAbove p places × Rise places

abbrev pub places_of : List Ident → List ℕ
places_of [] = []
places_of (x ∷ xs) = x.place ∷ places_of xs

abbrev pub places_at_fault : List Found → List ℕ
places_at_fault [] = []
places_at_fault (found ∷ more) = found.1 ∷ places_at_fault more

-- ---- faults at some of the identifiers

-- the faults stand at some of these identifiers, in their order
data Stand : List Found → List Ident → Type 0 where
  all_stand : Stand [] []
  without : {x : Ident} {founds : List Found} {xs : List Ident} → Stand founds xs → Stand founds (x ∷ xs)
  with : {kind : ScopeFault} {x : Ident} {founds : List Found} {xs : List Ident} → Stand founds xs → Stand ((kind, x.place) ∷ founds) (x ∷ xs)

joined : {founds others : List Found} {xs ys : List Ident} → Stand founds xs → Stand others ys → Stand (founds ++ others) (xs ++ ys)
joined all_stand k = k
joined (without h) k = without (joined h k)
joined (with h) k = with (joined h k)

above : {founds : List Found} {xs : List Ident} (place : ℕ) → Stand founds xs → IsAbove place (places_of xs) → IsAbove place (places_at_fault founds)
above place all_stand a = tt
above place (without h) a = above place h a.1
above place (with h) a = (a.0, above place h a.1)

rise : {founds : List Found} {xs : List Ident} → Stand founds xs → Rise (places_of xs) → Rise (places_at_fault founds)
rise all_stand r = tt
rise (without h) r = rise h r.1
rise (with {x = x} h) r = (above x.place h r.0, rise h r.1)

-- ---- the faults of each part

of_use : (bound : Bool) (x : Ident) {founds : List Found} {xs : List Ident} → Stand founds xs → Stand (if bound then founds else (undeclared, x.place) ∷ founds) (x ∷ xs)
of_use true x h = without h
of_use false x h = with h

of_uses : (scopes : List Scope) (xs : List Ident) → Stand (faults_of_uses scopes xs) xs
of_uses scopes [] = all_stand
of_uses scopes (x ∷ xs) = of_use (is_bound scopes x.text.0) x (of_uses scopes xs)

of_name : (again : Bool) (x : Ident) {founds : List Found} {xs : List Ident} → Stand founds xs → Stand ((if again then (twice, x.place) ∷ [] else []) ++ founds) (x ∷ xs)
of_name true x h = with h
of_name false x h = without h

of_bindings : (scope : Scope) (outer : List Scope) (bindings : List Binding) → Stand (faults_of_bindings scope outer bindings) (identifiers_of_bindings bindings)
of_bindings scope outer [] = all_stand
of_bindings scope outer (b ∷ bindings) =
    of_name (is_among scope.ended b.0.text.0) b.0 (joined (of_uses (scope ∷ outer) (uses_of_optional b.1)) (of_bindings (scope_after scope b.0) outer bindings))

of_head : (outer : List Scope) (head : Head) → Stand (faults_of_head outer head) (identifiers_of_head head)
of_head outer (declares bindings) = of_bindings (at_beginning (names_of bindings)) outer bindings
of_head outer (begins e) = of_uses outer (uses_of_optional e)

mutual
  of_statement : (scopes : List Scope) (s : Statement) → Stand (faults_of scopes s) (identifiers_of s)
  of_statement scopes empty = all_stand
  of_statement scopes (block items) = of_items (at_beginning (declared_in items)) scopes items
  of_statement scopes (when c a) = joined (of_uses scopes (uses_of c)) (of_statement scopes a)
  of_statement scopes (either c a b) = joined (of_uses scopes (uses_of c)) (joined (of_statement scopes a) (of_statement scopes b))
  of_statement scopes (while c a) = joined (of_uses scopes (uses_of c)) (of_statement scopes a)
  of_statement scopes (for head c step a) =
      joined (of_head scopes head)
      (joined (of_uses (at_end (declared_by head) ∷ scopes) (uses_of_optional c ++ uses_of_optional step))
      (of_statement (at_end (declared_by head) ∷ scopes) a))
  of_statement scopes break = all_stand
  of_statement scopes continue = all_stand
  of_statement scopes (print es) = of_uses scopes (uses_of_all es)
  of_statement scopes (print_names e) = of_uses scopes (uses_of e)
  of_statement scopes (evaluate e) = of_uses scopes (uses_of e)

  of_items : (scope : Scope) (outer : List Scope) (items : Items) → Stand (faults_of_items scope outer items) (identifiers_of_items items)
  of_items scope outer no_items = all_stand
  of_items scope outer (declare bindings items) = joined (of_bindings scope outer bindings) (of_items (scope_after_all scope bindings) outer items)
  of_items scope outer (perform statement items) = joined (of_statement (scope ∷ outer) statement) (of_items scope outer items)

-- the faults of a script come in order of place
pub faults_rise : (script : Items) → Rise (places_of (identifiers_of_items script)) → Rise (places_at_fault (faults script))
faults_rise script r = rise (of_items (at_beginning (declared_in script)) [] script) r
