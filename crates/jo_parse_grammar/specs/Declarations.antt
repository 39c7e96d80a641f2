-- Which uses and declarations of names are faults. A name stands as the id of its text.
--
-- The whole script is a block, and so are each statement in braces and each `for`. A binding declares its name in the
-- block in which its `let` stands, and the `let` in the head of a `for` does so in the block of that `for`. A use of a
-- name means the innermost block around it that declares the name, be it before the use or after it.
use Rattle.std.specs.Prelude.{◌≡◌, ℕ, ◌==◌, Bool, false, if◌then◌else◌, List, [], ◌∷◌, ◌++◌, Option, Some, None}
use Rattle.std.specs.List.{list_any}
use Rattle.jo_parse_tree.specs.declared.word.Ident.{Ident}
use Rattle.jo_parse_tree.specs.Blocks.{names_of, declared_in, declared_by}
use Rattle.jo_parse_tree.specs.Trees.{Tree, number, literal, constant, variable, group, object, cas, member, unary, delete, chain, choose, assign, Props, no_props, prop, Accesses, no_accesses, field, index, Links, no_links, link, Binding, Head, declares, begins, Statement, empty, block, when, either, while, for, break, continue, print, print_names, evaluate, Items, no_items, declare, perform}

-- ---- faults

pub data ScopeFault : Type 0 where
  -- no block around the use declares the name; or the innermost one that does has no binding of it that ends before the use
  undeclared : ScopeFault
  -- the block of the declaration has declared the name before
  twice : ScopeFault

-- a fault, and the place of the use or of the declaration that is at fault
abbrev pub Found : Type 0
Found = ScopeFault × ℕ

-- ---- uses

-- The identifiers that an expression uses, in order of place: its variables, as values and as targets.
-- The name after a dot and the key of a property of a literal use none.
abbrev mutual
  pub uses_of : Tree → List Ident
  uses_of (number i) = []
  uses_of (literal t) = []
  uses_of (constant w) = []
  uses_of (variable x) = x ∷ []
  uses_of (group e) = uses_of e
  uses_of (object props comma) = uses_of_props props
  uses_of (cas o k a b) = uses_of o ++ (uses_of k ++ (uses_of a ++ uses_of b))
  uses_of (member e accesses) = uses_of e ++ uses_of_accesses accesses
  uses_of (unary operator e) = uses_of e
  uses_of (delete e) = uses_of e
  uses_of (chain level e links) = uses_of e ++ uses_of_links links
  uses_of (choose c a b) = uses_of c ++ (uses_of a ++ uses_of b)
  uses_of (assign operator target e) = uses_of target ++ uses_of e

  pub uses_of_props : Props → List Ident
  uses_of_props no_props = []
  uses_of_props (prop key e props) = uses_of e ++ uses_of_props props

  pub uses_of_accesses : Accesses → List Ident
  uses_of_accesses no_accesses = []
  uses_of_accesses (field name accesses) = uses_of_accesses accesses
  uses_of_accesses (index e accesses) = uses_of e ++ uses_of_accesses accesses

  pub uses_of_links : Links → List Ident
  uses_of_links no_links = []
  uses_of_links (link operator e links) = uses_of e ++ uses_of_links links

-- those of an expression that may be left out
abbrev pub uses_of_optional : Option Tree → List Ident
uses_of_optional None = []
uses_of_optional (Some e) = uses_of e

-- those of several expressions
abbrev pub uses_of_all : List Tree → List Ident
uses_of_all [] = []
uses_of_all (e ∷ es) = uses_of e ++ uses_of_all es

-- ---- scopes

-- a block at some place in it: the names that it declares anywhere, and those of which a binding has ended before that place
pub record Scope : Type 0 where
  pub names : List ℕ
  pub ended : List ℕ

-- at the beginning of a block with these names no binding has ended
abbrev pub at_beginning : List ℕ → Scope
at_beginning names = record { names = names; ended = [] }

-- and after its last binding all have
abbrev pub at_end : List ℕ → Scope
at_end names = record { names = names; ended = names }

-- after a binding of the name
abbrev pub scope_after : Scope → Ident → Scope
scope_after scope x = record scope { ended = x.text.0 ∷ scope.ended }

-- after these bindings
abbrev pub scope_after_all : Scope → List Binding → Scope
scope_after_all scope [] = scope
scope_after_all scope (b ∷ bindings) = scope_after_all (scope_after scope b.0) bindings

abbrev pub is_among : List ℕ → ℕ → Bool
is_among names name = list_any (λ other. other == name) names

-- Of the blocks around a use, the innermost first, the first one that declares the name has a binding of it that has ended.
abbrev pub is_bound : List Scope → ℕ → Bool
is_bound [] name = false
is_bound (scope ∷ outer) name = if is_among scope.names name then is_among scope.ended name else is_bound outer name

-- ---- faults in order of place

-- of uses that stand in these scopes
abbrev pub faults_of_uses : List Scope → List Ident → List Found
faults_of_uses scopes [] = []
faults_of_uses scopes (x ∷ uses) =
    if is_bound scopes x.text.0 then faults_of_uses scopes uses else (undeclared, x.place) ∷ faults_of_uses scopes uses

-- of a declaration in this scope
abbrev pub faults_of_name : Scope → Ident → List Found
faults_of_name scope x = if is_among scope.ended x.text.0 then (twice, x.place) ∷ [] else []

-- Of the bindings of one `let` in this scope, which stands in the outer ones. The initial value is part of its binding.
abbrev pub faults_of_bindings : Scope → List Scope → List Binding → List Found
faults_of_bindings scope outer [] = []
faults_of_bindings scope outer (b ∷ bindings) =
    faults_of_name scope b.0 ++ (faults_of_uses (scope ∷ outer) (uses_of_optional b.1) ++ faults_of_bindings (scope_after scope b.0) outer bindings)

-- of the head of a `for`
abbrev pub faults_of_head : List Scope → Head → List Found
faults_of_head outer (declares bindings) = faults_of_bindings (at_beginning (names_of bindings)) outer bindings
faults_of_head outer (begins e) = faults_of_uses outer (uses_of_optional e)

abbrev mutual
  -- of a statement
  pub faults_of : List Scope → Statement → List Found
  faults_of scopes empty = []
  faults_of scopes (block items) = faults_of_items (at_beginning (declared_in items)) scopes items
  faults_of scopes (when c a) = faults_of_uses scopes (uses_of c) ++ faults_of scopes a
  faults_of scopes (either c a b) = faults_of_uses scopes (uses_of c) ++ (faults_of scopes a ++ faults_of scopes b)
  faults_of scopes (while c a) = faults_of_uses scopes (uses_of c) ++ faults_of scopes a
  faults_of scopes (for head c step a) =
      faults_of_head scopes head
      ++ (faults_of_uses (at_end (declared_by head) ∷ scopes) (uses_of_optional c ++ uses_of_optional step)
      ++ faults_of (at_end (declared_by head) ∷ scopes) a)
  faults_of scopes break = []
  faults_of scopes continue = []
  faults_of scopes (print es) = faults_of_uses scopes (uses_of_all es)
  faults_of scopes (print_names e) = faults_of_uses scopes (uses_of e)
  faults_of scopes (evaluate e) = faults_of_uses scopes (uses_of e)

  -- of the items of a block, from some place in it on
  pub faults_of_items : Scope → List Scope → Items → List Found
  faults_of_items scope outer no_items = []
  faults_of_items scope outer (declare bindings items) =
      faults_of_bindings scope outer bindings ++ faults_of_items (scope_after_all scope bindings) outer items
  faults_of_items scope outer (perform statement items) =
      faults_of (scope ∷ outer) statement ++ faults_of_items scope outer items

-- ---- scripts

-- all faults of a script, which is a block
abbrev pub faults : Items → List Found
faults script = faults_of_items (at_beginning (declared_in script)) [] script

abbrev pub first_of_faults : List Found → Option Found
first_of_faults [] = None
first_of_faults (found ∷ more) = Some found

-- what the script is refused for, where it is refused for its names
abbrev pub first_fault : Items → Option Found
first_fault script = first_of_faults (faults script)

-- each use means a binding that has ended, and each block declares a name once
abbrev pub IsDeclared : Items → Type 0
IsDeclared script = faults script ≡ []
