-- Faults hang only on which names the blocks declare, and of which a binding has ended.
use Rattle.std.proofs.Common.{◌≡◌, ℕ, List, [], ◌∷◌, ◌++◌, refl, ap, sym, ◌∙◌}
use Rattle.std.specs.Prelude.{nat_eq, ◌||◌, if◌then◌else◌}
use Rattle.jo_parse_tree.specs.declared.word.Ident.{Ident}
use Rattle.jo_parse_tree.specs.Blocks.{names_of, declared_in, declared_by}
use Rattle.jo_parse_tree.specs.Trees.{Binding, Head, declares, begins, Statement, empty, block, when, either, while, for, break, continue, print, print_names, evaluate, Items, no_items, declare, perform}
use Rattle.jo_parse_grammar.specs.Declarations.{Scope, Found, at_beginning, at_end, scope_after, scope_after_all, is_among, is_bound, uses_of, uses_of_optional, uses_of_all, twice, undeclared, faults_of_uses, faults_of_name, faults_of_bindings, faults_of_head, faults_of, faults_of_items}
use Rattle.jo_parse_names.specs.inner.Blocks.{IsAlike}

-- uses mean the same in both
abbrev pub BindsSame : List Scope → List Scope → Type 0
BindsSame scopes others = (name : ℕ) → is_bound scopes name ≡ is_bound others name

pub alike : (s : Scope) → IsAlike s s
alike s = ((λ name. refl), (λ name. refl))

pub alike_then : (s t u : Scope) → IsAlike s t → IsAlike t u → IsAlike s u
alike_then s t u a b = ((λ name. a.0 name ∙ b.0 name), (λ name. a.1 name ∙ b.1 name))

pub binds-inside : (s t : Scope) (ss ts : List Scope) → IsAlike s t → BindsSame ss ts → BindsSame (s ∷ ss) (t ∷ ts)
binds-inside s t ss ts a same name =
    ap (λ b. if b then is_among s.ended name else is_bound ss name) (a.0 name)
    ∙ (ap (λ b. if is_among t.names name then b else is_bound ss name) (a.1 name)
    ∙ ap (λ b. if is_among t.names name then is_among t.ended name else b) (same name))

pub scope_after-alike : (s t : Scope) (x : Ident) → IsAlike s t → IsAlike (scope_after s x) (scope_after t x)
scope_after-alike s t x a = (a.0, (λ name. ap (λ b. nat_eq x.text.0 name || b) (a.1 name)))

pub scope_after_all-alike : (s t : Scope) (bindings : List Binding) → IsAlike s t → IsAlike (scope_after_all s bindings) (scope_after_all t bindings)
scope_after_all-alike s t [] a = a
scope_after_all-alike s t (b ∷ bindings) a = scope_after_all-alike (scope_after s b.0) (scope_after t b.0) bindings (scope_after-alike s t b.0 a)

pub uses-same : (ss ts : List Scope) (uses : List Ident) → BindsSame ss ts → faults_of_uses ss uses ≡ faults_of_uses ts uses
uses-same ss ts [] same = refl
uses-same ss ts (x ∷ uses) same =
    ap (λ b. if b then faults_of_uses ss uses else (undeclared, x.place) ∷ faults_of_uses ss uses) (same x.text.0)
    ∙ ap (λ faults. if is_bound ts x.text.0 then faults else (undeclared, x.place) ∷ faults) (uses-same ss ts uses same)

pub name-same : (s t : Scope) (x : Ident) → IsAlike s t → faults_of_name s x ≡ faults_of_name t x
name-same s t x a = ap (λ b. if b then (twice, x.place) ∷ [] else []) (a.1 x.text.0)

two : {xs xs' ys ys' : List Found} → xs ≡ xs' → ys ≡ ys' → xs ++ ys ≡ xs' ++ ys'
two e f = cc (e, f)

pub bindings-same : (s t : Scope) (ss ts : List Scope) (bindings : List Binding) → IsAlike s t → BindsSame ss ts → faults_of_bindings s ss bindings ≡ faults_of_bindings t ts bindings
bindings-same s t ss ts [] a same = refl
bindings-same s t ss ts (b ∷ bindings) a same =
    two (name-same s t b.0 a) (two (uses-same (s ∷ ss) (t ∷ ts) (uses_of_optional b.1) (binds-inside s t ss ts a same))
    (bindings-same (scope_after s b.0) (scope_after t b.0) ss ts bindings (scope_after-alike s t b.0 a) same))

pub head-same : (ss ts : List Scope) (head : Head) → BindsSame ss ts → faults_of_head ss head ≡ faults_of_head ts head
head-same ss ts (declares bindings) same = bindings-same (at_beginning (names_of bindings)) (at_beginning (names_of bindings)) ss ts bindings (alike (at_beginning (names_of bindings))) same
head-same ss ts (begins e) same = uses-same ss ts (uses_of_optional e) same

mutual
  pub faults-same : (ss ts : List Scope) (x : Statement) → BindsSame ss ts → faults_of ss x ≡ faults_of ts x
  faults-same ss ts empty same = refl
  faults-same ss ts (block items) same = items-same (at_beginning (declared_in items)) (at_beginning (declared_in items)) ss ts items (alike (at_beginning (declared_in items))) same
  faults-same ss ts (when c a) same = two (uses-same ss ts (uses_of c) same) (faults-same ss ts a same)
  faults-same ss ts (either c a b) same = two (uses-same ss ts (uses_of c) same) (two (faults-same ss ts a same) (faults-same ss ts b same))
  faults-same ss ts (while c a) same = two (uses-same ss ts (uses_of c) same) (faults-same ss ts a same)
  faults-same ss ts (for head c step a) same =
      let around : BindsSame (at_end (declared_by head) ∷ ss) (at_end (declared_by head) ∷ ts) = binds-inside (at_end (declared_by head)) (at_end (declared_by head)) ss ts (alike (at_end (declared_by head))) same in
      two (head-same ss ts head same)
      (two (uses-same (at_end (declared_by head) ∷ ss) (at_end (declared_by head) ∷ ts) (uses_of_optional c ++ uses_of_optional step) around)
      (faults-same (at_end (declared_by head) ∷ ss) (at_end (declared_by head) ∷ ts) a around))
  faults-same ss ts break same = refl
  faults-same ss ts continue same = refl
  faults-same ss ts (print es) same = uses-same ss ts (uses_of_all es) same
  faults-same ss ts (print_names e) same = uses-same ss ts (uses_of e) same
  faults-same ss ts (evaluate e) same = uses-same ss ts (uses_of e) same

  pub items-same : (s t : Scope) (ss ts : List Scope) (items : Items) → IsAlike s t → BindsSame ss ts → faults_of_items s ss items ≡ faults_of_items t ts items
  items-same s t ss ts no_items a same = refl
  items-same s t ss ts (declare bindings items) a same =
      two (bindings-same s t ss ts bindings a same) (items-same (scope_after_all s bindings) (scope_after_all t bindings) ss ts items (scope_after_all-alike s t bindings a) same)
  items-same s t ss ts (perform statement items) a same =
      two (faults-same (s ∷ ss) (t ∷ ts) statement (binds-inside s t ss ts a same)) (items-same s t ss ts items a same)
