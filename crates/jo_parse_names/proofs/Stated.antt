-- The faults of the blocks that are entered, and of the kinds of statement.
use Rattle.std.proofs.Common.{◌≡◌, ℕ, List, [], ◌∷◌, ◌++◌, Result, Ok, Err, refl, ap, sym, subst, ◌∙◌, append-nil}
use Rattle.std.specs.Prelude.{OnOk}
use Rattle.jo_parse_tree.specs.declared.script.For.{For}
use Rattle.jo_parse_tree.specs.declared.script.Item.{Item}
use Rattle.jo_parse_tree.specs.Blocks.{names_of}
use Rattle.jo_parse_tree.specs.Trees.{Binding}
use Rattle.jo_parse_tree.specs.ScriptViews.{items_list, option_tree, statement_tree}
use Rattle.jo_parse_tree.proofs.ScriptShapes.{script_shapes, statement_tree-block}
use Rattle.jo_parse_grammar.specs.Declarations.{Scope, at_beginning, at_end, scope_after, scope_after_all, is_among, is_bound, uses_of_optional, faults_of, faults_of_uses, faults_of_bindings, faults_of_items}
use Rattle.jo_parse_names.specs.inner.Blocks.{Scopes, all_of, IsAlike, Enters, Moves, round_faults}
use Rattle.jo_parse_names.proofs.Alike.{BindsSame, alike_then, binds-inside, bindings-same, scope_after_all-alike, items-same, uses-same, faults-same}
use Rattle.jo_parse_names.proofs.Counted.{put-front}

pub enters : (scopes new : Scopes) (block scope : Scope) → new ≡ (block, all_of scopes) → IsAlike block scope → Enters scopes scope new
enters scopes new block scope e a = subst (λ s. Enters scopes scope s) (sym e) (a, refl)

pub enters-empty : (scopes new : Scopes) (block : Scope) → new ≡ (block, all_of scopes) → block ≡ at_beginning [] → Enters scopes (at_end []) new
enters-empty scopes new block e empty = enters scopes new block (at_end []) e (subst (λ s. IsAlike s (at_end [])) (sym empty) ((λ n. refl), (λ n. refl)))

outer-same : (scopes inner : Scopes) (scope : Scope) → Enters scopes scope inner → BindsSame inner.1 (all_of scopes)
outer-same scopes inner scope h name = ap (λ o. is_bound o name) h.1

pub bindings-entered : (scopes inner : Scopes) (scope : Scope) (bindings : List Binding) → Enters scopes scope inner
    → faults_of_bindings scope (all_of scopes) bindings ≡ faults_of_bindings inner.0 inner.1 bindings
bindings-entered scopes inner scope bindings h = sym (bindings-same inner.0 scope inner.1 (all_of scopes) bindings h.0 (outer-same scopes inner scope h))

pub items-entered : (scopes inner : Scopes) (scope : Scope) (items : List Item) → Enters scopes scope inner
    → faults_of_items scope (all_of scopes) (items_list items) ≡ faults_of_items inner.0 inner.1 (items_list items)
items-entered scopes inner scope items h = sym (items-same inner.0 scope inner.1 (all_of scopes) (items_list items) h.0 (outer-same scopes inner scope h))

pub round-entered : (scopes inner : Scopes) (scope : Scope) (x : For) → Enters scopes scope inner → round_faults (scope ∷ all_of scopes) x ≡ round_faults (all_of inner) x
round-entered scopes inner scope x h =
    let same : BindsSame (all_of inner) (scope ∷ all_of scopes) = binds-inside inner.0 scope inner.1 (all_of scopes) h.0 (outer-same scopes inner scope h) in
    let uses = uses_of_optional (option_tree x.condition) ++ uses_of_optional (option_tree x.step) in
    sym (ap (λ v. v ++ faults_of (all_of inner) (statement_tree x.body)) (uses-same (all_of inner) (scope ∷ all_of scopes) uses same)
    ∙ ap (λ v. faults_of_uses (scope ∷ all_of scopes) uses ++ v) (faults-same (all_of inner) (scope ∷ all_of scopes) (statement_tree x.body) same))

-- ---- after all bindings of the head of a `for`

scope_after_all-names : (s : Scope) (bindings : List Binding) (n : ℕ) → is_among (scope_after_all s bindings).names n ≡ is_among s.names n
scope_after_all-names s [] n = refl
scope_after_all-names s (b ∷ bindings) n = scope_after_all-names (scope_after s b.0) bindings n

scope_after_all-ended : (s : Scope) (bindings : List Binding) (n : ℕ) → is_among (scope_after_all s bindings).ended n ≡ is_among (names_of bindings ++ s.ended) n
scope_after_all-ended s [] n = refl
scope_after_all-ended s (b ∷ bindings) n = scope_after_all-ended (scope_after s b.0) bindings n ∙ put-front b.0.text.0 (names_of bindings) s.ended n

all-ended : (bindings : List Binding) → IsAlike (scope_after_all (at_beginning (names_of bindings)) bindings) (at_end (names_of bindings))
all-ended bindings =
    let s = at_beginning (names_of bindings) in
    ((λ n. scope_after_all-names s bindings n), (λ n. scope_after_all-ended s bindings n ∙ ap (λ v. is_among v n) (append-nil (names_of bindings))))

pub head-ended : (scopes inner new : Scopes) (bindings : List Binding) → Enters scopes (at_beginning (names_of bindings)) inner → Moves inner (scope_after_all inner.0 bindings) new → Enters scopes (at_end (names_of bindings)) new
head-ended scopes inner new bindings h moves =
    let s = at_beginning (names_of bindings) in (
      alike_then new.0 (scope_after_all inner.0 bindings) (at_end (names_of bindings)) moves.0
          (alike_then (scope_after_all inner.0 bindings) (scope_after_all s bindings) (at_end (names_of bindings)) (scope_after_all-alike inner.0 s bindings h.0) (all-ended bindings)),
      moves.1 ∙ h.1,
    )

pub on_ok : {A E : Type 0} {P Q : Type 0} (r : Result A E) → (P → Q) → OnOk r P → OnOk r Q
on_ok (Ok x) f p = f p
on_ok (Err e) f p = p

pub ruleset entering = (enters-empty)

pub ruleset stating = (script_shapes, statement_tree-block)
