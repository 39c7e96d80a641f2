-- The faults of declarations and of items, one after another.
use Rattle.std.proofs.Common.{◌≡◌, ◌<◌, ◌+◌, ℕ, List, ◌∷◌, ◌++◌, length, drop, get_or, refl, ap, sym, ◌∙◌, append_assoc, subst}
use Rattle.jo_parse_tree.specs.declared.script.Binding.{Binding}
use Rattle.jo_parse_tree.specs.declared.script.Item.{Item}
use Rattle.jo_parse_tree.specs.declared.script.Item.TheVariants as i
use Rattle.jo_parse_tree.specs.ScriptViews.{binding_tree, bindings_list, items_list}
use Rattle.jo_parse_grammar.specs.Declarations.{Scope, scope_after, scope_after_all, is_bound, uses_of_optional, faults_of_name, faults_of_uses, faults_of_bindings, faults_of_items}
use Rattle.jo_parse_names.specs.inner.Blocks.{Scopes, all_of, IsAlike, Ends, Moves, binding_faults, item_faults, scope_after_item}
use Rattle.jo_parse_names.proofs.Turns.{drop-at}
use Rattle.jo_parse_names.proofs.Alike.{alike_then, bindings-same, scope_after_all-alike, items-same}

pub bindings-at : (s : Scopes) (bindings : List Binding) (i : ℕ) (b : Binding) → i < length bindings → b ≡ get_or bindings i b
    → faults_of_bindings s.0 s.1 (bindings_list (drop i bindings))
    ≡ binding_faults s (binding_tree b) ++ faults_of_bindings (scope_after s.0 b.ident) s.1 (bindings_list (drop (i + 1) bindings))
bindings-at s bindings i b below is =
    ap (λ v. faults_of_bindings s.0 s.1 (bindings_list v)) (drop-at bindings i b below is)
    ∙ sym (append_assoc (faults_of_name s.0 b.ident) (faults_of_uses (all_of s) (uses_of_optional (binding_tree b).1)) (faults_of_bindings (scope_after s.0 b.ident) s.1 (bindings_list (drop (i + 1) bindings))))

pub bindings-on : (s new : Scopes) (rest : List Binding) (b : Binding) → Ends s.0 b.ident.text.0 new.0 → new.1 ≡ s.1
    → faults_of_bindings (scope_after s.0 b.ident) s.1 (bindings_list rest) ≡ faults_of_bindings new.0 new.1 (bindings_list rest)
bindings-on s new rest b ends outer =
    sym (bindings-same new.0 (scope_after s.0 b.ident) new.1 s.1 (bindings_list rest) ends (λ name. ap (λ o. is_bound o name) outer))

pub bindings-alike : (s new : Scopes) (t : Scope) (bindings : List Binding) (i : ℕ) (b : Binding) → i < length bindings → b ≡ get_or bindings i b
    → IsAlike (scope_after_all s.0 (bindings_list (drop i bindings))) t → Ends s.0 b.ident.text.0 new.0
    → IsAlike (scope_after_all new.0 (bindings_list (drop (i + 1) bindings))) t
bindings-alike s new t bindings i b below is a ends =
    let rest = bindings_list (drop (i + 1) bindings) in
    alike_then (scope_after_all new.0 rest) (scope_after_all (scope_after s.0 b.ident) rest) t
    (scope_after_all-alike new.0 (scope_after s.0 b.ident) rest ends)
    (subst (λ v. IsAlike (scope_after_all s.0 (bindings_list v)) t) (drop-at bindings i b below is) a)

items-cons : (s : Scopes) (x : Item) (xs : List Item) → faults_of_items s.0 s.1 (items_list (x ∷ xs)) ≡ item_faults s x ++ faults_of_items (scope_after_item s.0 x) s.1 (items_list xs)
items-cons s (i.Let l) xs = refl
items-cons s (i.Statement x) xs = refl

pub items-at : (s : Scopes) (items : List Item) (i : ℕ) (x : Item) → i < length items → x ≡ get_or items i x
    → faults_of_items s.0 s.1 (items_list (drop i items)) ≡ item_faults s x ++ faults_of_items (scope_after_item s.0 x) s.1 (items_list (drop (i + 1) items))
items-at s items i x below is = ap (λ v. faults_of_items s.0 s.1 (items_list v)) (drop-at items i x below is) ∙ items-cons s x (drop (i + 1) items)

pub items-on : (s new : Scopes) (rest : List Item) (x : Item) → Moves s (scope_after_item s.0 x) new
    → faults_of_items (scope_after_item s.0 x) s.1 (items_list rest) ≡ faults_of_items new.0 new.1 (items_list rest)
items-on s new rest x moves =
    sym (items-same new.0 (scope_after_item s.0 x) new.1 s.1 (items_list rest) moves.0 (λ name. ap (λ o. is_bound o name) moves.1))
