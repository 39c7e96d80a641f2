-- What the methods that read statements are proved with.
use Rattle.std.proofs.Common.{◌≡◌, ℕ, zero, suc, Bool, false, List, [], ◌∷◌, ◌++◌, length, refl, ap, Ok, Err}
use Rattle.jo_parse_grammar.specs.declared.terminal.Terminal.{Terminal}
use Rattle.jo_parse_tree.specs.declared.script.Item.{Item}
use Rattle.jo_parse_tree.specs.declared.script.Item.TheVariants as i
use Rattle.jo_parse_tree.specs.Trees.{Items, declare, perform}
use Rattle.jo_parse_tree.specs.ScriptViews.{let_list, statement_tree, items_list}
use Rattle.jo_parse_tree.proofs.Shapes.{shapes}
use Rattle.jo_parse_tree.proofs.ScriptShapes.{script_shapes}
use Rattle.jo_parse_grammar.specs.inner.Read.{open_at, peek, next}
use Rattle.jo_parse_grammar.specs.inner.ReadStatements.{read_statement, statement_at, with_item, item_at, item_then, script_from}
use Rattle.jo_parse_grammar.specs.Refusals.{unexpected}
use Rattle.jo_parse_script.specs.inner.ScriptOutcomes.{within, item_view}
use Rattle.jo_parse_script.proofs.Parts.{else-in-parts}
use Rattle.jo_parse_script.proofs.Rooms.{first, open-less}

-- ---- how deep

pub open-within : (room inner : ℕ) (ts r : List Terminal) → open_at room ts ≡ Ok (inner, r) → within room ≡ read_statement inner
open-within zero inner ts r e = cc
open-within (suc n) inner ts r e = ap (λ v. read_statement v) (first n inner (next ts) r e)

pub statement-at : (room : ℕ) (loops : Bool) (ts : List Terminal) → read_statement room loops ts ≡ statement_at room (within room) loops (peek ts) ts
unfolding read_statement
statement-at zero loops ts = refl
statement-at (suc n) loops ts = refl

-- ---- lists

pub items_list-push : (xs : List Item) (x : Item) → items_list (xs ++ x ∷ []) ≡ with_item (items_list xs) (item_view x)
items_list-push [] (i.Let l) = refl
items_list-push [] (i.Statement x) = refl
items_list-push (i.Let l ∷ xs) x = ap (λ v. declare (let_list l) v) (items_list-push xs x)
items_list-push (i.Statement y ∷ xs) x = ap (λ v. perform (statement_tree y) v) (items_list-push xs x)

-- ---- the items of a script

pub script-done : (room n : ℕ) (found : Items) (ts : List Terminal) → length ts ≡ 0 → script_from room n found ts ≡ Ok found
unfolding script_from
script-done room n found [] e = refl
script-done room n found (c ∷ r) e = cc

pub script-over : (room : ℕ) (found : Items) (ts : List Terminal) → (length ts ≡ 0 → ⊥) → script_from room 0 found ts ≡ Err (unexpected, ts)
unfolding script_from
script-over room found [] h = absurd (h refl)
script-over room found (c ∷ r) h = refl

pub script-turn : (room n : ℕ) (found : Items) (ts : List Terminal) → (length ts ≡ 0 → ⊥)
    → script_from room (suc n) found ts ≡ item_then (item_at room (read_statement room false) ts) (λ x r. script_from room n (with_item found x) r)
unfolding script_from
script-turn room n found [] h = absurd (h refl)
script-turn room n found (c ∷ r) h = refl

pub ruleset script_turns = (script-done, script-over, script-turn)

pub ruleset script_reading = (shapes, script_shapes, else-in-parts, open-within, open-less, statement-at)
