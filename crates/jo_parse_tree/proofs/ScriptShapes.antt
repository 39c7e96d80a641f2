-- The plain tree of each kind of statement.
use Rattle.std.proofs.Common.{◌≡◌, List, [], ◌∷◌, ◌++◌, Option, None, Some, refl, ap}
use Rattle.jo_parse_tree.specs.declared.expr.Expr.{Expr}
use Rattle.jo_parse_tree.specs.declared.script.Binding.{Binding}
use Rattle.jo_parse_tree.specs.declared.script.Item.{Item}
use Rattle.jo_parse_tree.specs.declared.script.Item.TheVariants as i
use Rattle.jo_parse_tree.specs.declared.script.Item.TheBlock as hid
use Rattle.jo_parse_tree.specs.declared.script.Statement.{Statement}
use Rattle.jo_parse_tree.specs.declared.script.Statement.TheVariants as s
use Rattle.jo_parse_tree.specs.declared.script.Block.{Block, roll-Block}
use Rattle.jo_parse_tree.specs.declared.script.If.{If}
use Rattle.jo_parse_tree.specs.declared.script.While.{While}
use Rattle.jo_parse_tree.specs.declared.script.For.{For}
use Rattle.jo_parse_tree.specs.Trees.{empty, block, while, for, break, continue, print, print_names, evaluate, declare, perform}
use Rattle.jo_parse_tree.specs.Views.{expr_tree}
use Rattle.jo_parse_tree.specs.ScriptViews.{option_tree, binding_tree, bindings_list, let_list, head_tree, trees_list, if_tree, statement_tree, items_row, items_list, optional_statement}

items-row : (xs : List Item) → items_row (Rattle.jo_parse_tree.specs.declared.script.Item.TheBlock.hidden-the_row-Item-0 xs) ≡ items_list xs
unfolding statement_tree Rattle.jo_parse_tree.specs.declared.script.Item.TheBlock.hidden-the_row-Item-0 denote.Hole.Carrier.hidden
items-row [] = refl
items-row (i.Let l ∷ xs) = ap (λ v. declare (let_list l) v) (items-row xs)
items-row (i.Statement x ∷ xs) = ap (λ v. perform (statement_tree x) v) (items-row xs)

pub statement_tree-empty : statement_tree s.Empty ≡ empty
unfolding statement_tree
statement_tree-empty = refl

pub statement_tree-block : (v : Block) → statement_tree (s.Block v) ≡ block (items_list v.items)
unfolding statement_tree denote.Hole.Carrier.hidden
statement_tree-block v = ap (λ v. block v) (items-row v.items)

pub statement_tree-block-of : (xs : List Item) → statement_tree (s.Block (roll-Block record { items = xs })) ≡ block (items_list xs)
statement_tree-block-of xs = statement_tree-block (roll-Block record { items = xs })

if-made : (c : Expr) (x : Statement) (o : Option Statement) → statement_tree (s.If record { condition = c; then = x; otherwise = o }) ≡ if_tree (expr_tree c) (statement_tree x) (optional_statement o)
unfolding statement_tree Rattle.jo_parse_tree.specs.declared.script.Item.TheBlock.hidden-the_row-If-1 denote.Hole.Carrier.hidden
if-made c x None = refl
if-made c x (Some y) = refl

pub statement_tree-if : (v : If) → statement_tree (s.If v) ≡ if_tree (expr_tree v.condition) (statement_tree v.then) (optional_statement v.otherwise)
statement_tree-if v = if-made v.condition v.then v.otherwise

pub statement_tree-while : (v : While) → statement_tree (s.While v) ≡ while (expr_tree v.condition) (statement_tree v.body)
unfolding statement_tree Rattle.jo_parse_tree.specs.declared.script.Item.TheBlock.hidden-the_row-While-2 denote.Hole.Carrier.hidden
statement_tree-while v = refl

pub statement_tree-for : (v : For) → statement_tree (s.For v) ≡ for (head_tree v.head) (option_tree v.condition) (option_tree v.step) (statement_tree v.body)
unfolding statement_tree Rattle.jo_parse_tree.specs.declared.script.Item.TheBlock.hidden-the_row-For-3 denote.Hole.Carrier.hidden
statement_tree-for v = refl

pub statement_tree-break : statement_tree s.Break ≡ break
unfolding statement_tree
statement_tree-break = refl

pub statement_tree-continue : statement_tree s.Continue ≡ continue
unfolding statement_tree
statement_tree-continue = refl

pub statement_tree-print : (es : List Expr) → statement_tree (s.Print es) ≡ print (trees_list es)
unfolding statement_tree
statement_tree-print es = refl

pub statement_tree-print_names : (e : Expr) → statement_tree (s.PrintNames e) ≡ print_names (expr_tree e)
unfolding statement_tree
statement_tree-print_names e = refl

pub statement_tree-run : (e : Expr) → statement_tree (s.Expr e) ≡ evaluate (expr_tree e)
unfolding statement_tree
statement_tree-run e = refl

-- the trees of the kinds of statement
pub ruleset script_shapes = (statement_tree-empty, statement_tree-block-of, statement_tree-if, statement_tree-while, statement_tree-for, statement_tree-break, statement_tree-continue, statement_tree-print, statement_tree-print_names, statement_tree-run)

-- ---- lists, with one more at the end

pub bindings_list-push : (bs : List Binding) (b : Binding) → bindings_list (bs ++ b ∷ []) ≡ bindings_list bs ++ binding_tree b ∷ []
bindings_list-push [] b = refl
bindings_list-push (c ∷ bs) b = ap (λ v. binding_tree c ∷ v) (bindings_list-push bs b)

pub trees_list-push : (es : List Expr) (e : Expr) → trees_list (es ++ e ∷ []) ≡ trees_list es ++ expr_tree e ∷ []
trees_list-push [] e = refl
trees_list-push (f ∷ es) e = ap (λ v. expr_tree f ∷ v) (trees_list-push es e)
