-- The plain tree that a statement, a declaration or a script of the code stands for.
use Rattle.std.specs.Prelude.{List, [], ◌∷◌, Option, None, Some}
use Rattle.jo_parse_tree.specs.declared.expr.Expr.{Expr}
use Rattle.jo_parse_tree.specs.declared.script.Binding.{Binding}
use Rattle.jo_parse_tree.specs.declared.script.Let.{Let}
use Rattle.jo_parse_tree.specs.declared.script.ForHead.{ForHead}
use Rattle.jo_parse_tree.specs.declared.script.ForHead.TheVariants as h
use Rattle.jo_parse_tree.specs.declared.script.Script.{Script}
use Rattle.jo_parse_tree.specs.declared.script.Item.{Item}
use Rattle.jo_parse_tree.specs.declared.script.Item.TheVariants as i
use Rattle.jo_parse_tree.specs.declared.script.Item.TheBlock.{Held-If-otherwise, None', Some', Row_of-Item, more_of-Item, end_of-Item, more_of-If, end_of-If, more_of-While, end_of-While, more_of-For, end_of-For}
use Rattle.jo_parse_tree.specs.declared.script.Statement.{Statement}
use Rattle.jo_parse_tree.specs.declared.script.Statement.TheVariants as s
use Rattle.jo_parse_tree.specs.Trees.{Tree, Head, Items, declares, begins, empty, block, when, either, while, for, break, continue, print, print_names, evaluate, no_items, declare, perform}
use Rattle.jo_parse_tree.specs.Trees as plain
use Rattle.jo_parse_tree.specs.Views.{expr_tree}

-- ---- declarations

abbrev pub option_tree : Option Expr → Option Tree
option_tree None = None
option_tree (Some e) = Some (expr_tree e)

abbrev pub binding_tree : Binding → plain.Binding
binding_tree b = (b.ident, option_tree b.value)

abbrev pub bindings_list : List Binding → List plain.Binding
bindings_list [] = []
bindings_list (b ∷ bs) = binding_tree b ∷ bindings_list bs

abbrev pub let_list : Let → List plain.Binding
let_list l = bindings_list l.bindings

abbrev pub head_tree : ForHead → Head
head_tree (h.Let l) = declares (let_list l)
head_tree (h.Expr e) = begins (option_tree e)

abbrev pub trees_list : List Expr → List Tree
trees_list [] = []
trees_list (e ∷ es) = expr_tree e ∷ trees_list es

-- ---- statements

-- an `if`, with what its `else` has or without
abbrev pub if_tree : Tree → plain.Statement → Option plain.Statement → plain.Statement
if_tree c x None = when c x
if_tree c x (Some y) = either c x y

unfoldable mutual
  pub statement_tree : Statement → plain.Statement
  statement_tree s.Empty = empty
  statement_tree (s.Block' n xs) = block (items_row xs)
  statement_tree (s.If' p (more_of-If c x o end_of-If)) = if_tree (expr_tree c) (statement_tree x) (else_tree o)
  statement_tree (s.While' p (more_of-While c x end_of-While)) = while (expr_tree c) (statement_tree x)
  statement_tree (s.For' p (more_of-For h c u x end_of-For)) = for (head_tree h) (option_tree c) (option_tree u) (statement_tree x)
  statement_tree s.Break = break
  statement_tree s.Continue = continue
  statement_tree (s.Print es) = print (trees_list es)
  statement_tree (s.PrintNames e) = print_names (expr_tree e)
  statement_tree (s.Expr e) = evaluate (expr_tree e)

  pub else_tree : Held-If-otherwise → Option plain.Statement
  else_tree None' = None
  else_tree (Some' x) = Some (statement_tree x)

  pub items_row : {n : _} → Row_of-Item n → Items
  items_row end_of-Item = no_items
  items_row (more_of-Item (i.Let l) rest) = declare (let_list l) (items_row rest)
  items_row (more_of-Item (i.Statement x) rest) = perform (statement_tree x) (items_row rest)

-- ---- the same of the lists and records

abbrev pub items_with : Items → Item → Items
items_with rest (i.Let l) = declare (let_list l) rest
items_with rest (i.Statement x) = perform (statement_tree x) rest

abbrev pub items_list : List Item → Items
items_list [] = no_items
items_list (x ∷ xs) = items_with (items_list xs) x

abbrev pub optional_statement : Option Statement → Option plain.Statement
optional_statement None = None
optional_statement (Some x) = Some (statement_tree x)

abbrev pub script_tree : Script → Items
script_tree x = items_list x.items
