-- A list in a tree has at most as many entries as its spelling has symbols.
use Rattle.std.proofs.Common.{◌≤◌, ◌+◌, ℕ, List, [], ◌∷◌, ◌++◌, length, arith, length-append}
use Rattle.jo_lex.specs.declared.punct.Punct.TheVariants as p
use Rattle.jo_parse_tree.specs.Trees.{Tree, number, literal, constant, variable, group, object, cas, member, unary, delete, chain, choose, assign, Statement, empty, block, when, either, while, for, break, continue, print, print_names, evaluate, Props, no_props, prop, Accesses, no_accesses, field, index, Links, no_links, link, Binding, Items, no_items, declare, perform}
use Rattle.jo_parse_grammar.specs.declared.terminal.Terminal.TheVariants as t
use Rattle.jo_parse_grammar.specs.Operators.{assign_token}
use Rattle.jo_parse_grammar.specs.Expressions.{punct, spelling, props, more_props, accesses, links}
use Rattle.jo_parse_grammar.specs.Statements.{binding, bindings, more_bindings, declaration, arguments, more_arguments, statement, items}
use Rattle.jo_parse_grammar.specs.Sound.{count_of_props, count_of_accesses, count_of_links, count_of_items}

more_props_few : (d : ℕ) (ps : Props) → count_of_props ps ≤ length (more_props d ps)
more_props_few d no_props = omega arith
more_props_few d (prop k e ps) = omega (arith, more_props_few d ps, length-append (spelling d e) (more_props d ps))

pub props_few : (d : ℕ) (ps : Props) → count_of_props ps ≤ length (props d ps)
props_few d no_props = omega arith
props_few d (prop k e ps) = omega (arith, more_props_few d ps, length-append (spelling d e) (more_props d ps))

pub accesses_few : (d : ℕ) (xs : Accesses) → count_of_accesses xs ≤ length (accesses d xs)
accesses_few d no_accesses = omega arith
accesses_few d (field n xs) = omega (arith, accesses_few d xs)
accesses_few d (index e xs) = omega (arith, accesses_few d xs, length-append (spelling (d + 1) e) (punct p.CloseBracket ∷ accesses d xs))

pub links_few : (d : ℕ) (ls : Links) → count_of_links ls ≤ length (links d ls)
links_few d no_links = omega arith
links_few d (link o e ls) = omega (arith, links_few d ls, length-append (spelling (d + 1) e) (links d ls))

more_bindings_few : (d : ℕ) (bs : List Binding) → length bs ≤ length (more_bindings d bs)
more_bindings_few d [] = omega arith
more_bindings_few d (b ∷ bs) = omega (arith, more_bindings_few d bs, length-append (binding d b) (more_bindings d bs))

pub bindings_few : (d : ℕ) (bs : List Binding) → length bs ≤ length (bindings d bs)
bindings_few d [] = omega arith
bindings_few d (b ∷ bs) = omega (arith, more_bindings_few d bs, length-append (binding d b) (more_bindings d bs))

more_arguments_few : (d : ℕ) (es : List Tree) → length es ≤ length (more_arguments d es)
more_arguments_few d [] = omega arith
more_arguments_few d (e ∷ es) = omega (arith, more_arguments_few d es, length-append (spelling d e) (more_arguments d es))

-- an expression has a symbol
spelled : (d : ℕ) (e : Tree) → 1 ≤ length (spelling d e)
spelled d (number i) = omega arith
spelled d (literal s) = omega arith
spelled d (constant w) = omega arith
spelled d (variable x) = omega arith
spelled d (group e) = omega arith
spelled d (object ps comma) = omega arith
spelled d (cas o k a b) = omega arith
spelled d (member e xs) = omega (arith, spelled d e, length-append (spelling d e) (accesses d xs))
spelled d (unary o e) = omega arith
spelled d (delete e) = omega arith
spelled d (chain k e ls) = omega (arith, spelled d e, length-append (spelling d e) (links d ls))
spelled d (choose a b c) = omega (arith, spelled d a, length-append (spelling d a) ((t.Punct p.Question, d + 1) ∷ (spelling (d + 1) b ++ punct p.Colon ∷ spelling (d + 1) c)))
spelled d (assign o a b) = omega (arith, spelled d a, length-append (spelling d a) ((assign_token o, d + 1) ∷ spelling (d + 1) b))

pub arguments_few : (d : ℕ) (es : List Tree) → length es ≤ length (arguments d es)
arguments_few d [] = omega arith
arguments_few d (e ∷ es) = omega (arith, spelled d e, more_arguments_few d es, length-append (spelling d e) (more_arguments d es))

-- so has a statement
stated : (d : ℕ) (s : Statement) → 1 ≤ length (statement d s)
stated d empty = omega arith
stated d (block ss) = omega arith
stated d (when c s) = omega arith
stated d (either c a b) = omega arith
stated d (while c s) = omega arith
stated d (for h c u s) = omega arith
stated d break = omega arith
stated d continue = omega arith
stated d (print es) = omega arith
stated d (print_names e) = omega arith
stated d (evaluate e) = omega (arith, spelled d e, length-append (spelling d e) (punct p.Semicolon ∷ []))

pub items_few : (d : ℕ) (is : Items) → count_of_items is ≤ length (items d is)
items_few d no_items = omega arith
items_few d (declare bs is) = omega (arith, items_few d is, length-append (declaration d bs) (items d is))
items_few d (perform s is) = omega (arith, stated d s, items_few d is, length-append (statement d s) (items d is))
