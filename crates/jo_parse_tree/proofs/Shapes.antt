-- The tree of each kind of expression.
use Rattle.std.proofs.Common.{◌≡◌, ℕ, ℤ, Bool, List, [], ◌∷◌, refl, ap}
use Rattle.jo_parse_tree.specs.declared.keyword.Keyword.TheVariants as kw
use Rattle.jo_parse_tree.specs.declared.operator.UnaryOperator.{UnaryOperator}
use Rattle.jo_parse_tree.specs.declared.word.Ident.{Ident}
use Rattle.jo_parse_tree.specs.declared.word.Literal.{Literal}
use Rattle.jo_parse_tree.specs.declared.expr.Expr.{Expr, more_of-Expr, end_of-Expr}
use Rattle.jo_parse_tree.specs.declared.expr.Cond.{Cond}
use Rattle.jo_parse_tree.specs.declared.expr.Chain.{Chain}
use Rattle.jo_parse_tree.specs.declared.expr.Binary.{roll-Binary}
use Rattle.jo_parse_tree.specs.declared.expr.Member.{Member}
use Rattle.jo_parse_tree.specs.declared.expr.Object.{Object, roll-Object}
use Rattle.jo_parse_tree.specs.declared.expr.Unary.{Unary}
use Rattle.jo_parse_tree.specs.declared.expr.Postfix.{Postfix}
use Rattle.jo_parse_tree.specs.declared.expr.Primary.{Primary}
use Rattle.jo_parse_tree.specs.declared.expr.Access.{Access}
use Rattle.jo_parse_tree.specs.declared.expr.Assign.{Assign}
use Rattle.jo_parse_tree.specs.declared.expr.Choice.{Choice}
use Rattle.jo_parse_tree.specs.declared.expr.Cas.{Cas}
use Rattle.jo_parse_tree.specs.declared.expr.Prop.{Prop}
use Rattle.jo_parse_tree.specs.declared.expr.Link.{Link}
use Rattle.jo_parse_tree.specs.declared.expr.Expr.TheVariants as e
use Rattle.jo_parse_tree.specs.declared.expr.Cond.TheVariants as c
use Rattle.jo_parse_tree.specs.declared.expr.Chain.TheVariants as h
use Rattle.jo_parse_tree.specs.declared.expr.Unary.TheVariants as u
use Rattle.jo_parse_tree.specs.declared.expr.Postfix.TheVariants as x
use Rattle.jo_parse_tree.specs.declared.expr.Primary.TheVariants as p
use Rattle.jo_parse_tree.specs.declared.expr.Target.TheVariants as t
use Rattle.jo_parse_tree.specs.declared.expr.Access.TheVariants as a
use Rattle.jo_parse_tree.specs.Trees.{Accesses, number, literal, constant, variable, group, object, member, unary, delete, chain, prop, field, index, link}
use Rattle.jo_parse_tree.specs.Views.{expr_tree, target_tree, cond_tree, chain_tree, unary_tree, postfix_tree, primary_tree, object_tree, props_row, links_row, accesses_row, props_list, links_list, accesses_list, accesses_with, assign_tree, choice_tree, member_tree, cas_tree}

-- ---- the lists of the code

links-row : (ls : List Link) → links_row (Rattle.jo_parse_tree.specs.declared.expr.Access.TheBlock.hidden-the_row-Link-9 ls) ≡ links_list ls
unfolding expr_tree Rattle.jo_parse_tree.specs.declared.expr.Access.TheBlock.hidden-the_row-Link-9 denote.Hole.Carrier.hidden
links-row [] = refl
links-row (l ∷ ls) = ap (λ v. link l.operator (chain_tree l.operand) v) (links-row ls)

props-row : (ps : List Prop) → props_row (Rattle.jo_parse_tree.specs.declared.expr.Access.TheBlock.hidden-the_row-Prop-10 ps) ≡ props_list ps
unfolding expr_tree Rattle.jo_parse_tree.specs.declared.expr.Access.TheBlock.hidden-the_row-Prop-10 Rattle.jo_parse_tree.specs.declared.expr.Access.TheBlock.hidden-the_row-Expr-0 denote.Hole.Carrier.hidden
props-row [] = refl
props-row (p ∷ ps) = ap (λ v. prop p.key (expr_tree p.value) v) (props-row ps)

accesses-row : (xs : List Access) → accesses_row (Rattle.jo_parse_tree.specs.declared.expr.Access.TheBlock.hidden-the_row-Access-4 xs) ≡ accesses_list xs
unfolding expr_tree Rattle.jo_parse_tree.specs.declared.expr.Access.TheBlock.hidden-the_row-Access-4 Rattle.jo_parse_tree.specs.declared.expr.Access.TheBlock.hidden-the_row-Expr-0 denote.Hole.Carrier.hidden
accesses-row [] = refl
accesses-row (a.Name k ∷ xs) = ap (λ v. field k v) (accesses-row xs)
accesses-row (a.Key' q (more_of-Expr e end_of-Expr) ∷ xs) = ap (λ v. index (expr_tree e) v) (accesses-row xs)

pub accesses_with-key : (xs : Accesses) (v : Expr) → accesses_with xs (a.Key v) ≡ index (expr_tree v) xs
unfolding expr_tree Rattle.jo_parse_tree.specs.declared.expr.Access.TheBlock.hidden-the_row-Expr-0 denote.Hole.Carrier.hidden
accesses_with-key xs v = refl

-- ---- the kinds of expression

pub expr_tree-cond : (v : Cond) → expr_tree (e.Cond v) ≡ cond_tree v
unfolding expr_tree
expr_tree-cond v = refl

pub expr_tree-assign : (v : Assign) → expr_tree (e.Assign v) ≡ assign_tree v
unfolding expr_tree Rattle.jo_parse_tree.specs.declared.expr.Access.TheBlock.hidden-the_row-Expr-0 Rattle.jo_parse_tree.specs.declared.expr.Access.TheBlock.hidden-the_row-Assign-3 denote.Hole.Carrier.hidden
expr_tree-assign v = refl

pub target_tree-ident : (v : Ident) → target_tree (t.Ident v) ≡ variable v
unfolding expr_tree
target_tree-ident v = refl

pub target_tree-member : (v : Member) → target_tree (t.Member v) ≡ member_tree v
unfolding expr_tree Rattle.jo_parse_tree.specs.declared.expr.Access.TheBlock.hidden-the_row-Member-5 denote.Hole.Carrier.hidden
target_tree-member v = ap (λ xs. member (primary_tree v.base) xs) (accesses-row v.accesses)

pub cond_tree-chain : (v : Chain) → cond_tree (c.Chain v) ≡ chain_tree v
unfolding expr_tree
cond_tree-chain v = refl

pub cond_tree-choice : (v : Choice) → cond_tree (c.Choice v) ≡ choice_tree v
unfolding expr_tree Rattle.jo_parse_tree.specs.declared.expr.Access.TheBlock.hidden-the_row-Expr-0 Rattle.jo_parse_tree.specs.declared.expr.Access.TheBlock.hidden-the_row-Choice-2 denote.Hole.Carrier.hidden
cond_tree-choice v = refl

pub chain_tree-unary : (v : Unary) → chain_tree (h.Unary v) ≡ unary_tree v
unfolding expr_tree
chain_tree-unary v = refl

pub chain_tree-binary : (k : ℕ) (f : Chain) (ls : List Link) → chain_tree (h.Binary (roll-Binary record { level = k; first = f; links = ls })) ≡ chain k (chain_tree f) (links_list ls)
unfolding expr_tree Rattle.jo_parse_tree.specs.declared.expr.Access.TheBlock.hidden-the_row-Binary-1 denote.Hole.Carrier.hidden roll-Binary denote.Hole.Carrier.roll
chain_tree-binary k f ls = ap (λ v. chain k (chain_tree f) v) (links-row ls)

pub unary_tree-applied : (o : UnaryOperator) (v : Unary) → unary_tree (u.Applied o v) ≡ unary o (unary_tree v)
unfolding expr_tree Rattle.jo_parse_tree.specs.declared.expr.Access.TheBlock.hidden-the_row-Unary-8 denote.Hole.Carrier.hidden
unary_tree-applied o v = refl

pub unary_tree-delete : (v : Member) → unary_tree (u.Delete v) ≡ delete (member_tree v)
unfolding expr_tree Rattle.jo_parse_tree.specs.declared.expr.Access.TheBlock.hidden-the_row-Member-5 denote.Hole.Carrier.hidden
unary_tree-delete v = ap (λ xs. delete (member (primary_tree v.base) xs)) (accesses-row v.accesses)

pub unary_tree-postfix : (v : Postfix) → unary_tree (u.Postfix v) ≡ postfix_tree v
unfolding expr_tree
unary_tree-postfix v = refl

pub postfix_tree-primary : (v : Primary) → postfix_tree (x.Primary v) ≡ primary_tree v
unfolding expr_tree
postfix_tree-primary v = refl

pub postfix_tree-member : (v : Member) → postfix_tree (x.Member v) ≡ member_tree v
unfolding expr_tree Rattle.jo_parse_tree.specs.declared.expr.Access.TheBlock.hidden-the_row-Member-5 denote.Hole.Carrier.hidden
postfix_tree-member v = ap (λ xs. member (primary_tree v.base) xs) (accesses-row v.accesses)

pub primary_tree-number : (n : ℤ) → primary_tree (p.Number n) ≡ number n
unfolding expr_tree
primary_tree-number n = refl

pub primary_tree-text : (s : Literal) → primary_tree (p.Text s) ≡ literal s
unfolding expr_tree
primary_tree-text s = refl

pub primary_tree-true : primary_tree p.True ≡ constant kw.True
unfolding expr_tree
primary_tree-true = refl

pub primary_tree-false : primary_tree p.False ≡ constant kw.False
unfolding expr_tree
primary_tree-false = refl

pub primary_tree-null : primary_tree p.Null ≡ constant kw.Null
unfolding expr_tree
primary_tree-null = refl

pub primary_tree-undefined : primary_tree p.Undefined ≡ constant kw.Undefined
unfolding expr_tree
primary_tree-undefined = refl

pub primary_tree-shared : primary_tree p.Shared ≡ constant kw.Shared
unfolding expr_tree
primary_tree-shared = refl

pub primary_tree-ident : (v : Ident) → primary_tree (p.Ident v) ≡ variable v
unfolding expr_tree
primary_tree-ident v = refl

pub primary_tree-object : (v : Object) → primary_tree (p.Object v) ≡ object_tree v
unfolding expr_tree Rattle.jo_parse_tree.specs.declared.expr.Access.TheBlock.hidden-the_row-Object-6 denote.Hole.Carrier.hidden
primary_tree-object v = refl

pub object_tree-of : (ps : List Prop) (comma : Bool) → object_tree (roll-Object record { props = ps; has_comma = comma }) ≡ object (props_list ps) comma
unfolding expr_tree denote.Hole.Carrier.hidden roll-Object denote.Hole.Carrier.roll
object_tree-of ps comma = ap (λ v. object v comma) (props-row ps)

pub primary_tree-group : (v : Expr) → primary_tree (p.Group v) ≡ group (expr_tree v)
unfolding expr_tree Rattle.jo_parse_tree.specs.declared.expr.Access.TheBlock.hidden-the_row-Expr-0 denote.Hole.Carrier.hidden
primary_tree-group v = refl

pub primary_tree-cas : (v : Cas) → primary_tree (p.Cas v) ≡ cas_tree v
unfolding expr_tree Rattle.jo_parse_tree.specs.declared.expr.Access.TheBlock.hidden-the_row-Expr-0 Rattle.jo_parse_tree.specs.declared.expr.Access.TheBlock.hidden-the_row-Cas-7 denote.Hole.Carrier.hidden
primary_tree-cas v = refl

-- the trees of the kinds of expression
pub ruleset shapes = (accesses_with-key, expr_tree-cond, expr_tree-assign, target_tree-ident, target_tree-member, cond_tree-chain, cond_tree-choice, chain_tree-unary, chain_tree-binary, unary_tree-applied, unary_tree-delete, unary_tree-postfix, postfix_tree-primary, postfix_tree-member, primary_tree-number, primary_tree-text, primary_tree-true, primary_tree-false, primary_tree-null, primary_tree-undefined, primary_tree-shared, primary_tree-ident, primary_tree-object, object_tree-of, primary_tree-group, primary_tree-cas)
