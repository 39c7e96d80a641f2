-- The tree that a value of the code stands for.
use Rattle.std.specs.Prelude.{List, [], ◌∷◌}
use Rattle.jo_parse_tree.specs.declared.keyword.Keyword.TheVariants as kw
use Rattle.jo_parse_tree.specs.declared.expr.Expr.{Expr, more_of-Expr, end_of-Expr}
use Rattle.jo_parse_tree.specs.declared.expr.Cond.{Cond}
use Rattle.jo_parse_tree.specs.declared.expr.Chain.{Chain}
use Rattle.jo_parse_tree.specs.declared.expr.Binary.{Binary, Binary', Row_of-Link, more_of-Link, end_of-Link}
use Rattle.jo_parse_tree.specs.declared.expr.Member.{Member, Row_of-Access, more_of-Access, end_of-Access}
use Rattle.jo_parse_tree.specs.declared.expr.Object.{Object, Object', Row_of-Prop, more_of-Prop, end_of-Prop}
use Rattle.jo_parse_tree.specs.declared.expr.Unary.{Unary, more_of-Unary, end_of-Unary}
use Rattle.jo_parse_tree.specs.declared.expr.Postfix.{Postfix}
use Rattle.jo_parse_tree.specs.declared.expr.Primary.{Primary}
use Rattle.jo_parse_tree.specs.declared.expr.Target.{Target}
use Rattle.jo_parse_tree.specs.declared.expr.Access.{Access}
use Rattle.jo_parse_tree.specs.declared.expr.Assign.{Assign}
use Rattle.jo_parse_tree.specs.declared.expr.Choice.{Choice}
use Rattle.jo_parse_tree.specs.declared.expr.Cas.{Cas}
use Rattle.jo_parse_tree.specs.declared.expr.Prop.{Prop}
use Rattle.jo_parse_tree.specs.declared.expr.Link.{Link}
use Rattle.jo_parse_tree.specs.declared.expr.Access.TheBlock.{more_of-Assign, end_of-Assign, more_of-Member, end_of-Member, more_of-Choice, end_of-Choice, more_of-Binary, end_of-Binary, more_of-Object, end_of-Object, more_of-Cas, end_of-Cas}
use Rattle.jo_parse_tree.specs.declared.expr.Expr.TheVariants as e
use Rattle.jo_parse_tree.specs.declared.expr.Cond.TheVariants as c
use Rattle.jo_parse_tree.specs.declared.expr.Chain.TheVariants as h
use Rattle.jo_parse_tree.specs.declared.expr.Unary.TheVariants as u
use Rattle.jo_parse_tree.specs.declared.expr.Postfix.TheVariants as x
use Rattle.jo_parse_tree.specs.declared.expr.Primary.TheVariants as p
use Rattle.jo_parse_tree.specs.declared.expr.Target.TheVariants as t
use Rattle.jo_parse_tree.specs.declared.expr.Access.TheVariants as a
use Rattle.jo_parse_tree.specs.Trees.{Tree, number, literal, constant, variable, group, object, cas, member, unary, delete, chain, choose, assign, Props, no_props, prop, Accesses, no_accesses, field, index, Links, no_links, link}

unfoldable mutual
  pub expr_tree : Expr → Tree
  expr_tree (e.Cond c) = cond_tree c
  expr_tree (e.Assign' p (more_of-Assign t o q (more_of-Expr v end_of-Expr) end_of-Assign)) = assign o (target_tree t) (expr_tree v)

  pub target_tree : Target → Tree
  target_tree (t.Ident i) = variable i
  target_tree (t.Member' p (more_of-Member b n xs end_of-Member)) = member (primary_tree b) (accesses_row xs)

  pub cond_tree : Cond → Tree
  cond_tree (c.Chain h) = chain_tree h
  cond_tree (c.Choice' o (more_of-Choice h p (more_of-Expr a end_of-Expr) q (more_of-Expr b end_of-Expr) end_of-Choice)) = choose (chain_tree h) (expr_tree a) (expr_tree b)

  pub chain_tree : Chain → Tree
  chain_tree (h.Unary u) = unary_tree u
  chain_tree (h.Binary' p (more_of-Binary b end_of-Binary)) = binary_tree b

  pub binary_tree : Binary → Tree
  binary_tree (Binary' l f n ls) = chain l (chain_tree f) (links_row ls)

  pub unary_tree : Unary → Tree
  unary_tree (u.Applied' o p (more_of-Unary v end_of-Unary)) = unary o (unary_tree v)
  unary_tree (u.Delete' p (more_of-Member b n xs end_of-Member)) = delete (member (primary_tree b) (accesses_row xs))
  unary_tree (u.Postfix x) = postfix_tree x

  pub postfix_tree : Postfix → Tree
  postfix_tree (x.Primary b) = primary_tree b
  postfix_tree (x.Member' p (more_of-Member b n xs end_of-Member)) = member (primary_tree b) (accesses_row xs)

  pub primary_tree : Primary → Tree
  primary_tree (p.Number n) = number n
  primary_tree (p.Text s) = literal s
  primary_tree p.True = constant kw.True
  primary_tree p.False = constant kw.False
  primary_tree p.Null = constant kw.Null
  primary_tree p.Undefined = constant kw.Undefined
  primary_tree p.Shared = constant kw.Shared
  primary_tree (p.Ident i) = variable i
  primary_tree (p.Object' q (more_of-Object o end_of-Object)) = object_tree o
  primary_tree (p.Group' q (more_of-Expr v end_of-Expr)) = group (expr_tree v)
  primary_tree (p.Cas' m (more_of-Cas q (more_of-Expr o end_of-Expr) r (more_of-Expr k end_of-Expr) s (more_of-Expr a end_of-Expr) t (more_of-Expr b end_of-Expr) end_of-Cas)) = cas (expr_tree o) (expr_tree k) (expr_tree a) (expr_tree b)

  pub object_tree : Object → Tree
  object_tree (Object' n ps comma) = object (props_row ps) comma

  pub props_row : {n : _} → Row_of-Prop n → Props
  props_row end_of-Prop = no_props
  props_row (more_of-Prop k q (more_of-Expr v end_of-Expr) rest) = prop k (expr_tree v) (props_row rest)

  pub links_row : {n : _} → Row_of-Link n → Links
  links_row end_of-Link = no_links
  links_row (more_of-Link o v rest) = link o (chain_tree v) (links_row rest)

  pub accesses_row : {n : _} → Row_of-Access n → Accesses
  accesses_row end_of-Access = no_accesses
  accesses_row (more_of-Access (a.Name k) rest) = field k (accesses_row rest)
  accesses_row (more_of-Access (a.Key' q (more_of-Expr v end_of-Expr)) rest) = index (expr_tree v) (accesses_row rest)

-- the same of the lists
abbrev pub props_list : List Prop → Props
props_list [] = no_props
props_list (p ∷ ps) = prop p.key (expr_tree p.value) (props_list ps)

abbrev pub links_list : List Link → Links
links_list [] = no_links
links_list (l ∷ ls) = link l.operator (chain_tree l.operand) (links_list ls)

abbrev pub accesses_with : Accesses → Access → Accesses
accesses_with rest (a.Name k) = field k rest
accesses_with rest (a.Key' q (more_of-Expr v end_of-Expr)) = index (expr_tree v) rest

abbrev pub accesses_list : List Access → Accesses
accesses_list [] = no_accesses
accesses_list (x ∷ xs) = accesses_with (accesses_list xs) x

abbrev pub assign_tree : Assign → Tree
assign_tree x = assign x.operator (target_tree x.target) (expr_tree x.value)

abbrev pub choice_tree : Choice → Tree
choice_tree x = choose (chain_tree x.condition) (expr_tree x.then) (expr_tree x.otherwise)

abbrev pub member_tree : Member → Tree
member_tree m = member (primary_tree m.base) (accesses_list m.accesses)

abbrev pub cas_tree : Cas → Tree
cas_tree x = cas (expr_tree x.object) (expr_tree x.key) (expr_tree x.expected) (expr_tree x.desired)
