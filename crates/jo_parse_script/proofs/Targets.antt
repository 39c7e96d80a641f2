-- Which trees are targets or properties.
use Rattle.std.proofs.Common.{◌≡◌, false, refl}
use Rattle.jo_parse_tree.specs.declared.word.Ident.{Ident}
use Rattle.jo_parse_tree.specs.declared.expr.Access.TheBlock.{more_of-Member, end_of-Member, more_of-Binary, end_of-Binary, more_of-Object, end_of-Object, more_of-Cas, end_of-Cas}
use Rattle.jo_parse_tree.specs.declared.expr.Expr.{more_of-Expr, end_of-Expr}
use Rattle.jo_parse_tree.specs.declared.expr.Binary.{Binary'}
use Rattle.jo_parse_tree.specs.declared.expr.Object.{Object'}
use Rattle.jo_parse_tree.specs.declared.expr.Chain.{Chain}
use Rattle.jo_parse_tree.specs.declared.expr.Postfix.{Postfix}
use Rattle.jo_parse_tree.specs.declared.expr.Primary.{Primary}
use Rattle.jo_parse_tree.specs.declared.expr.Unary.{Unary, more_of-Unary, end_of-Unary}
use Rattle.jo_parse_tree.specs.declared.expr.Chain.TheVariants as h
use Rattle.jo_parse_tree.specs.declared.expr.Unary.TheVariants as u
use Rattle.jo_parse_tree.specs.declared.expr.Primary.TheVariants as p
use Rattle.jo_parse_tree.specs.Views.{expr_tree, chain_tree, unary_tree, primary_tree}
use Rattle.jo_parse_grammar.specs.inner.Read.{is_member, is_target}

pub chain-no-target : (x : Chain) → ((y : Unary) → x ≡ h.Unary y → ⊥) → is_target (chain_tree x) ≡ false
unfolding expr_tree
chain-no-target (h.Unary y) not = absurd (not y refl)
chain-no-target (h.Binary' q (more_of-Binary (Binary' l f n ls) end_of-Binary)) not = refl

pub unary-no-target : (x : Unary) → ((y : Postfix) → x ≡ u.Postfix y → ⊥) → is_target (unary_tree x) ≡ false
unfolding expr_tree
unary-no-target (u.Applied' o q (more_of-Unary v end_of-Unary)) not = refl
unary-no-target (u.Delete' q (more_of-Member b n xs end_of-Member)) not = refl
unary-no-target (u.Postfix y) not = absurd (not y refl)

pub primary-no-target : (x : Primary) → ((i : Ident) → x ≡ p.Ident i → ⊥) → is_target (primary_tree x) ≡ false
unfolding expr_tree
primary-no-target (p.Number n) not = refl
primary-no-target (p.Text s) not = refl
primary-no-target p.True not = refl
primary-no-target p.False not = refl
primary-no-target p.Null not = refl
primary-no-target p.Undefined not = refl
primary-no-target p.Shared not = refl
primary-no-target (p.Ident i) not = absurd (not i refl)
primary-no-target (p.Object' q (more_of-Object (Object' n ps comma) end_of-Object)) not = refl
primary-no-target (p.Group' q (more_of-Expr v end_of-Expr)) not = refl
primary-no-target (p.Cas' m (more_of-Cas q (more_of-Expr o end_of-Expr) r (more_of-Expr k end_of-Expr) s (more_of-Expr a end_of-Expr) t (more_of-Expr b end_of-Expr) end_of-Cas)) not = refl

pub primary-no-member : (x : Primary) → is_member (primary_tree x) ≡ false
unfolding expr_tree
primary-no-member (p.Number n) = refl
primary-no-member (p.Text s) = refl
primary-no-member p.True = refl
primary-no-member p.False = refl
primary-no-member p.Null = refl
primary-no-member p.Undefined = refl
primary-no-member p.Shared = refl
primary-no-member (p.Ident i) = refl
primary-no-member (p.Object' q (more_of-Object (Object' n ps comma) end_of-Object)) = refl
primary-no-member (p.Group' q (more_of-Expr v end_of-Expr)) = refl
primary-no-member (p.Cas' m (more_of-Cas q (more_of-Expr o end_of-Expr) r (more_of-Expr k end_of-Expr) s (more_of-Expr a end_of-Expr) t (more_of-Expr b end_of-Expr) end_of-Cas)) = refl
