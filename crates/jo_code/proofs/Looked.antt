-- A first look at an expression, and at rows of them.
use Rattle.std.proofs.Common.{◌≡◌, refl}
use Rattle.jo_parse_tree.specs.declared.expr.Expr.{more_of-Expr, end_of-Expr}
use Rattle.jo_parse_tree.specs.declared.expr.Access.TheBlock.{more_of-Object, end_of-Object, more_of-Cas, end_of-Cas}
use Rattle.jo_parse_tree.specs.declared.expr.Object.{Object'}
use Rattle.jo_parse_tree.specs.declared.expr.Primary.{Primary}
use Rattle.jo_parse_tree.specs.declared.expr.Primary.TheVariants as p
use Rattle.jo_parse_tree.specs.Views.{primary_tree}
use Rattle.jo_meaning.specs.State.{Environment}
use Rattle.jo_code.specs.inner.Code.{plain_reading, reading_of}

-- of a primary expression no more is looked at
pub primary-alike : (environment : Environment) (v : Primary) → plain_reading environment (primary_tree v) ≡ reading_of environment (primary_tree v)
unfolding Rattle.jo_parse_tree.specs.Views.primary_tree
primary-alike environment (p.Number n) = refl
primary-alike environment (p.Text s) = refl
primary-alike environment p.True = refl
primary-alike environment p.False = refl
primary-alike environment p.Null = refl
primary-alike environment p.Undefined = refl
primary-alike environment p.Shared = refl
primary-alike environment (p.Ident i) = refl
primary-alike environment (p.Object' q (more_of-Object (Object' n ps comma) end_of-Object)) = refl
primary-alike environment (p.Group' q (more_of-Expr v end_of-Expr)) = refl
primary-alike environment (p.Cas' m (more_of-Cas q (more_of-Expr o end_of-Expr) r (more_of-Expr k end_of-Expr) s (more_of-Expr a end_of-Expr) t (more_of-Expr b end_of-Expr) end_of-Cas)) = refl
