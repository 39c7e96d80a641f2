use Rattle.std.proofs.Common.{◌∙◌, ap, sym}
use Rattle.std.specs.Prelude.{◌&&◌}
use Rattle.jo_parse_tree.specs.Views.{accesses_with, expr_tree}
use Rattle.jo_parse_tree.proofs.Shapes.{accesses_with-key}
use Rattle.jo_code.specs.inner.Code.{are_plain_accesses, is_plain, is_quiet}
use Rattle.jo_code.proofs.scope.Scope.is_plain_access.Goals as goal

pub returns-in-Key : goal.returns-in-Key
returns-in-Key c more =
    let environment = c.args.self.now in
    ap (λ x. are_plain_accesses environment (accesses_with more x)) c.in-Key.is
    ∙ ap (are_plain_accesses environment) (accesses_with-key more c.in-Key.key)
    ∙ ap (λ q. q && are_plain_accesses environment more)
    (ap (λ e. is_plain environment (expr_tree e)) (sym c.get.ensures) ∙ ap is_quiet (sym c.plain_expr.ensures) ∙ sym c.is_quiet.ensures)
