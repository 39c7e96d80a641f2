use Rattle.std.proofs.Common.{rules, ◌∙◌, sym}
use Rattle.jo_parse_names.specs.inner.Blocks.{all_of}
use Rattle.jo_parse_names.proofs.Turns.{exprs-turn, after_ok, after_err}
use Rattle.jo_parse_names.proofs.scopes.Scopes.exprs.Goals as goal

pub returns-in_err-expr : goal.returns-in_err-expr
returns-in_err-expr c =
    let e = c.loop-expr.invariant ∙ exprs-turn (all_of c.args.self.now) c.args.exprs.now c.loop-expr.expr-index c.expr-item.result c.loop-expr-test.true c.expr-item.is in
    let w = after_err _ e (sym c.expr.ensures ∙ c.in_err-expr.was) in
    search rules

pub loop-expr-preserved : goal.loop-expr-preserved
loop-expr-preserved c =
    let e = c.loop-expr.invariant ∙ exprs-turn (all_of c.args.self.now) c.args.exprs.now c.loop-expr.expr-index c.expr-item.result c.loop-expr-test.true c.expr-item.is in
    after_ok _ e (sym c.expr.ensures ∙ c.in_ok-expr.was)
