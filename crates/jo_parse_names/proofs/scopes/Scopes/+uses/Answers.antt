use Rattle.std.proofs.Common.{rules, ◌∙◌, sym, ap}
use Rattle.jo_parse_names.specs.inner.Blocks.{all_of, answer_to}
use Rattle.jo_parse_grammar.specs.Declarations.{faults_of_uses, uses_of}
use Rattle.jo_parse_tree.specs.Views.{expr_tree}
use Rattle.jo_parse_names.proofs.Turns.{links-turn, props-turn, accesses-turn, after_ok, after_err}
use Rattle.jo_parse_names.proofs.scopes.Scopes.+uses.Goals as goal

pub accesses-returns-in_err-access : goal.accesses-returns-in_err-access
accesses-returns-in_err-access t c =
    let e = c.loop-access.invariant ∙ accesses-turn (all_of c.args.self.now) c.args.accesses.now c.loop-access.access-index c.access-item.result c.loop-access-test.true c.access-item.is in
    let w = after_err _ e (sym c.access.ensures ∙ c.in_err-access.was) in
    search rules

pub accesses-loop-access-preserved : goal.accesses-loop-access-preserved
accesses-loop-access-preserved t c =
    let e = c.loop-access.invariant ∙ accesses-turn (all_of c.args.self.now) c.args.accesses.now c.loop-access.access-index c.access-item.result c.loop-access-test.true c.access-item.is in
    after_ok _ e (sym c.access.ensures ∙ c.in_ok-access.was)

pub links-returns-in_err-chain : goal.links-returns-in_err-chain
links-returns-in_err-chain t c =
    let e = c.loop-link.invariant ∙ links-turn (all_of c.args.self.now) c.args.links.now c.loop-link.link-index c.link-item.result c.loop-link-test.true c.link-item.is in
    let w = after_err _ e (sym c.chain.ensures ∙ c.in_err-chain.was) in
    search rules

pub links-loop-link-preserved : goal.links-loop-link-preserved
links-loop-link-preserved t c =
    let e = c.loop-link.invariant ∙ links-turn (all_of c.args.self.now) c.args.links.now c.loop-link.link-index c.link-item.result c.loop-link-test.true c.link-item.is in
    after_ok _ e (sym c.chain.ensures ∙ c.in_ok-chain.was)

pub props-returns-in_err-expr : goal.props-returns-in_err-expr
props-returns-in_err-expr t c =
    let e = c.loop-prop.invariant ∙ props-turn (all_of c.args.self.now) c.args.props.now c.loop-prop.prop-index c.prop-item.result c.loop-prop-test.true c.prop-item.is in
    let same = ap (λ v. answer_to (faults_of_uses (all_of c.args.self.now) (uses_of (expr_tree v)))) c.get.ensures in
    let w = after_err _ e (sym same ∙ (sym c.expr.ensures ∙ c.in_err-expr.was)) in
    search rules

pub props-loop-prop-preserved : goal.props-loop-prop-preserved
props-loop-prop-preserved t c =
    let e = c.loop-prop.invariant ∙ props-turn (all_of c.args.self.now) c.args.props.now c.loop-prop.prop-index c.prop-item.result c.loop-prop-test.true c.prop-item.is in
    let same = ap (λ v. answer_to (faults_of_uses (all_of c.args.self.now) (uses_of (expr_tree v)))) c.get.ensures in
    after_ok _ e (sym same ∙ (sym c.expr.ensures ∙ c.in_ok-expr.was))
