use Rattle.std.proofs.Common.{◌∙◌, ap, refl, None, Some}
use Rattle.jo_parse_tree.specs.ScriptViews.{option_tree, statement_tree, optional_statement}
use Rattle.jo_parse_tree.specs.Views.{expr_tree}
use Rattle.jo_code.specs.inner.Stated.{test_code}
use Rattle.jo_code.proofs.Stating.{on_ok, when_put, either_put, branch_put, round_put}
use Rattle.jo_code.proofs.draft.Draft.+statements.Goals as goal

pub when-returns-clause-code : goal.when-returns-clause-code
when-returns-clause-code t c =
    on_ok c.test.result (when_put c.args.scope.now _ (expr_tree c.args.branch.now.condition) _ (statement_tree c.args.branch.now.then) c.args.broken c.args.continued _ c.args.self.now _ _
    c.len-rest.ensures c.in_ok-statement.ensures.code c.in_ok-statement.ensures.same (ap expr_tree c.get.ensures)) c.test.ensures

pub either-returns-clause-code : goal.either-returns-clause-code
either-returns-clause-code t c =
    on_ok c.test.result (either_put c.args.scope.now _ (expr_tree c.args.branch.now.condition) _ (statement_tree c.args.branch.now.then) c.args.broken c.args.continued c.args.rest _ _ _ _ _ c.args.self.now _ _ _
    c.len-other.ensures c.gap.ensures c.in_ok-put.ensures c.gap-skipped.ensures c.in_ok-farther.ensures c.in_ok-farther-2.ensures
    c.in_ok-statement.ensures.code c.in_ok-statement.ensures.same (ap expr_tree c.get.ensures)) c.test.ensures

pub branch-returns-in_ok-statement-in-Some-clause-code : goal.branch-returns-in_ok-statement-in-Some-clause-code
branch-returns-in_ok-statement-in-Some-clause-code t c =
    on_ok c.either.result (branch_put c.args.scope.now _ (expr_tree c.args.branch.now.condition) (statement_tree c.args.branch.now.then) (statement_tree c.in-Some.otherwise) (optional_statement c.args.branch.now.otherwise)
    c.args.broken c.args.continued _ c.args.self.now _ _
    c.len-rest.ensures c.in_ok-statement-in-Some.ensures.code c.in_ok-statement-in-Some.ensures.same (ap optional_statement c.in-Some.is)) c.either.ensures.code

pub repeat-returns-clause-code : goal.repeat-returns-clause-code
repeat-returns-clause-code t c =
    on_ok c.close.result (round_put c.args.scope.now c.statement.new.scope (Some (expr_tree c.args.repeat.now.condition)) None (statement_tree c.args.repeat.now.body) _ _ _ c.args.self.now _ c.put.new.self _ c.test.new.self c.close.new.self
    c.len-rest.ensures c.in_ok-put.ensures refl c.gap-broken.ensures c.in_ok-statement.ensures.code c.in_ok-statement.ensures.same refl
    (c.in_ok-test.ensures ∙ ap (λ e. test_code c.statement.new.scope (expr_tree e) c.len-rest.result c.statement.new.self) c.get.ensures)) c.close.ensures

pub round-returns-clause-code : goal.round-returns-clause-code
round-returns-clause-code t c =
    on_ok c.close.result (round_put c.args.scope.now _ (option_tree c.args.repeat.now.condition) (option_tree c.args.repeat.now.step) (statement_tree c.args.repeat.now.body) _ _ _ c.args.self.now _ _ _ _ _
    c.len-rest.ensures c.in_ok-put.ensures c.in_ok-step.ensures c.gap-broken.ensures c.in_ok-statement.ensures.code c.in_ok-statement.ensures.same c.gap-skip.ensures c.in_ok-condition.ensures) c.close.ensures
