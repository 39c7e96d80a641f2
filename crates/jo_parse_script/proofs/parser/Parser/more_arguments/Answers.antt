use Rattle.std.proofs.Common.{arith}
use Rattle.std.proofs.lemmas.Grind.{common_steps}
use Rattle.jo_parse_tree.specs.ScriptViews.{trees_list}
use Rattle.jo_parse_tree.proofs.ScriptShapes.{trees_list-push}
use Rattle.jo_parse_grammar.specs.inner.Read.{expect}
use Rattle.jo_parse_grammar.specs.inner.ReadStatements.{arguments_from}
use Rattle.jo_parse_script.proofs.Rooms.{one_more}
use Rattle.jo_parse_script.proofs.ScriptRules.{script_reading}
use Rattle.jo_parse_script.proofs.parser.Parser.more_arguments.Goals as goal

pub returns-in_err-expect : goal.returns-in_err-expect
unfolding arguments_from expect
returns-in_err-expect c =
    let e = one_more (λ n. arguments_from c.args.room n (trees_list c.loop-turn.found) c.loop-turn.self.tokens) _ c.loop-turn._turn c.loop-turn-test.true c.loop-turn.invariant in
    grind (arith, common_steps, script_reading)

pub returns-in_err-expression : goal.returns-in_err-expression
unfolding arguments_from expect
returns-in_err-expression c =
    let e = one_more (λ n. arguments_from c.args.room n (trees_list c.loop-turn.found) c.loop-turn.self.tokens) _ c.loop-turn._turn c.loop-turn-test.true c.loop-turn.invariant in
    grind (arith, common_steps, script_reading)

pub loop-turn-preserved : goal.loop-turn-preserved
unfolding arguments_from expect
loop-turn-preserved c =
    let e = one_more (λ n. arguments_from c.args.room n (trees_list c.loop-turn.found) c.loop-turn.self.tokens) _ c.loop-turn._turn c.loop-turn-test.true c.loop-turn.invariant in
    grind (arith, common_steps, script_reading, trees_list-push)
