use Rattle.std.proofs.Common.{arith}
use Rattle.std.proofs.lemmas.Grind.{common_steps}
use Rattle.jo_parse_tree.specs.ScriptViews.{items_list}
use Rattle.jo_parse_grammar.specs.inner.ReadStatements.{read_statement, block_from, block_after, for_after, if_after, while_after}
use Rattle.jo_parse_script.proofs.Rooms.{one_more}
use Rattle.jo_parse_script.proofs.ScriptRules.{script_reading, items_list-push}
use Rattle.jo_parse_script.proofs.parser.Parser.+statement.Goals as goal

pub items-loop-turn-preserved : goal.items-loop-turn-preserved
unfolding block_from
items-loop-turn-preserved t c =
    let e = one_more (λ n. block_from c.args.room (read_statement c.args.room c.args.loops) n (items_list c.loop-turn.items) c.loop-turn.self.tokens) _ c.loop-turn._turn c.loop-turn-test.true c.loop-turn.invariant in
    grind (arith, common_steps, script_reading, items_list-push)

pub block-returns : goal.block-returns
unfolding block_after
block-returns t c = grind (arith, common_steps, script_reading)

pub branch-returns-in_err-otherwise : goal.branch-returns-in_err-otherwise
unfolding if_after
branch-returns-in_err-otherwise t c = grind (arith, common_steps, script_reading)

pub branch-returns : goal.branch-returns
unfolding if_after
branch-returns t c = grind (arith, common_steps, script_reading)

pub for_loop-returns : goal.for_loop-returns
unfolding for_after
for_loop-returns t c = grind (arith, common_steps, script_reading)

pub punct_statement-returns-in-Semicolon : goal.punct_statement-returns-in-Semicolon
punct_statement-returns-in-Semicolon t c = grind (arith, common_steps, script_reading)

pub statement-returns-in-Keyword : goal.statement-returns-in-Keyword
statement-returns-in-Keyword t c = grind (arith, common_steps, script_reading)

pub statement-returns-in-Punct : goal.statement-returns-in-Punct
statement-returns-in-Punct t c = grind (arith, common_steps, script_reading)

pub statement-returns-in_default : goal.statement-returns-in_default
statement-returns-in_default t c = grind (arith, common_steps, script_reading)

pub while_loop-returns : goal.while_loop-returns
unfolding while_after
while_loop-returns t c = grind (arith, common_steps, script_reading)
