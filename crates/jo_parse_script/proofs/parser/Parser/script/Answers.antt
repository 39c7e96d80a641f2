use Rattle.std.proofs.Common.{arith, ◌≡◌, ◌-◌, ◌∙◌, ap, length}
use Rattle.std.proofs.lemmas.Grind.{common_steps}
use Rattle.jo_parse_tree.specs.ScriptViews.{items_list}
use Rattle.jo_parse_grammar.specs.inner.ReadStatements.{whole_script, script_from}
use Rattle.jo_parse_script.proofs.Rooms.{one_more}
use Rattle.jo_parse_script.proofs.ScriptRules.{script_reading, script_turns, script-over, items_list-push}
use Rattle.jo_parse_script.proofs.parser.Parser.script.Goals as goal

pub returns-in_err-item : goal.returns-in_err-item
unfolding whole_script
returns-in_err-item c =
    let e = one_more (λ n. script_from c.args.limit n (items_list c.loop-turn.items) c.loop-turn.self.tokens) _ c.loop-turn._turn c.loop-turn-test.true c.loop-turn.invariant in
    grind (arith, common_steps, script_reading, script_turns)

pub loop-turn-preserved : goal.loop-turn-preserved
unfolding whole_script
loop-turn-preserved c =
    let e = one_more (λ n. script_from c.args.limit n (items_list c.loop-turn.items) c.loop-turn.self.tokens) _ c.loop-turn._turn c.loop-turn-test.true c.loop-turn.invariant in
    grind (arith, common_steps, script_reading, script_turns, items_list-push)

pub returns-then-left-gt0 : goal.returns-then-left-gt0
unfolding whole_script
returns-then-left-gt0 c =
    let over : c.left-turn-end.result - c.loop-turn._turn ≡ 0 = omega arith in
    let left : length c.loop-turn.self.tokens ≡ 0 → ⊥ = λ e. omega arith in
    c.loop-turn.invariant ∙ ap (λ n. script_from c.args.limit n (items_list c.loop-turn.items) c.loop-turn.self.tokens) over
    ∙ script-over c.args.limit (items_list c.loop-turn.items) c.loop-turn.self.tokens left
