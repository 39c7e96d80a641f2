use Rattle.std.proofs.Common.{arith, ◌-◌}
use Rattle.std.proofs.lemmas.Grind.{common_steps}
use Rattle.jo_parse_tree.specs.Views.{accesses_list, chain_tree, links_list, props_list}
use Rattle.jo_parse_grammar.specs.inner.Read.{under, chain_of, read, expect, accesses_from, assignment, chains, condition, group_after, links_from, object_after, only_member, prefixed, primary, props_from}
use Rattle.jo_parse_script.proofs.Lists.{accesses-with-name, accesses-with-key, links-with, props-with}
use Rattle.jo_parse_script.proofs.Parts.{makes-reads}
use Rattle.jo_parse_script.proofs.Rooms.{one_more}
use Rattle.jo_parse_script.proofs.Rules.{reading, entering, operands}
use Rattle.jo_parse_script.proofs.parser.Parser.+parser.Goals as goal

pub links-returns-then-rank-level : goal.links-returns-then-rank-level
unfolding links_from
links-returns-then-rank-level t c =
    let e = one_more (λ n. links_from c.args.room (under c.args.room) c.args.ins c.args.level n (links_list c.loop-turn.links) c.loop-turn.self.tokens) _ c.loop-turn._turn c.loop-turn-test.true c.loop-turn.invariant in
    grind (arith, common_steps, reading)

pub links-returns-in_err-inner : goal.links-returns-in_err-inner
unfolding links_from
links-returns-in_err-inner t c =
    let e = one_more (λ n. links_from c.args.room (under c.args.room) c.args.ins c.args.level n (links_list c.loop-turn.links) c.loop-turn.self.tokens) _ c.loop-turn._turn c.loop-turn-test.true c.loop-turn.invariant in
    grind (arith, common_steps, reading)

pub links-returns-in_err-operand : goal.links-returns-in_err-operand
unfolding links_from
links-returns-in_err-operand t c =
    let e = one_more (λ n. links_from c.args.room (under c.args.room) c.args.ins c.args.level n (links_list c.loop-turn.links) c.loop-turn.self.tokens) _ c.loop-turn._turn c.loop-turn-test.true c.loop-turn.invariant in
    grind (arith, common_steps, reading)

pub links-loop-turn-preserved : goal.links-loop-turn-preserved
unfolding links_from
links-loop-turn-preserved t c =
    let e = one_more (λ n. links_from c.args.room (under c.args.room) c.args.ins c.args.level n (links_list c.loop-turn.links) c.loop-turn.self.tokens) _ c.loop-turn._turn c.loop-turn-test.true c.loop-turn.invariant in
    grind (arith, common_steps, reading, links-with)

pub properties-returns-then-sees : goal.properties-returns-then-sees
unfolding props_from expect
properties-returns-then-sees t c =
    let e = one_more (λ n. props_from (read c.args.inner) n (props_list c.loop-turn.props) c.loop-turn.self.tokens) _ c.loop-turn._turn c.loop-turn-test.true c.loop-turn.invariant in
    grind (arith, common_steps, reading)

pub properties-returns-in_err-expect : goal.properties-returns-in_err-expect
unfolding props_from expect
properties-returns-in_err-expect t c =
    let e = one_more (λ n. props_from (read c.args.inner) n (props_list c.loop-turn.props) c.loop-turn.self.tokens) _ c.loop-turn._turn c.loop-turn-test.true c.loop-turn.invariant in
    grind (arith, common_steps, reading)

pub properties-returns-then-sees-2 : goal.properties-returns-then-sees-2
unfolding props_from expect
properties-returns-then-sees-2 t c =
    let e = one_more (λ n. props_from (read c.args.inner) n (props_list c.loop-turn.props) c.loop-turn.self.tokens) _ c.loop-turn._turn c.loop-turn-test.true c.loop-turn.invariant in
    grind (arith, common_steps, reading)

pub properties-returns-in_err-property : goal.properties-returns-in_err-property
unfolding props_from expect
properties-returns-in_err-property t c =
    let e = one_more (λ n. props_from (read c.args.inner) n (props_list c.loop-turn.props) c.loop-turn.self.tokens) _ c.loop-turn._turn c.loop-turn-test.true c.loop-turn.invariant in
    grind (arith, common_steps, reading)

pub properties-loop-turn-preserved : goal.properties-loop-turn-preserved
unfolding props_from expect
properties-loop-turn-preserved t c =
    let e = one_more (λ n. props_from (read c.args.inner) n (props_list c.loop-turn.props) c.loop-turn.self.tokens) _ c.loop-turn._turn c.loop-turn-test.true c.loop-turn.invariant in
    grind (arith, common_steps, reading, props-with)

pub accesses-loop-turn-preserved : goal.accesses-loop-turn-preserved
unfolding accesses_from
accesses-loop-turn-preserved t c =
    let e = one_more (λ n. accesses_from c.args.room (under c.args.room) n (accesses_list c.loop-turn.accesses) c.loop-turn.self.tokens) _ c.loop-turn._turn c.loop-turn-test.true c.loop-turn.invariant in
    grind (arith, common_steps, reading, accesses-with-name, accesses-with-key)

pub accesses-returns-in_err-name : goal.accesses-returns-in_err-name
unfolding accesses_from
accesses-returns-in_err-name t c = grind (arith, common_steps, reading)

pub accesses-returns-in_err-index : goal.accesses-returns-in_err-index
unfolding accesses_from
accesses-returns-in_err-index t c = grind (arith, common_steps, reading)

pub accesses-returns-else-sees-2 : goal.accesses-returns-else-sees-2
unfolding accesses_from
accesses-returns-else-sees-2 t c = grind (arith, common_steps, reading)

pub bracket-returns-in_ok-ended-in-OpenParen : goal.bracket-returns-in_ok-ended-in-OpenParen
unfolding group_after
bracket-returns-in_ok-ended-in-OpenParen t c = grind (arith, common_steps, reading)

pub bracket-returns-in_ok-new-in-OpenBrace : goal.bracket-returns-in_ok-new-in-OpenBrace
unfolding group_after
bracket-returns-in_ok-new-in-OpenBrace t c = grind (arith, common_steps, reading)

pub cas-returns-in_err-arguments : goal.cas-returns-in_err-arguments
cas-returns-in_err-arguments t c = grind (arith, common_steps, entering)

pub cas-returns : goal.cas-returns
cas-returns t c = grind (arith, common_steps, entering)

pub chain-returns-in_err-unary : goal.chain-returns-in_err-unary
unfolding chains
chain-returns-in_err-unary t c = grind (arith, common_steps, reading)

pub chain-returns-then-level-eq-UNARY_LEVEL : goal.chain-returns-then-level-eq-UNARY_LEVEL
unfolding chains
chain-returns-then-level-eq-UNARY_LEVEL t c = grind (arith, common_steps, reading)

pub expression-returns-in_err-condition : goal.expression-returns-in_err-condition
unfolding assignment
expression-returns-in_err-condition t c = grind (arith, common_steps, reading)

pub expression-returns-then-rank-ne-ASSIGNMENT : goal.expression-returns-then-rank-ne-ASSIGNMENT
unfolding assignment
expression-returns-then-rank-ne-ASSIGNMENT t c = grind (arith, common_steps, reading)

pub expression-returns-in_err-assignment-in-Ok : goal.expression-returns-in_err-assignment-in-Ok
unfolding assignment
expression-returns-in_err-assignment-in-Ok t c = grind (arith, common_steps, reading)

pub expression-returns-in_ok-assignment-in-Ok : goal.expression-returns-in_ok-assignment-in-Ok
unfolding assignment
expression-returns-in_ok-assignment-in-Ok t c = grind (arith, common_steps, reading)

pub expression-returns-in-Err : goal.expression-returns-in-Err
unfolding assignment
expression-returns-in-Err t c = grind (arith, common_steps, reading)

pub keyword-returns : goal.keyword-returns
keyword-returns t c = grind (arith, common_steps, reading)

pub member-returns-in_err-member : goal.member-returns-in_err-member
unfolding only_member
member-returns-in_err-member t c = grind (arith, common_steps, reading)

pub member-returns-in-Member : goal.member-returns-in-Member
unfolding only_member
member-returns-in-Member t c = grind (arith, common_steps, reading)

pub member-returns : goal.member-returns
unfolding only_member
member-returns t c = grind (arith, common_steps, reading)

pub object-returns-then-sees : goal.object-returns-then-sees
unfolding object_after
object-returns-then-sees t c = grind (arith, common_steps, reading)

pub operand-returns : goal.operand-returns
operand-returns t c = grind (arith, common_steps, operands)

pub primary-returns-in-Number : goal.primary-returns-in-Number
unfolding primary
primary-returns-in-Number t c = grind (arith, common_steps, reading)

pub primary-returns-in-Text : goal.primary-returns-in-Text
unfolding primary
primary-returns-in-Text t c = grind (arith, common_steps, reading)

pub primary-returns-in-Ident : goal.primary-returns-in-Ident
unfolding primary
primary-returns-in-Ident t c = grind (arith, common_steps, reading)

pub unary-returns-in_err-inner : goal.unary-returns-in_err-inner
unfolding prefixed
unary-returns-in_err-inner t c = grind (arith, common_steps, reading)

pub unary-returns-in_err-operand : goal.unary-returns-in_err-operand
unfolding prefixed
unary-returns-in_err-operand t c = grind (arith, common_steps, reading)

pub unary-returns-in-Some : goal.unary-returns-in-Some
unfolding prefixed
unary-returns-in-Some t c = grind (arith, common_steps, reading)

pub unary-returns-in_err-inner-2 : goal.unary-returns-in_err-inner-2
unfolding prefixed
unary-returns-in_err-inner-2 t c = grind (arith, common_steps, reading)

pub unary-returns-in_err-member : goal.unary-returns-in_err-member
unfolding prefixed
unary-returns-in_err-member t c = grind (arith, common_steps, reading)

pub unary-returns-then-sees_keyword : goal.unary-returns-then-sees_keyword
unfolding prefixed
unary-returns-then-sees_keyword t c = grind (arith, common_steps, reading)

pub unary-returns-in_err-postfix : goal.unary-returns-in_err-postfix
unfolding prefixed
unary-returns-in_err-postfix t c = grind (arith, common_steps, reading)

pub unary-returns : goal.unary-returns
unfolding prefixed
unary-returns t c = grind (arith, common_steps, reading)

pub condition-returns-in_err-condition : goal.condition-returns-in_err-condition
unfolding condition
condition-returns-in_err-condition t c = grind (arith, common_steps, reading)

pub condition-returns-then-not-sees : goal.condition-returns-then-not-sees
unfolding condition
condition-returns-then-not-sees t c = grind (arith, common_steps, reading)

pub condition-returns-in_err-new : goal.condition-returns-in_err-new
unfolding condition
condition-returns-in_err-new t c = grind (arith, common_steps, reading)

pub condition-returns : goal.condition-returns
unfolding condition
condition-returns t c = grind (arith, common_steps, reading)

pub chain-returns : goal.chain-returns
unfolding chains
chain-returns t c =
    let args = c.args in
    makes-reads chain_tree (chains args.room (under args.room) args.ins (9 - args.level) args.level args.self.now.tokens) (chain_of args.level (chain_tree c.in_ok-first.first) (links_list c.in_ok-links.links)) c.links.new.self.tokens c.joined.result c.joined.ensures
    (grind (arith, reading))
