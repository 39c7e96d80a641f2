use Rattle.std.proofs.Common.{rules, ◌∙◌, ◌∷◌, ◌+◌, ap, drop, refl, Err}
use Rattle.jo_parse_tree.specs.Blocks.{declared_by, declared_in}
use Rattle.jo_parse_tree.specs.ScriptViews.{head_tree, items_list}
use Rattle.jo_parse_grammar.specs.Declarations.{at_beginning, at_end, faults_of_head, faults_of_items}
use Rattle.jo_parse_names.specs.inner.Blocks.{all_of, answer_to, round_faults}
use Rattle.jo_parse_names.proofs.Judging.{judged_left, judged_same, judged_then, left_on}
use Rattle.jo_parse_names.proofs.Stated.{enters, items-entered, round-entered}
use Rattle.jo_parse_names.proofs.Steps.{items-at, items-on}
use Rattle.jo_parse_names.proofs.scopes.Scopes.+statements.Goals as goal

pub block-returns-in_err-items-clause-judged : goal.block-returns-in_err-items-clause-judged
block-returns-in_err-items-clause-judged t c =
    let scope = at_beginning (declared_in (items_list c.args.items.now)) in
    let h = enters c.args.self.now c.enter.new.self _ scope c.in_ok-enter.ensures c.in_ok-of_items.ensures in
    let w = judged_same (faults_of_items scope (all_of c.args.self.now) (items_list c.args.items.now)) _ (Err c.in_err-items.field-0.0)
    (ap answer_to (items-entered c.args.self.now c.enter.new.self scope c.args.items.now h)) c.in_err-items.ensures.judged in
    search rules

pub block-returns-clause-judged : goal.block-returns-clause-judged
block-returns-clause-judged t c =
    let scope = at_beginning (declared_in (items_list c.args.items.now)) in
    let h = enters c.args.self.now c.enter.new.self _ scope c.in_ok-enter.ensures c.in_ok-of_items.ensures in
    ap answer_to (items-entered c.args.self.now c.enter.new.self scope c.args.items.now h) ∙ c.in_ok-items.ensures.judged

pub items-returns-in_err-item-clause-judged : goal.items-returns-in_err-item-clause-judged
items-returns-in_err-item-clause-judged t c =
    let at = items-at c.loop-item.self c.args.items.now c.loop-item.item-index c.item-item.result c.loop-item-test.true c.item-item.is in
    let w = judged_left _ _ _ _ c.loop-item.invariant.0 at c.item.ensures.judged c.in_err-item.was in
    search rules

pub items-loop-item-preserved : goal.items-loop-item-preserved
items-loop-item-preserved t c =
    let s = c.loop-item.self in
    let all = c.args.items.now in
    let i = c.loop-item.item-index in
    let x = c.item-item.result in
    let at = items-at s all i x c.loop-item-test.true c.item-item.is in
    let left = left_on _ _ _ _ c.loop-item.invariant.0 at c.item.ensures.judged c.in_ok-item.was in
    let moves = c.in_ok-item.ensures.moved in
    (left ∙ ap answer_to (items-on s c.item.new.self (drop (i + 1) all) x moves), moves.1 ∙ c.loop-item.invariant.1)

pub repeat_for-returns-in_err-round-clause-judged : goal.repeat_for-returns-in_err-round-clause-judged
repeat_for-returns-in_err-round-clause-judged t c =
    let head = head_tree c.args.repeat.now.head in
    let scope = at_end (declared_by head) in
    let same = round-entered c.args.self.now c.head.new.self scope c.args.repeat.now c.in_ok-head.ensures.entered in
    let rest = judged_same (round_faults (scope ∷ all_of c.args.self.now) c.args.repeat.now) _ (Err c.in_err-round.field-0.0) (ap answer_to same) c.in_err-round.ensures.judged in
    let w = judged_then _ (faults_of_head (all_of c.args.self.now) head) _ (Err c.in_err-round.field-0.0) refl c.in_ok-head.ensures.judged rest in
    search rules

pub repeat_for-returns-clause-judged : goal.repeat_for-returns-clause-judged
repeat_for-returns-clause-judged t c =
    let head = head_tree c.args.repeat.now.head in
    let scope = at_end (declared_by head) in
    let same = round-entered c.args.self.now c.head.new.self scope c.args.repeat.now c.in_ok-head.ensures.entered in
    left_on _ _ (faults_of_head (all_of c.args.self.now) head) _ refl refl c.head.ensures.judged c.in_ok-head.was ∙ (ap answer_to same ∙ c.in_ok-round.ensures.judged)
