use Rattle.std.proofs.Common.{rules, ◌∙◌, ap, drop, ◌+◌}
use Rattle.jo_parse_names.specs.inner.Blocks.{answer_to}
use Rattle.jo_parse_names.proofs.Judging.{judged_left, left_on}
use Rattle.jo_parse_names.proofs.Steps.{bindings-at, bindings-on, bindings-alike}
use Rattle.jo_parse_names.proofs.scopes.Scopes.bindings.Goals as goal

pub returns-in_err-binding : goal.returns-in_err-binding
returns-in_err-binding c =
    let at = bindings-at c.loop-binding.self c.args.bindings.now c.loop-binding.binding-index c.binding-item.result c.loop-binding-test.true c.binding-item.is in
    let w = judged_left _ _ _ _ c.loop-binding.invariant.0 at c.binding.ensures.judged c.in_err-binding.was in
    search rules

pub loop-binding-preserved : goal.loop-binding-preserved
loop-binding-preserved c =
    let s = c.loop-binding.self in
    let all = c.args.bindings.now in
    let i = c.loop-binding.binding-index in
    let b = c.binding-item.result in
    let at = bindings-at s all i b c.loop-binding-test.true c.binding-item.is in
    let left = left_on _ _ _ _ c.loop-binding.invariant.0 at c.binding.ensures.judged c.in_ok-binding.was in
    let ends = c.in_ok-binding.ensures.block in
    let outer = c.in_ok-binding.ensures.outer in (
      left ∙ ap answer_to (bindings-on s c.binding.new.self (drop (i + 1) all) b ends outer),
      bindings-alike s c.binding.new.self _ all i b c.loop-binding-test.true c.binding-item.is c.loop-binding.invariant.1 ends,
      outer ∙ c.loop-binding.invariant.2,
    )
