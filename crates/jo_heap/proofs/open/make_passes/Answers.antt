use Rattle.std.proofs.Common.{rules, sym, ap, subst, arith}
use Rattle.std.proofs.lemmas.Grind.{common_steps}
use Rattle.jo_rule.specs.Views.{View}
use Rattle.jo_heap.proofs.Made.{AreMade}
use Rattle.jo_heap.proofs.Made.{first_made, next_made, all_made}
use Rattle.jo_heap.proofs.open.make_passes.Goals as goal

pub split_pass-next-requires-clause-pass : goal.split_pass-next-requires-clause-pass
split_pass-next-requires-clause-pass c = (first_made c.args.heap.now c.loop-own.opened.items c.index_mut.result.now c.loop-own.invariant.0 c.index_mut.ensures.value).0

pub split_pass-next-requires-clause-first : goal.split_pass-next-requires-clause-first
split_pass-next-requires-clause-first c =
    ap (λ (v : View). v.number) (first_made c.args.heap.now c.loop-own.opened.items c.index_mut.result.now c.loop-own.invariant.0 c.index_mut.ensures.value).1

pub split_pass-next-requires-clause-number : goal.split_pass-next-requires-clause-number
split_pass-next-requires-clause-number c =
    let made = ap (λ (v : View). v.made) (first_made c.args.heap.now c.loop-own.opened.items c.index_mut.result.now c.loop-own.invariant.0 c.index_mut.ensures.value).1 in
    let len = c.len-number.ensures in
    (grind (arith, common_steps, made, len), search rules)

pub loop-own-preserved : goal.loop-own-preserved
loop-own-preserved c =
    let made = next_made c.args.heap.now c.loop-own.opened.items c.index_mut.result.now c.split_pass-next.new.pass c.split_pass-next.result c.loop-own.invariant.0 c.index_mut.ensures.value
    c.split_pass-next.ensures.left.0 c.split_pass-next.ensures.left.1 c.split_pass-next.ensures.right.0 c.split_pass-next.ensures.right.1 in
    (subst (AreMade c.args.heap.now) (sym c.push_reserved-in-Some.ensures.items) made, grind (arith, common_steps), grind (arith, common_steps), search rules)

pub returns : goal.returns
returns c =
    all_made c.args.heap.now c.loop-own.opened.items c.loop-own.invariant.0 (grind (arith, common_steps))
