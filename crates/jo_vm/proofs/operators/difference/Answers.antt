use Rattle.std.proofs.Common.{◌≡◌, ◌-ℤ◌, ◌∙◌, ap, arith, to_z, of_z, w64}
use Rattle.std.proofs.lemmas.Int.{ints}
use Rattle.jo_meaning.specs.Values.{safe}
use Rattle.jo_vm.proofs.operators.difference.Goals as goal

pub returns-then-is_safe-2 : goal.returns-then-is_safe-2
returns-then-is_safe-2 c =
    let first = c.is_safe.ensures.0 c.if-is_safe.true in
    let second = c.is_safe-then-is_safe.ensures.0 c.if-is_safe-2.true in
    let plain : to_z w64 (of_z w64 (to_z w64 (of_z w64 c.args.i) -ℤ to_z w64 (of_z w64 c.args.j))) ≡ c.args.i -ℤ c.args.j =
    omega (arith, ints, first.0, first.1, second.0, second.1, c.ranges.i, c.ranges.j) in
    c.safe.ensures ∙ ap safe plain
