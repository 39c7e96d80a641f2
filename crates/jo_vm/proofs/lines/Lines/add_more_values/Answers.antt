use Rattle.std.proofs.Common.{◌++◌, codes, map, flat_map, refl}
use Rattle.jo_value.specs.declared.value.Value.TheVariants.{Undefined}
use Rattle.jo_model.specs.Printed.{value_bytes}
use Rattle.jo_vm.proofs.Adding.{adds_not_all, beside}
use Rattle.jo_vm.proofs.lines.Lines.add_more_values.Goals as goal

pub returns-then-not-add_next_value : goal.returns-then-not-add_next_value
returns-then-not-add_next_value c =
    let all = flat_map (λ u. codes " " ++ u) (map (value_bytes c.args.texts.now) c.args.values.now) in
    adds_not_all c.loop-value.invariant refl c.add_next_value.ensures c.if-not-add_next_value.true all
    (beside (value_bytes c.args.texts.now) (λ u. codes " " ++ u) c.args.values.now c.loop-value.value-index Undefined c.loop-value-test.true)
