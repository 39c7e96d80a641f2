use Rattle.std.proofs.Common.{◌++◌, codes, map, flat_map, take, true}
use Rattle.jo_model.specs.Printed.{value_bytes}
use Rattle.jo_vm.specs.inner.Lines.{Adds}
use Rattle.jo_vm.proofs.lines.Lines.add_more_values.Given as goal

abbrev pub invariant-loop-value : goal.invariant-loop-value
invariant-loop-value l = Adds l.fn.self l.self (flat_map (λ u. codes " " ++ u) (map (value_bytes l.texts) (take l.value-index l.values))) true
