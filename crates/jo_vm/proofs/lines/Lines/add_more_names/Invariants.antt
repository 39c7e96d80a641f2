use Rattle.std.proofs.Common.{◌++◌, codes, map, flat_map, take, true}
use Rattle.jo_value.specs.Texts.{text_in}
use Rattle.jo_vm.specs.inner.Lines.{Adds}
use Rattle.jo_vm.proofs.lines.Lines.add_more_names.Given as goal

abbrev pub invariant-loop-name : goal.invariant-loop-name
invariant-loop-name l = Adds l.fn.self l.self (flat_map (λ u. codes "," ++ u) (map (λ name. text_in l.texts name.0) (take l.name-index l.names))) true
