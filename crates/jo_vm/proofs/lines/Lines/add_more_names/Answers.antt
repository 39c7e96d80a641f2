use Rattle.std.proofs.Common.{◌++◌, codes, map, flat_map, refl}
use Rattle.jo_value.specs.Texts.{text_in}
use Rattle.jo_vm.proofs.Adding.{adds_not_all, beside}
use Rattle.jo_vm.proofs.lines.Lines.add_more_names.Goals as goal

pub returns-then-not-add_next_name : goal.returns-then-not-add_next_name
returns-then-not-add_next_name c =
    let all = flat_map (λ u. codes "," ++ u) (map (λ name. text_in c.args.texts.now name.0) c.args.names.now) in
    adds_not_all c.loop-name.invariant refl c.add_next_name.ensures c.if-not-add_next_name.true all
    (beside (λ name. text_in c.args.texts.now name.0) (λ u. codes "," ++ u) c.args.names.now c.loop-name.name-index (record { 0 = 0 }) c.loop-name-test.true)
