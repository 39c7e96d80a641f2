use Rattle.std.proofs.Common.{codes, subst}
use Rattle.std.proofs.lemmas.List.{take_rest}
use Rattle.jo_value.specs.Texts.{text_in}
use Rattle.jo_vm.specs.inner.Lines.{Adds}
use Rattle.jo_vm.proofs.Adding.{adds_then, joined_first}
use Rattle.jo_vm.proofs.lines.Lines.add_names.Goals as goal

pub returns-else-not-add_name : goal.returns-else-not-add_name
returns-else-not-add_name c =
    subst (λ line. Adds c.args.self.now c.add_more_names.new.self line c.add_more_names.result)
    (joined_first (λ name. text_in c.args.texts.now name.0) (codes ",") c.args.names.now _ (record { 0 = 0 }) c.in-len1-up.len_at_least (take_rest c.args.names.now 1))
    (adds_then c.add_name.ensures c.if-not-add_name.false c.add_more_names.ensures)
