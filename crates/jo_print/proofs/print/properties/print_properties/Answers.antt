use Rattle.std.proofs.Common.{sym, ap, ◌∙◌}
use Rattle.std.specs.Prelude.{is_none}
use Rattle.jo_model.specs.Heaps.{object_of}
use Rattle.jo_model.specs.Rendered.{element_bytes, name_bytes}
use Rattle.jo_io.proofs.Printed.{prints-as, prints-both}
use Rattle.jo_print.proofs.Series.{joined-both, bare}
use Rattle.jo_print.proofs.print.properties.print_properties.Goals as goal

pub returns : goal.returns
returns g c =
    let object = object_of (g.H.Objects.heap c.args.heap.now) c.args.object in
    prints-as _ (sym (joined-both (element_bytes c.args.texts.now) (name_bytes c.args.texts.now) object.elements object.names c.is_none-is_bare.result
    (bare _ _ c.is_none-is_bare.ensures ∙ ap is_none c.element_from.ensures.value))) (prints-both c.print_elements.ensures c.print_names.ensures)
