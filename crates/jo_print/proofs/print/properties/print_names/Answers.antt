use Rattle.std.proofs.Common.{map, ap, ◌∙◌, arith}
use Rattle.jo_value.specs.declared.value.NameId.{NameId}
use Rattle.jo_value.specs.declared.value.Value.{Value}
use Rattle.jo_model.specs.Heaps.{object_of}
use Rattle.jo_model.specs.Rendered.{name_bytes}
use Rattle.jo_io.proofs.Printed.{leaves-start, leaves-more, leaves-end, prints-both}
use Rattle.jo_print.specs.inner.Series.{series}
use Rattle.jo_print.proofs.Series.{series-cons, series-nil}
use Rattle.jo_model.proofs.Rests.{rest-next, rest-end, within-next}
use Rattle.jo_print.proofs.print.properties.print_names.Goals as goal

pub loop-name-init : goal.loop-name-init
loop-name-init g c = record { within = omega arith; left = leaves-start _ _ }

pub loop-name-smaller : goal.loop-name-smaller
loop-name-smaller g c =
    let names = (object_of (g.H.Objects.heap c.args.heap.now) c.args.object).names in
    let within = within-next names c.loop-name.at (c.in-Some.name, c.in-Some.value) c.name.result c.name.ensures.value c.in-Some.is in
    let few = c.name.ensures.well_formed.few in
    omega (arith, within, few)

pub loop-name-preserved : goal.loop-name-preserved
loop-name-preserved g c =
    let names = (object_of (g.H.Objects.heap c.args.heap.now) c.args.object).names in
    let name : NameId × Value = (c.in-Some.name, c.in-Some.value) in
    let line = name_bytes c.args.texts.now in
    let within = within-next names c.loop-name.at name c.name.result c.name.ensures.value c.in-Some.is in
    let few = c.name.ensures.well_formed.few in record {
      within = omega (arith, within, few);
      left = leaves-more _ c.loop-name.invariant.left (prints-both c.print_lead.ensures c.print_name.ensures)
          (ap (λ l. series c.loop-name.is_first (map line l)) (rest-next names c.loop-name.at name c.name.result c.name.ensures.value c.in-Some.is) ∙ series-cons c.loop-name.is_first (line name) _);
    }

pub returns : goal.returns
returns g c =
    let names = (object_of (g.H.Objects.heap c.args.heap.now) c.args.object).names in
    let none = rest-end names c.loop-name.at c.name.result c.name.ensures.value c.in_default.is in
    leaves-end c.loop-name.invariant.left (ap (λ l. series c.loop-name.is_first (map (name_bytes c.args.texts.now) l)) none ∙ series-nil c.loop-name.is_first)
