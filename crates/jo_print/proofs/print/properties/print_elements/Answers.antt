use Rattle.std.proofs.Common.{ℕ, ◌+◌, ◌∷◌, drop, map, ap, sym, ◌∙◌, arith}
use Rattle.jo_value.specs.declared.value.Value.{Value}
use Rattle.jo_model.specs.Heaps.{object_of}
use Rattle.jo_model.specs.Reading.{place_from}
use Rattle.jo_model.specs.Rendered.{element_bytes}
use Rattle.jo_io.proofs.Printed.{leaves-start, leaves-more, leaves-end, prints-both}
use Rattle.jo_print.specs.inner.Series.{series}
use Rattle.jo_model.proofs.InOrder.{rest-zero, found-next}
use Rattle.jo_print.proofs.Series.{series-cons, series-nil}
use Rattle.jo_model.proofs.Rests.{rest-end}
use Rattle.jo_print.proofs.print.properties.print_elements.Goals as goal

pub loop-index-init : goal.loop-index-init
loop-index-init g c =
    let elements = (object_of (g.H.Objects.heap c.args.heap.now) c.args.object).elements in
    rw (rest-zero elements) (leaves-start _ _)

pub loop-index-smaller : goal.loop-index-smaller
loop-index-smaller g c =
    let elements = (object_of (g.H.Objects.heap c.args.heap.now) c.args.object).elements in
    let found = found-next c.loop-index.low elements (c.in-Some.index, c.in-Some.value) c.element_from.result c.element_from.ensures.well_formed.rising c.element_from.ensures.value c.in-Some.is in
    let least = found.least in
    omega (arith, least, c.from-low.ensures, c.from-low.type_inv)

pub loop-index-preserved : goal.loop-index-preserved
loop-index-preserved g c =
    let elements = (object_of (g.H.Objects.heap c.args.heap.now) c.args.object).elements in
    let element : ℕ × Value = (c.in-Some.index, c.in-Some.value) in
    let line = element_bytes c.args.texts.now in
    let found = found-next c.loop-index.low elements element c.element_from.result c.element_from.ensures.well_formed.rising c.element_from.ensures.value c.in-Some.is in
    let rest = found.rest ∙ ap (λ n. element ∷ drop (place_from (n + 1) elements) elements) (sym c.from-low.ensures) in
    leaves-more _ c.loop-index.invariant (prints-both c.print_lead.ensures c.print_element.ensures)
    (ap (λ l. series c.loop-index.is_first (map line l)) rest ∙ series-cons c.loop-index.is_first (line element) _)

pub returns : goal.returns
returns g c =
    let elements = (object_of (g.H.Objects.heap c.args.heap.now) c.args.object).elements in
    let none = rest-end elements (place_from c.loop-index.low elements) c.element_from.result c.element_from.ensures.value c.in_default.is in
    leaves-end c.loop-index.invariant (ap (λ l. series c.loop-index.is_first (map (element_bytes c.args.texts.now) l)) none ∙ series-nil c.loop-index.is_first)
