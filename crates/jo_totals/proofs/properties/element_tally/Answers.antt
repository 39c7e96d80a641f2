use Rattle.std.proofs.Common.{ℕ, ◌+◌, ◌∷◌, drop, ap, sym, ◌∙◌, arith, rules, Fits, w16}
use Rattle.jo_value.specs.declared.value.Value.{Value}
use Rattle.jo_model.specs.Heaps.{object_of}
use Rattle.jo_model.specs.Reading.{place_from}
use Rattle.jo_model.proofs.InOrder.{found-next}
use Rattle.jo_model.proofs.Rests.{rest-end}
use Rattle.jo_totals.proofs.Parts.{leaves-more, leaves-end}
use Rattle.jo_totals.proofs.properties.element_tally.Goals as goal

pub loop-index-smaller : goal.loop-index-smaller
loop-index-smaller g c =
    let elements = (object_of (g.H.Objects.heap c.args.heap.now) c.args.object).elements in
    let found = found-next c.loop-index.low elements (c.in-Some.index, c.in-Some.value) c.element_from.result c.element_from.ensures.well_formed.rising c.element_from.ensures.value c.in-Some.is in
    let least = found.least in
    let fits : Fits w16 c.in-Some.index = search rules in
    omega (arith, least, c.from-low.ensures, fits)

pub loop-index-preserved : goal.loop-index-preserved
loop-index-preserved g c =
    let elements = (object_of (g.H.Objects.heap c.args.heap.now) c.args.object).elements in
    let low = c.loop-index.low in
    let element : ℕ × Value = (c.in-Some.index, c.in-Some.value) in
    let found = found-next low elements element c.element_from.result c.element_from.ensures.well_formed.rising c.element_from.ensures.value c.in-Some.is in
    let least = found.least in
    let fits : Fits w16 c.in-Some.index = search rules in
    let rest = found.rest ∙ ap (λ n. element ∷ drop (place_from (n + 1) elements) elements) (sym c.from-low.ensures) in record {
      within = omega (arith, c.from-low.ensures, fits);
      count = omega (arith, least, c.from-low.ensures, c.plus-tally.ensures.count, c.loop-index.invariant.count);
      left = leaves-more c.loop-index.tally c.plus-tally.result element (drop (place_from low elements) elements) (drop (place_from (c.from-low.result + 1) elements) elements) elements
          c.loop-index.invariant.left rest c.plus-tally.ensures.count c.plus-tally.ensures.sum c.plus-tally.ensures.bounded;
    }

pub returns-clause-value : goal.returns-clause-value
returns-clause-value g c =
    let elements = (object_of (g.H.Objects.heap c.args.heap.now) c.args.object).elements in
    leaves-end c.loop-index.tally _ elements c.loop-index.invariant.left
    (rest-end elements (place_from c.loop-index.low elements) c.element_from.result c.element_from.ensures.value c.in_default.is)
