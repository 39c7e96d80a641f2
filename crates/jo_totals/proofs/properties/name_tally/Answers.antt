use Rattle.std.proofs.Common.{◌+◌, drop, arith}
use Rattle.jo_value.specs.declared.value.NameId.{NameId}
use Rattle.jo_value.specs.declared.value.Value.{Value}
use Rattle.jo_model.specs.Heaps.{object_of}
use Rattle.jo_model.proofs.Rests.{rest-next, rest-end, within-next}
use Rattle.jo_totals.proofs.Parts.{leaves-more, leaves-end}
use Rattle.jo_totals.proofs.properties.name_tally.Goals as goal

pub loop-value-preserved : goal.loop-value-preserved
loop-value-preserved g c =
    let names = (object_of (g.H.Objects.heap c.args.heap.now) c.args.object).names in
    let at = c.loop-value.at in
    let name : NameId × Value = (c.in-Some.field-0-0, c.in-Some.value) in
    let within = within-next names at name c.name.result c.name.ensures.value c.in-Some.is in
    let few = c.name.ensures.well_formed.few in record {
      within = omega (arith, within, few);
      count = omega arith;
      left = leaves-more c.loop-value.tally c.plus-tally.result name (drop at names) (drop (at + 1) names) names c.loop-value.invariant.left
          (rest-next names at name c.name.result c.name.ensures.value c.in-Some.is) c.plus-tally.ensures.count c.plus-tally.ensures.sum c.plus-tally.ensures.bounded;
    }

pub returns-clause-value : goal.returns-clause-value
returns-clause-value g c =
    let names = (object_of (g.H.Objects.heap c.args.heap.now) c.args.object).names in
    leaves-end c.loop-value.tally _ names c.loop-value.invariant.left (rest-end names c.loop-value.at c.name.result c.name.ensures.value c.in_default.is)
