use Rattle.std.proofs.Common.{◌<◌, length, arith, ap, ◌∙◌}
use Rattle.jo_model.specs.Heaps.{objects_of}
use Rattle.jo_totals.proofs.Parts.{totals-more}
use Rattle.jo_totals.proofs.heap.pass_totals.Goals as goal

pub loop-serial-preserved : goal.loop-serial-preserved
loop-serial-preserved g c =
    let objects = objects_of (g.H.Objects.heap c.args.heap.now) c.args.pass in
    let serial = c.loop-serial.serial in
    let within : serial < length objects = omega (arith, c.loop-serial-test.true, c.objects-serial-end.ensures) in record {
      objects = ap (λ t. t.objects) c.plus-totals.ensures.value
          ∙ omega (arith, c.loop-serial.invariant.objects, ap (λ t. t.objects) c.object_totals.ensures.value);
      value = totals-more objects serial c.loop-serial.totals c.object_totals.result c.plus-totals.result within c.loop-serial.invariant.value c.object_totals.ensures.value c.plus-totals.ensures.value;
      bounded = c.plus-totals.ensures.bounded;
    }
