use Rattle.std.proofs.Common.{◌<◌, length, arith, ap}
use Rattle.jo_totals.proofs.Parts.{totals-next}
use Rattle.jo_totals.proofs.heap.totals.Goals as goal

pub loop-pass-preserved : goal.loop-pass-preserved
loop-pass-preserved g c =
    let heap = g.H.Objects.heap c.args.heap.now in
    let pass = c.loop-pass.pass in
    let within : pass < length heap = omega (arith, c.loop-pass-test.true, c.passes-pass-end.ensures) in record {
      few = omega (arith, ap (λ t. t.objects) c.plus-totals.ensures.value, c.loop-pass.invariant.few, c.pass_totals.ensures.few);
      value = totals-next heap pass c.loop-pass.totals c.pass_totals.result c.plus-totals.result within c.loop-pass.invariant.value c.pass_totals.ensures.value c.plus-totals.ensures.value;
      bounded = c.plus-totals.ensures.bounded;
    }
