use Rattle.std.proofs.Common.{◌≡◌, ◌≤◌, ◌*◌, ◌^◌, take}
use Rattle.jo_totals.specs.Totals.{all_objects, totals_in}
use Rattle.jo_totals.specs.inner.Parts.{AreBounded}
use Rattle.jo_totals.proofs.heap.totals.Given as goal

abbrev pub invariant-loop-pass : goal.invariant-loop-pass
invariant-loop-pass g l = record {
  few : l.totals.objects ≤ l.pass * 2 ^ 16;
  value : l.totals ≡ totals_in (all_objects (take l.pass (g.H.Objects.heap l.heap)));
  bounded : AreBounded l.totals;
}
