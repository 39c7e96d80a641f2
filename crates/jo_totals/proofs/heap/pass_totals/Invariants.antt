use Rattle.std.proofs.Common.{◌≡◌, take}
use Rattle.jo_model.specs.Heaps.{objects_of}
use Rattle.jo_totals.specs.Totals.{totals_in}
use Rattle.jo_totals.specs.inner.Parts.{AreBounded}
use Rattle.jo_totals.proofs.heap.pass_totals.Given as goal

abbrev pub invariant-loop-serial : goal.invariant-loop-serial
invariant-loop-serial g l = record {
  objects : l.totals.objects ≡ l.serial;
  value : l.totals ≡ totals_in (take l.serial (objects_of (g.H.Objects.heap l.heap) l.pass));
  bounded : AreBounded l.totals;
}
