use Rattle.std.proofs.Common.{◌≤◌, ◌-◌, ◌^◌, drop}
use Rattle.jo_model.specs.Heaps.{object_of}
use Rattle.jo_model.specs.Reading.{place_from}
use Rattle.jo_totals.proofs.Parts.{Leaves}
use Rattle.jo_totals.proofs.properties.element_tally.Given as goal

abbrev pub invariant-loop-index : goal.invariant-loop-index
invariant-loop-index g l = record {
  within : l.low ≤ 2 ^ 16;
  count : l.tally.count ≤ l.low;
  left : let elements = (object_of (g.H.Objects.heap l.heap) l.object).elements in Leaves l.tally (drop (place_from l.low elements) elements) elements;
}

abbrev pub decreases-loop-index : goal.decreases-loop-index
decreases-loop-index g l = 2 ^ 16 - l.low
