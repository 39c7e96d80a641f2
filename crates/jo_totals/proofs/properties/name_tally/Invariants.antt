use Rattle.std.proofs.Common.{◌≤◌, ◌-◌, drop}
use Rattle.jo_model.specs.Heaps.{object_of}
use Rattle.jo_totals.proofs.Parts.{Leaves}
use Rattle.jo_totals.proofs.properties.name_tally.Given as goal

abbrev pub invariant-loop-value : goal.invariant-loop-value
invariant-loop-value g l = record {
  within : l.at ≤ 64;
  count : l.tally.count ≤ l.at;
  left : let names = (object_of (g.H.Objects.heap l.heap) l.object).names in Leaves l.tally (drop l.at names) names;
}

abbrev pub decreases-loop-value : goal.decreases-loop-value
decreases-loop-value g l = 64 - l.at
