use Rattle.std.proofs.Common.{◌≤◌, ◌-◌, map, drop}
use Rattle.jo_model.specs.Heaps.{object_of}
use Rattle.jo_model.specs.Rendered.{name_bytes}
use Rattle.jo_io.proofs.Printed.{Leaves}
use Rattle.jo_print.specs.inner.Series.{series}
use Rattle.jo_print.proofs.print.properties.print_names.Given as goal

abbrev pub invariant-loop-name : goal.invariant-loop-name
invariant-loop-name g l = record {
  within : l.at ≤ 64;
  left : let names = (object_of (g.H.Objects.heap l.heap) l.object).names in Leaves g.K.Sink.held g.K.Sink.faults l.initial.printer l.printer
      (series l.is_first (map (name_bytes l.texts) (drop l.at names))) (series l.fn.is_first (map (name_bytes l.texts) names));
}

abbrev pub decreases-loop-name : goal.decreases-loop-name
decreases-loop-name g l = 64 - l.at
