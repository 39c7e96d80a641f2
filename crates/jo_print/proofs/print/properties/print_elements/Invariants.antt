use Rattle.std.proofs.Common.{◌-◌, ◌^◌, codes, map, drop}
use Rattle.jo_model.specs.Heaps.{object_of}
use Rattle.jo_model.specs.Printed.{joined}
use Rattle.jo_model.specs.Reading.{place_from}
use Rattle.jo_model.specs.Rendered.{element_bytes}
use Rattle.jo_io.proofs.Printed.{Leaves}
use Rattle.jo_print.specs.inner.Series.{series}
use Rattle.jo_print.proofs.print.properties.print_elements.Given as goal

abbrev pub invariant-loop-index : goal.invariant-loop-index
invariant-loop-index g l =
    let elements = (object_of (g.H.Objects.heap l.heap) l.object).elements in Leaves g.K.Sink.held g.K.Sink.faults l.initial.printer l.printer
    (series l.is_first (map (element_bytes l.texts) (drop (place_from l.low elements) elements))) (joined (codes ", ") (map (element_bytes l.texts) elements))

abbrev pub decreases-loop-index : goal.decreases-loop-index
decreases-loop-index g l = 2 ^ 32 - l.low
