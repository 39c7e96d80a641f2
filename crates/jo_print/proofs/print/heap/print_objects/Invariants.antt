use Rattle.std.proofs.Common.{drop}
use Rattle.std.specs.List.{enumerate_from, flat_map}
use Rattle.jo_model.specs.Heaps.{objects_of}
use Rattle.jo_model.specs.Rendered.{object_line}
use Rattle.jo_io.proofs.Printed.{Leaves}
use Rattle.jo_print.proofs.print.heap.print_objects.Given as goal

abbrev pub invariant-loop-serial : goal.invariant-loop-serial
invariant-loop-serial g l =
    let objects = objects_of (g.H.Objects.heap l.heap) l.pass in Leaves g.K.Sink.held g.K.Sink.faults l.initial.printer l.printer
    (flat_map (object_line l.texts l.pass) (enumerate_from l.serial (drop l.serial objects))) (flat_map (object_line l.texts l.pass) (enumerate_from 0 objects))
