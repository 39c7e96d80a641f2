use Rattle.std.proofs.Common.{drop}
use Rattle.std.specs.List.{enumerate_from, flat_map}
use Rattle.jo_model.specs.Rendered.{object_line, heap_bytes}
use Rattle.jo_io.proofs.Printed.{Leaves}
use Rattle.jo_print.proofs.print.heap.print_heap.Given as goal

abbrev pub invariant-loop-pass : goal.invariant-loop-pass
invariant-loop-pass g l =
    let heap = g.H.Objects.heap l.heap in Leaves g.K.Sink.held g.K.Sink.faults l.initial.printer l.printer
    (flat_map (λ p. flat_map (object_line l.texts p.0) (enumerate_from 0 p.1)) (enumerate_from l.pass (drop l.pass heap))) (heap_bytes l.texts heap)
