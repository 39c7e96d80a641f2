use Rattle.std.proofs.Common.{drop}
use Rattle.std.specs.List.{flat_map}
use Rattle.jo_io.proofs.Printed.{Leaves}
use Rattle.jo_print.specs.inner.Fragments.{escaped}
use Rattle.jo_print.proofs.print.quoted.print_all_escaped.Given as goal

abbrev pub invariant-loop-byte : goal.invariant-loop-byte
invariant-loop-byte g l =
    Leaves g.K.Sink.held g.K.Sink.faults l.initial.printer l.printer (flat_map escaped (drop l.byte-index l.text)) (flat_map escaped l.text)
