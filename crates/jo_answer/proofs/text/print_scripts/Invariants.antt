use Rattle.std.proofs.Common.{◌+◌, drop}
use Rattle.std.specs.List.{enumerate_from, flat_map}
use Rattle.jo_io.proofs.Printed.{Leaves}
use Rattle.jo_answer.specs.Texts.{part_bytes}
use Rattle.jo_answer.proofs.text.print_scripts.Given as goal

abbrev pub invariant-loop-before : goal.invariant-loop-before
invariant-loop-before g l =
    let part = part_bytes l.counted in
    Leaves g.K.Sink.held g.K.Sink.faults l.initial.printer l.printer
    (flat_map part (enumerate_from (l.before + 1) (drop l.before l.scripts))) (flat_map part (enumerate_from 1 l.scripts))
