use Rattle.std.proofs.Common.{◌≤◌, ◌-◌, ◌++◌, true, codes, decimal, drop, length}
use Rattle.jo_model.specs.Rendered.{headed}
use Rattle.jo_io.proofs.Printed.{Leaves}
use Rattle.jo_print.proofs.print.run.print_lines.Given as goal

abbrev pub invariant-loop-done : goal.invariant-loop-done
invariant-loop-done g l = record {
  within : l.done ≤ length l.lines;
  left : Leaves g.K.Sink.held g.K.Sink.faults l.initial.printer l.printer
      (headed (decimal l.pass ++ codes "| ") true (drop l.done l.lines)) (headed (decimal l.pass ++ codes "| ") true l.lines);
}

abbrev pub decreases-loop-done : goal.decreases-loop-done
decreases-loop-done g l = length l.lines - l.done
