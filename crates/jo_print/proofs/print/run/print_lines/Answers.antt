use Rattle.std.proofs.Common.{◌++◌, codes, decimal}
use Rattle.std.proofs.lemmas.List.{take_rest}
use Rattle.jo_io.proofs.Printed.{leaves-more}
use Rattle.jo_print.proofs.FirstLine.{line-within, headed-next}
use Rattle.jo_print.proofs.print.run.print_lines.Goals as goal

pub loop-done-preserved : goal.loop-done-preserved
loop-done-preserved g c =
    let lines = c.args.lines.now in
    let is = rw (take_rest lines c.loop-done.done) at c.first_line-line.ensures in
    let within = c.loop-done-test.true in record {
      within = line-within lines c.first_line-line.result.now c.loop-done.done within is;
      left = leaves-more _ c.loop-done.invariant.left c.print_line.ensures (headed-next lines c.first_line-line.result.now c.loop-done.done within is (decimal c.args.pass ++ codes "| "));
    }
