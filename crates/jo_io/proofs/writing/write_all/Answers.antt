use Rattle.std.proofs.Common.{length, ap, ◌∙◌, arith, length-drop}
use Rattle.std.proofs.Math.Seq.{take-add}
use Rattle.std.proofs.lemmas.List.{take_rest}
use Rattle.std.proofs.KnownBytes.{Appends-trans}
use Rattle.jo_io.proofs.writing.write_all.Goals as goal

pub loop-done-preserved : goal.loop-done-preserved
loop-done-preserved g c =
    let bytes = c.args.bytes.now in
    let all = take_rest bytes c.loop-done.done in
    record {
      within = omega (arith, c.in_ok-done.ensures.bound, length-drop c.loop-done.done bytes, ap length all);
      written = rw (take-add c.loop-done.done c.in_ok-done.field-0 bytes) (Appends-trans _ _ _ _ _ c.loop-done.invariant.written (rw all at c.in_ok-done.ensures.bytes));
      same = c.in_ok-done.ensures.cause.same ∙ c.loop-done.invariant.same;
    }
