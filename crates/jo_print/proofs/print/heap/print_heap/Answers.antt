use Rattle.std.proofs.Common.{refl, arith, []}
use Rattle.std.specs.List.{enumerate_from, flat_map}
use Rattle.jo_model.specs.Rendered.{object_line}
use Rattle.jo_io.proofs.Printed.{leaves-start, leaves-more}
use Rattle.jo_model.proofs.Rests.{numbered-rest}
use Rattle.jo_print.proofs.print.heap.print_heap.Goals as goal

pub loop-pass-init : goal.loop-pass-init
loop-pass-init g c = leaves-start _ _

pub loop-pass-preserved : goal.loop-pass-preserved
loop-pass-preserved g c =
    let heap = g.H.Objects.heap c.args.heap.now in
    leaves-more _ c.loop-pass.invariant c.print_objects.ensures
    (numbered-rest (λ p. flat_map (object_line c.args.texts.now p.0) (enumerate_from 0 p.1)) heap c.loop-pass.pass c.loop-pass.pass [] _ (omega (arith, c.loop-pass-test.true, c.passes-pass-end.ensures)) refl)
