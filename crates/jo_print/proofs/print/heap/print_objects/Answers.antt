use Rattle.std.proofs.Common.{refl, arith}
use Rattle.jo_model.specs.Heaps.{objects_of}
use Rattle.jo_model.specs.Objects.{empty_object}
use Rattle.jo_model.specs.Rendered.{object_line}
use Rattle.jo_io.proofs.Printed.{leaves-start, leaves-more}
use Rattle.jo_model.proofs.Rests.{numbered-rest}
use Rattle.jo_print.proofs.print.heap.print_objects.Goals as goal

pub loop-serial-init : goal.loop-serial-init
loop-serial-init g c = leaves-start _ _

pub loop-serial-preserved : goal.loop-serial-preserved
loop-serial-preserved g c =
    let heap = g.H.Objects.heap c.args.heap.now in
    let objects = objects_of heap c.args.pass in
    leaves-more _ c.loop-serial.invariant c.print_object_line.ensures (numbered-rest (object_line c.args.texts.now c.args.pass) objects c.loop-serial.serial c.loop-serial.serial empty_object _ (omega (arith, c.loop-serial-test.true, c.objects-serial-end.ensures)) refl)
