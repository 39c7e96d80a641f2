use Rattle.std.proofs.Common.{◌+◌}
use Rattle.jo_io.proofs.Printed.{leaves-start, leaves-more}
use Rattle.jo_model.proofs.Rests.{numbered-rest}
use Rattle.jo_answer.specs.Texts.{part_bytes}
use Rattle.jo_answer.proofs.text.print_scripts.Goals as goal

pub loop-before-init : goal.loop-before-init
loop-before-init g c = leaves-start _ _

pub loop-before-preserved : goal.loop-before-preserved
loop-before-preserved g c =
    let before = c.loop-before.before in
    let read = c.index-scripts-before in
    leaves-more _ c.loop-before.invariant c.print_part.ensures
    (numbered-rest (part_bytes c.args.counted) c.args.scripts.now (before + 1) before read.result read.result c.loop-before-test.true read.is)
