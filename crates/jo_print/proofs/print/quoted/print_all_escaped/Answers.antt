use Rattle.std.proofs.Common.{refl}
use Rattle.jo_io.proofs.Printed.{leaves-more}
use Rattle.jo_model.proofs.Rests.{flat_map-rest}
use Rattle.jo_print.specs.inner.Fragments.{escaped}
use Rattle.jo_print.proofs.print.quoted.print_all_escaped.Goals as goal

pub loop-byte-preserved : goal.loop-byte-preserved
loop-byte-preserved g c = leaves-more _ c.loop-byte.invariant c.print_escaped.ensures (flat_map-rest escaped c.args.text.now c.loop-byte.byte-index 0 _ c.loop-byte-test.true refl)
