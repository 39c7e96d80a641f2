use Rattle.std.proofs.Common.{◌++◌, arith, length-append, length-take}
use Rattle.std.proofs.KnownBytes.{Consumes-trans}
use Rattle.jo_io.proofs.reading.read_all.Goals as goal

pub returns-in_err-read_some-clause-bound : goal.returns-in_err-read_some-clause-bound
returns-in_err-read_some-clause-bound g c =
    let before = c.loop-buffer.bytes.items in
    let taken = c.read_some.ensures.bound in
    (before ++ taken.0, Consumes-trans _ _ _ before taken.0 c.loop-buffer.invariant.read taken.1, omega (arith, taken.2, length-append before taken.0, length-take c.min-most.result c.loop-buffer.buffer, c.min-most.ensures, c.len-in-loop-buffer.ensures))
