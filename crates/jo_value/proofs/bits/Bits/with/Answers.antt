use Rattle.std.proofs.Common.{arith}
use Rattle.std.proofs.lemmas.Nat.{shl_whole}
use Rattle.jo_value.proofs.bits.Bits.with.Goals as goal

pub overflow_shl-result : goal.overflow_shl-result
overflow_shl-result c =
    let some = c.requires.inside.0 in
    let inside = c.requires.inside.2 in
    omega arith

pub returns : goal.returns
returns c =
    shl_whole c.args.number c.args.self.width c.args.self.place 64 c.requires.fits (let inside = c.requires.inside.2 in omega arith)
