use Rattle.std.proofs.Common.{arith, length, ◌-◌, suc, ◌≡◌}
use Rattle.jo_code.specs.declared.instruction.Operand.TheVariants as operand
use Rattle.jo_code.proofs.Accessed.{last_key-at}
use Rattle.jo_code.proofs.scope.Scope.last_key.Goals as goal

pub returns : goal.returns
returns c =
    let xs = c.args.accesses.now in
    let long : length xs ≡ suc (length xs - 1) = omega (arith, c.if-count-eq0.false) in
    cc (
      last_key-at c.args.self.now c.args.late operand.Top xs c.index-accesses-count.result (length xs - 1) long c.index-accesses-count.is,
      c.access_reading.ensures,
      c.operand_in.ensures,
      c.held.ensures,
    )
