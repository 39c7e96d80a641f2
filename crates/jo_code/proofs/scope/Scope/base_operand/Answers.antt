use Rattle.std.proofs.Common.{arith}
use Rattle.jo_parse_tree.specs.Views.{primary_tree}
use Rattle.jo_code.proofs.Accessed.{base_operand-at}
use Rattle.jo_code.proofs.scope.Scope.base_operand.Goals as goal

pub returns-in-len1-up : goal.returns-in-len1-up
returns-in-len1-up c =
    cc (
      base_operand-at c.args.self.now c.args.late (primary_tree c.args.base.now) c.args.accesses.now c.first-item.result (omega (arith, c.in-len1-up.len_at_least)) c.first-item.is,
      c.first_late-late.ensures,
      c.access_reading.ensures,
      c.late_of.ensures,
      c.both_late-late.ensures,
      c.primary_reading.ensures,
      c.operand_in.ensures,
      c.held.ensures,
    )
