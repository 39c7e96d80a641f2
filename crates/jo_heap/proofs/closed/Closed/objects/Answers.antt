use Rattle.std.proofs.Common.{◌∙◌, sym, arith}
use Rattle.jo_heap.proofs.Written.{all_made, one_more_made, few_made}
use Rattle.jo_heap.proofs.closed.Closed.objects.Goals as goal

pub returns-then-cell-eq0 : goal.returns-then-cell-eq0
returns-then-cell-eq0 c =
    all_made c.self.inside.words c.args.self.now c.self.view_is c.self.invariant c.args.pass c.loop-serial.serial c.loop-serial.invariant (sym c.cell.ensures ∙ c.if-cell-eq0.true)

pub loop-serial-preserved : goal.loop-serial-preserved
loop-serial-preserved c =
    one_more_made c.self.inside.words c.args.self.now c.self.view_is c.self.invariant c.args.pass c.loop-serial.serial c.loop-serial.invariant (λ e. c.if-cell-eq0.false (c.cell.ensures ∙ e))

pub returns : goal.returns
returns c =
    let few = few_made c.self.inside.words c.args.self.now c.self.view_is c.self.invariant c.args.pass in
    let so_far = c.loop-serial.invariant in omega (arith, few, so_far)
