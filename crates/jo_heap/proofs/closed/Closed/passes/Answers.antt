use Rattle.std.proofs.Common.{◌∙◌}
use Rattle.jo_heap.proofs.Written.{lists_left}
use Rattle.jo_heap.proofs.closed.Closed.passes.Goals as goal

pub returns-clause-left : goal.returns-clause-left
returns-clause-left c =
    c.passes.ensures ∙ lists_left c.self.inside.words c.args.self.now c.self.view_is c.self.invariant
