use Rattle.std.proofs.Common.{sym, ◌∙◌}
use Rattle.jo_value.specs.declared.capacities.TheConstants.{ELEMENT_CAPACITIES}
use Rattle.jo_write.proofs.Capacities.{least_here, least_later}
use Rattle.jo_write.proofs.rooms.capacity_above.Goals as goal

pub returns-then-index-capacity-clause-least : goal.returns-then-index-capacity-clause-least
returns-then-index-capacity-clause-least c =
    sym (c.loop-capacity.invariant ∙ least_here ELEMENT_CAPACITIES c.loop-capacity.capacity-index c.args.index c.loop-capacity-test.true c.if-index-capacity.true)

pub loop-capacity-preserved : goal.loop-capacity-preserved
loop-capacity-preserved c =
    c.loop-capacity.invariant ∙ least_later ELEMENT_CAPACITIES c.loop-capacity.capacity-index c.args.index c.loop-capacity-test.true c.if-index-capacity.false
