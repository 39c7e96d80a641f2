use Rattle.std.proofs.Common.{◌≡◌, drop}
use Rattle.jo_value.specs.declared.capacities.TheConstants.{ELEMENT_CAPACITIES}
use Rattle.jo_write.specs.Answers.{least_above}
use Rattle.jo_write.proofs.rooms.capacity_above.Given as goal

abbrev pub invariant-loop-capacity : goal.invariant-loop-capacity
invariant-loop-capacity l = least_above ELEMENT_CAPACITIES l.index ≡ least_above (drop l.capacity-index l.capacity-items) l.index
