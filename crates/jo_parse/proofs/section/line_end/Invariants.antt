use Rattle.std.proofs.Common.{◌≤◌, ◌-◌, length}
use Rattle.jo_parse.proofs.Lines.{LacksFeedBelow}
use Rattle.jo_parse.proofs.section.line_end.Given as goal

abbrev pub invariant-loop-end : goal.invariant-loop-end
invariant-loop-end l = (l.end ≤ length l.input) × LacksFeedBelow l.input l.end

abbrev pub decreases-loop-end : goal.decreases-loop-end
decreases-loop-end l = length l.input - l.end
