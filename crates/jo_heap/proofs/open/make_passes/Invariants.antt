use Rattle.std.proofs.Common.{◌≡◌, ◌+◌, ◌≤◌, length}
use Rattle.std.specs.Prelude.{All}
use Rattle.std.specs.Vec.{vec_capacity}
use Rattle.jo_steps.specs.Views.{AreNoStamps}
use Rattle.jo_heap.proofs.Made.{AreMade}
use Rattle.jo_heap.proofs.open.make_passes.Given as goal

abbrev pub invariant-loop-own : goal.invariant-loop-own
invariant-loop-own l =
    AreMade l.fn.heap l.opened.items × (length l.opened.items + length l.stamps.items ≡ l.fn.heap.passes)
    × All (λ own. AreNoStamps own.items) l.stamps.items × (l.fn.heap.passes ≤ vec_capacity l.opened)

abbrev pub decreases-loop-own : goal.decreases-loop-own
decreases-loop-own l = length l.stamps.items
