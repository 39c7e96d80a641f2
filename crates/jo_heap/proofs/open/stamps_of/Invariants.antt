use Rattle.std.proofs.Common.{◌≡◌, ◌≤◌, length}
use Rattle.std.specs.Prelude.{All}
use Rattle.std.specs.Vec.{vec_capacity}
use Rattle.jo_steps.specs.Views.{AreNoStamps}
use Rattle.jo_heap.proofs.open.stamps_of.Given as goal

abbrev pub invariant-loop : goal.invariant-loop
invariant-loop l = (length l.stamps.items ≡ l.counter) × All (λ own. AreNoStamps own.items) l.stamps.items × (l.fn.count ≤ vec_capacity l.stamps)
