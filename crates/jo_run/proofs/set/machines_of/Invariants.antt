use Rattle.std.proofs.Common.{◌≡◌, ◌≤◌, length}
use Rattle.std.specs.Vec.{vec_capacity}
use Rattle.jo_run.specs.inner.Begun.{Beside, IsAtCode}
use Rattle.jo_run.proofs.set.machines_of.Given as goal

abbrev pub invariant-loop-code : goal.invariant-loop-code
invariant-loop-code l =
    (length l.machines.items ≡ l.code-index) × Beside (IsAtCode l.texts l.turns) l.codes l.machines.items × (length l.codes ≤ vec_capacity l.machines)
