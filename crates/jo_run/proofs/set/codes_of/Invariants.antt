use Rattle.std.proofs.Common.{◌≡◌, ◌≤◌, length}
use Rattle.std.specs.Vec.{vec_capacity}
use Rattle.jo_parse.specs.Parsed.{trees_of}
use Rattle.jo_run.specs.inner.Begun.{Beside, IsCodeOf}
use Rattle.jo_run.proofs.set.codes_of.Given as goal

abbrev pub invariant-loop-at : goal.invariant-loop-at
invariant-loop-at l =
    (length l.codes.items ≡ l.at) × Beside (IsCodeOf l.set.1) (trees_of l.set) l.codes.items × (length l.set.0 ≤ vec_capacity l.codes)
