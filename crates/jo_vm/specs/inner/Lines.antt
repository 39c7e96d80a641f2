-- Printed lines in a buffer that does not grow.
use Rattle.std.specs.Prelude.{◌≡◌, ℕ, ◌+◌, ◌<◌, Bool, true, false, List, ◌++◌, length}
use Rattle.jo_value.specs.declared.limits.TheConstants.{MOST_LINE_BYTES}

-- The bytes get a piece at their end, where there is room for it, and that is done. Where there is not, they keep what they had, and some of the piece may follow.
pub record Adds (old new piece : List ℕ) (done : Bool) : Type 0 where
  pub whole : done ≡ true → new ≡ old ++ piece
  pub full : done ≡ false → MOST_LINE_BYTES < length old + length piece
  pub kept : (more : List ℕ) × (new ≡ old ++ more)
