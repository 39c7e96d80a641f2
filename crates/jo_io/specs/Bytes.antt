-- What was read and what was written, where the bytes are known.
use Rattle.std.specs.Prelude.{◌≡◌, ℕ, ◌<◌, ◌≤◌, List, ◌++◌, length, take, Option}
use Rattle.std.specs.Io.KnownBytes.{Consumes, IsAtEnd, Appends}

-- known bytes lose some bytes at the front, at most `most`
abbrev pub ConsumesAtMost : Option (List ℕ) → Option (List ℕ) → ℕ → Type 0
ConsumesAtMost old new most = (bytes : List ℕ) × Consumes old new bytes × (length bytes ≤ most)

-- one read of n bytes into room for `room`: they go after others, and none come only at the end or with no room
pub record ReadsMore (old new : Option (List ℕ)) (room n : ℕ) (before after : List ℕ) : Type 0 where
  pub bytes : List ℕ
  pub consumed : Consumes old new bytes
  pub appended : after ≡ before ++ bytes
  pub count : length bytes ≡ n
  pub within : n ≤ room
  pub ended : n ≡ 0 → 0 < room → IsAtEnd new

-- known bytes grow by the first of these, perhaps by none and never by all
abbrev pub AppendsPart : Option (List ℕ) → Option (List ℕ) → List ℕ → Type 0
AppendsPart old new bytes = (n : ℕ) × Appends old new (take n bytes) × (n < length bytes)
