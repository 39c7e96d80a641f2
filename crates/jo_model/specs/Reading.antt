-- How the elements of an object are read in rising order.
use Rattle.std.specs.Prelude.{ℕ, nat_le, List}
use Rattle.std.specs.List.{position_or_len}
use Rattle.jo_value.specs.declared.value.Value.{Value}

-- the place of the first index that is not below this number, or how many there are where there is none
abbrev pub place_from : ℕ → List (ℕ × Value) → ℕ
place_from low elements = position_or_len (λ p. nat_le low p.0) elements
