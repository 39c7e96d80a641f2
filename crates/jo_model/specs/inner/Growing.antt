-- What a pass keeps of its placed calls while the log grows.
use Rattle.std.specs.Prelude.{ℕ, ◌≤◌, List, [], ◌∷◌, length, All}
use Rattle.jo_model.specs.Logs.{Log}
use Rattle.jo_model.specs.Placed.{PlacedCall, end_of}

-- no place is past the end of the log
abbrev pub AreWithin : {M : Type 0} → Log M → List PlacedCall → Type 0
AreWithin log calls = All (λ p. p.place ≤ length log) calls

-- the calls of a pass stand in its own order, and the next one may stand at `most`
abbrev pub IsOwnOrderTo : {M : Type 0} → ℕ → Log M → ℕ → List PlacedCall → ℕ → Type 0
IsOwnOrderTo passes log least [] most = least ≤ most
IsOwnOrderTo passes log least (p ∷ calls) most = (least ≤ p.place) × IsOwnOrderTo passes log (end_of passes log p) calls most
