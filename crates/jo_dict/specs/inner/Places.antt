-- Where things stand in a block, by its words alone.
use Rattle.std.specs.Prelude.{◌≡◌, ◌≢◌, ℕ, zero, suc, ◌+◌, ◌*◌, ◌^◌, ◌<◌, ◌≤◌, List, [], ◌∷◌, ◌++◌}
use Rattle.jo_value.specs.declared.capacities.TheConstants.{DICTIONARY_NAMES}
use Rattle.jo_value.specs.declared.value.NameId.{NameId}

-- where a name stands first among the pairs of a block, or how many there are where it does not
pub record IsPlaceOf (words : ℕ → ℕ) (names name place : ℕ) : Type 0 where
  pub to : place ≤ names
  pub before : (j : ℕ) → j < place → words (2 + 2 * j) ≢ name
  pub here : place < names → words (2 + 2 * place) ≡ name

-- a block has so many pairs, and a name stands there among them, or behind them where it is not there
pub record IsNamed (words : ℕ → ℕ) (name : NameId) (names place : ℕ) : Type 0 where
  pub count : words 1 ≡ names
  pub few : names ≤ DICTIONARY_NAMES
  pub at : IsPlaceOf words names name.0 place

-- the first `names` pairs have names
pub record AreNameWords (words : ℕ → ℕ) (names : ℕ) : Type 0 where
  pub small : (j : ℕ) → j < names → words (2 + 2 * j) < 2 ^ 16

-- the names of the first n pairs
abbrev pub names_in : (words : ℕ → ℕ) → ℕ → List NameId
names_in words zero = []
names_in words (suc n) = names_in words n ++ record { 0 = words (2 + 2 * n) } ∷ []

-- The words behind a pair that begins at word `start`, up to word `end`, were moved down by two.
pub record IsClosed (old : ℕ → ℕ) (start end : ℕ) (new : ℕ → ℕ) : Type 0 where
  pub before : (j : ℕ) → j < start → new j ≡ old j
  pub moved : (j : ℕ) → start ≤ j → j + 2 < end → new j ≡ old (j + 2)
  pub behind : (j : ℕ) → end ≤ j + 2 → start ≤ j → new j ≡ old j
