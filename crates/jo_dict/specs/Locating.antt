-- That a place is that of a key. `locate` says it of the place that it finds, and calls that take a place ask for it.
use Rattle.std.specs.Prelude.{◌≡◌, ℕ, ◌<◌, ◌≤◌}
use Rattle.jo_value.specs.declared.capacities.TheConstants.{DICTIONARY_NAMES}
use Rattle.jo_value.specs.declared.value.Key.{Key}
use Rattle.jo_value.specs.declared.value.Key.TheVariants.{Name, Index}
use Rattle.jo_rule.specs.Views.{View}
use Rattle.jo_steps.specs.Holding.{lock_of}
use Rattle.jo_dict.specs.declared.place.Place.{Place}
use Rattle.jo_dict.specs.declared.place.Place.TheVariants.{At, Beyond, NoMoreNames}
use Rattle.jo_dict.specs.declared.place.Spot.{Spot}
use Rattle.jo_dict.specs.declared.place.Spot.TheVariants.{Element, End, Pair}
use Rattle.jo_dict.specs.inner.Places.{IsNamed}
use Rattle.jo_dict.specs.inner.Stored.{held_words}

-- a spot of a block, by its words and its room, is that of a key
abbrev pub IsSpotIn : (words : ℕ → ℕ) (room : ℕ) → Key → Spot → Type 0
IsSpotIn words room (Name name) (Pair at names) = IsNamed words name names at × (at < names)
IsSpotIn words room (Name name) (End new names) = (new ≡ name) × IsNamed words name names names × (names < DICTIONARY_NAMES)
IsSpotIn words room (Name name) (Element i) = ⊥
IsSpotIn words room (Index index) (Pair at names) = ⊥
IsSpotIn words room (Index index) (End new names) = ⊥
IsSpotIn words room (Index index) (Element i) = (i ≡ index) × (index < room)

abbrev pub IsLocatedIn : (words : ℕ → ℕ) (room : ℕ) → Key → Place → Type 0
IsLocatedIn words room key (At spot) = IsSpotIn words room key spot
IsLocatedIn words room (Name name) NoMoreNames = IsNamed words name DICTIONARY_NAMES DICTIONARY_NAMES
IsLocatedIn words room (Index index) NoMoreNames = ⊥
IsLocatedIn words room (Name name) (Beyond i) = ⊥
IsLocatedIn words room (Index index) (Beyond i) = (i ≡ index) × (room ≤ index)

-- the same of the block whose lock a view holds
abbrev pub IsSpot : View → Key → Spot → Type 0
IsSpot v = IsSpotIn (held_words v) (lock_of v).room

abbrev pub IsLocated : View → Key → Place → Type 0
IsLocated v = IsLocatedIn (held_words v) (lock_of v).room
