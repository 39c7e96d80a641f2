-- What the calls on blocks of dictionaries say.
use Rattle.std.specs.Prelude.{◌≡◌, ◌⊎◌, ℕ, ◌+◌, ◌<◌, ◌≤◌, true, false, length, Some}
use Rattle.jo_value.specs.declared.capacities.TheConstants.{DICTIONARY_NAMES}
use Rattle.jo_value.specs.declared.limits.TheConstants.{MOST_STORAGE}
use Rattle.jo_value.specs.declared.value.Key.{Key}
use Rattle.jo_value.specs.declared.value.Key.TheVariants.{Name, Index}
use Rattle.jo_model.specs.declared.call.Spent.{Spent}
use Rattle.jo_model.specs.Objects.{Object, has_property, is_full_for}
use Rattle.jo_rule.specs.Views.{View, word_in}
use Rattle.jo_rule.specs.Dictionaries.{block_size}
use Rattle.jo_rule.specs.Owned.{address_of}
use Rattle.jo_rule.specs.Steps.{IsFilled}
use Rattle.jo_steps.specs.Holding.{lock_of}
use Rattle.jo_dict.specs.declared.place.Place.{Place}
use Rattle.jo_dict.specs.declared.place.Place.TheVariants.{At, Beyond, NoMoreNames}

-- only counts differ
abbrev pub OnlyCounts : View → View → Type 0
OnlyCounts v u = u ≡ record v { counts = u.counts }

-- only counts and the own storage differ
abbrev pub OnlyStorage : View → View → Type 0
OnlyStorage v u = u ≡ record v { storage = u.storage; counts = u.counts }

-- only counts and the words of the block differ whose lock is held
abbrev pub OnlyBlock : View → View → Type 0
OnlyBlock v u = u ≡ record v { lock = Some (record (lock_of v) { block = (lock_of u).block }); counts = u.counts }

-- A block was made in the own storage, behind what was used, with room for `room` elements. It has the properties
-- of an object, and no cell names it. The storage used has risen by the words of the block, and those used before
-- are as they were.
pub record IsMade (v u : View) (room : ℕ) (z : Object) (address : ℕ) : Type 0 where
  pub fits : v.storage.used + block_size room ≤ MOST_STORAGE
  pub here : address ≡ address_of v.number v.storage.used
  pub used : u.storage.used ≡ v.storage.used + block_size room
  pub named : u.storage.named ≡ v.storage.named
  pub filled : IsFilled u.storage v.storage.used room z
  pub others : (j : ℕ) → j < v.storage.used → word_in u.storage.fresh j ≡ word_in v.storage.fresh j
  pub only : OnlyStorage v u

-- the storage does not suffice for a block with room for `room` elements
pub record IsTooMuch (v : View) (room : ℕ) (spent : Spent) : Type 0 where
  pub used : spent.used ≡ v.storage.used
  pub need : spent.need ≡ block_size room
  pub over : MOST_STORAGE < v.storage.used + block_size room

-- the key is there, or there is room for it
abbrev pub HasRoomFor : (room : ℕ) → Object → Key → Type 0
HasRoomFor room z (Name name) = (has_property z (Name name) ≡ true) ⊎ (length z.names < DICTIONARY_NAMES)
HasRoomFor room z (Index index) = index < room

-- what is found of the room for a key, in a block with so much room which has the properties of an object
abbrev pub IsRoomFor : (room : ℕ) → Object → Key → Place → Type 0
IsRoomFor room z key (At spot) = HasRoomFor room z key
IsRoomFor room z key NoMoreNames = (has_property z key ≡ false) × (is_full_for z key ≡ true)
IsRoomFor room z key (Beyond index) = (key ≡ Index index) × (room ≤ index)

-- the name is not there, and there is room for it, or there is room for the index
abbrev pub MayAppend : (room : ℕ) → Object → Key → Type 0
MayAppend room z (Name name) = (has_property z (Name name) ≡ false) × (length z.names < DICTIONARY_NAMES)
MayAppend room z (Index index) = index < room

-- at this address of the own storage is a block with the properties of some object, which no cell names, with room for this
-- key, which is not there where it is a name
pub record HasBlockToFill (v : View) (address : ℕ) (key : Key) : Type 0 where
  pub at : ℕ
  pub elements : ℕ
  pub object : Object
  pub here : address ≡ address_of v.number at
  pub filled : IsFilled v.storage at elements object
  pub room : MayAppend elements object key
