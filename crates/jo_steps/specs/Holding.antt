-- The lock that a pass holds, and the words that are its own.
use Rattle.std.specs.Prelude.{◌≡◌, ◌⊎◌, ℕ, ◌+◌, ◌*◌, ◌<◌, ◌≤◌, true, false, [], length, slice_index, Option, Some, None}
use Rattle.jo_value.specs.declared.limits.TheConstants.{MOST_INDEX, MOST_STORAGE}
use Rattle.jo_value.specs.declared.words.cell.Kind.TheVariants.{Dictionary}
use Rattle.jo_value.specs.Words.{IsCell, cell_bits}
use Rattle.jo_model.specs.Objects.{Object, empty_object}
use Rattle.jo_model.specs.WellFormed.{IsWellFormed}
use Rattle.jo_rule.specs.Names.{word_at, is_object, cell, storage}
use Rattle.jo_rule.specs.Views.{View, Lock}
use Rattle.jo_rule.specs.Dictionaries.{block_size, dictionary_header, HasProperties}
use Rattle.jo_rule.specs.Contents.{HasWords}
use Rattle.jo_rule.specs.Owned.{address_of}
use Rattle.jo_rule.specs.Steps.{locked_cell, born_cell, MayBear}
use Rattle.jo_value.specs.declared.value.ObjId.{ObjId}
use Rattle.jo_steps.specs.Views.{HeapView, HeldView, IsPassOf, PassView}

-- the lock of no object, for a view that holds none
abbrev pub no_lock : Lock
no_lock = record {
  object = record { pass = 0; serial = 0 };
  cell = born_cell 0 0;
  found = Dictionary;
  settled = false;
  content = empty_object;
  room = 0;
  block = [];
  opened = None;
  since = 0;
}

abbrev pub lock_or : Option Lock → Lock
lock_or (Some g) = g
lock_or None = no_lock

-- the lock that a view holds
abbrev pub lock_of : View → Lock
lock_of v = lock_or v.lock

-- The view holds the lock of a dictionary, and this is the token of it. Its cell and its block lie in the table, and the block
-- has its header.
pub record HoldsLock (passes : ℕ) (v : View) (held : HeldView) : Type 0 where
  pub lock : v.lock ≡ Some (lock_of v)
  pub object : (lock_of v).object ≡ held.object
  pub cell : (lock_of v).cell ≡ locked_cell held.cell
  pub is_cell : IsCell held.cell
  pub kind : held.cell.kind ≡ Dictionary
  pub free : held.cell.locked ≡ false
  pub size : length (lock_of v).block ≡ block_size (lock_of v).room
  pub capacity : (lock_of v).room ≤ MOST_INDEX + 1
  pub header : slice_index (lock_of v).block 0 ≡ dictionary_header (lock_of v).room
  pub inside : held.cell.address + block_size (lock_of v).room ≤ MOST_STORAGE * passes
  pub there : is_object passes held.object ≡ true

-- a pass of the heap holds the lock
pub record HasLock (h : HeapView) (p : PassView) (held : HeldView) : Type 0 where
  pub pass : IsPassOf h p
  pub lock : HoldsLock h.passes p.view held

-- the words of the block have the properties of a well-formed object
pub record HasBlockOf (v : View) (z : Object) : Type 0 where
  pub properties : HasProperties (slice_index (lock_of v).block) (lock_of v).room z
  pub words : HasWords z
  pub formed : IsWellFormed z

-- word k of the block whose lock the view holds, which lies in the table, has this number
pub record IsHeldAt (passes : ℕ) (v : View) (k at : ℕ) : Type 0 where
  pub lock : v.lock ≡ Some (lock_of v)
  pub kind : (lock_of v).cell.kind ≡ Dictionary
  pub within : k < block_size (lock_of v).room
  pub inside : (lock_of v).cell.address + k < MOST_STORAGE * passes
  pub number : at ≡ word_at passes (storage ((lock_of v).cell.address + k))

-- word k of the own storage, which no cell has named, has this number
pub record IsFreshAt (passes : ℕ) (v : View) (k at : ℕ) : Type 0 where
  pub nameless : v.storage.named ≤ k
  pub within : k < MOST_STORAGE
  pub number : at ≡ word_at passes (storage (address_of v.number k))

-- the next object of a pass
abbrev pub next_object : View → ObjId
next_object v = record { pass = v.number; serial = v.births.objects }

-- the cell word of the next object has this number, and the word is that of a new dictionary with a block that was filled
pub record IsBirthAt (passes : ℕ) (v : View) (k room at word : ℕ) : Type 0 where
  pub may : MayBear v k room
  pub number : at ≡ word_at passes (cell (next_object v))
  pub is_word : word ≡ cell_bits (born_cell v.number (address_of v.number k))

-- a word that no other pass may change
abbrev pub MayLoadOwn : ℕ → View → ℕ → Type 0
MayLoadOwn passes v at = ((k : ℕ) × IsFreshAt passes v k at) ⊎ ((k : ℕ) × IsHeldAt passes v k at)

-- a word may be stored there: fresh, held but for its header, or a birth
abbrev pub MayStoreOwn : ℕ → View → ℕ → ℕ → Type 0
MayStoreOwn passes v at word =
    ((k : ℕ) × IsFreshAt passes v k at) ⊎ ((k : ℕ) × (0 < k) × IsHeldAt passes v k at) ⊎ ((k : ℕ) × (room : ℕ) × IsBirthAt passes v k room at word)
