-- What the words of cells, and those of values and blocks, stand for.
pub use Rattle.jo_rule.specs.Roots.{root_of}
pub use Rattle.jo_rule.specs.Roles.{Role, unnamed, fixed, value, dictionary, Grows}
use Rattle.std.specs.Prelude.{◌≡◌, ◌≢◌, ℕ, ◌+◌, ◌*◌, ◌<◌, ◌≤◌, Bool, true, false, nat_lt, length, All, map, Option, Some, None}
use Rattle.jo_value.specs.declared.limits.TheConstants.{MOST_STORAGE, MOST_INDEX}
use Rattle.jo_value.specs.declared.value.Key.{Key}
use Rattle.jo_value.specs.declared.value.Key.TheVariants.{Index}
use Rattle.jo_value.specs.declared.value.NameId.{NameId}
use Rattle.jo_value.specs.declared.value.ObjId.{ObjId}
use Rattle.jo_value.specs.declared.value.Sid.{Sid}
use Rattle.jo_value.specs.declared.words.cell.Cell.{Cell}
use Rattle.jo_value.specs.declared.words.cell.Kind.{Kind}
use Rattle.jo_value.specs.declared.words.cell.Kind.TheVariants.{Flat, Segmented, Opening, Dictionary}
use Rattle.jo_value.specs.declared.words.slot.Slot.TheVariants.{Holds}
use Rattle.jo_value.specs.Words.{IsCell, IsSlot, cell_bits, slot_bits}
use Rattle.jo_model.specs.Objects.{Object, empty_object, property}
use Rattle.jo_model.specs.Heaps.{Heap, objects_of, object_of}
use Rattle.jo_model.specs.Valid.{IsValidHeap}
use Rattle.jo_rule.specs.Shapes.{Shape, offset_of, names_of}
use Rattle.jo_rule.specs.Spots.{Spot, offset, element, Location, stored_at, spot_of}
use Rattle.jo_rule.specs.Roles.{frame, IsBlockOf}
use Rattle.jo_rule.specs.Dictionaries.{IsNameWord, slot_in, block_size, dictionary_header, HasProperties}

-- What is said of an object beside its cell and content: whether only the holder of its lock may change it, and whether its block
-- is segmented; an epoch that its pins are below, or 0; the stamp of each offset that was given back, 0 for any other; and the room
-- of its dictionary, which the header has too.
pub record Now : Type 0 where
  pub settled : Bool
  pub segmented : Bool
  pub sealed : ℕ
  pub stamps : ℕ → ℕ
  pub room : ℕ

-- the state of an object that is not born
abbrev pub unborn_now : Now
unborn_now = record { settled = false; segmented = false; sealed = 0; stamps = λ offset. 0; room = 0 }

-- the state of a dictionary with so much room
abbrev pub dictionary_now : ℕ → Now
dictionary_now room = record { settled = true; segmented = false; sealed = 0; stamps = λ offset. 0; room = room }

-- the word of a cell; 0 is that of an unborn object
abbrev pub word_of_cell : Option Cell → ℕ
word_of_cell None = 0
word_of_cell (Some c) = cell_bits c

-- whether there is a cell
abbrev pub is_born : Option Cell → Bool
is_born None = false
is_born (Some c) = true

-- a cell of this kind has its keys at places
abbrev pub is_keyed : Kind → Bool
is_keyed Flat = true
is_keyed Segmented = true
is_keyed Opening = false
is_keyed Dictionary = false

-- whether a cell of this kind has a flat block
abbrev pub is_flat : Kind → Bool
is_flat Flat = true
is_flat _ = false

-- whether a cell of this kind has a segmented block
abbrev pub is_segmented : Kind → Bool
is_segmented Segmented = true
is_segmented _ = false

-- whether a cell of this kind is that of a dictionary
abbrev pub is_dictionary : Kind → Bool
is_dictionary Dictionary = true
is_dictionary _ = false

-- each cell word is the word of a cell
abbrev pub AreCells : (ObjId → ℕ) → (ObjId → Option Cell) → Type 0
AreCells words cells = (o : ObjId) → words o ≡ word_of_cell (cells o)

-- A dictionary: its block is its own for ever, and while nobody holds its lock the block has the properties of the object.
pub record StandsAsDictionary (s : ℕ → ℕ) (role : ℕ → Role) (o : ObjId) (c : Cell) (now : Now) (z : Object) : Type 0 where
  pub settled : now.settled ≡ true
  pub capacity : now.room ≤ MOST_INDEX + 1
  pub header : role c.address ≡ fixed (dictionary_header now.room)
  pub words : (k : ℕ) → 0 < k → k < block_size now.room → role (c.address + k) ≡ dictionary o
  pub properties : c.locked ≡ false → HasProperties (λ k. s (c.address + k)) now.room z

-- The structure of an object has its names in order, each at a place, and each place has the value of its key. No element lies
-- beyond the places.
pub record HasKeys (v : Location → ℕ) (role : ℕ → Role) (segmented : Bool) (shape : Shape) (o : ObjId) (address : ℕ) (z : Object) : Type 0 where
  pub names : names_of shape ≡ map (λ p. p.0) z.names
  pub inside : (name : NameId) (j : ℕ) → offset_of shape name ≡ Some j → frame role segmented o address (offset j) ≢ None
  pub values : (key : Key) (y : Spot) (p : Location) → spot_of shape key ≡ Some y → frame role segmented o address y ≡ Some p → v p ≡ slot_bits (slot_in (property z key))
  pub beyond : (i : ℕ) → frame role segmented o address (element i) ≡ None → property z (Index i) ≡ None

-- An object with its keys at places. An offset that was given back and is stamped is that of no name.
pub record StandsAtPlaces (v : Location → ℕ) (role : ℕ → Role) (shape : Shape) (o : ObjId) (c : Cell) (now : Now) (z : Object) : Type 0 where
  pub block : IsBlockOf role now.segmented o c.address
  pub keys : HasKeys v role now.segmented shape o c.address z
  pub unused : (j : ℕ) (name : NameId) → 0 < now.stamps j → offset_of shape name ≢ Some j
  pub under : (j : ℕ) → 0 < now.stamps j → j < shape.top

-- nobody has its content alone, and no epoch is set for its pins
pub record IsLoose (segmented : Bool) (now : Now) : Type 0 where
  pub settled : now.settled ≡ false
  pub segmented_is : now.segmented ≡ segmented
  pub sealed : now.sealed ≡ 0

-- what a cell of each kind stands for; one that is opening keeps its places, as they were
abbrev pub StandsAs : Kind → (Location → ℕ) → (ℕ → Role) → Shape → ObjId → Cell → Now → Object → Type 0
StandsAs Flat v role shape o c now z = IsLoose false now × StandsAtPlaces v role shape o c now z
StandsAs Segmented v role shape o c now z = IsLoose true now × StandsAtPlaces v role shape o c now z
StandsAs Opening v role shape o c now z = (c.locked ≡ true) × StandsAtPlaces v role shape o c now z
StandsAs Dictionary v role shape o c now z = StandsAsDictionary (λ a. v (stored_at a)) role o c now z

-- the cell of a born object, whose structure has this shape
pub record Standing (v : Location → ℕ) (role : ℕ → Role) (shape : Shape) (o : ObjId) (c : Cell) (now : Now) (z : Object) : Type 0 where
  pub cell : IsCell c
  pub structure : shape.born ≡ true
  pub root : shape.root ≡ o.pass
  pub owner : c.owner ≡ o.pass
  pub kind : StandsAs c.kind v role shape o c now z

-- an object, by its cell, its state and its content, in these words of values and storage with these roles
abbrev pub Stands : (Location → ℕ) → (ℕ → Role) → (Sid → Shape) → ObjId → Option Cell → Now → Object → Type 0
Stands v role shape o None now z = (now ≡ unborn_now) × (z ≡ empty_object)
Stands v role shape o (Some c) now z = Standing v role (shape c.sid) o c now z

-- each name and each value of the object has a word
pub record HasWords (z : Object) : Type 0 where
  pub names : All (λ p. IsNameWord p.0 × IsSlot (Holds p.1)) z.names
  pub elements : All (λ p. IsSlot (Holds p.1)) z.elements

-- Every object, in a heap of `passes` passes. Word 0 of storage is 0 for ever, so no block is there.
pub record Contents (passes : ℕ) (v : Location → ℕ) (cells : ObjId → Option Cell) (shape : Sid → Shape) (role : ℕ → Role) (now : ObjId → Now) (heap : Heap) : Type 0 where
  pub stands : (o : ObjId) → Stands v role shape o (cells o) (now o) (object_of heap o)
  pub born : (o : ObjId) → is_born (cells o) ≡ nat_lt o.serial (length (objects_of heap o.pass))
  pub still : (a word : ℕ) → role a ≡ fixed word → v (stored_at a) ≡ word
  pub origin : role 0 ≡ fixed 0
  pub inside : (a : ℕ) → role a ≢ unnamed → a < MOST_STORAGE * passes
  pub words : (o : ObjId) → HasWords (object_of heap o)
  pub valid : IsValidHeap heap
