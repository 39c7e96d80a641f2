-- The words of the heap: for each value the number that its word is.
use Rattle.std.specs.Prelude.{◌≡◌, ℕ, nat_abs, ◌+ℤ◌, Bool, if◌then◌else◌, ◌+◌, ◌*◌, ◌^◌, ◌<◌, ◌≤◌}
use Rattle.jo_value.specs.declared.bits.Bits.{Bits}
use Rattle.jo_value.specs.declared.bits.TheConstants.{TAG, CONTENT, UNDEFINED_TAG, NULL_TAG, BOOL_TAG, INT_TAG, TEXT_TAG, OBJECT_TAG, NUMBER_BIAS, FLAT_KIND, SEGMENTED_KIND, OPENING_KIND, DICTIONARY_KIND, CELL_SID, CELL_ADDRESS, CELL_OWNER, CELL_SHARED_WRITE, CELL_LOCKED, CELL_KIND, CELL_BORN, NODE_PARENT, NODE_NAME, NODE_OFFSET, NODE_TOP, NODE_DEPTH, NODE_CHANGE, NODE_BORN, HEADER_NAMES, HEADER_ELEMENTS}
use Rattle.jo_value.specs.declared.limits.TheConstants.{MOST_OBJECTS}
use Rattle.jo_value.specs.declared.value.Value.{Value}
use Rattle.jo_value.specs.declared.value.Value.TheVariants as value
use Rattle.jo_value.specs.Values.{IsInRange}
use Rattle.jo_value.specs.declared.words.cell.Cell.{Cell}
use Rattle.jo_value.specs.declared.words.cell.Kind.{Kind}
use Rattle.jo_value.specs.declared.words.cell.Kind.TheVariants.{Flat, Segmented, Opening, Dictionary}
use Rattle.jo_value.specs.declared.words.header.Header.{Header}
use Rattle.jo_value.specs.declared.words.node.Change.{Change}
use Rattle.jo_value.specs.declared.words.node.Change.TheVariants.{Add, Remove}
use Rattle.jo_value.specs.declared.words.node.Node.{Node}
use Rattle.jo_value.specs.declared.words.slot.Slot.{Slot}
use Rattle.jo_value.specs.declared.words.slot.Slot.TheVariants.{Absent, Holds as Present}

-- some bits, not all, of a word of 64
abbrev pub IsInWord : Bits → Type 0
IsInWord bits = (0 < bits.width) × (bits.width < 64) × (bits.place + bits.width ≤ 64)

-- these bits have room for the number
abbrev pub Holds : Bits → ℕ → Type 0
Holds bits n = n < 2 ^ bits.width

-- a number at some bits of a word
abbrev pub at : Bits → ℕ → ℕ
at bits n = n * 2 ^ bits.place

-- set or not
abbrev pub bit : Bool → ℕ
bit b = if b then 1 else 0

-- ---- the slot of a property

abbrev pub tag_of : Value → ℕ
tag_of value.Undefined = UNDEFINED_TAG
tag_of value.Null = NULL_TAG
tag_of (value.Bool b) = BOOL_TAG
tag_of (value.Int i) = INT_TAG
tag_of (value.Text t) = TEXT_TAG
tag_of (value.Object o) = OBJECT_TAG

abbrev pub content_of : Value → ℕ
content_of value.Undefined = 0
content_of value.Null = 0
content_of (value.Bool b) = bit b
content_of (value.Int i) = nat_abs (i +ℤ NUMBER_BIAS)
content_of (value.Text t) = t.0
content_of (value.Object o) = o.pass * MOST_OBJECTS + o.serial

-- the value of a slot, if it has one, is in range
abbrev pub IsInRangeSlot : Slot → Type 0
IsInRangeSlot Absent = Unit {0}
IsInRangeSlot (Present v) = IsInRange v

-- the numbers in a value are numbers of their types
abbrev pub IsTyped : Value → Type 0
IsTyped (value.Text t) = t.0 < 2 ^ 16
IsTyped (value.Object o) = o.pass < 2 ^ 8
IsTyped _ = Unit {0}

-- the value with a tag and a content
pub record IsValueOf (tag content : ℕ) (v : Value) : Type 0 where
  pub inside : IsInRange v
  pub typed : IsTyped v
  pub tag_is : tag_of v ≡ tag
  pub content_is : content_of v ≡ content

-- what a slot may be
abbrev pub IsSlot : Slot → Type 0
IsSlot Absent = Unit {0}
IsSlot (Present v) = IsInRange v × IsTyped v

abbrev pub slot_bits : Slot → ℕ
slot_bits Absent = 0
slot_bits (Present v) = at TAG (tag_of v) + at CONTENT (content_of v)

-- ---- the cell of an object

abbrev pub kind_number : Kind → ℕ
kind_number Flat = FLAT_KIND
kind_number Segmented = SEGMENTED_KIND
kind_number Opening = OPENING_KIND
kind_number Dictionary = DICTIONARY_KIND

pub record IsCell (c : Cell) : Type 0 where
  pub sid : Holds CELL_SID c.sid.0
  pub address : Holds CELL_ADDRESS c.address
  pub owner : Holds CELL_OWNER c.owner

abbrev pub cell_bits : Cell → ℕ
cell_bits c =
    at CELL_SID c.sid.0 + at CELL_ADDRESS c.address + at CELL_OWNER c.owner + at CELL_SHARED_WRITE (bit c.shared_write)
    + at CELL_LOCKED (bit c.locked) + at CELL_KIND (kind_number c.kind) + at CELL_BORN 1

-- ---- the node of a structure

abbrev pub change_number : Change → ℕ
change_number Add = 0
change_number Remove = 1

pub record IsNode (n : Node) : Type 0 where
  pub parent : Holds NODE_PARENT n.parent.0
  pub name : Holds NODE_NAME n.name.0
  pub offset : Holds NODE_OFFSET n.offset
  pub top : Holds NODE_TOP n.top
  pub depth : Holds NODE_DEPTH n.depth

abbrev pub node_bits : Node → ℕ
node_bits n =
    at NODE_PARENT n.parent.0 + at NODE_NAME n.name.0 + at NODE_OFFSET n.offset + at NODE_TOP n.top
    + at NODE_DEPTH n.depth + at NODE_CHANGE (change_number n.change) + at NODE_BORN 1

-- ---- the header of a block of storage

pub record IsHeader (h : Header) : Type 0 where
  pub names : Holds HEADER_NAMES h.names
  pub elements : Holds HEADER_ELEMENTS h.elements

abbrev pub header_bits : Header → ℕ
header_bits h = at HEADER_NAMES h.names + at HEADER_ELEMENTS h.elements
