-- Where an object has its values: each slot, at an offset or an index, has a word beside the cell or one of storage.
use Rattle.std.specs.Prelude.{ℕ, nat_eq, Bool, false, ◌&&◌, if◌then◌else◌, Option, Some, None}
use Rattle.jo_value.specs.declared.value.Key.{Key}
use Rattle.jo_value.specs.declared.value.Key.TheVariants.{Name, Index}
use Rattle.jo_value.specs.declared.value.ObjId.{ObjId}
use Rattle.jo_value.specs.Values.{is_same_object}
use Rattle.jo_rule.specs.Names.{WordName, inline, storage}
use Rattle.jo_rule.specs.Areas.{Words}
use Rattle.jo_rule.specs.Shapes.{Shape, offset_of}

-- a slot of an object, whatever block it has
pub data Spot : Type 0 where
  offset : ℕ → Spot
  element : ℕ → Spot

-- the word of a value: one beside the cell of an object, or one of storage
pub data Location : Type 0 where
  beside : ObjId → ℕ → Location
  stored_at : ℕ → Location

-- the name of the word at a place
abbrev pub name_of_place : Location → WordName
name_of_place (beside o j) = inline o j
name_of_place (stored_at a) = storage a

-- whether two places are one
abbrev pub is_same_place : Location → Location → Bool
is_same_place (beside o j) (beside q k) = is_same_object o q && nat_eq j k
is_same_place (stored_at a) (stored_at b) = nat_eq a b
is_same_place _ _ = false

-- the words of values, by their places; and where one of them became x
abbrev pub values : Words → Location → ℕ
values w (beside o j) = w (inline o j)
values w (stored_at a) = w (storage a)

-- a function of places, where that of one is x
abbrev pub set_place : (Location → ℕ) → Location → ℕ → Location → ℕ
set_place f p x q = if is_same_place q p then x else f q

-- the slot of a name is its offset, where the structure has it; that of an index is the same in each
abbrev pub spot_by : Option ℕ → Option Spot
spot_by (Some j) = Some (offset j)
spot_by None = None

-- the slot of a key in an object of this shape
abbrev pub spot_of : Shape → Key → Option Spot
spot_of z (Name name) = spot_by (offset_of z name)
spot_of z (Index index) = Some (element index)
