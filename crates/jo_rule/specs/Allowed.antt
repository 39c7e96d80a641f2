-- Whether objects may be born flat.
use Rattle.std.specs.Prelude.{◌≡◌, ℕ, Bool, false, List, Option, Some}
use Rattle.jo_value.specs.declared.value.ObjId.{ObjId}
use Rattle.jo_value.specs.declared.words.cell.Cell.{Cell}
use Rattle.jo_value.specs.declared.words.cell.Kind.TheVariants.{Dictionary}
use Rattle.jo_rule.specs.Roots.{root_of}
use Rattle.jo_rule.specs.Views.{View}
use Rattle.jo_rule.specs.Lists.{Live}

-- a view says so
abbrev pub SaysSo : Bool → ℕ → View → Type 0
SaysSo flat seat v = v.flat ≡ flat

-- the cell is a dictionary's, and its structure is the root of the pass that made the object
pub record IsDictionaryOf (o : ObjId) (c : Cell) : Type 0 where
  pub kind : c.kind ≡ Dictionary
  pub structure : c.sid ≡ root_of o.pass

-- All views say the same of whether objects may be born flat in their heap. Where they may not, each object is a dictionary from its
-- birth on.
pub record Allowed (cells : ObjId → Option Cell) (views : List View) : Type 0 where
  pub flat : Bool
  pub agreed : Live views (SaysSo flat)
  pub dictionaries : flat ≡ false → (o : ObjId) (c : Cell) → cells o ≡ Some c → IsDictionaryOf o c
