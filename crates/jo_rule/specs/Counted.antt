-- The structure of an object against the log: how many changes led to it, and how many offsets it gave out.
use Rattle.std.specs.Prelude.{◌≡◌, ◌≢◌, ℕ, ◌+◌, ◌≤◌, false, if◌then◌else◌, Option, Some, None}
use Rattle.jo_value.specs.declared.value.Key.{Key}
use Rattle.jo_value.specs.declared.value.Key.TheVariants.{Name, Index}
use Rattle.jo_value.specs.declared.value.ObjId.{ObjId}
use Rattle.jo_value.specs.declared.value.Sid.{Sid}
use Rattle.jo_value.specs.declared.words.cell.Cell.{Cell}
use Rattle.jo_model.specs.declared.call.Call.TheVariants as call
use Rattle.jo_model.specs.Objects.{Object, has_property, is_full_for}
use Rattle.jo_model.specs.Logs.{Log}
use Rattle.jo_rule.specs.declared.event.Event.{Event}
use Rattle.jo_rule.specs.declared.event.Event.TheVariants.{Place}
use Rattle.jo_rule.specs.Marks.{Mark, names_added, names_removed}
use Rattle.jo_rule.specs.Shapes.{Shape}
use Rattle.jo_rule.specs.Contents.{is_dictionary}

-- how many names an event on an object adds to it, and takes out
abbrev pub adds_to : Event → Object → ℕ
adds_to (Place (call.Put o (Name name) value)) z = if has_property z (Name name) then 0 else (if is_full_for z (Name name) then 0 else 1)
adds_to _ z = 0

-- how many names an event on an object takes out of it
abbrev pub removes_from : Event → Object → ℕ
removes_from (Place (call.Delete o (Name name))) z = if has_property z (Name name) then 1 else 0
removes_from _ z = 0

-- how many names a key is
abbrev pub name_count : Key → ℕ
name_count (Name name) = 1
name_count (Index index) = 0

-- An object that is no dictionary has a structure as deep as the log has changes of its names, and has given out at most as many
-- offsets as names were added.
pub record Counted (passes : ℕ) (log : Log Mark) (cells : ObjId → Option Cell) (shape : Sid → Shape) : Type 0 where
  pub unborn : (o : ObjId) → cells o ≡ None → (names_added passes o log ≡ 0) × (names_removed passes o log ≡ 0)
  pub depth : (o : ObjId) (c : Cell) → cells o ≡ Some c → is_dictionary c.kind ≡ false → (shape c.sid).depth ≡ names_added passes o log + names_removed passes o log
  pub top : (o : ObjId) (c : Cell) → cells o ≡ Some c → is_dictionary c.kind ≡ false → (shape c.sid).top ≤ names_added passes o log

-- how the log goes on, for an object whose cell becomes another
pub record CountsGo (passes : ℕ) (log log' : Log Mark) (o : ObjId) (shape : Sid → Shape) (c : Cell) : Type 0 where
  pub others : (q : ObjId) → q ≢ o → (names_added passes q log' ≡ names_added passes q log) × (names_removed passes q log' ≡ names_removed passes q log)
  pub depth : is_dictionary c.kind ≡ false → (shape c.sid).depth ≡ names_added passes o log' + names_removed passes o log'
  pub top : is_dictionary c.kind ≡ false → (shape c.sid).top ≤ names_added passes o log'
