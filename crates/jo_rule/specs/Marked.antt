-- What the log notes of objects and sets: how an object came to be a dictionary, whom others disturbed, and which sets were fired.
use Rattle.std.specs.Prelude.{◌≡◌, ◌≢◌, ◌⊎◌, ℕ, Bool, true, false, slice_get, Option, Some, None}
use Rattle.jo_value.specs.declared.capacities.TheConstants.{VALID}
use Rattle.jo_value.specs.declared.value.ObjId.{ObjId}
use Rattle.jo_value.specs.declared.value.Sid.{Sid}
use Rattle.jo_value.specs.declared.words.cell.Cell.{Cell}
use Rattle.jo_model.specs.Logs.{mark, Log}
use Rattle.jo_rule.specs.declared.cause.Cause.{Cause}
use Rattle.jo_rule.specs.declared.watched.SetKind.{SetKind}
use Rattle.jo_rule.specs.Marks.{Mark, fired, opened, HasForeignMark}
use Rattle.jo_rule.specs.Shapes.{Shape}
use Rattle.jo_rule.specs.Contents.{is_keyed, is_segmented}

-- the log has the mark of an object that was opened, and that of a set that was fired
pub record WasOpened (log : Log Mark) (o : ObjId) : Type 0 where
  pub at : ℕ
  pub by : ℕ
  pub cause : Cause
  pub is : slice_get log at ≡ Some (mark by (opened o cause))

-- the log has the mark of a set that was fired
pub record WasFired (log : Log Mark) (s : Sid) (which : SetKind) : Type 0 where
  pub at : ℕ
  pub by : ℕ
  pub object : ObjId
  pub is : slice_get log at ≡ Some (mark by (fired s which object))

-- How each object came to be what it is. An object is opening or a dictionary exactly where it has its mark or was born so, and never
-- both; the second case goes when no object is born so.
pub record BornSo (log : Log Mark) (cells : ObjId → Option Cell) (so : ObjId → Bool) : Type 0 where
  pub dictionaries : (o : ObjId) (c : Cell) → cells o ≡ Some c → is_keyed c.kind ≡ false → (so o ≡ true) ⊎ WasOpened log o
  pub others : (o : ObjId) (c : Cell) → cells o ≡ Some c → is_keyed c.kind ≡ true → so o ≡ false
  pub unopened : (o : ObjId) (c : Cell) → cells o ≡ Some c → is_keyed c.kind ≡ true → WasOpened log o → ⊥
  pub unborn : (o : ObjId) → cells o ≡ None → WasOpened log o → ⊥
  pub apart : (o : ObjId) → so o ≡ true → WasOpened log o → ⊥

-- A cell has the bit for writes of others, or is segmented, and a set is no longer valid, only where a pass other than the owner left a
-- mark. A set is no longer valid exactly where it has its mark; the structure of a fired set comes from the root of its object's pass.
pub record Marked (log : Log Mark) (cells : ObjId → Option Cell) (shape : Sid → Shape) (sets : Sid → SetKind → ℕ) : Type 0 where
  pub shared : (o : ObjId) (c : Cell) → cells o ≡ Some c → (c.shared_write ≡ true) ⊎ (is_segmented c.kind ≡ true) → HasForeignMark o.pass log
  pub disturbed : (s : Sid) (which : SetKind) → sets s which ≢ VALID → HasForeignMark (shape s).root log
  pub noted : (s : Sid) (which : SetKind) → sets s which ≢ VALID → WasFired log s which
  pub valid : (s : Sid) (which : SetKind) → sets s which ≡ VALID → WasFired log s which → ⊥
  pub rooted : (n by : ℕ) (s : Sid) (which : SetKind) (o : ObjId) → slice_get log n ≡ Some (mark by (fired s which o)) → ((shape s).born ≡ true) × ((shape s).root ≡ o.pass)
