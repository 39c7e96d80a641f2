-- Raises of the epoch: there are at most as many as the words show reasons for, beside a few of each pass.
use Rattle.std.specs.Prelude.{◌≡◌, ℕ, ◌+◌, ◌*◌, ◌<◌, ◌≤◌, nat_eq, zero, suc, true, false, if◌then◌else◌, List, Option, Some, None}
use mathlib.Core.Option.{some}
use lib.ListN.{get_elem?}
use Rattle.jo_value.specs.declared.capacities.TheConstants.{VALID, FIRING, MOST_STRUCTURES}
use Rattle.jo_value.specs.declared.limits.TheConstants.{MOST_OBJECTS}
use Rattle.jo_value.specs.declared.value.ObjId.{ObjId}
use Rattle.jo_value.specs.declared.value.Sid.{Sid}
use Rattle.jo_value.specs.declared.words.cell.Cell.{Cell}
use Rattle.jo_rule.specs.declared.watched.SetKind.{SetKind}
use Rattle.jo_rule.specs.declared.watched.SetKind.TheVariants.{Transition, Write}
use Rattle.jo_rule.specs.Shapes.{Shape}
use Rattle.jo_rule.specs.Contents.{is_keyed}
use Rattle.jo_rule.specs.Views.{View, Kept, Time, Firing}
use Rattle.jo_rule.specs.Lists.{Each, Live}

-- how many raises a pass may make that it does not owe
abbrev pub MOST_UNOWED : ℕ
MOST_UNOWED = 1000

-- the sum of what a function gives for the numbers below n
abbrev pub sum_below : ℕ → (ℕ → ℕ) → ℕ
sum_below zero f = 0
sum_below (suc n) f = sum_below n f + f n

-- a set that is no longer valid is a reason for a raise
abbrev pub set_reasons : ℕ → ℕ
set_reasons word = if nat_eq word VALID then 0 else 1

-- so is each change that led to the structure of an object, and that it was opened
abbrev pub cell_reasons : (Sid → Shape) → Option Cell → ℕ
cell_reasons shape None = 0
cell_reasons shape (Some c) = (shape c.sid).depth + (if is_keyed c.kind then 0 else 1)

-- the reasons by both sets of structure n
abbrev pub structure_reasons : (Sid → SetKind → ℕ) → ℕ → ℕ
structure_reasons sets n = set_reasons (sets (record { 0 = n }) Transition) + set_reasons (sets (record { 0 = n }) Write)

-- the reasons by object k of a pass
abbrev pub object_reasons : (Sid → Shape) → (ObjId → Option Cell) → ℕ → ℕ → ℕ
object_reasons shape cells p k = cell_reasons shape (cells (record { pass = p; serial = k }))

-- the reasons by all sets and all objects
abbrev pub reasons : (structures objects passes : ℕ) → (ObjId → Option Cell) → (Sid → Shape) → (Sid → SetKind → ℕ) → ℕ
reasons structures objects passes cells shape sets = sum_below structures (structure_reasons sets) + sum_below passes (λ p. sum_below objects (object_reasons shape cells p))

-- what a view owes and has raised without owing it are those of its number, and so is what it keeps of others, which owe nothing
pub record IsRaising (owed unowed : ℕ → ℕ) (number : ℕ) (t : Time) (kept : List Kept) : Type 0 where
  pub owes : t.owed ≡ owed number
  pub free : t.unowed ≡ unowed number
  pub kept_free : Each kept (λ k q. (q.unowed ≡ unowed q.number) × (owed q.number ≡ 0))

-- so it is with a view
abbrev pub ViewIsRaising : (ℕ → ℕ) → (ℕ → ℕ) → ℕ → View → Type 0
ViewIsRaising owed unowed seat v = IsRaising owed unowed v.number v.time v.kept

-- a live view owes the firing of a set
pub record HasFirer (views : List View) (s : Sid) (which : SetKind) : Type 0 where
  pub seat : ℕ
  pub view : View
  pub firing : Firing
  pub there : get_elem? views seat ≡ some view
  pub live : view.live ≡ true
  pub owes : view.sets.firing ≡ Some firing
  pub structure : firing.structure ≡ s
  pub kind : firing.which ≡ which

-- where objects may not be born flat, a pass stays out, and owes no raise and no firing
abbrev pub IsQuiet : ℕ → View → Type 0
IsQuiet seat v = v.flat ≡ false → (v.time.out ≡ true) × (v.time.owed ≡ 0) × (v.sets.firing ≡ None)

-- The epoch, with all raises that are still owed, is at most the reasons for raises and those that were made without being owed. A pass
-- makes few of these, and one that was not made has none. A structure that is born is one of a pass. For
-- a set that is firing a live view owes it.
pub record Raised (passes made E : ℕ) (cells : ObjId → Option Cell) (shape : Sid → Shape) (sets : Sid → SetKind → ℕ) (views : List View) : Type 0 where
  pub owed : ℕ → ℕ
  pub unowed : ℕ → ℕ
  pub structures : ℕ
  pub objects : ℕ
  pub structures_are : structures ≡ MOST_STRUCTURES * passes
  pub objects_are : objects ≡ MOST_OBJECTS
  pub inside : (s : Sid) → (shape s).born ≡ true → s.0 < structures
  pub few : (t : ℕ) → unowed t ≤ MOST_UNOWED
  pub unmade : (t : ℕ) → made ≤ t → (owed t ≡ 0) × (unowed t ≡ 0)
  pub each : Live views (ViewIsRaising owed unowed)
  pub sum : E + sum_below passes owed ≤ reasons structures objects passes cells shape sets + sum_below passes unowed
  pub firing : (s : Sid) (which : SetKind) → sets s which ≡ FIRING → HasFirer views s which
  pub quiet : Live views IsQuiet
