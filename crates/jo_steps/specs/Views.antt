-- What contracts see of a heap, of a pass, of a lock that is held, and of a heap that was closed.
use Rattle.std.specs.Prelude.{◌≡◌, ℕ, ◌<◌, ◌≤◌, List, length, All}
use Rattle.jo_value.specs.declared.capacities.TheConstants.{MOST_PASSES, STAMP_WORDS}
use Rattle.atomic_table.specs.Seated.{TableId}
use Rattle.jo_value.specs.declared.limits.TheConstants.{MOST_OBJECTS, MOST_STORAGE}
use Rattle.jo_value.specs.declared.value.ObjId.{ObjId}
use Rattle.jo_value.specs.declared.words.cell.Cell.{Cell}
use Rattle.jo_rule.specs.Histories.{ArePlacedIn}
use Rattle.jo_rule.specs.Views.{View, word_in}

-- its table of words, and how many passes it has
pub record HeapView : Type 0 where
  pub table : TableId
  pub passes : ℕ

-- the table that it steps on, its seat there, and what it knows
pub record PassView : Type 0 where
  pub table : TableId
  pub seat : ℕ
  pub view : View

-- the object, and its cell as it was found, without the lock
pub record HeldView : Type 0 where
  pub object : ObjId
  pub cell : Cell

-- the words by number, and what the pass knew that closed it
pub record ClosedView : Type 0 where
  pub passes : ℕ
  pub words : List ℕ
  pub view : View

-- A pass of a heap. Its calls are lawful in what it has seen, and stand in its own order. From `used` on its storage is 0; what no
-- cell has named begins within what it has used.
pub record IsPassOf (h : HeapView) (p : PassView) : Type 0 where
  pub table : p.table ≡ h.table
  pub few : h.passes ≤ MOST_PASSES
  pub number : p.view.number < h.passes
  pub objects : p.view.births.objects ≤ MOST_OBJECTS
  pub placed : ArePlacedIn h.passes p.view.past.seen p.view.number p.view.past.calls
  pub named : p.view.storage.named ≤ p.view.storage.used
  pub used : p.view.storage.used ≤ MOST_STORAGE
  pub zeros : (k : ℕ) → p.view.storage.used ≤ k → word_in p.view.storage.fresh k ≡ 0

-- the stamps of a pass that has given no offset back
pub record AreNoStamps (stamps : List ℕ) : Type 0 where
  pub all : length stamps ≡ STAMP_WORDS
  pub zero : All (λ stamp. stamp ≡ 0) stamps
