-- The rule of the shared heap: what holds of all words and all views between any two atomic steps.
use Rattle.std.specs.Prelude.{ℕ, Bool, Option, List}
use Rattle.jo_value.specs.declared.value.ObjId.{ObjId}
use Rattle.jo_value.specs.declared.value.Sid.{Sid}
use Rattle.jo_value.specs.declared.words.cell.Cell.{Cell}
use Rattle.jo_value.specs.declared.words.node.Node.{Node}
use Rattle.jo_model.specs.Logs.{Log, after}
use Rattle.jo_rule.specs.Areas.{Words, acknowledgements, nodes, first_children, siblings, transition_sets, write_sets, cells, inline_words, stored}
use Rattle.jo_rule.specs.Spots.{values}
use Rattle.jo_rule.specs.Shapes.{Shape, Shaped}
use Rattle.jo_rule.specs.Marks.{Mark}
use Rattle.jo_rule.specs.Views.{View}
use Rattle.jo_rule.specs.Histories.{Home, Placements, Histories}
use Rattle.jo_rule.specs.Contents.{Role, Now, AreCells, Contents}
use Rattle.jo_rule.specs.Owned.{Owned, Structures, Unborn, Unmade}
use Rattle.jo_rule.specs.Locks.{Locks}
use Rattle.jo_rule.specs.Sights.{watched, Sights}
use Rattle.jo_rule.specs.Names.{epoch}
use Rattle.jo_rule.specs.Marked.{BornSo, Marked}
use Rattle.jo_rule.specs.Timing.{Timing}
use Rattle.jo_rule.specs.Allowed.{Allowed}
use Rattle.jo_rule.specs.Lasting.{Lasting}
use Rattle.jo_rule.specs.Counted.{Counted}
use Rattle.jo_rule.specs.Concluded.{Concluded}
use Rattle.jo_rule.specs.Raised.{Raised}

-- There are a log, a count of passes and their homes; for each structure a node and a shape; for each object a cell and a state; and
-- roles of storage words. No word holds them all, nor does a view. Over them each part holds.
pub record Rule (passes : ℕ) (w : Words) (views : List View) : Type 0 where
  pub log : Log Mark
  pub made : ℕ
  pub home : ℕ → Home
  pub node : Sid → Option Node
  pub shape : Sid → Shape
  pub cell : ObjId → Option Cell
  pub role : ℕ → Role
  pub now : ObjId → Now
  pub so : ObjId → Bool
  pub placements : Placements passes views
  pub histories : Histories passes log made home views
  pub coded : AreCells (cells w) cell
  pub shaped : Shaped passes (nodes w) (first_children w) (siblings w) node shape
  pub contents : Contents passes (values w) cell shape role now (after passes log)
  pub owned : Owned (stored w) role (after passes log) views
  pub structures : Structures passes made (nodes w) (siblings w) views
  pub locks : Locks (stored w) cell now (after passes log) views
  pub unborn : Unborn cell (nodes w) (first_children w) (transition_sets w) (write_sets w) (inline_words w)
  pub unmade : Unmade passes made (acknowledgements w) (nodes w) (stored w) role (after passes log)
  pub sights : Sights passes (w epoch) (values w) cell shape role now (watched w) log views
  pub born_so : BornSo log cell so
  pub marked : Marked log cell shape (watched w)
  pub allowed : Allowed cell views
  pub timing : Timing (w epoch) (acknowledgements w) views
  pub lasting : Lasting node (siblings w) role views
  pub counted : Counted passes log cell shape
  pub concluded : Concluded passes log views
  pub raised : Raised passes made (w epoch) cell shape (watched w) views
