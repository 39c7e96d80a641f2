-- What the run of a script alone leaves.
use Rattle.std.specs.Prelude.{◌≡◌, ℕ, List, [], ◌∷◌}
use Rattle.jo_value.specs.Texts.{Table}
use Rattle.jo_parse_tree.specs.Trees.{Items}
use Rattle.jo_model.specs.declared.call.Outcome.{Outcome}
use Rattle.jo_model.specs.Heaps.{Heap}
use Rattle.jo_model.specs.History.{heap_after, entries_of}
use Rattle.jo_meaning.specs.Histories.{IsHistoryOf, played_alone, run_in}

-- A script ran alone, as pass 1: the history that one thread gives for it is one of the script to this outcome, with no
-- call of another pass, and what is left are the heap after that history, and the lines of the script in it.
pub record IsRunAlone (script : Items) (texts : Table) (turns : ℕ) (heap : Heap) (lines : List ℕ) (outcome : Outcome) : Type 0 where
  pub of_script : IsHistoryOf (script ∷ []) texts turns (outcome ∷ []) (played_alone script texts turns).history
  pub alone : entries_of 1 (played_alone script texts turns).history ≡ (played_alone script texts turns).history
  pub heap_is : heap ≡ heap_after 2 (played_alone script texts turns).history
  pub lines_are : lines ≡ (run_in (played_alone script texts turns).history 1 script texts turns).lines
