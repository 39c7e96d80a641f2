-- The history of a set of scripts.
use Rattle.std.specs.Prelude.{◌≡◌, ℕ, ◌+◌, List, [], length, slice_get, Some}
use Rattle.jo_value.specs.Texts.{Table}
use Rattle.jo_parse_tree.specs.Trees.{Items}
use Rattle.jo_model.specs.declared.call.Outcome.{Outcome}
use Rattle.jo_model.specs.Heaps.{heap_at_start}
use Rattle.jo_model.specs.History.{History, IsLegal, calls_of, replies_of}
use Rattle.jo_meaning.specs.Runs.{Run, Ended}
use Rattle.jo_meaning.specs.Play.{Played, play}
use Rattle.jo_meaning.specs.Scripts.{interaction_of, does}

-- what script t does in a history, where its pass is t and it has `turns` turns
abbrev pub run_in : History → ℕ → Items → Table → ℕ → Run
run_in w t script texts turns = does script texts turns (replies_of t w)

-- pass t makes in the history exactly what the script asks, one after another, and the script ends there by this outcome
pub record IsRunIn (w : History) (t : ℕ) (script : Items) (texts : Table) (turns : ℕ) (outcome : Outcome) : Type 0 where
  pub calls : calls_of t w ≡ (run_in w t script texts turns).calls
  pub ended : (run_in w t script texts turns).stand ≡ Ended outcome

-- A history of these scripts with their outcomes, where each has `turns` turns: it is legal, pass 0 is silent in it,
-- and script t, counted from 1, is run to its end by pass t.
pub record IsHistoryOf (scripts : List Items) (texts : Table) (turns : ℕ) (outcomes : List Outcome) (w : History) : Type 0 where
  pub legal : IsLegal (length scripts + 1) w
  pub setup : calls_of 0 w ≡ []
  pub as_many : length outcomes ≡ length scripts
  pub each : (k : ℕ) (script : Items) → slice_get scripts k ≡ Some script
      → (outcome : Outcome) × (slice_get outcomes k ≡ Some outcome) × IsRunIn w (k + 1) script texts turns outcome

-- the run of a script alone, as pass 1 beside pass 0, from the heap at the start
abbrev pub played_alone : Items → Table → ℕ → Played
played_alone script texts turns = play 1 (interaction_of script texts turns) (heap_at_start 2)
