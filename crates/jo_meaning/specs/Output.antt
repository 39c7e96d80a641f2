-- The output of a set of scripts.
use Rattle.std.specs.Prelude.{ℕ, ◌+◌, List, [], ◌++◌, flat_map, length}
use Rattle.std.specs.List.{enumerate_from}
use Rattle.jo_value.specs.Texts.{Table}
use Rattle.jo_parse_tree.specs.Trees.{Items}
use Rattle.jo_model.specs.History.{History, heap_after}
use Rattle.jo_model.specs.Rendered.{outcome_bytes, run_bytes, heap_bytes}
use Rattle.jo_meaning.specs.Runs.{Stand, Waits, Ended}
use Rattle.jo_meaning.specs.Histories.{run_in}

-- the word for the outcome of a run, and nothing where it has not ended
abbrev pub stand_bytes : Stand → List ℕ
stand_bytes (Ended outcome) = outcome_bytes outcome
stand_bytes (Waits call) = []

module _ (texts : Table) (turns : ℕ) (w : History) where
  -- the part of script t, by what it does in a history
  abbrev pub script_bytes : ℕ × Items → List ℕ
  script_bytes s = run_bytes s.0 (run_in w s.0 s.1 texts turns).lines (stand_bytes (run_in w s.0 s.1 texts turns).stand)

  -- The output of scripts with this history: for each script its lines and its outcome, then all objects at the end.
  abbrev pub output : List Items → List ℕ
  output scripts = flat_map script_bytes (enumerate_from 1 scripts) ++ heap_bytes texts (heap_after (length scripts + 1) w)
