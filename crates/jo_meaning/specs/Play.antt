-- The run of a script alone, where each reply is that of one thread.
use Rattle.std.specs.Prelude.{ℕ, ◌+◌, List, [], ◌∷◌}
use Rattle.jo_model.specs.declared.call.Outcome.{Outcome}
use Rattle.jo_model.specs.Heaps.{Heap}
use Rattle.jo_model.specs.History.{Entry, History}
use Rattle.jo_model.specs.One.{one}
use Rattle.jo_meaning.specs.Runs.{Interaction, Ends, Asks, Takes}

-- what a run leaves: its calls with their replies, the heap, the turns taken, the lines and the outcome
pub record Played : Type 0 where
  pub history : History
  pub heap : Heap
  pub turns : ℕ
  pub lines : List ℕ
  pub outcome : Outcome

abbrev pub with_entry : Entry → Played → Played
with_entry entry p = record p { history = entry ∷ p.history }

abbrev pub with_turn : Played → Played
with_turn p = record p { turns = p.turns + 1 }

-- the run of a pass alone from this heap
abbrev pub play : ℕ → Interaction → Heap → Played
play pass (Ends outcome lines) heap = record { history = []; heap = heap; turns = 0; lines = lines; outcome = outcome }
play pass (Takes rest) heap = with_turn (play pass rest heap)
play pass (Asks call lines answered) heap =
    with_entry (record { pass = pass; call = call; reply = (one heap pass call).1 })
    (play pass (answered (one heap pass call).1) (one heap pass call).0)
