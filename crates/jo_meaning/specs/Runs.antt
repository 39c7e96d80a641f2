-- What a script asks of the heap, and how it goes on at each reply.
use Rattle.std.specs.Prelude.{ℕ, ◌+◌, List, [], ◌∷◌}
use Rattle.jo_model.specs.declared.call.Call.{Call}
use Rattle.jo_model.specs.declared.call.Outcome.{Outcome}
use Rattle.jo_model.specs.declared.call.Reply.{Reply}

-- All runs of a script: it ends, or it asks a call and goes on with the reply, or it takes a turn and goes on. The lines are the bytes printed so far.
pub data Interaction : Type 0 where
  Ends : (outcome : Outcome) (lines : List ℕ) → Interaction
  Asks : (call : Call) (lines : List ℕ) (answered : Reply → Interaction) → Interaction
  Takes : (rest : Interaction) → Interaction

-- where a run stands: at a call that waits for its reply, or at its end
pub data Stand : Type 0 where
  Waits : (call : Call) → Stand
  Ended : (outcome : Outcome) → Stand

-- a run so far: the calls that were answered, the turns taken, the lines, and where it stands
pub record Run : Type 0 where
  pub calls : List Call
  pub turns : ℕ
  pub lines : List ℕ
  pub stand : Stand

abbrev pub after_call : Call → Run → Run
after_call call run = record run { calls = call ∷ run.calls }

abbrev pub after_turn : Run → Run
after_turn run = record run { turns = run.turns + 1 }

-- the run at these replies
abbrev pub follow : Interaction → List Reply → Run
follow (Ends outcome lines) replies = record { calls = []; turns = 0; lines = lines; stand = Ended outcome }
follow (Takes rest) replies = after_turn (follow rest replies)
follow (Asks call lines answered) [] = record { calls = []; turns = 0; lines = lines; stand = Waits call }
follow (Asks call lines answered) (reply ∷ replies) = after_call call (follow (answered reply) replies)
