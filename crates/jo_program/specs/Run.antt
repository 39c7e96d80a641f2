-- What the top call says.
use Rattle.std.specs.Prelude.{◌≡◌, ◌⊎◌, ℕ, ◌<◌, ◌≤◌, List, codes, length, Option, Some, None, String, ⊤}
use Rattle.std.specs.declared.alloc.Global.{Global}
use Rattle.std.specs.Io.KnownBytes.{Consumes, IsAtEnd, Appends}
use Rattle.jo_value.specs.declared.limits.TheConstants.{DEFAULT_TURNS, MOST_INPUT}
use Rattle.jo_io.specs.Bytes.{AppendsPart}
use Rattle.jo_run.specs.declared.set.Ended.{Ended}
use Rattle.jo_answer.specs.declared.due.Verdict.{Verdict}
use Rattle.jo_answer.specs.declared.due.Verdict.TheVariants as verdict
use Rattle.jo_answer.specs.Answers.{IsDue, IsSet, IsRefusedInput}
use Rattle.jo_program.specs.declared.status.Status.{Status}
use Rattle.jo_program.specs.declared.status.Status.TheVariants as status
use Rattle.jo_answer.specs.declared.options.RunOptions.{RunOptions}
use Rattle.jo_answer.specs.declared.options.Form.TheVariants.{Summary}
use Rattle.jo_made.specs.Made.{made}
use Rattle.jo_program.specs.declared.command.Command.{Command}
use Rattle.jo_program.specs.declared.command.Command.TheVariants as command
use Rattle.jo_program.specs.Words.{command_of}

-- the exit code of each status
abbrev pub exit_code_of : Status → ℕ
exit_code_of status.Done = 0
exit_code_of status.Usage = 1
exit_code_of status.Refused = 2
exit_code_of status.TooLarge = 3
exit_code_of status.ReadFault = 4
exit_code_of status.WriteFault = 5
exit_code_of status.EndedWithFaults = 6
exit_code_of status.Memory = 7

-- the status for what is said of an input
abbrev pub status_of : Verdict → Status
status_of verdict.Done = status.Done
status_of verdict.EndedWithFaults = status.EndedWithFaults
status_of verdict.Refused = status.Refused
status_of verdict.TooLarge = status.TooLarge

abbrev pub usage_line : List ℕ
usage_line = codes "usage: jsobj run [--stats] [--turns T] | make N | run-made N\n"

-- The input was read, to its end unless it is too large; this is said of it with this order, this is left of a run, and what is
-- written is due for it.
pub record IsAnswer (options : RunOptions) (said : Verdict) (left left' : Option (List ℕ)) (ended : Option Ended) (written : List ℕ) : Type 0 where
  pub bytes : List ℕ
  pub read : Consumes left left' bytes
  pub whole : (said ≡ verdict.TooLarge → ⊥) → IsAtEnd left'
  pub few : (said ≡ verdict.TooLarge → ⊥) → length bytes ≤ MOST_INPUT
  pub due : IsDue said options bytes ended written

-- the order in which a made set is run
abbrev pub made_options : ℕ → RunOptions
made_options n = record { turns = DEFAULT_TURNS; form = Summary n }

-- What is said, what is left of a run and what is due, by what the words ask for: for the input that was read, for a made set that
-- is written, or for one that is run.
abbrev pub IsAnswerBy : Command → Verdict → Option (List ℕ) → Option (List ℕ) → Option Ended → List ℕ → Type 0
IsAnswerBy (command.Run options) said left left' ended written = IsAnswer options said left left' ended written
IsAnswerBy (command.Make n) said left left' ended written = (said ≡ verdict.Done) × (ended ≡ None) × (written ≡ made n)
IsAnswerBy (command.RunMade n) said left left' ended written = IsDue said (made_options n) (made n) ended written

pub record IsAnswerTo (words : List (String Global)) (said : Verdict) (left left' : Option (List ℕ)) (ended : Option Ended) (written : List ℕ) : Type 0 where
  pub command : Command
  pub given : command_of words ≡ Some command
  pub answer : IsAnswerBy command said left left' ended written

-- the words ask that a set is read
abbrev pub Reads : Option Command → Type 0
Reads (Some (command.Run options)) = ⊤
Reads _ = ⊥

-- other words were given, nothing was run, and what is written is the usage line
pub record IsUsage (words : List (String Global)) (ended : Option Ended) (written : List ℕ) : Type 0 where
  pub other : command_of words ≡ None
  pub none : ended ≡ None
  pub line : written ≡ usage_line

-- what is due for these words and this input
abbrev pub IsDueOutput : List (String Global) → Option (List ℕ) → Option (List ℕ) → Option Ended → List ℕ → Type 0
IsDueOutput words left left' ended written =
    IsUsage words ended written ⊎ ((said : Verdict) × IsAnswerTo words said left left' ended written)

-- a sink gained bytes of which this holds
abbrev pub Writes : (List ℕ → Type 0) → Option (List ℕ) → Option (List ℕ) → Type 0
Writes P held held' = (written : List ℕ) × P written × Appends held held' written

-- a sink gained the beginning of bytes of which this holds, and not all of it
abbrev pub WritesPart : (List ℕ → Type 0) → Option (List ℕ) → Option (List ℕ) → Type 0
WritesPart P held held' = (written : List ℕ) × P written × AppendsPart held held' written

-- this is answered, or a fault, or Memory
abbrev pub IsUnlessFault : Status → Status → Type 0
IsUnlessFault due status.ReadFault = ⊤
IsUnlessFault due status.WriteFault = ⊤
IsUnlessFault due status.Memory = ⊤
IsUnlessFault due result = result ≡ due

-- scripts were run, or a fault or Memory is answered
abbrev pub IsRunUnlessFault : Status → Type 0
IsRunUnlessFault status.Done = ⊤
IsRunUnlessFault status.EndedWithFaults = ⊤
IsRunUnlessFault status.Usage = ⊥
IsRunUnlessFault status.Refused = ⊥
IsRunUnlessFault status.TooLarge = ⊥
IsRunUnlessFault _ = ⊤

-- What is answered to an input, faults and Memory aside: an accepted set is run, refused bytes are refused, and too
-- many bytes are too large. No other input is answered so.
pub record IsJudged (result : Status) (bytes : List ℕ) : Type 0 where
  pub run : length bytes ≤ MOST_INPUT → IsSet bytes → IsRunUnlessFault result
  pub refused : length bytes ≤ MOST_INPUT → IsRefusedInput bytes → IsUnlessFault status.Refused result
  pub large : MOST_INPUT < length bytes → IsUnlessFault status.TooLarge result
  pub only_run : (result ≡ status.Done) ⊎ (result ≡ status.EndedWithFaults) → IsSet bytes
  pub only_refused : result ≡ status.Refused → IsRefusedInput bytes
  pub only_large : result ≡ status.TooLarge → MOST_INPUT < length bytes

-- what is answered to words that ask for a made set to be written
abbrev pub IsMadeUnlessFault : Status → Type 0
IsMadeUnlessFault status.Done = ⊤
IsMadeUnlessFault status.WriteFault = ⊤
IsMadeUnlessFault status.Memory = ⊤
IsMadeUnlessFault _ = ⊥
