-- What is due for an input.
use Rattle.std.specs.Prelude.{◌≡◌, ℕ, ◌<◌, List, length, All, Option, Some, None}
use Rattle.jo_value.specs.declared.limits.TheConstants.{MOST_INPUT}
use Rattle.jo_value.specs.Texts.{Table}
use Rattle.jo_lex.specs.declared.refusal.Refusal.{Refusal}
use Rattle.jo_parse_tree.specs.Trees.{Items}
use Rattle.jo_model.specs.declared.call.Outcome.TheVariants as outcome
use Rattle.jo_parse_grammar.specs.Sets.{IsAcceptedSet, IsRefusal}
use Rattle.jo_run.specs.declared.set.Ended.{Ended}
use Rattle.jo_run.specs.declared.set.EndedScript.{EndedScript}
use Rattle.jo_run.specs.Sets.{HaveRun}
use Rattle.jo_answer.specs.declared.due.Verdict.{Verdict}
use Rattle.jo_answer.specs.declared.due.Verdict.TheVariants as verdict
use Rattle.jo_answer.specs.declared.options.RunOptions.{RunOptions}
use Rattle.jo_answer.specs.Forms.{written_of}
use Rattle.jo_answer.specs.Lines.{refusal_line, size_line}

-- ---- what is due

-- The bytes are an accepted set, which was run with as many turns for each script as the order says: all calls make one legal
-- history of its scripts, and what is written is the output of that, or what else the order asks for.
pub record IsRun (options : RunOptions) (ended : Ended) (bytes written : List ℕ) : Type 0 where
  pub scripts : List Items
  pub texts : Table
  pub set : IsAcceptedSet bytes scripts texts
  pub run : HaveRun scripts texts options.turns ended.scripts.items ended.closed
  pub output_is : written ≡ written_of options.form texts options.turns scripts ended

-- all scripts came to their ends without a fault
abbrev pub AreDone : List EndedScript → Type 0
AreDone scripts = All (λ s. s.outcome ≡ outcome.Done) scripts

-- what is said of scripts that were run
abbrev pub IsVerdictOf : Verdict → List EndedScript → Type 0
IsVerdictOf verdict.Done scripts = AreDone scripts
IsVerdictOf verdict.EndedWithFaults scripts = AreDone scripts → ⊥
IsVerdictOf _ scripts = ⊥

-- the bytes are refused, and what is written says for what and where
pub record IsRefusalLine (bytes written : List ℕ) : Type 0 where
  pub refusal : Refusal
  pub refused : IsRefusal bytes refusal
  pub line : written ≡ refusal_line refusal

-- What is said of these bytes with this order, what is left of a run, and what is due for them. Nothing is left where nothing
-- was run.
abbrev pub IsDue : Verdict → RunOptions → List ℕ → Option Ended → List ℕ → Type 0
IsDue verdict.Done options bytes (Some ended) written = AreDone ended.scripts.items × IsRun options ended bytes written
IsDue verdict.EndedWithFaults options bytes (Some ended) written = (AreDone ended.scripts.items → ⊥) × IsRun options ended bytes written
IsDue verdict.Refused options bytes None written = IsRefusalLine bytes written
IsDue verdict.TooLarge options bytes None written = (MOST_INPUT < length bytes) × (written ≡ size_line)
IsDue _ options bytes _ written = ⊥

-- ---- which inputs these are

-- an accepted set
abbrev pub IsSet : List ℕ → Type 0
IsSet bytes = (scripts : List Items) × (texts : Table) × IsAcceptedSet bytes scripts texts

-- an input that is refused
abbrev pub IsRefusedInput : List ℕ → Type 0
IsRefusedInput bytes = (refusal : Refusal) × IsRefusal bytes refusal
