-- What is said of an input that is run, and of one that is refused.
use Rattle.std.proofs.Common.{◌≡◌, ℕ, ◌≤◌, ◌<◌, List, refl, inl, inr, arith}
use Rattle.std.specs.Prelude.{◌⊎◌, length, Option, Some, None}
use Rattle.jo_value.specs.declared.limits.TheConstants.{MOST_INPUT}
use Rattle.jo_parse_grammar.proofs.OneAnswer.{set_or_refused}
use Rattle.jo_run.specs.declared.set.Ended.{Ended}
use Rattle.jo_answer.specs.declared.options.RunOptions.{RunOptions}
use Rattle.jo_answer.specs.declared.due.Verdict.{Verdict}
use Rattle.jo_answer.specs.declared.due.Verdict.TheVariants as verdict
use Rattle.jo_answer.specs.Answers.{IsVerdictOf, IsRun, IsDue, IsSet, IsRefusedInput}

-- ---- what is due

-- a run is due by what is said of its scripts
pub due_of_run : (said : Verdict) (options : RunOptions) (bytes written : List ℕ) (ended : Ended) → IsVerdictOf said ended.scripts.items
    → IsRun options ended bytes written → IsDue said options bytes (Some ended) written
due_of_run verdict.Done options bytes written ended is run = (is, run)
due_of_run verdict.EndedWithFaults options bytes written ended is run = (is, run)
due_of_run verdict.Refused options bytes written ended is run = absurd is
due_of_run verdict.TooLarge options bytes written ended is run = absurd is

-- ---- which inputs these are

-- it is said that scripts were run
abbrev pub IsRunVerdict : Verdict → Type 0
IsRunVerdict said = (said ≡ verdict.Done) ⊎ (said ≡ verdict.EndedWithFaults)

set_of_run : (options : RunOptions) (ended : Ended) (bytes written : List ℕ) → IsRun options ended bytes written → IsSet bytes
set_of_run options ended bytes written run = (run.scripts, run.texts, run.set)

-- what is run is an accepted set
pub run_is_set : (options : RunOptions) (said : Verdict) (bytes : List ℕ) (ended : Option Ended) (written : List ℕ) → IsDue said options bytes ended written
    → IsRunVerdict said → IsSet bytes
run_is_set options verdict.Done bytes (Some ended) written due is = set_of_run options ended bytes written due.1
run_is_set options verdict.EndedWithFaults bytes (Some ended) written due is = set_of_run options ended bytes written due.1
run_is_set options verdict.Done bytes None written due is = absurd due
run_is_set options verdict.EndedWithFaults bytes None written due is = absurd due
run_is_set options verdict.Refused bytes ended written due (inl e) = let never : ⊥ = cc in absurd never
run_is_set options verdict.Refused bytes ended written due (inr e) = let never : ⊥ = cc in absurd never
run_is_set options verdict.TooLarge bytes ended written due (inl e) = let never : ⊥ = cc in absurd never
run_is_set options verdict.TooLarge bytes ended written due (inr e) = let never : ⊥ = cc in absurd never

-- what is refused is a refused input
pub refused_input : (options : RunOptions) (bytes : List ℕ) (ended : Option Ended) (written : List ℕ) → IsDue verdict.Refused options bytes ended written
    → IsRefusedInput bytes
refused_input options bytes None written due = (due.refusal, due.refused)
refused_input options bytes (Some ended) written due = absurd due

-- what is too large has too many bytes
pub large_input : (options : RunOptions) (bytes : List ℕ) (ended : Option Ended) (written : List ℕ) → IsDue verdict.TooLarge options bytes ended written
    → MOST_INPUT < length bytes
large_input options bytes None written due = due.0
large_input options bytes (Some ended) written due = absurd due

-- ---- what is said

-- an accepted set is not refused
set_not_refused : (bytes : List ℕ) → IsSet bytes → IsRefusedInput bytes → ⊥
set_not_refused bytes set refused = set_or_refused bytes set.0 set.1 refused.0 set.2 refused.1

-- of an accepted set: its scripts were run
pub set_runs : (options : RunOptions) (said : Verdict) (bytes : List ℕ) (ended : Option Ended) (written : List ℕ) → length bytes ≤ MOST_INPUT → IsSet bytes
    → IsDue said options bytes ended written → IsRunVerdict said
set_runs options verdict.Done bytes ended written few set due = inl refl
set_runs options verdict.EndedWithFaults bytes ended written few set due = inr refl
set_runs options verdict.Refused bytes ended written few set due = absurd (set_not_refused bytes set (refused_input options bytes ended written due))
set_runs options verdict.TooLarge bytes ended written few set due =
    let large = large_input options bytes ended written due in absurd (omega (arith, few, large))

-- of a refused input: it is refused
pub refused_refuses : (options : RunOptions) (said : Verdict) (bytes : List ℕ) (ended : Option Ended) (written : List ℕ) → length bytes ≤ MOST_INPUT
    → IsRefusedInput bytes → IsDue said options bytes ended written → said ≡ verdict.Refused
refused_refuses options verdict.Done bytes ended written few refused due =
    absurd (set_not_refused bytes (run_is_set options verdict.Done bytes ended written due (inl refl)) refused)
refused_refuses options verdict.EndedWithFaults bytes ended written few refused due =
    absurd (set_not_refused bytes (run_is_set options verdict.EndedWithFaults bytes ended written due (inr refl)) refused)
refused_refuses options verdict.Refused bytes ended written few refused due = refl
refused_refuses options verdict.TooLarge bytes ended written few refused due =
    let large = large_input options bytes ended written due in absurd (omega (arith, few, large))
