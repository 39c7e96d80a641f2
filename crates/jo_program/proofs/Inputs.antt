-- From what was read to the whole input.
use Rattle.std.proofs.Common.{◌≡◌, ℕ, ◌≤◌, ◌<◌, ◌+◌, List, ap, subst, refl, ⊎_elim, length, arith, length-append}
use Rattle.std.specs.Prelude.{◌≢◌, Option, Some, None, IfSome}
use Rattle.std.specs.Io.KnownBytes.{Consumes, IsAtEnd}
use Rattle.std.proofs.KnownBytes.{Consumes-whole}
use Rattle.jo_value.specs.declared.limits.TheConstants.{MOST_INPUT}
use Rattle.jo_run.specs.declared.set.Ended.{Ended}
use Rattle.jo_answer.specs.declared.due.Verdict.{Verdict}
use Rattle.jo_answer.specs.declared.due.Verdict.TheVariants as verdict
use Rattle.jo_answer.specs.declared.options.RunOptions.{RunOptions}
use Rattle.jo_answer.specs.Answers.{IsDue}
use Rattle.jo_answer.proofs.Runnable.{run_is_set, refused_input, large_input, set_runs, refused_refuses}
use Rattle.jo_program.specs.declared.status.Status.TheVariants as status
use Rattle.jo_program.specs.Run.{status_of, IsAnswer, IsJudged}
use Rattle.jo_program.proofs.Statuses.{same_said, due_status, run_status, run_verdict}

-- what is not too large was read to its end
pub answered : (left left' : Option (List ℕ)) (options : RunOptions) (said : Verdict) (bytes : List ℕ) (ended : Option Ended) (text : List ℕ)
    → Consumes left left' bytes → (length bytes < MOST_INPUT + 1 → IsAtEnd left') → ((said ≡ verdict.TooLarge → ⊥) → length bytes ≤ MOST_INPUT)
    → IsDue said options bytes ended text → IsAnswer options said left left' ended text
answered left left' options said bytes ended text read whole few due = record {
  bytes = bytes;
  read = read;
  whole = λ small. let le : length bytes ≤ MOST_INPUT = few small in whole (omega (arith, le));
  few = few;
  due = due;
}

-- ---- what is said of the bytes that were read

-- bytes that were read to their end, and are not too many
pub judged_whole : (options : RunOptions) (said : Verdict) (bytes : List ℕ) (ended : Option Ended) (text : List ℕ) → length bytes ≤ MOST_INPUT
    → IsDue said options bytes ended text → IsJudged (status_of said) bytes
judged_whole options said bytes ended text few due =
    let due_as : (v : Verdict) → said ≡ v → IsDue v options bytes ended text = λ v e. subst (λ v. IsDue v options bytes ended text) e due in
    record {
      run = λ small set. run_status said (set_runs options said bytes ended text small set due);
      refused = λ small refused. due_status said verdict.Refused (refused_refuses options said bytes ended text small refused due);
      large = λ more. absurd (omega (arith, few, more));
      only_run = λ is. run_is_set options said bytes ended text due (run_verdict said is);
      only_refused = λ is. refused_input options bytes ended text (due_as verdict.Refused (same_said said verdict.Refused is));
      only_large = λ is. large_input options bytes ended text (due_as verdict.TooLarge (same_said said verdict.TooLarge is));
    }

-- ---- what is said of the input

-- the beginning of an input that is too large
judged_large : (input : List ℕ) → MOST_INPUT < length input → IsJudged status.TooLarge input
judged_large input large = record {
  run = λ small set. absurd (omega (arith, small, large));
  refused = λ small h. absurd (omega (arith, small, large));
  large = λ more. refl;
  only_run = ⊎_elim (λ e. let never : ⊥ = cc in absurd never) (λ e. let never : ⊥ = cc in absurd never);
  only_refused = λ is. let never : ⊥ = cc in absurd never;
  only_large = λ is. large;
}

too_large : (left left' : Option (List ℕ)) (bytes : List ℕ) → Consumes left left' bytes → MOST_INPUT < length bytes → IfSome left (IsJudged status.TooLarge)
too_large None left' bytes read large = tt
too_large (Some input) None bytes read large = absurd read
too_large (Some input) (Some rest) bytes read large = judged_large input (omega (arith, large, ap length read, length-append bytes rest))

-- what is said of bytes that are not too many is said of the whole input
judged_read : (left left' : Option (List ℕ)) (options : RunOptions) (said : Verdict) (ended : Option Ended) (text : List ℕ) → said ≢ verdict.TooLarge
    → IsAnswer options said left left' ended text → IfSome left (IsJudged (status_of said))
judged_read left left' options said ended text small a =
    Consumes-whole left left' a.bytes (IsJudged (status_of said)) a.read (a.whole small) (judged_whole options said a.bytes ended text (a.few small) a.due)

pub judged : (left left' : Option (List ℕ)) (options : RunOptions) (said : Verdict) (ended : Option Ended) (text : List ℕ) → IsAnswer options said left left' ended text
    → IfSome left (IsJudged (status_of said))
judged left left' options verdict.Done ended text a = judged_read left left' options verdict.Done ended text (λ e. cc) a
judged left left' options verdict.EndedWithFaults ended text a = judged_read left left' options verdict.EndedWithFaults ended text (λ e. cc) a
judged left left' options verdict.Refused ended text a = judged_read left left' options verdict.Refused ended text (λ e. cc) a
judged left left' options verdict.TooLarge ended text a = too_large left left' a.bytes a.read (large_input options a.bytes ended text a.due)
