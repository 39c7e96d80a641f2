-- What comes of a write that may fail.
use Rattle.std.proofs.Common.{◌≡◌, ◌≢◌, ◌∙◌, ℕ, List, sym, subst, inr, ⊎_elim, Option, Some, None, arith}
use Rattle.std.specs.Prelude.{◌⊎◌, String, IfSome}
use Rattle.std.specs.declared.alloc.Global.{Global}
use Rattle.jo_run.specs.declared.set.Ended.{Ended}
use Rattle.jo_answer.specs.declared.due.Verdict.{Verdict}
use Rattle.jo_made.specs.Made.{made}
use Rattle.jo_made.proofs.Lengths.{made_short}
use Rattle.jo_program.specs.declared.status.Status.{Status}
use Rattle.jo_program.specs.declared.status.Status.TheVariants as status
use Rattle.jo_program.specs.declared.command.Command.{Command}
use Rattle.jo_program.specs.Words.{command_of}
use Rattle.jo_program.specs.Run.{status_of, IsAnswerBy, IsAnswerTo, IsDueOutput, IsJudged, Writes, WritesPart}
use Rattle.jo_program.specs.inner.Keeping.{IsKept, IsPrinted}
use Rattle.jo_program.proofs.Statuses.{same_said, said_is_no_fault, said_is_not_usage}

-- ---- what was written

-- of a text that is due
pub kept_of_printed : (is : Verdict → List ℕ → Type 0) (due : Verdict) (text : List ℕ) (held held' : Option (List ℕ)) (result : Status)
    → IsPrinted (status_of due) text held held' result → is due text → IsKept is held held' result
kept_of_printed is due text held held' result printed so = record {
  whole = λ said given. let other : result ≢ status.WriteFault = λ fault. said_is_no_fault said (sym given ∙ fault) in
      let same : due ≡ said = ⊎_elim (λ e. same_said due said (sym e ∙ given)) (λ fault. absurd (other fault)) printed.said in
      (text, subst (λ v. is v text) same so, printed.whole other);
  part = λ fault. (text, (due, so), printed.part fault);
  not_usage = λ usage. ⊎_elim (λ e. said_is_not_usage due (sym e ∙ usage)) (λ fault. let never : ⊥ = cc in absurd never) printed.said;
}

-- by a command that is known
pub kept_by : (known command : Command) (left left' held held' : Option (List ℕ)) (result : Status) (ended : Option Ended) → command ≡ known
    → IsKept (λ said. IsAnswerBy known said left left' ended) held held' result
    → IsKept (λ said. IsAnswerBy command said left left' ended) held held' result
kept_by known command left left' held held' result ended is kept =
    subst (λ k. IsKept (λ said. IsAnswerBy k said left left' ended) held held' result) (sym is) kept

-- by what the words ask for
pub answered_to : (words : List (String Global)) (command : Command) (said : Verdict) (left left' held held' : Option (List ℕ)) (ended : Option Ended)
    → command_of words ≡ Some command → Writes (IsAnswerBy command said left left' ended) held held'
    → Writes (IsAnswerTo words said left left' ended) held held'
answered_to words command said left left' held held' ended given (written, so, appended) =
    (written, record { command = command; given = given; answer = so }, appended)

pub part_of_answer : (words : List (String Global)) (command : Command) (left left' held held' : Option (List ℕ)) (ended : Option Ended)
    → command_of words ≡ Some command → WritesPart (λ written. (said : Verdict) × IsAnswerBy command said left left' ended written) held held'
    → WritesPart (IsDueOutput words left left' ended) held held'
part_of_answer words command left left' held held' ended given (written, so, appended) =
    (written, inr (so.0, record { command = command; given = given; answer = so.1 }), appended)

-- ---- which inputs are judged so

-- a fault of writing is said of any input
judged_fault : (bytes : List ℕ) → IsJudged status.WriteFault bytes
judged_fault bytes = record {
  run = λ few set. tt;
  refused = λ few h. tt;
  large = λ more. tt;
  only_run = ⊎_elim (λ e. let never : ⊥ = cc in absurd never) (λ e. let never : ⊥ = cc in absurd never);
  only_refused = λ is. let never : ⊥ = cc in absurd never;
  only_large = λ is. let never : ⊥ = cc in absurd never;
}

pub judged_printed : (due result : Status) (bytes : List ℕ) → (result ≡ due) ⊎ (result ≡ status.WriteFault) → IsJudged due bytes → IsJudged result bytes
judged_printed due result bytes said judged =
    ⊎_elim (λ e. subst (λ s. IsJudged s bytes) (sym e) judged) (λ fault. subst (λ s. IsJudged s bytes) (sym fault) (judged_fault bytes)) said

-- the same of an input, where its bytes are known
pub judged_printed_of : (left : Option (List ℕ)) (due result : Status) → (result ≡ due) ⊎ (result ≡ status.WriteFault) → IfSome left (IsJudged due)
    → IfSome left (IsJudged result)
judged_printed_of None due result said judged = tt
judged_printed_of (Some bytes) due result said judged = judged_printed due result bytes said judged

-- no made set is too large
pub made_is_small : (number : ℕ) (result : Status) → IsJudged result (made number) → result ≢ status.TooLarge
made_is_small number result judged = λ large. absurd (omega (arith, judged.only_large large, made_short number))
