-- What the private functions of the top call say of what they answer.
use Rattle.std.specs.Prelude.{◌≡◌, ◌≢◌, ◌⊎◌, ℕ, List, Option}
use Rattle.std.specs.Io.KnownBytes.{Appends}
use Rattle.jo_io.specs.Bytes.{AppendsPart}
use Rattle.jo_answer.specs.declared.due.Verdict.{Verdict}
use Rattle.jo_program.specs.declared.status.Status.{Status}
use Rattle.jo_program.specs.declared.status.Status.TheVariants as status
use Rattle.jo_program.specs.Run.{status_of, Writes, WritesPart}

-- a text was written, and then this is due, or the writing failed
pub record IsPrinted (due : Status) (text : List ℕ) (held held' : Option (List ℕ)) (result : Status) : Type 0 where
  pub said : (result ≡ due) ⊎ (result ≡ status.WriteFault)
  pub whole : result ≢ status.WriteFault → Appends held held' text
  pub part : result ≡ status.WriteFault → AppendsPart held held' text

-- where something is said of a set, a sink gained bytes for which this holds; where the writing failed, the beginning of such bytes
pub record IsKept (is : Verdict → List ℕ → Type 0) (held held' : Option (List ℕ)) (result : Status) : Type 0 where
  pub whole : (said : Verdict) → result ≡ status_of said → Writes (is said) held held'
  pub part : result ≡ status.WriteFault → WritesPart (λ written. (said : Verdict) × is said written) held held'
  pub not_usage : result ≢ status.Usage
