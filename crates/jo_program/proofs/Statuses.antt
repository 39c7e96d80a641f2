-- What is said of an input, as a status.
use Rattle.std.proofs.Common.{◌≡◌, ◌∙◌, refl, sym, ap, inl, inr}
use Rattle.std.specs.Prelude.{◌≢◌, ◌⊎◌}
use Rattle.jo_answer.specs.declared.due.Verdict.{Verdict}
use Rattle.jo_answer.specs.declared.due.Verdict.TheVariants as verdict
use Rattle.jo_answer.proofs.Runnable.{IsRunVerdict}
use Rattle.jo_program.specs.declared.status.Status.{Status}
use Rattle.jo_program.specs.declared.status.Status.TheVariants as status
use Rattle.jo_program.specs.Run.{status_of, IsUnlessFault, IsRunUnlessFault}

-- ---- each verdict has a status of its own

abbrev said_by : Status → Verdict
said_by status.Done = verdict.Done
said_by status.EndedWithFaults = verdict.EndedWithFaults
said_by status.TooLarge = verdict.TooLarge
said_by _ = verdict.Refused

said_by-status_of : (said : Verdict) → said_by (status_of said) ≡ said
said_by-status_of verdict.Done = refl
said_by-status_of verdict.EndedWithFaults = refl
said_by-status_of verdict.Refused = refl
said_by-status_of verdict.TooLarge = refl

pub same_said : (said due : Verdict) → status_of said ≡ status_of due → said ≡ due
same_said said due e = sym (said_by-status_of said) ∙ ap said_by e ∙ said_by-status_of due

-- and none is a fault of writing
pub said_is_no_fault : (said : Verdict) → status_of said ≢ status.WriteFault
said_is_no_fault verdict.Done = λ e. cc
said_is_no_fault verdict.EndedWithFaults = λ e. cc
said_is_no_fault verdict.Refused = λ e. cc
said_is_no_fault verdict.TooLarge = λ e. cc

-- or for other words
pub said_is_not_usage : (said : Verdict) → status_of said ≢ status.Usage
said_is_not_usage verdict.Done = λ e. cc
said_is_not_usage verdict.EndedWithFaults = λ e. cc
said_is_not_usage verdict.Refused = λ e. cc
said_is_not_usage verdict.TooLarge = λ e. cc

-- ---- what is due is answered

pub due_status : (said due : Verdict) → said ≡ due → IsUnlessFault (status_of due) (status_of said)
due_status verdict.Done due e = ap status_of e
due_status verdict.EndedWithFaults due e = ap status_of e
due_status verdict.Refused due e = ap status_of e
due_status verdict.TooLarge due e = ap status_of e

pub run_status : (said : Verdict) → IsRunVerdict said → IsRunUnlessFault (status_of said)
run_status verdict.Done is = tt
run_status verdict.EndedWithFaults is = tt
run_status verdict.Refused (inl e) = let never : ⊥ = cc in absurd never
run_status verdict.Refused (inr e) = let never : ⊥ = cc in absurd never
run_status verdict.TooLarge (inl e) = let never : ⊥ = cc in absurd never
run_status verdict.TooLarge (inr e) = let never : ⊥ = cc in absurd never

-- a status that says that scripts were run
pub run_verdict : (said : Verdict) → (status_of said ≡ status.Done) ⊎ (status_of said ≡ status.EndedWithFaults) → IsRunVerdict said
run_verdict said (inl e) = inl (same_said said verdict.Done e)
run_verdict said (inr e) = inr (same_said said verdict.EndedWithFaults e)
