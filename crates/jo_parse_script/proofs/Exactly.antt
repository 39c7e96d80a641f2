-- A public call answers exactly, where reading the whole of the terminals does.
use Rattle.std.proofs.Common.{◌≡◌, ◌∙◌, sym, ap, subst, List, Result, Ok, Err}
use Rattle.std.specs.Prelude.{IfOk, IfErr}
use Rattle.jo_lex.specs.declared.token.Token.{Token}
use Rattle.jo_lex.specs.declared.refusal.ParseFault.{ParseFault}
use Rattle.jo_lex.specs.declared.refusal.ParseFault.TheVariants.{Memory, Refused}
use Rattle.jo_parse_grammar.specs.declared.terminal.Terminal.{Terminal}
use Rattle.jo_parse_grammar.specs.Refusals.{Language, Fault, IsAccepted}
use Rattle.jo_parse_grammar.proofs.Accepted.{Answers}
use Rattle.jo_lex.specs.Faults.{Refuses}
use Rattle.jo_parse_grammar.specs.TokenRefusals.{Gives, IsFault, refusal_of}
use Rattle.jo_parse_script.specs.inner.Answered.{Answered}
use Rattle.jo_value.specs.declared.limits.TheConstants.{MOST_OPEN}

module _ {X A : Type 0} (view : X → A) (L : Language A) (tokens : List Token) (ts : List Terminal) (w : Result A (Fault × List Terminal)) where
  ok-once : (a b : A) → (let v : Result A (Fault × List Terminal) = Ok a in v ≡ Ok b) → a ≡ b
  ok-once a b e = cc

  err-once : (f g : Fault × List Terminal) → (let v : Result A (Fault × List Terminal) = Err f in v ≡ Err g) → f ≡ g
  err-once f g e = cc

  ok-err : (a : A) (f : Fault × List Terminal) → (let v : Result A (Fault × List Terminal) = Ok a in v ≡ Err f) → ⊥
  ok-err a f e = cc

  pub exactly-ok : Answers L MOST_OPEN ts w → (x : Result X ParseFault) → Answered view tokens ts w x → IfOk x (λ s. IsAccepted L MOST_OPEN ts (view s))
  exactly-ok exact (Ok s) e = subst (λ v. Answers L MOST_OPEN ts v) e exact
  exactly-ok exact (Err f) e = tt

  pub exactly-refused : Answers L MOST_OPEN ts w → (x : Result X ParseFault) → Answered view tokens ts w x → IfErr x (IsFault L tokens ts)
  exactly-refused exact (Ok s) e = tt
  exactly-refused exact (Err Memory) e = tt
  exactly-refused exact (Err (Refused r)) (f, rest, e, same) = (f, rest, subst (λ v. Answers L MOST_OPEN ts v) e exact, same)

  pub exactly-complete : (x : Result X ParseFault) → Answered view tokens ts w x → (a : A) → w ≡ Ok a → Gives view a x
  exactly-complete (Ok s) e a h = ok-once (view s) a (sym e ∙ h)
  exactly-complete (Err Memory) e a h = tt
  exactly-complete (Err (Refused r)) (f, rest, e, same) a h = ok-err a (f, rest) (sym h ∙ e)

  pub exactly-first : (x : Result X ParseFault) → Answered view tokens ts w x → (f : Fault) (rest : List Terminal) → w ≡ Err (f, rest) → Refuses (refusal_of tokens ts f rest) x
  exactly-first (Ok s) e f rest h = ok-err (view s) (f, rest) (sym e ∙ h)
  exactly-first (Err Memory) e f rest h = tt
  exactly-first (Err (Refused r)) (g, left, e, same) f rest h = same ∙ ap (λ v. refusal_of tokens ts v.0 v.1) (err-once (g, left) (f, rest) (sym e ∙ h))
