-- What is answered for the whole of the terminals.
use Rattle.std.proofs.Common.{◌≡◌, ℕ, List, [], ◌∷◌, ◌++◌, Result, Ok, Err, refl, ap}
use Rattle.jo_parse_grammar.specs.declared.terminal.Terminal.{Terminal}
use Rattle.jo_parse_grammar.specs.Refusals.{Language, IsAccepted, Fault, IsRefused}

pub list-end : (x : List Terminal) → x ++ [] ≡ x
list-end [] = refl
list-end (c ∷ x) = ap (λ v. c ∷ v) (list-end x)

abbrev pub Answers : {A : Type 0} → Language A → ℕ → List Terminal → Result A (Fault × List Terminal) → Type 0
Answers L limit ts (Ok a) = IsAccepted L limit ts a
Answers L limit ts (Err f) = IsRefused L limit f.0 ts f.1
