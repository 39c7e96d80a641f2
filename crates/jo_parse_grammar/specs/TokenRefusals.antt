-- What the parser answers for the tokens of a script.
use Rattle.std.specs.Prelude.{◌≡◌, ℕ, ◌-◌, List, length, slice_get, Result, Ok, Err}
use Rattle.std.specs.Option.{option_map_or}
use Rattle.jo_lex.specs.declared.refusal.ParseFault.{ParseFault}
use Rattle.jo_lex.specs.declared.refusal.ParseFault.TheVariants.{Memory, Refused}
use Rattle.jo_lex.specs.declared.refusal.Refusal.{Refusal}
use Rattle.jo_lex.specs.declared.refusal.RefusalKind.{RefusalKind}
use Rattle.jo_lex.specs.declared.refusal.RefusalKind.TheVariants.{Unexpected, NestedTooDeep}
use Rattle.jo_lex.specs.declared.token.Token.{Token}
use Rattle.jo_lex.specs.Faults.{IsMemoryOr}
use Rattle.jo_parse_grammar.specs.declared.terminal.Terminal.{Terminal}
use Rattle.jo_parse_grammar.specs.Refusals.{Language, Fault, unexpected, too_deep, IsRefused}
use Rattle.jo_value.specs.declared.limits.TheConstants.{MOST_OPEN}

-- the place of the token at an index, or 0 where there is none
abbrev pub start_at : List Token → ℕ → ℕ
start_at tokens i = option_map_or (λ token. token.start) (slice_get tokens i) 0

abbrev pub refusal_kind : Fault → RefusalKind
refusal_kind unexpected = Unexpected
refusal_kind too_deep = NestedTooDeep

-- the fault, at the place of the token that the rest begins with
abbrev pub refusal_of : List Token → List Terminal → Fault → List Terminal → Refusal
refusal_of tokens ts fault rest = record { kind = refusal_kind fault; place = start_at tokens (length ts - length rest) }

-- the answer is this tree, unless memory fails
abbrev pub Gives : {X A : Type 0} → (X → A) → A → Result X ParseFault → Type 0
Gives view tree (Ok x) = view x ≡ tree
Gives view tree (Err Memory) = Unit {0}
Gives view tree (Err (Refused r)) = ⊥

-- Memory, or the refusal of the terminals by the grammar and the limit
abbrev pub IsFault : {A : Type 0} → Language A → List Token → List Terminal → ParseFault → Type 0
IsFault L tokens ts = IsMemoryOr (λ r. (fault : Fault) × (rest : List Terminal) × IsRefused L MOST_OPEN fault ts rest × (r ≡ refusal_of tokens ts fault rest))
