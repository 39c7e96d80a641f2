-- What private functions of the parser answer, with the places of tokens.
use Rattle.std.specs.Prelude.{◌≡◌, ℕ, ◌-◌, List, length, Result, Ok, Err}
use Rattle.jo_lex.specs.declared.refusal.ParseFault.{ParseFault}
use Rattle.jo_lex.specs.declared.refusal.ParseFault.TheVariants.{Memory, Refused}
use Rattle.jo_lex.specs.declared.refusal.RefusalKind.TheVariants.{Unexpected, NestedTooDeep}
use Rattle.jo_lex.specs.declared.token.Token.{Token}
use Rattle.jo_parse_grammar.specs.declared.terminal.Terminal.{Terminal}
use Rattle.jo_parse_grammar.specs.Refusals.{Fault}
use Rattle.jo_parse_grammar.specs.TokenRefusals.{start_at, refusal_of}
use Rattle.jo_parse_script.specs.declared.stop.Stop.{Stop}
use Rattle.jo_parse_script.specs.declared.stop.Stop.TheVariants as s

-- the fault that a stop stands for, where `left` terminals are left
abbrev pub fault_at : List Token → List Terminal → ℕ → Stop → ParseFault
fault_at tokens ts left s.Memory = Memory
fault_at tokens ts left s.Unexpected = Refused record { kind = Unexpected; place = start_at tokens (length ts - left) }
fault_at tokens ts left s.NestedTooDeep = Refused record { kind = NestedTooDeep; place = start_at tokens (length ts - left) }

-- what reading the whole of the terminals gives is answered, with its place
abbrev pub Answered : {X A : Type 0} → (X → A) → List Token → List Terminal → Result A (Fault × List Terminal) → Result X ParseFault → Type 0
Answered view tokens ts outcome (Ok x) = outcome ≡ Ok (view x)
Answered view tokens ts outcome (Err Memory) = Unit {0}
Answered view tokens ts outcome (Err (Refused r)) = (fault : Fault) × (rest : List Terminal) × (outcome ≡ Err (fault, rest)) × (r ≡ refusal_of tokens ts fault rest)
