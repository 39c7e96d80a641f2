-- What one step of the reading does.
use Rattle.std.specs.Prelude.{◌≡◌, ℕ, List, [], ◌∷◌, ◌++◌, Some, None}
use Rattle.std.specs.Str.{chars}
use Rattle.jo_value.specs.Texts.{Table}
use Rattle.jo_value.specs.declared.texts.InternFault.{InternFault}
use Rattle.jo_value.specs.declared.texts.InternFault.TheVariants as intern
use Rattle.jo_lex.specs.declared.token.Token.{Token}
use Rattle.jo_lex.specs.declared.token.TokenKind.{TokenKind}
use Rattle.jo_lex.specs.declared.refusal.RefusalKind.TheVariants.{TooManyTexts}
use Rattle.jo_lex.specs.declared.refusal.ParseFault.{ParseFault}
use Rattle.jo_lex.specs.declared.refusal.ParseFault.TheVariants.{Memory, Refused}
use Rattle.jo_lex.specs.Faults.{IsMemoryOr}
use Rattle.jo_lex.specs.Pieces.{Lexeme}
use Rattle.jo_lex.specs.Tokens.{Progress, refused, next, token_kind}

-- the fault of an interning, at its place
abbrev pub fault_at : ℕ → InternFault → ParseFault
fault_at place intern.Memory = Memory
fault_at place intern.TooManyTexts = Refused (record { kind = TooManyTexts; place = place })

-- the progress at which this input is left to read
abbrev pub at : ℕ → List ℕ → List Token → Table → Progress
at place text tokens table = record { place = place; rest = chars text; tokens = tokens; table = table }

-- the token of a lexeme goes last, and its text is in the table
abbrev pub AddsToken : Lexeme → ℕ → ℕ → List Token → List Token → Table → Table → Type 0
AddsToken lexeme start end old new texts table = (kind : TokenKind) × (token_kind texts lexeme ≡ Some (kind, table)) × (new ≡ old ++ record { kind = kind; start = start; end = end } ∷ [])

-- no memory, or a text too many
abbrev pub IsTooMany : Lexeme → ℕ → Table → ParseFault → Type 0
IsTooMany lexeme place texts = IsMemoryOr (λ r. (token_kind texts lexeme ≡ None) × (r ≡ record { kind = TooManyTexts; place = place }))

-- no memory, or what is wrong with the next piece
abbrev pub FailsAt : Progress → ParseFault → Type 0
FailsAt s = IsMemoryOr (λ r. (next s ≡ refused r.kind) × (r.place ≡ s.place))
