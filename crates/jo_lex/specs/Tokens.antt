-- The tokens of a script with their places, the table of texts then, or the first fault.
use Rattle.std.specs.Prelude.{◌≡◌, ℕ, zero, suc, ◌+◌, ◌-◌, ◌&&◌, ◌==◌, Bool, List, [], ◌∷◌, ◌++◌, length, Option, Some, None, if◌then◌else◌}
use Rattle.jo_value.specs.Texts.{Table, id_in, interned}
use Rattle.jo_value.specs.declared.value.TextId.{TextId}
use Rattle.jo_value.specs.declared.limits.TheConstants.{MOST_TEXTS}
use Rattle.jo_parse_tree.specs.declared.keyword.Keyword.{Keyword}
use Rattle.jo_lex.specs.declared.token.Token.{Token}
use Rattle.jo_lex.specs.declared.token.TokenKind.{TokenKind}
use Rattle.jo_lex.specs.declared.token.TokenKind.TheVariants as kind
use Rattle.jo_lex.specs.declared.refusal.Refusal.{Refusal}
use Rattle.jo_lex.specs.declared.refusal.RefusalKind.{RefusalKind}
use Rattle.jo_lex.specs.declared.refusal.RefusalKind.TheVariants.{TooManyTexts}
use Rattle.jo_lex.specs.declared.refusal.ParseFault.{ParseFault}
use Rattle.jo_lex.specs.declared.refusal.ParseFault.TheVariants.{Memory, Refused}
use Rattle.jo_lex.specs.Characters.{Characters, size}
use Rattle.jo_lex.specs.Words.{reserved_as}
use Rattle.jo_lex.specs.Pieces.{Lexeme, word, number, text, punctuator, Piece, gap, lexeme, fault, piece}

-- ---- the kind of a token, and the table with its text

-- the text is new, and the table has as many as it may
abbrev pub is_one_too_many : Table → List ℕ → Bool
is_one_too_many table bytes = id_in table bytes == length table && length table == MOST_TEXTS

-- the id of a text, and the table with it
abbrev pub identified : (TextId → TokenKind) → Table → List ℕ → Option (TokenKind × Table)
identified of table bytes = if is_one_too_many table bytes then None else Some (of (record { 0 = id_in table bytes }), interned table bytes)

-- a keyword, another reserved word, or none
abbrev pub word_kind : Option (Option Keyword) → TextId → TokenKind
word_kind (Some (Some keyword)) id = kind.Keyword keyword
word_kind (Some None) id = kind.Reserved id
word_kind None id = kind.Word id

-- the kind of a token, and the table with its text; none where that would be one too many
abbrev pub token_kind : Table → Lexeme → Option (TokenKind × Table)
token_kind table (word bytes) = identified (word_kind (reserved_as bytes)) table bytes
token_kind table (number n) = Some (kind.Number n, table)
token_kind table (text bytes) = identified kind.Text table bytes
token_kind table (punctuator p) = Some (kind.Punct p, table)

-- ---- from piece to piece

-- how far a script is read: the place reached, what is left, the tokens before, and the table with their texts
pub record Progress : Type 0 where
  pub place : ℕ
  pub rest : Characters
  pub tokens : List Token
  pub table : Table

-- the end of the script, what is wrong at the place, or the progress after the next piece
pub data Advance : Type 0 where
  ended : Advance
  refused : RefusalKind → Advance
  onward : Progress → Advance

-- the place of what is left after a piece
abbrev pub place_after : Progress → Characters → ℕ
place_after s rest = s.place + (size s.rest - size rest)

-- the token goes last, at its place, unless its text would be one too many
abbrev pub with_token : Progress → Characters → Option (TokenKind × Table) → Advance
with_token s rest None = refused TooManyTexts
with_token s rest (Some p) = onward (record { place = place_after s rest; rest = rest; tokens = s.tokens ++ record { kind = p.0; start = s.place; end = place_after s rest } ∷ []; table = p.1 })

-- what a piece does
abbrev pub taken : Progress → Piece → Advance
taken s (gap rest) = onward (record s { place = place_after s rest; rest = rest })
taken s (lexeme l rest) = with_token s rest (token_kind s.table l)
taken s (fault k) = refused k

-- what the first of the characters that are left begins
abbrev pub next_of : Progress → Characters → Advance
next_of s [] = ended
next_of s (c ∷ cs) = taken s (piece c cs)

-- what stands at the place reached
abbrev pub next : Progress → Advance
next s = next_of s s.rest

-- the progress, or where it goes on
abbrev pub going_on : (Progress → Progress) → Progress → Advance → Progress
going_on go s ended = s
going_on go s (refused k) = s
going_on go s (onward t) = go t

-- the progress after n pieces, or where nothing goes on
unfoldable pub reached : ℕ → Progress → Progress
reached zero s = s
reached (suc n) s = going_on (reached n) s (next s)

-- ---- a whole script

-- nothing is read yet
abbrev pub start : ℕ → Table → Characters → Progress
start base table cs = record { place = base; rest = cs; tokens = []; table = table }

-- the last progress: a script has at most as many pieces as bytes
abbrev pub last : Progress → Progress
last s = reached (size s.rest) s

-- the token that closes a script
abbrev pub end_token : ℕ → Token
end_token place = record { kind = kind.End; start = place; end = place }

-- the whole script is read: its tokens and their end, and the table with their texts
pub record IsRead (s : Progress) (tokens : List Token) (table : Table) : Type 0 where
  pub ends : next (last s) ≡ ended
  pub tokens_are : tokens ≡ (last s).tokens ++ end_token (last s).place ∷ []
  pub table_is : table ≡ (last s).table

-- the first fault and its place, and the table with the texts of the tokens before it
pub record StopsAt (s : Progress) (refusal : Refusal) (table : Table) : Type 0 where
  pub kind_is : next (last s) ≡ refused refusal.kind
  pub place_is : refusal.place ≡ (last s).place
  pub table_is : table ≡ (last s).table

-- the table with the texts of the tokens up to some place
abbrev pub IsReached : Progress → Table → Type 0
IsReached s table = (n : ℕ) × (table ≡ (reached n s).table)

-- what is known where the fault is Memory, and where it is a refusal
abbrev pub Fails : Progress → Table → ParseFault → Type 0
Fails s table Memory = IsReached s table
Fails s table (Refused r) = StopsAt s r table
