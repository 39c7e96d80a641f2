-- What the code holds, as the grammar sees it.
use Rattle.std.specs.Prelude.{ℕ, ◌≤◌, Bool, ◌&&◌, ◌||◌, ◌==◌, if◌then◌else◌, nat_lt, nat_le, true, false, List, [], ◌∷◌, length, map, filter, Option}
use Rattle.std.specs.Borrow.{Bor}
use Rattle.std.specs.List.{list_all}
use Rattle.std.specs.String.{string_bytes}
use Rattle.std.specs.Str.{chars}
use Rattle.jo_parse_tree.specs.declared.keyword.Keyword.{Keyword}
use Rattle.jo_parse_tree.specs.Words.{keyword_of}
use Rattle.jo_lex.specs.declared.literal.Stroke.{Stroke}
use Rattle.jo_lex.specs.declared.literal.Stroke.TheVariants.{Close, Escape, Take, Refuse}
use Rattle.jo_lex.specs.declared.punct.Punct.{Punct}
use Rattle.jo_lex.specs.declared.piece.Lexeme.{Lexeme}
use Rattle.jo_lex.specs.declared.piece.Lexeme.TheVariants as token
use Rattle.jo_lex.specs.declared.piece.Piece.{Piece}
use Rattle.jo_lex.specs.declared.piece.Piece.TheVariants as found
use Rattle.jo_lex.specs.Pieces as spec
use Rattle.jo_lex.specs.Pieces.{is_escapable}
use Rattle.jo_lex.specs.Punctuators.{Row, table}
use Rattle.jo_lex.specs.Words.{reserved_words}

-- a lexeme of the code
abbrev pub lexeme_of : Lexeme → spec.Lexeme
lexeme_of (token.Word bytes) = spec.word bytes.now
lexeme_of (token.Number n) = spec.number n
lexeme_of (token.Text string) = spec.text (string_bytes string)
lexeme_of (token.Punct punct) = spec.punctuator punct

-- a piece of the code
abbrev pub piece_of : Piece → spec.Piece
piece_of (found.Gap rest) = spec.gap (chars rest.now)
piece_of (found.Token l rest) = spec.lexeme (lexeme_of l) (chars rest.now)
piece_of (found.Fault kind) = spec.fault kind

-- what is left takes at most n bytes
abbrev pub IsWithin : ℕ → Piece → Type 0
IsWithin n (found.Gap rest) = length rest.now ≤ n
IsWithin n (found.Token l rest) = length rest.now ≤ n
IsWithin n (found.Fault kind) = Unit {0}

-- a reserved word, and its keyword where the grammar names it
abbrev pub ReservedRow : Type 0
ReservedRow = List ℕ × Option Keyword

-- the rows of a table of reserved words of the code
abbrev pub rows_of : List (Bor (List ℕ) × Option Keyword) → List ReservedRow
rows_of rows = map (λ row. (row.0.now, row.1)) rows

-- all of them
unfoldable pub reserved_rows : List ReservedRow
reserved_rows = map (λ word. (word, keyword_of word)) reserved_words

-- the rows of a table of the code
abbrev pub entries_of : List (Bor (List ℕ) × Option Punct) → List Row
entries_of rows = map (λ row. (row.0.now, row.1)) rows

-- each byte is below 128
abbrev pub is_ascii : List ℕ → Bool
is_ascii bytes = list_all (λ b. nat_lt b 128) bytes

-- the entries are ASCII and not empty, and none is longer than the one before it
abbrev pub is_falling : ℕ → List Row → Bool
is_falling n [] = true
is_falling n (p ∷ ps) = is_ascii p.0 && nat_lt 0 (length p.0) && nat_le (length p.0) n && is_falling (length p.0) ps

-- a script with this first character may begin so
abbrev pub may_begin : ℕ → List ℕ → Bool
may_begin c [] = true
may_begin c (d ∷ ds) = d == c

-- the entry among the others, after those that are longer
abbrev pub put : Row → List Row → List Row
put p [] = p ∷ []
put p (q ∷ qs) = if nat_lt (length p.0) (length q.0) then q ∷ put p qs else p ∷ q ∷ qs

-- the entries, the longer ones first
abbrev pub longer_first : List Row → List Row
longer_first [] = []
longer_first (p ∷ ps) = put p (longer_first ps)

-- the punctuators that a script with this first character may begin with, the longer ones first
unfoldable pub entries_for : ℕ → List Row
entries_for c = longer_first (filter (λ p. may_begin c p.0) table)

-- what a character does in a text literal, after a backslash or not
abbrev pub stroke_of : Bool → ℕ → ℕ → Stroke
stroke_of true quote c = if is_escapable c then Take else Refuse
stroke_of false quote c = if c == quote then Close else (if c == 92 then Escape else (if c == 10 || c == 13 then Refuse else Take))
