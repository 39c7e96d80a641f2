-- Which faults the lexer gives.
use Rattle.std.proofs.Common.{subst, Bool, true, false, ℕ, ◌==◌, ◌||◌, List, [], ◌∷◌, length, drop, Option, Some, None}
use Rattle.std.proofs.Math.Logic.{inl, inr}
use Rattle.std.specs.List.{take_while}
use Rattle.std.specs.Str.{encode_utf8_all}
use Rattle.std.specs.Prelude.{if◌then◌else◌, unwrap_or, nat_le, pos, ◌-◌}
use Rattle.jo_value.specs.declared.limits.TheConstants.{MOST_NUMBER, MOST_TEXT_BYTES}
use Rattle.jo_value.specs.Texts.{Table, is_digit}
use Rattle.jo_lex.specs.declared.token.TokenKind.{TokenKind}
use Rattle.jo_lex.specs.declared.refusal.Refusal.{Refusal}
use Rattle.jo_lex.specs.declared.refusal.RefusalKind.{RefusalKind}
use Rattle.jo_lex.specs.declared.refusal.RefusalKind.TheVariants as kind
use Rattle.jo_lex.specs.declared.punct.Punct.{Punct}
use Rattle.jo_lex.specs.Characters.{Characters, begins_with, is_spoiler, is_word_start, is_word_part, is_blank, drop_while}
use Rattle.jo_lex.specs.Punctuators.{Row, punctuator_of}
use Rattle.jo_lex.specs.Pieces.{Lexeme, word, number, text, Piece, gap, lexeme, fault, after_close, closed, comment, limited, word_piece, literal_rest, text_piece, judged, decimal, number_piece, accepted, punctuator_piece, token_piece, piece}
use Rattle.jo_lex.specs.Tokens.{Progress, Advance, ended, refused, onward, with_token, taken, next_of, last, token_kind}
use Rattle.jo_parse_grammar.specs.Cuts.{Section}
use Rattle.jo_parse_grammar.specs.Sets.{begun, IsFirstUnread}

abbrev pub IsLexKind : RefusalKind → Type 0
IsLexKind kind.BadToken = Unit {0}
IsLexKind kind.NumberTooLarge = Unit {0}
IsLexKind kind.TooManyTexts = Unit {0}
IsLexKind _ = ⊥

abbrev Fine : Piece → Type 0
Fine (gap rest) = Unit {0}
Fine (lexeme l rest) = Unit {0}
Fine (fault k) = IsLexKind k

abbrev FineSome : Option Piece → Type 0
FineSome None = Unit {0}
FineSome (Some p) = Fine p

fine_if : (b : Bool) (p q : Piece) → Fine p → Fine q → Fine (if b then p else q)
fine_if true p q f g = f
fine_if false p q f g = g

some_if : (b : Bool) (p q : Option Piece) → FineSome p → FineSome q → FineSome (if b then p else q)
some_if true p q f g = f
some_if false p q f g = g

fine_or : (o : Option Piece) (p : Piece) → FineSome o → Fine p → Fine (unwrap_or o p)
fine_or None p f g = g
fine_or (Some q) p f g = f

closed-fine : (o : Option Characters) → Fine (closed o)
closed-fine None = tt
closed-fine (Some rest) = tt

comment-fine : (cs : Characters) → FineSome (comment cs)
comment-fine [] = tt
comment-fine (c ∷ cs) = some_if (c == 47) _ _ tt (some_if (c == 42) _ _ (closed-fine (after_close cs)) tt)

limited-fine : (make : List ℕ → Lexeme) (bytes : List ℕ) (rest : Characters) → Fine (limited make bytes rest)
limited-fine make bytes rest = fine_if (nat_le (length bytes) MOST_TEXT_BYTES) (lexeme (make bytes) rest) (fault kind.BadToken) tt tt

text-fine : (o : Option (List ℕ × Characters)) → Fine (text_piece o)
text-fine None = tt
text-fine (Some p) = limited-fine text p.0 p.1

judged-fine : (n : ℕ) (rest : Characters) → Fine (judged n rest)
judged-fine n rest =
    fine_if (begins_with is_spoiler rest) (fault kind.BadToken) (if nat_le n MOST_NUMBER then lexeme (number (pos n)) rest else fault kind.NumberTooLarge) tt
    (fine_if (nat_le n MOST_NUMBER) (lexeme (number (pos n)) rest) (fault kind.NumberTooLarge) tt tt)

number-fine : (c : ℕ) (cs : Characters) → Fine (number_piece c cs)
number-fine c cs =
    fine_if (c == 48) (judged 0 cs) (judged (decimal (c - 48) (take_while is_digit cs)) (drop_while is_digit cs)) (judged-fine 0 cs)
    (judged-fine (decimal (c - 48) (take_while is_digit cs)) (drop_while is_digit cs))

accepted-fine : (o : Option Punct) (rest : Characters) → Fine (accepted o rest)
accepted-fine None rest = tt
accepted-fine (Some p) rest = tt

punctuator-fine : (o : Option Row) (cs : Characters) → Fine (punctuator_piece o cs)
punctuator-fine None cs = tt
punctuator-fine (Some e) cs = accepted-fine e.1 (drop (length e.0) cs)

token-fine : (c : ℕ) (cs : Characters) → Fine (token_piece c cs)
token-fine c cs =
    let text_or_sign = if c == 34 || c == 39 then text_piece (literal_rest false c cs) else punctuator_piece (punctuator_of (c ∷ cs)) (c ∷ cs) in
    fine_if (is_word_start c) (word_piece c cs) (if is_digit c then number_piece c cs else text_or_sign)
    (limited-fine word (encode_utf8_all (c ∷ take_while is_word_part cs)) (drop_while is_word_part cs))
    (fine_if (is_digit c) (number_piece c cs) text_or_sign (number-fine c cs)
    (fine_if (c == 34 || c == 39) (text_piece (literal_rest false c cs)) (punctuator_piece (punctuator_of (c ∷ cs)) (c ∷ cs)) (text-fine (literal_rest false c cs)) (punctuator-fine (punctuator_of (c ∷ cs)) (c ∷ cs))))

piece-fine : (c : ℕ) (cs : Characters) → Fine (piece c cs)
unfolding piece
piece-fine c cs =
    fine_if (is_blank c) (gap (drop_while is_blank cs)) (if c == 47 then unwrap_or (comment cs) (token_piece c cs) else token_piece c cs) tt
    (fine_if (c == 47) (unwrap_or (comment cs) (token_piece c cs)) (token_piece c cs) (fine_or (comment cs) (token_piece c cs) (comment-fine cs) (token-fine c cs)) (token-fine c cs))

abbrev FineNext : Advance → Type 0
FineNext ended = Unit {0}
FineNext (refused k) = IsLexKind k
FineNext (onward s) = Unit {0}

with_token-fine : (s : Progress) (rest : Characters) (o : Option (TokenKind × Table)) → FineNext (with_token s rest o)
with_token-fine s rest None = tt
with_token-fine s rest (Some p) = tt

taken-fine : (s : Progress) (p : Piece) → Fine p → FineNext (taken s p)
taken-fine s (gap rest) f = tt
taken-fine s (lexeme l rest) f = with_token-fine s rest (token_kind s.table l)
taken-fine s (fault k) f = f

next-fine : (s : Progress) (cs : Characters) → FineNext (next_of s cs)
next-fine s [] = tt
next-fine s (c ∷ cs) = taken-fine s (piece c cs) (piece-fine c cs)

-- a script that is not read has a bad token, a number that is too large, or a text too many
pub is_lex_kind : (texts : Table) (sections : List Section) (refusal : Refusal) → IsFirstUnread texts sections refusal → IsLexKind refusal.kind
is_lex_kind texts [] refusal h = absurd h
is_lex_kind texts (p ∷ sections) refusal (inl (after, h)) = subst FineNext h.kind_is (next-fine (last (begun texts p)) (last (begun texts p)).rest)
is_lex_kind texts (p ∷ sections) refusal (inr (tokens, after, h, g)) = is_lex_kind after sections refusal g
