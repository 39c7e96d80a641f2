-- The lexical grammar: what stands at the front of a script (ECMA-262, Lexical Grammar).
use Rattle.std.specs.Prelude.{ℕ, ◌+◌, ◌-◌, ◌*◌, Bool, true, false, ◌||◌, ◌&&◌, ◌==◌, nat_le, List, [], ◌∷◌, ◌++◌, length, drop, fold, Option, Some, None, unwrap_or, ℤ, pos, if◌then◌else◌, encode_utf8}
use Rattle.std.specs.List.{take_while}
use Rattle.std.specs.Str.{encode_utf8_all}
use Rattle.jo_value.specs.declared.limits.TheConstants.{MOST_NUMBER, MOST_TEXT_BYTES}
use Rattle.jo_lex.specs.declared.punct.Punct.{Punct}
use Rattle.jo_lex.specs.declared.refusal.RefusalKind.{RefusalKind}
use Rattle.jo_lex.specs.declared.refusal.RefusalKind.TheVariants.{BadToken, NumberTooLarge}
use Rattle.jo_lex.specs.Characters.{Characters, is_blank, is_in_line, is_word_start, is_word_part, is_spoiler, begins_with, drop_while}
use Rattle.jo_value.specs.Texts.{is_digit}
use Rattle.jo_lex.specs.Punctuators.{Row, punctuator_of}

-- a token without its place: a word's bytes, a number, the bytes that a text literal stands for, or a punctuator
pub data Lexeme : Type 0 where
  word : List ℕ → Lexeme
  number : ℤ → Lexeme
  text : List ℕ → Lexeme
  punctuator : Punct → Lexeme

-- blanks or a comment, a token, or what is wrong; with what is left of the script
pub data Piece : Type 0 where
  gap : Characters → Piece
  lexeme : Lexeme → Characters → Piece
  fault : RefusalKind → Piece

-- ---- comments

-- what is left after the first `*/`
abbrev pub after_close : Characters → Option Characters
after_close [] = None
after_close (c ∷ cs) = if c == 42 && begins_with (λ d. d == 47) cs then Some (drop 1 cs) else after_close cs

-- a comment that is not closed is no token
abbrev pub closed : Option Characters → Piece
closed None = fault BadToken
closed (Some rest) = gap rest

-- the comment that goes on so after a `/`: to before the end of its line after another `/`, and to the first `*/` after a `*`
abbrev pub comment : Characters → Option Piece
comment [] = None
comment (c ∷ cs) = if c == 47 then Some (gap (drop_while is_in_line cs)) else (if c == 42 then Some (closed (after_close cs)) else None)

-- ---- words and text literals, both of at most MOST_TEXT_BYTES bytes

-- a word or a text, unless it is too long
abbrev pub limited : (List ℕ → Lexeme) → List ℕ → Characters → Piece
limited kind bytes rest = if nat_le (length bytes) MOST_TEXT_BYTES then lexeme (kind bytes) rest else fault BadToken

-- a word, taken as long as it goes
abbrev pub word_piece : ℕ → Characters → Piece
word_piece c cs = limited word (encode_utf8_all (c ∷ take_while is_word_part cs)) (drop_while is_word_part cs)

-- `\`, `"` or `'`
abbrev pub is_escapable : ℕ → Bool
is_escapable c = c == 92 || c == 34 || c == 39

-- what a literal stands for, with these bytes before it
abbrev pub with_bytes : List ℕ → Option (List ℕ × Characters) → Option (List ℕ × Characters)
with_bytes bytes None = None
with_bytes bytes (Some p) = Some (bytes ++ p.0, p.1)

-- After the opening quote: the bytes that the literal stands for, and what is left after the closing quote. A character
-- stands for itself; after a backslash it has to be one of the three.
abbrev pub literal_rest : Bool → ℕ → Characters → Option (List ℕ × Characters)
literal_rest escaped quote [] = None
literal_rest true quote (c ∷ cs) = if is_escapable c then with_bytes (encode_utf8 c) (literal_rest false quote cs) else None
literal_rest false quote (c ∷ cs) =
    if c == quote then Some ([], cs)
    else (if c == 92 then literal_rest true quote cs
    else (if c == 10 || c == 13 then None
    else with_bytes (encode_utf8 c) (literal_rest false quote cs)))

-- a text literal, unless it is not closed or has another escape
abbrev pub text_piece : Option (List ℕ × Characters) → Piece
text_piece None = fault BadToken
text_piece (Some p) = limited text p.0 p.1

-- ---- numbers

-- the number whose decimal digits are these, after the digits of n
abbrev pub decimal : ℕ → Characters → ℕ
decimal n digits = fold (λ m d. m * 10 + (d - 48)) n digits

-- a number that nothing spoils, up to the largest
abbrev pub judged : ℕ → Characters → Piece
judged n rest = if begins_with is_spoiler rest then fault BadToken else (if nat_le n MOST_NUMBER then lexeme (number (pos n)) rest else fault NumberTooLarge)

-- `0` alone, or a digit and the digits after it
abbrev pub number_piece : ℕ → Characters → Piece
number_piece c cs = if c == 48 then judged 0 cs else judged (decimal (c - 48) (take_while is_digit cs)) (drop_while is_digit cs)

-- ---- punctuators

-- a punctuator with a value, and what is left after it
abbrev pub accepted : Option Punct → Characters → Piece
accepted None rest = fault BadToken
accepted (Some punct) rest = lexeme (punctuator punct) rest

-- the punctuator of these characters
abbrev pub punctuator_piece : Option Row → Characters → Piece
punctuator_piece None cs = fault BadToken
punctuator_piece (Some entry) cs = accepted entry.1 (drop (length entry.0) cs)

-- ---- the front of a script, by its first character and those after it

-- a word, a number, a text or a punctuator
abbrev pub token_piece : ℕ → Characters → Piece
token_piece c cs =
    if is_word_start c then word_piece c cs else (if is_digit c then number_piece c cs else (if c == 34 || c == 39 then text_piece (literal_rest false c cs) else punctuator_piece (punctuator_of (c ∷ cs)) (c ∷ cs)))

-- the piece at the front: all blanks there, one comment, one token, or what is wrong
unfoldable pub piece : ℕ → Characters → Piece
piece c cs =
    if is_blank c then gap (drop_while is_blank cs) else (if c == 47 then unwrap_or (comment cs) (token_piece c cs) else token_piece c cs)
