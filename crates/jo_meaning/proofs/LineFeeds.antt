-- No text of the table of an accepted set has a line feed.
use Rattle.std.proofs.Common.{◌≡◌, ℕ, zero, suc, ◌+◌, ◌-◌, ◌<◌, ◌/◌, ◌%◌, ◌==◌, ◌||◌, not, nat_le, nat_lt, Bool, true, false, List, [], ◌∷◌, ◌++◌, length, Option, Some, None, unwrap_or, if◌then◌else◌, refl, sym, ap, subst, ◌∙◌, arith, true≢false}
use Rattle.std.proofs.lemmas.Bool.{and_parts, ne_eqb}
use Rattle.std.proofs.lemmas.List.Sums.{take_while-cons}
use Rattle.std.specs.List.{take_while, list_all}
use Rattle.std.specs.Char.{encode_utf8}
use Rattle.std.specs.Prelude.{pos}
use Rattle.std.specs.Str.{chars, encode_utf8_all}
use Rattle.unicode_ident.proofs.IdentLemmas.{is_xid_continue-ascii}
use Rattle.jo_value.specs.declared.limits.TheConstants.{MOST_NUMBER, MOST_TEXT_BYTES}
use Rattle.jo_value.specs.declared.value.TextId.{TextId}
use Rattle.jo_value.specs.Texts.{Table, id_in, interned, is_digit}
use Rattle.jo_lex.specs.declared.punct.Punct.{Punct}
use Rattle.jo_lex.specs.declared.token.Token.{Token}
use Rattle.jo_lex.specs.declared.token.TokenKind.{TokenKind}
use Rattle.jo_lex.specs.declared.token.TokenKind.TheVariants as kind
use Rattle.jo_lex.specs.declared.refusal.RefusalKind.TheVariants.{BadToken, NumberTooLarge}
use Rattle.jo_lex.specs.Characters.{Characters, is_blank, is_in_line, is_word_part, is_word_start, is_spoiler, begins_with, drop_while}
use Rattle.jo_lex.specs.Punctuators.{Row, punctuator_of}
use Rattle.jo_lex.specs.Words.{reserved_as}
use Rattle.jo_lex.specs.Pieces.{Lexeme, word, text, number, punctuator, Piece, gap, lexeme, fault, after_close, closed, comment, word_piece, is_escapable, with_bytes, literal_rest, text_piece, decimal, judged, number_piece, accepted, punctuator_piece, token_piece, piece}
use Rattle.jo_lex.specs.Tokens.{Progress, Advance, ended, refused, onward, is_one_too_many, identified, word_kind, token_kind, with_token, taken, next_of, next, going_on, reached, start, IsRead}
use Rattle.jo_parse_tree.specs.Trees.{Items}
use Rattle.jo_parse_grammar.specs.Cuts.{Section, sections_of}
use Rattle.jo_parse_grammar.specs.Sets.{AreRead, IsAcceptedSet}

-- ---- bytes without line feeds

-- there is no line feed among the bytes, or among the characters
abbrev pub IsOneLine : List ℕ → Type 0
IsOneLine bytes = list_all (λ b. not (b == 10)) bytes ≡ true

abbrev pub AreOneLine : List (List ℕ) → Type 0
AreOneLine [] = Unit {0}
AreOneLine (bytes ∷ texts) = IsOneLine bytes × AreOneLine texts

pub other_byte : (b : ℕ) → (b ≡ 10 → ⊥) → not (b == 10) ≡ true
other_byte b ne = ap not (ne_eqb b 10 ne)

pub one_line-cons : (b : ℕ) (bytes : List ℕ) → not (b == 10) ≡ true → IsOneLine bytes → IsOneLine (b ∷ bytes)
one_line-cons b bytes h k = rw h k

pub one_line-append : (front back : List ℕ) → IsOneLine front → IsOneLine back → IsOneLine (front ++ back)
one_line-append [] back h k = k
one_line-append (b ∷ front) back h k =
    let parts = and_parts (not (b == 10)) (list_all (λ c. not (c == 10)) front) h in
    one_line-cons b (front ++ back) parts.0 (one_line-append front back parts.1 k)

pub are_one_line-push : (texts : Table) (bytes : List ℕ) → AreOneLine texts → IsOneLine bytes → AreOneLine (texts ++ bytes ∷ [])
are_one_line-push [] bytes h k = (k, tt)
are_one_line-push (first ∷ texts) bytes h k = (h.0, are_one_line-push texts bytes h.1 k)

-- what fails at the line feed is no test for it
passes_not : (p : ℕ → Bool) (c : ℕ) (b : Bool) → p c ≡ b → p 10 ≡ not b → not (c == 10) ≡ true
passes_not p c true e none = other_byte c (λ f. true≢false (sym e ∙ ap p f ∙ none))
passes_not p c false e some = other_byte c (λ f. true≢false (sym (sym e ∙ ap p f ∙ some)))

-- ---- characters

encoded : (c : ℕ) → not (c == 10) ≡ true → IsOneLine (encode_utf8 c)
unfolding encode_utf8
encoded c h = step (nat_lt c 128) (nat_lt c 2048) (nat_lt c 65536)
  where
    high : (k n : ℕ) (bytes : List ℕ) → 10 < k → IsOneLine bytes → IsOneLine ((k + n) ∷ bytes)
    high k n bytes le h = one_line-cons (k + n) bytes (other_byte (k + n) (λ e. omega (arith, le, e))) h

    first : IsOneLine ((128 + c % 64) ∷ [])
    first = high 128 (c % 64) [] (omega arith) refl

    second : IsOneLine ((128 + c / 64 % 64) ∷ (128 + c % 64) ∷ [])
    second = high 128 (c / 64 % 64) ((128 + c % 64) ∷ []) (omega arith) first

    third : IsOneLine ((128 + c / 4096 % 64) ∷ (128 + c / 64 % 64) ∷ (128 + c % 64) ∷ [])
    third = high 128 (c / 4096 % 64) ((128 + c / 64 % 64) ∷ (128 + c % 64) ∷ []) (omega arith) second

    step : (x y z : Bool) → IsOneLine (if x then c ∷ [] else (if y then (192 + c / 64) ∷ (128 + c % 64) ∷ [] else (if z then (224 + c / 4096) ∷ (128 + c / 64 % 64) ∷ (128 + c % 64) ∷ [] else (240 + c / 262144) ∷ (128 + c / 4096 % 64) ∷ (128 + c / 64 % 64) ∷ (128 + c % 64) ∷ [])))
    step true y z = one_line-cons c [] h refl
    step false true z = high 192 (c / 64) ((128 + c % 64) ∷ []) (omega arith) first
    step false false true = high 224 (c / 4096) ((128 + c / 64 % 64) ∷ (128 + c % 64) ∷ []) (omega arith) second
    step false false false = high 240 (c / 262144) ((128 + c / 4096 % 64) ∷ (128 + c / 64 % 64) ∷ (128 + c % 64) ∷ []) (omega arith) third

encoded_all : (cs : Characters) → IsOneLine cs → IsOneLine (encode_utf8_all cs)
encoded_all [] h = refl
encoded_all (c ∷ cs) h =
    let parts = and_parts (not (c == 10)) (list_all (λ d. not (d == 10)) cs) h in
    one_line-append (encode_utf8 c) (encode_utf8_all cs) (encoded c parts.0) (encoded_all cs parts.1)

-- the characters at the front that pass a test which the line feed fails
passing : (p : ℕ → Bool) → p 10 ≡ false → (cs : Characters) → IsOneLine (take_while p cs)
passing p none [] = refl
passing p none (c ∷ cs) = rw (take_while-cons p c cs) (step (p c) refl (passing p none cs))
  where
    step : (b : Bool) → p c ≡ b → IsOneLine (take_while p cs) → IsOneLine (if b then c ∷ take_while p cs else [])
    step true e ih = one_line-cons c (take_while p cs) (passes_not p c true e none) ih
    step false e ih = refl

-- ---- text literals

abbrev IsPlainLiteral : Option (List ℕ × Characters) → Type 0
IsPlainLiteral None = Unit {0}
IsPlainLiteral (Some p) = IsOneLine p.0

with_plain : (bytes : List ℕ) (found : Option (List ℕ × Characters)) → IsOneLine bytes → IsPlainLiteral found → IsPlainLiteral (with_bytes bytes found)
with_plain bytes None h k = tt
with_plain bytes (Some p) h k = one_line-append bytes p.0 h k

literal_plain : (escaped : Bool) (quote : ℕ) (cs : Characters) → IsPlainLiteral (literal_rest escaped quote cs)
literal_plain escaped quote [] = tt
literal_plain true quote (c ∷ cs) = step (is_escapable c) refl (literal_plain false quote cs)
  where
    step : (b : Bool) → is_escapable c ≡ b → IsPlainLiteral (literal_rest false quote cs)
        → IsPlainLiteral (if b then with_bytes (encode_utf8 c) (literal_rest false quote cs) else None)
    step true e ih = with_plain (encode_utf8 c) (literal_rest false quote cs) (encoded c (passes_not is_escapable c true e refl)) ih
    step false e ih = tt
literal_plain false quote (c ∷ cs) = step (c == quote) (c == 92) (c == 10 || c == 13) refl (literal_plain true quote cs) (literal_plain false quote cs)
  where
    step : (x y z : Bool) → (c == 10 || c == 13) ≡ z → IsPlainLiteral (literal_rest true quote cs) → IsPlainLiteral (literal_rest false quote cs)
        → IsPlainLiteral (if x then Some ([], cs) else (if y then literal_rest true quote cs else (if z then None else with_bytes (encode_utf8 c) (literal_rest false quote cs))))
    step true y z e h k = refl
    step false true z e h k = h
    step false false true e h k = tt
    step false false false e h k =
        with_plain (encode_utf8 c) (literal_rest false quote cs) (encoded c (passes_not (λ d. d == 10 || d == 13) c false e refl)) k

-- ---- pieces

abbrev IsPlainLexeme : Lexeme → Type 0
IsPlainLexeme (word bytes) = IsOneLine bytes
IsPlainLexeme (number i) = Unit {0}
IsPlainLexeme (text bytes) = IsOneLine bytes
IsPlainLexeme (punctuator c) = Unit {0}

abbrev IsPlain : Piece → Type 0
IsPlain (gap rest) = Unit {0}
IsPlain (lexeme l rest) = IsPlainLexeme l
IsPlain (fault k) = Unit {0}

plain-if : (b : Bool) (p q : Piece) → IsPlain p → IsPlain q → IsPlain (if b then p else q)
plain-if true p q h k = h
plain-if false p q h k = k

judged-plain : (n : ℕ) (rest : Characters) → IsPlain (judged n rest)
judged-plain n rest =
    let found : Piece = if nat_le n MOST_NUMBER then lexeme (number (pos n)) rest else fault NumberTooLarge in
    plain-if (begins_with is_spoiler rest) (fault BadToken) found tt (plain-if (nat_le n MOST_NUMBER) (lexeme (number (pos n)) rest) (fault NumberTooLarge) tt tt)

number-plain : (c : ℕ) (cs : Characters) → IsPlain (number_piece c cs)
number-plain c cs =
    let n = decimal (c - 48) (take_while is_digit cs) in
    plain-if (c == 48) (judged 0 cs) (judged n (drop_while is_digit cs)) (judged-plain 0 cs) (judged-plain n (drop_while is_digit cs))

text-plain : (found : Option (List ℕ × Characters)) → IsPlainLiteral found → IsPlain (text_piece found)
text-plain None h = tt
text-plain (Some p) h = plain-if (nat_le (length p.0) MOST_TEXT_BYTES) (lexeme (text p.0) p.1) (fault BadToken) h tt

accepted-plain : (value : Option Punct) (rest : Characters) → IsPlain (accepted value rest)
accepted-plain None rest = tt
accepted-plain (Some c) rest = tt

punctuator-plain : (found : Option Row) (cs : Characters) → IsPlain (punctuator_piece found cs)
punctuator-plain None cs = tt
punctuator-plain (Some entry) cs = accepted-plain entry.1 _

closed-plain : (rest : Option Characters) → IsPlain (closed rest)
closed-plain None = tt
closed-plain (Some rest) = tt

comment-plain : (cs : Characters) (other : Piece) → IsPlain other → IsPlain (unwrap_or (comment cs) other)
comment-plain [] other h = h
comment-plain (c ∷ cs) other h = step (c == 47) (c == 42)
  where
    step : (a b : Bool) → IsPlain (unwrap_or (if a then Some (gap (drop_while is_in_line cs)) else (if b then Some (closed (after_close cs)) else None)) other)
    step true b = tt
    step false true = closed-plain (after_close cs)
    step false false = h

-- ---- tables

interned-plain : (texts : Table) (bytes : List ℕ) → AreOneLine texts → IsOneLine bytes → AreOneLine (interned texts bytes)
interned-plain texts bytes h k = step (nat_lt (id_in texts bytes) (length texts))
  where
    step : (b : Bool) → AreOneLine (if b then texts else texts ++ bytes ∷ [])
    step true = h
    step false = are_one_line-push texts bytes h k

abbrev IsPlainFound : Option (TokenKind × Table) → Type 0
IsPlainFound None = Unit {0}
IsPlainFound (Some found) = AreOneLine found.1

identified-plain : (of : TextId → TokenKind) (texts : Table) (bytes : List ℕ) → AreOneLine texts → IsOneLine bytes → IsPlainFound (identified of texts bytes)
identified-plain of texts bytes h k = step (is_one_too_many texts bytes)
  where
    step : (b : Bool) → IsPlainFound (if b then None else Some (of (record { 0 = id_in texts bytes }), interned texts bytes))
    step true = tt
    step false = interned-plain texts bytes h k

kind-plain : (texts : Table) (l : Lexeme) → AreOneLine texts → IsPlainLexeme l → IsPlainFound (token_kind texts l)
kind-plain texts (word bytes) h k = identified-plain (word_kind (reserved_as bytes)) texts bytes h k
kind-plain texts (number i) h k = h
kind-plain texts (text bytes) h k = identified-plain kind.Text texts bytes h k
kind-plain texts (punctuator c) h k = h

-- ---- from piece to piece

abbrev GoesOnPlain : Advance → Type 0
GoesOnPlain ended = Unit {0}
GoesOnPlain (refused k) = Unit {0}
GoesOnPlain (onward s) = AreOneLine s.table

token-next : (s : Progress) (rest : Characters) (found : Option (TokenKind × Table)) → IsPlainFound found → GoesOnPlain (with_token s rest found)
token-next s rest None h = tt
token-next s rest (Some found) h = h

taken-plain : (s : Progress) (p : Piece) → IsPlain p → AreOneLine s.table → GoesOnPlain (taken s p)
taken-plain s (gap rest) h k = k
taken-plain s (lexeme l rest) h k = token-next s rest (token_kind s.table l) (kind-plain s.table l k h)
taken-plain s (fault f) h k = tt

-- no line feed goes on with a word
ends_words : is_word_part 10 ≡ false
ends_words = rw (is_xid_continue-ascii 10 (omega arith)) refl

word-plain : (c : ℕ) (cs : Characters) → not (c == 10) ≡ true → IsPlain (word_piece c cs)
word-plain c cs h =
    let bytes = encode_utf8_all (c ∷ take_while is_word_part cs) in
    plain-if (nat_le (length bytes) MOST_TEXT_BYTES) (lexeme (word bytes) (drop_while is_word_part cs)) (fault BadToken)
    (encoded_all (c ∷ take_while is_word_part cs) (one_line-cons c (take_while is_word_part cs) h (passing is_word_part ends_words cs))) tt

token-plain : (c : ℕ) (cs : Characters) → not (c == 10) ≡ true → IsPlain (token_piece c cs)
token-plain c cs h =
    let literal = text_piece (literal_rest false c cs) in
    let operator = punctuator_piece (punctuator_of (c ∷ cs)) (c ∷ cs) in
    let other : Piece = if c == 34 || c == 39 then literal else operator in
    plain-if (is_word_start c) (word_piece c cs) (if is_digit c then number_piece c cs else other) (word-plain c cs h)
    (plain-if (is_digit c) (number_piece c cs) other (number-plain c cs)
    (plain-if (c == 34 || c == 39) literal operator (text-plain (literal_rest false c cs) (literal_plain false c cs)) (punctuator-plain (punctuator_of (c ∷ cs)) (c ∷ cs))))

piece-plain : (c : ℕ) (cs : Characters) → IsPlain (piece c cs)
unfolding piece
piece-plain c cs = step (is_blank c) refl
  where
    step : (b : Bool) → is_blank c ≡ b → IsPlain (if b then gap (drop_while is_blank cs) else (if c == 47 then unwrap_or (comment cs) (token_piece c cs) else token_piece c cs))
    step true e = tt
    step false e =
        let h = token-plain c cs (passes_not is_blank c false e refl) in
        plain-if (c == 47) (unwrap_or (comment cs) (token_piece c cs)) (token_piece c cs) (comment-plain cs (token_piece c cs) h) h

next-plain : (s : Progress) (cs : Characters) → AreOneLine s.table → GoesOnPlain (next_of s cs)
next-plain s [] k = tt
next-plain s (c ∷ cs) k = taken-plain s (piece c cs) (piece-plain c cs) k

going-plain : (n : ℕ) (s : Progress) (x : Advance) → GoesOnPlain x → AreOneLine s.table
    → ((t : Progress) → AreOneLine t.table → AreOneLine (reached n t).table) → AreOneLine (going_on (reached n) s x).table
going-plain n s ended h k ih = k
going-plain n s (refused f) h k ih = k
going-plain n s (onward t) h k ih = ih t h

reached-plain : (n : ℕ) (s : Progress) → AreOneLine s.table → AreOneLine (reached n s).table
unfolding reached
reached-plain zero s k = k
reached-plain (suc n) s k = going-plain n s (next s) (next-plain s s.rest k) k (reached-plain n)

-- ---- a whole set

read-plain : (s : Progress) (tokens : List Token) (after : Table) → AreOneLine s.table → IsRead s tokens after → AreOneLine after
read-plain s tokens after k h = subst AreOneLine (sym h.table_is) (reached-plain _ s k)

lists-plain : (texts : Table) (sections : List Section) (lists : List (List Token)) (end : Table) → AreOneLine texts → AreRead texts sections lists end → AreOneLine end
lists-plain texts [] [] end k h = subst AreOneLine (sym h) k
lists-plain texts [] (tokens ∷ lists) end k h = absurd h
lists-plain texts (section ∷ sections) [] end k h = absurd h
lists-plain texts (section ∷ sections) (tokens ∷ lists) end k h =
    lists-plain h.0 sections lists end (read-plain (start section.start texts (chars section.input)) tokens h.0 k h.1) h.2

pub no_line_feeds : (bytes : List ℕ) (scripts : List Items) (texts : Table) → IsAcceptedSet bytes scripts texts → AreOneLine texts
no_line_feeds bytes scripts texts h = lists-plain [] (sections_of bytes) h.parsed.lists texts tt h.parsed.lexed.read
