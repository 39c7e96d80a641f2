-- The tokens of a script that is read: their texts are in the table after it, their numbers in range, and the table has only grown.
use Rattle.std.proofs.Common.{◌≡◌, ℕ, zero, suc, ◌+◌, ◌-◌, ◌<◌, ◌≤◌, ◌==◌, ◌||◌, nat_le, nat_lt, Bool, true, false, not, cond, List, [], ◌∷◌, ◌++◌, length, Option, Some, None, unwrap_or, if◌then◌else◌, refl, sym, ap, subst, ◌∙◌, arith, length-append, append-nil, append_assoc}
use Rattle.std.proofs.lemmas.Bool.{leb-true, ltb-true}
use Rattle.std.proofs.lemmas.Cmp.{nat_list_eq_equiv}
use Rattle.std.specs.List.{take_while}
use Rattle.std.specs.Str.{bytes_eq, encode_utf8_all}
use Rattle.std.specs.Prelude.{pos}
use Rattle.jo_value.specs.declared.limits.TheConstants.{MOST_NUMBER, MOST_TEXT_BYTES}
use Rattle.jo_value.specs.declared.value.TextId.{TextId}
use Rattle.jo_value.specs.Texts.{Table, id_in, interned, is_digit}
use Rattle.jo_value.proofs.Places.{place_within}
use Rattle.jo_parse_tree.specs.declared.keyword.Keyword.{Keyword}
use Rattle.jo_parse_tree.specs.Words.{keyword_text, keyword_of}
use Rattle.jo_parse_tree.proofs.Keywords.{text-of-keyword}
use Rattle.jo_lex.specs.declared.punct.Punct.{Punct}
use Rattle.jo_lex.specs.declared.token.Token.{Token}
use Rattle.jo_lex.specs.declared.token.TokenKind.{TokenKind}
use Rattle.jo_lex.specs.declared.token.TokenKind.TheVariants as kind
use Rattle.jo_lex.specs.declared.refusal.RefusalKind.TheVariants.{BadToken, NumberTooLarge}
use Rattle.jo_lex.specs.Characters.{Characters, size, is_blank, is_in_line, is_word_part, is_word_start, is_spoiler, begins_with, drop_while}
use Rattle.jo_lex.specs.Punctuators.{Row, punctuator_of}
use Rattle.jo_lex.specs.Words.{is_reserved, reserved_as}
use Rattle.jo_lex.specs.Pieces.{Lexeme, word, text, number, punctuator, Piece, gap, lexeme, fault, after_close, closed, comment, word_piece, literal_rest, text_piece, decimal, judged, number_piece, accepted, punctuator_piece, token_piece, piece}
use Rattle.jo_lex.specs.Tokens.{Progress, Advance, ended, refused, onward, is_one_too_many, identified, word_kind, token_kind, place_after, with_token, taken, next_of, next, going_on, reached, start, last, end_token, IsRead}
use Rattle.jo_parse_grammar.specs.Sound.{IsInRange}

-- ---- numbers in pieces

abbrev IsRanged : Lexeme → Type 0
IsRanged (word bytes) = Unit {0}
IsRanged (number i) = IsInRange i
IsRanged (text bytes) = Unit {0}
IsRanged (punctuator c) = Unit {0}

abbrev HasRange : Piece → Type 0
HasRange (gap rest) = Unit {0}
HasRange (lexeme l rest) = IsRanged l
HasRange (fault k) = Unit {0}

range-if : (b : Bool) (p q : Piece) → HasRange p → HasRange q → HasRange (if b then p else q)
range-if true p q h k = h
range-if false p q h k = k

judged-range : (n : ℕ) (rest : Characters) → HasRange (judged n rest)
judged-range n rest = range-if (begins_with is_spoiler rest) (fault BadToken) (if nat_le n MOST_NUMBER then lexeme (number (pos n)) rest else fault NumberTooLarge) tt (step (nat_le n MOST_NUMBER) refl)
  where
    step : (b : Bool) → nat_le n MOST_NUMBER ≡ b → HasRange (if b then lexeme (number (pos n)) rest else fault NumberTooLarge)
    step true e = leb-true n MOST_NUMBER e
    step false e = tt

number-range : (c : ℕ) (cs : Characters) → HasRange (number_piece c cs)
number-range c cs =
    let n = decimal (c - 48) (take_while is_digit cs) in
    range-if (c == 48) (judged 0 cs) (judged n (drop_while is_digit cs)) (judged-range 0 cs) (judged-range n (drop_while is_digit cs))

text-range : (found : Option (List ℕ × Characters)) → HasRange (text_piece found)
text-range None = tt
text-range (Some p) = range-if (nat_le (length p.0) MOST_TEXT_BYTES) (lexeme (text p.0) p.1) (fault BadToken) tt tt

accepted-range : (value : Option Punct) (rest : Characters) → HasRange (accepted value rest)
accepted-range None rest = tt
accepted-range (Some c) rest = tt

punctuator-range : (found : Option Row) (cs : Characters) → HasRange (punctuator_piece found cs)
punctuator-range None cs = tt
punctuator-range (Some entry) cs = accepted-range entry.1 _

word-range : (c : ℕ) (cs : Characters) → HasRange (word_piece c cs)
word-range c cs =
    let bytes = encode_utf8_all (c ∷ take_while is_word_part cs) in
    range-if (nat_le (length bytes) MOST_TEXT_BYTES) (lexeme (word bytes) (drop_while is_word_part cs)) (fault BadToken) tt tt

token-range : (c : ℕ) (cs : Characters) → HasRange (token_piece c cs)
token-range c cs =
    let literal = text_piece (literal_rest false c cs) in
    let operator = punctuator_piece (punctuator_of (c ∷ cs)) (c ∷ cs) in
    let other : Piece = if c == 34 || c == 39 then literal else operator in
    range-if (is_word_start c) (word_piece c cs) (if is_digit c then number_piece c cs else other) (word-range c cs)
    (range-if (is_digit c) (number_piece c cs) other (number-range c cs)
    (range-if (c == 34 || c == 39) literal operator (text-range (literal_rest false c cs)) (punctuator-range (punctuator_of (c ∷ cs)) (c ∷ cs))))

closed-range : (rest : Option Characters) → HasRange (closed rest)
closed-range None = tt
closed-range (Some rest) = tt

comment-range : (cs : Characters) (other : Piece) → HasRange other → HasRange (unwrap_or (comment cs) other)
comment-range [] other h = h
comment-range (c ∷ cs) other h = step (c == 47) (c == 42)
  where
    step : (a b : Bool) → HasRange (unwrap_or (if a then Some (gap (drop_while is_in_line cs)) else (if b then Some (closed (after_close cs)) else None)) other)
    step true b = tt
    step false true = closed-range (after_close cs)
    step false false = h

piece-range : (c : ℕ) (cs : Characters) → HasRange (piece c cs)
unfolding piece
piece-range c cs =
    let token = token_piece c cs in
    range-if (is_blank c) (gap (drop_while is_blank cs)) (if c == 47 then unwrap_or (comment cs) token else token) tt
    (range-if (c == 47) (unwrap_or (comment cs) token) token (comment-range cs token (token-range c cs)) (token-range c cs))

-- ---- tables

-- the table with more texts after
abbrev pub Extends : Table → Table → Type 0
Extends texts after = (more : Table) × (after ≡ texts ++ more)

pub extends-itself : (texts : Table) → Extends texts texts
extends-itself texts = ([], sym (append-nil texts))

pub extends-further : (first second third : Table) → Extends first second → Extends second third → Extends first third
extends-further first second third h k = (h.0 ++ k.0, k.1 ∙ ap (λ t. t ++ k.0) h.1 ∙ append_assoc first h.0 k.0)

pub extends-length : (texts after : Table) → Extends texts after → length texts ≤ length after
extends-length texts after h = omega (arith, ap length h.1, length-append texts h.0)

-- the text is in the table
abbrev pub Has : Table → List ℕ → Type 0
Has texts bytes = id_in texts bytes < length texts

-- and stays there
has-before : (texts more : Table) (bytes : List ℕ) → Has texts bytes → Has (texts ++ more) bytes
has-before [] more bytes h = absurd (omega (arith, h))
has-before (first ∷ texts) more bytes h = step (bytes_eq first bytes) h (has-before texts more bytes)
  where
    step : (b : Bool) → cond (not b) (1 + id_in texts bytes) 0 < suc (length texts) → (Has texts bytes → Has (texts ++ more) bytes) → cond (not b) (1 + id_in (texts ++ more) bytes) 0 < suc (length (texts ++ more))
    step true h k = omega arith
    step false h k = omega (arith, k (omega (arith, h)))

has-further : (texts after : Table) (bytes : List ℕ) → Extends texts after → Has texts bytes → Has after bytes
has-further texts after bytes grown h = subst (λ t. Has t bytes) (sym grown.1) (has-before texts grown.0 bytes h)

has-last : (texts : Table) (bytes : List ℕ) → Has (texts ++ bytes ∷ []) bytes
has-last [] bytes = rw (nat_list_eq_equiv.refl bytes) (omega arith)
has-last (first ∷ texts) bytes = step (bytes_eq first bytes) (has-last texts bytes)
  where
    step : (b : Bool) → Has (texts ++ bytes ∷ []) bytes → cond (not b) (1 + id_in (texts ++ bytes ∷ []) bytes) 0 < suc (length (texts ++ bytes ∷ []))
    step true h = omega arith
    step false h = omega (arith, h)

-- the text is in the table with it, by its id, and the table has only grown
record IsInterned (texts : Table) (bytes : List ℕ) (after : Table) : Type 0 where
  within : id_in texts bytes < length after
  has : Has after bytes
  grown : Extends texts after

interned-good : (texts : Table) (bytes : List ℕ) → IsInterned texts bytes (interned texts bytes)
interned-good texts bytes = step (nat_lt (id_in texts bytes) (length texts)) refl
  where
    step : (b : Bool) → nat_lt (id_in texts bytes) (length texts) ≡ b → IsInterned texts bytes (if b then texts else texts ++ bytes ∷ [])
    step true e = record { within = ltb-true _ _ e; has = ltb-true _ _ e; grown = extends-itself texts }
    step false e = record {
      within = omega (arith, place_within texts bytes, length-append texts (bytes ∷ []));
      has = has-last texts bytes;
      grown = (bytes ∷ [], refl);
    }

-- ---- kinds

-- the text of the kind is in the table, and a number is in range
abbrev pub IsGoodKind : Table → TokenKind → Type 0
IsGoodKind texts (kind.Word id) = id.0 < length texts
IsGoodKind texts (kind.Keyword w) = Has texts (keyword_text w)
IsGoodKind texts (kind.Reserved id) = id.0 < length texts
IsGoodKind texts (kind.Number i) = IsInRange i
IsGoodKind texts (kind.Text id) = id.0 < length texts
IsGoodKind texts (kind.Punct c) = Unit {0}
IsGoodKind texts kind.End = Unit {0}

kind-wider : (texts after : Table) (k : TokenKind) → Extends texts after → IsGoodKind texts k → IsGoodKind after k
kind-wider texts after (kind.Word id) grown h = omega (arith, extends-length texts after grown, h)
kind-wider texts after (kind.Keyword w) grown h = has-further texts after (keyword_text w) grown h
kind-wider texts after (kind.Reserved id) grown h = omega (arith, extends-length texts after grown, h)
kind-wider texts after (kind.Number i) grown h = h
kind-wider texts after (kind.Text id) grown h = omega (arith, extends-length texts after grown, h)
kind-wider texts after (kind.Punct c) grown h = tt
kind-wider texts after kind.End grown h = tt

abbrev IsGoodFound : Table → Option (TokenKind × Table) → Type 0
IsGoodFound texts None = Unit {0}
IsGoodFound texts (Some found) = IsGoodKind found.1 found.0 × Extends texts found.1

identified-good : (of : TextId → TokenKind) (texts : Table) (bytes : List ℕ) → ((after : Table) (id : TextId) → Has after bytes → id.0 < length after → IsGoodKind after (of id)) → IsGoodFound texts (identified of texts bytes)
identified-good of texts bytes good = step (is_one_too_many texts bytes)
  where
    step : (b : Bool) → IsGoodFound texts (if b then None else Some (of (record { 0 = id_in texts bytes }), interned texts bytes))
    step true = tt
    step false = let h = interned-good texts bytes in (good (interned texts bytes) (record { 0 = id_in texts bytes }) h.has h.within, h.grown)

-- the keyword that a reserved word is has its text
keyword-text : (bytes : List ℕ) (w : Keyword) → reserved_as bytes ≡ Some (Some w) → keyword_text w ≡ bytes
keyword-text bytes w e = step (is_reserved bytes) e
  where
    step : (b : Bool) → (if b then Some (keyword_of bytes) else None) ≡ Some (Some w) → keyword_text w ≡ bytes
    step true e = text-of-keyword bytes w cc
    step false e = cc

word-good : (bytes : List ℕ) (found : Option (Option Keyword)) → reserved_as bytes ≡ found → (after : Table) (id : TextId) → Has after bytes → id.0 < length after → IsGoodKind after (word_kind found id)
word-good bytes (Some (Some w)) e after id has within = subst (Has after) (sym (keyword-text bytes w e)) has
word-good bytes (Some None) e after id has within = within
word-good bytes None e after id has within = within

kind-good : (texts : Table) (l : Lexeme) → IsRanged l → IsGoodFound texts (token_kind texts l)
kind-good texts (word bytes) h = identified-good (word_kind (reserved_as bytes)) texts bytes (word-good bytes (reserved_as bytes) refl)
kind-good texts (number i) h = (h, extends-itself texts)
kind-good texts (text bytes) h = identified-good kind.Text texts bytes (λ after id has within. within)
kind-good texts (punctuator c) h = (tt, extends-itself texts)

-- ---- tokens

abbrev pub AreGoodTokens : Table → List Token → Type 0
AreGoodTokens texts [] = Unit {0}
AreGoodTokens texts (token ∷ tokens) = IsGoodKind texts token.kind × AreGoodTokens texts tokens

pub tokens-wider : (texts after : Table) (tokens : List Token) → Extends texts after → AreGoodTokens texts tokens → AreGoodTokens after tokens
tokens-wider texts after [] grown h = tt
tokens-wider texts after (token ∷ tokens) grown h = (kind-wider texts after token.kind grown h.0, tokens-wider texts after tokens grown h.1)

tokens-push : (texts : Table) (tokens : List Token) (token : Token) → AreGoodTokens texts tokens → IsGoodKind texts token.kind → AreGoodTokens texts (tokens ++ token ∷ [])
tokens-push texts [] token h k = (k, tt)
tokens-push texts (first ∷ tokens) token h k = (h.0, tokens-push texts tokens token h.1 k)

-- ---- from piece to piece

-- from a table at most `most` tokens were read, which are good for the table now
record IsGoodState (texts : Table) (most : ℕ) (s : Progress) : Type 0 where
  good : AreGoodTokens s.table s.tokens
  grown : Extends texts s.table
  few : length s.tokens ≤ most

abbrev GoesOnGood : Table → ℕ → Advance → Type 0
GoesOnGood texts most ended = Unit {0}
GoesOnGood texts most (refused k) = Unit {0}
GoesOnGood texts most (onward s) = IsGoodState texts most s

token-good : (texts : Table) (most : ℕ) (s : Progress) (rest : Characters) (found : Option (TokenKind × Table)) → IsGoodFound s.table found → IsGoodState texts most s → GoesOnGood texts (most + 1) (with_token s rest found)
token-good texts most s rest None h k = tt
token-good texts most s rest (Some found) h k =
    let token : Token = record { kind = found.0; start = s.place; end = place_after s rest } in record {
      good = tokens-push found.1 s.tokens token (tokens-wider s.table found.1 s.tokens h.1 k.good) h.0;
      grown = extends-further texts s.table found.1 k.grown h.1;
      few = omega (arith, k.few, length-append s.tokens (token ∷ []));
    }

taken-good : (texts : Table) (most : ℕ) (s : Progress) (p : Piece) → HasRange p → IsGoodState texts most s → GoesOnGood texts (most + 1) (taken s p)
taken-good texts most s (gap rest) h k = record { good = k.good; grown = k.grown; few = omega (arith, k.few) }
taken-good texts most s (lexeme l rest) h k = token-good texts most s rest (token_kind s.table l) (kind-good s.table l h) k
taken-good texts most s (fault f) h k = tt

next-good : (texts : Table) (most : ℕ) (s : Progress) (cs : Characters) → IsGoodState texts most s → GoesOnGood texts (most + 1) (next_of s cs)
next-good texts most s [] k = tt
next-good texts most s (c ∷ cs) k = taken-good texts most s (piece c cs) (piece-range c cs) k

state-wider : (texts : Table) (most n : ℕ) (s : Progress) → most ≤ n → IsGoodState texts most s → IsGoodState texts n s
state-wider texts most n s le k = record { good = k.good; grown = k.grown; few = omega (arith, le, k.few) }

going-good : (texts : Table) (n most : ℕ) (s : Progress) (x : Advance) → GoesOnGood texts (most + 1) x → IsGoodState texts most s
    → ((t : Progress) → IsGoodState texts (most + 1) t → IsGoodState texts (n + (most + 1)) (reached n t)) → IsGoodState texts (suc n + most) (going_on (reached n) s x)
going-good texts n most s ended h k ih = state-wider texts most (suc n + most) s (omega arith) k
going-good texts n most s (refused f) h k ih = state-wider texts most (suc n + most) s (omega arith) k
going-good texts n most s (onward t) h k ih = state-wider texts (n + (most + 1)) (suc n + most) (reached n t) (omega arith) (ih t h)

reached-good : (texts : Table) (n most : ℕ) (s : Progress) → IsGoodState texts most s → IsGoodState texts (n + most) (reached n s)
unfolding reached
reached-good texts zero most s k = state-wider texts most (0 + most) s (omega arith) k
reached-good texts (suc n) most s k = going-good texts n most s (next s) (next-good texts most s s.rest k) k (λ t h. reached-good texts n (most + 1) t h)

-- ---- a whole script

-- the tokens are good for the table, and at most `most` stand before their end
pub record IsGoodList (texts : Table) (most : ℕ) (tokens : List Token) : Type 0 where
  pub good : AreGoodTokens texts tokens
  pub before : List Token
  pub place : ℕ
  pub tokens_are : tokens ≡ before ++ end_token place ∷ []
  pub few : length before ≤ most

pub read-good : (base : ℕ) (texts : Table) (cs : Characters) (tokens : List Token) (after : Table) → IsRead (start base texts cs) tokens after → IsGoodList after (size cs) tokens × Extends texts after
read-good base texts cs tokens after h =
    let s = last (start base texts cs) in
    let begins : IsGoodState texts 0 (start base texts cs) = record { good = tt; grown = extends-itself texts; few = omega arith } in
    let k : IsGoodState texts (size cs + 0) s = reached-good texts (size cs) 0 (start base texts cs) begins in (
      record {
        good = subst (AreGoodTokens after) (sym h.tokens_are) (tokens-push after s.tokens (end_token s.place) (subst (λ t. AreGoodTokens t s.tokens) (sym h.table_is) k.good) tt);
        before = s.tokens;
        place = s.place;
        tokens_are = h.tokens_are;
        few = omega (arith, k.few);
      },
      subst (Extends texts) (sym h.table_is) k.grown,
    )
