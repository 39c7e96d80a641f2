-- A script has at most as many pieces as bytes: from its last progress nothing goes on.
use Rattle.std.proofs.Common.{◌≡◌, ℕ, zero, suc, ◌+◌, ◌-◌, ◌<◌, ◌≤◌, ◌==◌, ◌||◌, nat_le, nat_lt, Bool, true, false, List, [], ◌∷◌, length, drop, Option, Some, None, unwrap_or, if◌then◌else◌, refl, sym, ap, ◌∙◌, arith, length-append}
use Rattle.std.proofs.lemmas.Bool.{and_parts, ltb-true}
use Rattle.std.specs.List.{take_while, list_all}
use Rattle.std.specs.Str.{encode_utf8_all}
use Rattle.std.specs.Prelude.{encode_utf8, IfSome, pos}
use Rattle.jo_value.specs.declared.limits.TheConstants.{MOST_NUMBER, MOST_TEXT_BYTES}
use Rattle.jo_value.specs.Texts.{Table, is_digit}
use Rattle.jo_lex.specs.declared.punct.Punct.{Punct}
use Rattle.jo_lex.specs.declared.refusal.RefusalKind.TheVariants.{BadToken, NumberTooLarge}
use Rattle.jo_lex.specs.declared.token.TokenKind.{TokenKind}
use Rattle.jo_lex.specs.Characters.{Characters, size, is_blank, is_in_line, is_word_part, is_word_start, is_spoiler, begins_with, drop_while}
use Rattle.jo_lex.specs.Punctuators.{Row, fits, longer, longest, table, punctuator_of}
use Rattle.jo_lex.specs.Pieces.{word, text, number, Piece, gap, lexeme, fault, after_close, closed, comment, word_piece, is_escapable, with_bytes, literal_rest, text_piece, decimal, judged, number_piece, accepted, punctuator_piece, token_piece, piece}
use Rattle.jo_lex.specs.Tokens.{Progress, Advance, ended, refused, onward, token_kind, with_token, taken, next_of, next, going_on, reached, last}
use Rattle.jo_lex.proofs.Texts.{encode_nonempty}

size-cons : (c : ℕ) (cs : Characters) → size (c ∷ cs) ≡ length (encode_utf8 c) + size cs
size-cons c cs = length-append (encode_utf8 c) (encode_utf8_all cs)

size-drop : (n : ℕ) (cs : Characters) → size (drop n cs) ≤ size cs
size-drop zero cs = omega arith
size-drop (suc n) [] = omega arith
size-drop (suc n) (c ∷ cs) = omega (arith, size-drop n cs, size-cons c cs)

drop_while-step : (p : ℕ → Bool) (c : ℕ) (cs : Characters) (b : Bool) → size (drop_while p cs) ≤ size cs → size (if b then drop_while p cs else c ∷ cs) ≤ size (c ∷ cs)
drop_while-step p c cs true h = omega (arith, size-cons c cs)
drop_while-step p c cs false h = omega arith

size-drop_while : (p : ℕ → Bool) (cs : Characters) → size (drop_while p cs) ≤ size cs
size-drop_while p [] = omega arith
size-drop_while p (c ∷ cs) = drop_while-step p c cs (p c) (size-drop_while p cs)

-- what is left after the piece has at most n bytes
abbrev Leaves : ℕ → Piece → Type 0
Leaves n (gap rest) = size rest ≤ n
Leaves n (lexeme l rest) = size rest ≤ n
Leaves n (fault k) = Unit {0}

leaves-wider : (p : Piece) (m n : ℕ) → Leaves m p → m ≤ n → Leaves n p
leaves-wider (gap rest) m n h le = omega arith
leaves-wider (lexeme l rest) m n h le = omega arith
leaves-wider (fault k) m n h le = tt

leaves-if : (n : ℕ) (b : Bool) (p q : Piece) → Leaves n p → Leaves n q → Leaves n (if b then p else q)
leaves-if n true p q h k = h
leaves-if n false p q h k = k

close-step : (cs : Characters) (c : ℕ) (b : Bool) → IfSome (after_close cs) (λ rest. size rest ≤ size cs) → IfSome (if b then Some (drop 1 cs) else after_close cs) (λ rest. size rest ≤ size (c ∷ cs))
close-step cs c true h = omega (arith, size-drop 1 cs, size-cons c cs)
close-step cs c false h = wider (after_close cs) (size cs) (size (c ∷ cs)) h (omega (arith, size-cons c cs))
  where
    wider : (found : Option Characters) (m n : ℕ) → IfSome found (λ rest. size rest ≤ m) → m ≤ n → IfSome found (λ rest. size rest ≤ n)
    wider None m n h le = tt
    wider (Some rest) m n h le = omega arith

close-leaves : (cs : Characters) → IfSome (after_close cs) (λ rest. size rest ≤ size cs)
close-leaves [] = tt
close-leaves (c ∷ cs) = close-step cs c _ (close-leaves cs)

closed-leaves : (n : ℕ) (found : Option Characters) → IfSome found (λ rest. size rest ≤ n) → Leaves n (closed found)
closed-leaves n None h = tt
closed-leaves n (Some rest) h = h

-- what is left after a literal
abbrev Ends : ℕ → Option (List ℕ × Characters) → Type 0
Ends n None = Unit {0}
Ends n (Some p) = size p.1 ≤ n

ends-wider : (found : Option (List ℕ × Characters)) (m n : ℕ) → Ends m found → m ≤ n → Ends n found
ends-wider None m n h le = tt
ends-wider (Some p) m n h le = omega arith

ends-front : (bytes : List ℕ) (found : Option (List ℕ × Characters)) (n : ℕ) → Ends n found → Ends n (with_bytes bytes found)
ends-front bytes None n h = tt
ends-front bytes (Some p) n h = h

ends-if : (b : Bool) (n : ℕ) (x y : Option (List ℕ × Characters)) → Ends n x → Ends n y → Ends n (if b then x else y)
ends-if true n x y h k = h
ends-if false n x y h k = k

literal_rest-ends : (escaped : Bool) (quote : ℕ) (cs : Characters) → Ends (size cs) (literal_rest escaped quote cs)
literal_rest-ends true quote [] = tt
literal_rest-ends false quote [] = tt
literal_rest-ends true quote (c ∷ cs) =
    let taken : Option (List ℕ × Characters) = with_bytes (encode_utf8 c) (literal_rest false quote cs) in
    ends-wider _ (size cs) (size (c ∷ cs))
    (ends-if (is_escapable c) (size cs) taken None (ends-front (encode_utf8 c) (literal_rest false quote cs) (size cs) (literal_rest-ends false quote cs)) tt)
    (omega (arith, size-cons c cs))
literal_rest-ends false quote (c ∷ cs) =
    let taken : Option (List ℕ × Characters) = with_bytes (encode_utf8 c) (literal_rest false quote cs) in
    let plain : Option (List ℕ × Characters) = if c == 10 || c == 13 then None else taken in
    let other : Option (List ℕ × Characters) = if c == 92 then literal_rest true quote cs else plain in
    let closes : Option (List ℕ × Characters) = Some ([], cs) in
    ends-wider _ (size cs) (size (c ∷ cs))
    (ends-if (c == quote) (size cs) closes other (omega arith)
    (ends-if (c == 92) (size cs) (literal_rest true quote cs) plain (literal_rest-ends true quote cs)
    (ends-if (c == 10 || c == 13) (size cs) None taken tt (ends-front (encode_utf8 c) (literal_rest false quote cs) (size cs) (literal_rest-ends false quote cs)))))
    (omega (arith, size-cons c cs))

text-leaves : (n : ℕ) (found : Option (List ℕ × Characters)) → Ends n found → Leaves n (text_piece found)
text-leaves n None h = tt
text-leaves n (Some p) h = leaves-if n _ (lexeme (text p.0) p.1) (fault BadToken) h tt

judged-leaves : (n m : ℕ) (rest : Characters) → size rest ≤ n → Leaves n (judged m rest)
judged-leaves n m rest h =
    leaves-if n (begins_with is_spoiler rest) (fault BadToken) (if nat_le m MOST_NUMBER then lexeme (number (pos m)) rest else fault NumberTooLarge) tt
    (leaves-if n (nat_le m MOST_NUMBER) (lexeme (number (pos m)) rest) (fault NumberTooLarge) h tt)

number-leaves : (c : ℕ) (cs : Characters) → Leaves (size cs) (number_piece c cs)
number-leaves c cs =
    let n = decimal (c - 48) (take_while is_digit cs) in
    leaves-if (size cs) (c == 48) (judged 0 cs) (judged n (drop_while is_digit cs)) (judged-leaves (size cs) 0 cs (omega arith)) (judged-leaves (size cs) n (drop_while is_digit cs) (size-drop_while is_digit cs))

-- a punctuator has a character
abbrev IsLong : Option Row → Type 0
IsLong None = Unit {0}
IsLong (Some entry) = 0 < length entry.0

longer-step : (p : Row) (q : Row) (b : Bool) → 0 < length p.0 → 0 < length q.0 → 0 < length (if b then q else p).0
longer-step p q true h k = k
longer-step p q false h k = h

longer-long : (p : Row) (found : Option Row) → 0 < length p.0 → IsLong found → 0 < length (longer p found).0
longer-long p None h k = h
longer-long p (Some q) h k = longer-step p q _ h k

long-step : (p : Row) (found : Option Row) (b : Bool) → 0 < length p.0 → IsLong found → IsLong (if b then Some (longer p found) else found)
long-step p found true h k = longer-long p found h k
long-step p found false h k = k

longest-long : (ps : List Row) (cs : Characters) → list_all (λ p. nat_lt 0 (length p.0)) ps ≡ true → IsLong (longest ps cs)
longest-long [] cs e = tt
longest-long (p ∷ ps) cs e = let parts = and_parts (nat_lt 0 (length p.0)) (list_all (λ q. nat_lt 0 (length q.0)) ps) e in long-step p (longest ps cs) (fits p.0 cs) (ltb-true 0 (length p.0) parts.0) (longest-long ps cs parts.1)

-- no punctuator is empty
table-long : list_all (λ p. nat_lt 0 (length p.0)) table ≡ true
unfolding table
table-long = refl

drop-shorter : (n c : ℕ) (cs : Characters) → 0 < n → size (drop n (c ∷ cs)) ≤ size cs
drop-shorter zero c cs h = absurd (omega arith)
drop-shorter (suc n) c cs h = size-drop n cs

accepted-leaves : (n : ℕ) (value : Option Punct) (rest : Characters) → size rest ≤ n → Leaves n (accepted value rest)
accepted-leaves n None rest h = tt
accepted-leaves n (Some punct) rest h = h

punctuator-leaves : (c : ℕ) (cs : Characters) (found : Option Row) → IsLong found → Leaves (size cs) (punctuator_piece found (c ∷ cs))
punctuator-leaves c cs None h = tt
punctuator-leaves c cs (Some entry) h = accepted-leaves (size cs) entry.1 _ (drop-shorter (length entry.0) c cs h)

operator-leaves : (c : ℕ) (cs : Characters) → Leaves (size cs) (punctuator_piece (punctuator_of (c ∷ cs)) (c ∷ cs))
unfolding punctuator_of
operator-leaves c cs = punctuator-leaves c cs (longest table (c ∷ cs)) (longest-long table (c ∷ cs) table-long)

comment-leaves : (cs : Characters) (other : Piece) → Leaves (size cs) other → Leaves (size cs) (unwrap_or (comment cs) other)
comment-leaves [] other h = h
comment-leaves (c ∷ cs) other h = step (c == 47) (c == 42)
  where
    step : (a b : Bool) → Leaves (size (c ∷ cs)) (unwrap_or (if a then Some (gap (drop_while is_in_line cs)) else (if b then Some (closed (after_close cs)) else None)) other)
    step true b = omega (arith, size-drop_while is_in_line cs, size-cons c cs)
    step false true = leaves-wider (closed (after_close cs)) (size cs) (size (c ∷ cs)) (closed-leaves (size cs) (after_close cs) (close-leaves cs)) (omega (arith, size-cons c cs))
    step false false = h

word-leaves : (c : ℕ) (cs : Characters) → Leaves (size cs) (word_piece c cs)
word-leaves c cs =
    let bytes = encode_utf8_all (c ∷ take_while is_word_part cs) in
    leaves-if (size cs) (nat_le (length bytes) MOST_TEXT_BYTES) (lexeme (word bytes) (drop_while is_word_part cs)) (fault BadToken) (size-drop_while is_word_part cs) tt

token-leaves : (c : ℕ) (cs : Characters) → Leaves (size cs) (token_piece c cs)
token-leaves c cs =
    let n = size cs in
    let literal = text_piece (literal_rest false c cs) in
    let operator = punctuator_piece (punctuator_of (c ∷ cs)) (c ∷ cs) in
    let other : Piece = if c == 34 || c == 39 then literal else operator in
    leaves-if n (is_word_start c) (word_piece c cs) (if is_digit c then number_piece c cs else other) (word-leaves c cs)
    (leaves-if n (is_digit c) (number_piece c cs) other (number-leaves c cs)
    (leaves-if n (c == 34 || c == 39) literal operator (text-leaves n (literal_rest false c cs) (literal_rest-ends false c cs)) (operator-leaves c cs)))

-- a piece takes its first character at least
pub piece-leaves : (c : ℕ) (cs : Characters) → Leaves (size cs) (piece c cs)
unfolding piece
piece-leaves c cs =
    let n = size cs in
    let blanks = gap (drop_while is_blank cs) in
    let token = token_piece c cs in
    leaves-if n (is_blank c) blanks (if c == 47 then unwrap_or (comment cs) token else token) (size-drop_while is_blank cs)
    (leaves-if n (c == 47) (unwrap_or (comment cs) token) token (comment-leaves cs token (token-leaves c cs)) (token-leaves c cs))

-- ---- from piece to piece

abbrev GoesOnBelow : ℕ → Advance → Type 0
GoesOnBelow n ended = Unit {0}
GoesOnBelow n (refused k) = Unit {0}
GoesOnBelow n (onward t) = size t.rest ≤ n

token-below : (n : ℕ) (s : Progress) (rest : Characters) (found : Option (TokenKind × Table)) → size rest ≤ n → GoesOnBelow n (with_token s rest found)
token-below n s rest None h = tt
token-below n s rest (Some p) h = h

taken-below : (n : ℕ) (s : Progress) (p : Piece) → Leaves n p → GoesOnBelow n (taken s p)
taken-below n s (gap rest) h = h
taken-below n s (lexeme l rest) h = token-below n s rest (token_kind s.table l) h
taken-below n s (fault k) h = tt

next-below : (n : ℕ) (s : Progress) (cs : Characters) (t : Progress) → size cs ≤ suc n → next_of s cs ≡ onward t → size t.rest ≤ n
next-below n s [] t le e = cc
next-below n s (c ∷ cs) t le e =
    let below : GoesOnBelow (size cs) (next_of s (c ∷ cs)) = taken-below (size cs) s (piece c cs) (piece-leaves c cs) in
    let h : size t.rest ≤ size cs = rw e at below in
    omega (arith, h, size-cons c cs, encode_nonempty c)

none-left : (s : Progress) (cs : Characters) (t : Progress) → size cs ≤ 0 → next_of s cs ≡ onward t → ⊥
none-left s [] t le e = cc
none-left s (c ∷ cs) t le e = absurd (omega (arith, size-cons c cs, encode_nonempty c))

stop-step : (n : ℕ) (s t : Progress) (x : Advance) → ((v : Progress) → next s ≡ onward v → next (reached n v) ≡ onward t → ⊥) → next s ≡ x → next (reached (suc n) s) ≡ onward t → ⊥
unfolding reached
stop-step n s t ended ih e f = let same : next s ≡ onward t = ap next (sym (ap (going_on (reached n) s) e)) ∙ f in let clash : ended ≡ onward t = sym e ∙ same in cc
stop-step n s t (refused k) ih e f = let same : next s ≡ onward t = ap next (sym (ap (going_on (reached n) s) e)) ∙ f in let clash : refused k ≡ onward t = sym e ∙ same in cc
stop-step n s t (onward v) ih e f = ih v e (ap next (sym (ap (going_on (reached n) s) e)) ∙ f)

reached-stops : (n : ℕ) (s t : Progress) → size s.rest ≤ n → next (reached n s) ≡ onward t → ⊥
unfolding reached
reached-stops zero s t le e = none-left s s.rest t le e
reached-stops (suc n) s t le e = stop-step n s t (next s) (λ v g f. reached-stops n v t (next-below n s s.rest v le g) f) refl e

-- from the last progress nothing goes on
pub last-stops : (s t : Progress) → next (last s) ≡ onward t → ⊥
last-stops s t e = reached-stops (size s.rest) s t (omega arith) e
