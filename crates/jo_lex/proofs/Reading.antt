-- Reading from piece to piece.
use Rattle.std.proofs.Common.{◌≡◌, ℕ, zero, suc, ◌+◌, ◌-◌, ◌<◌, ◌≤◌, List, [], ◌∷◌, ◌++◌, Some, length, refl, sym, ap, ◌∙◌, arith}
use Rattle.std.proofs.lemmas.Str.{encodes-chars}
use Rattle.std.specs.Str.{chars, IsUtf8}
use Rattle.jo_lex.specs.Characters.{size}
use Rattle.jo_value.specs.Texts.{Table}
use Rattle.jo_lex.specs.declared.token.Token.{Token}
use Rattle.jo_lex.specs.declared.token.TokenKind.{TokenKind}
use Rattle.jo_lex.specs.Pieces.{Lexeme, gap, lexeme, piece}
use Rattle.jo_lex.specs.declared.refusal.ParseFault.{ParseFault}
use Rattle.jo_lex.specs.declared.refusal.ParseFault.TheVariants.{Memory, Refused}
use Rattle.jo_lex.specs.declared.refusal.RefusalKind.{RefusalKind}
use Rattle.jo_lex.specs.inner.Steps.{at, FailsAt}
use Rattle.jo_lex.specs.Tokens.{Progress, Advance, ended, refused, onward, token_kind, place_after, with_token, taken, next_of, next, going_on, reached, start, last, end_token, IsRead, Fails}

pub size-chars : (bs : List ℕ) → IsUtf8 bs → size (chars bs) ≡ length bs
size-chars bs u = ap length (encodes-chars bs u)

-- nothing goes on from the progress
abbrev pub Stays : Progress → Type 0
Stays s = (go : Progress → Progress) → going_on go s (next s) ≡ s

pub stays-ended : (s : Progress) → next s ≡ ended → Stays s
stays-ended s e go = ap (going_on go s) e

pub stays-refused : (s : Progress) (k : RefusalKind) → next s ≡ refused k → Stays s
stays-refused s k e go = ap (going_on go s) e

pub reached-stays : (n : ℕ) (s : Progress) → Stays s → reached n s ≡ s
unfolding reached
reached-stays zero s h = refl
reached-stays (suc n) s h = h (reached n)

onward-step : (n : ℕ) (s t u : Progress) (x : Advance) → ((v : Progress) → reached n v ≡ t → reached (suc n) v ≡ u) → next s ≡ x → reached (suc n) s ≡ t → next t ≡ onward u → reached (suc (suc n)) s ≡ u
unfolding reached
onward-step n s t u ended ih e r f = let same : s ≡ t = sym (ap (going_on (reached n) s) e) ∙ r in let clash : ended ≡ onward u = sym e ∙ ap next same ∙ f in cc
onward-step n s t u (refused k) ih e r f = let same : s ≡ t = sym (ap (going_on (reached n) s) e) ∙ r in let clash : refused k ≡ onward u = sym e ∙ ap next same ∙ f in cc
onward-step n s t u (onward v) ih e r f = ap (going_on (reached (suc n)) s) e ∙ ih v (sym (ap (going_on (reached n) s) e) ∙ r)

-- one piece more
pub reached-onward : (n : ℕ) (s t u : Progress) → reached n s ≡ t → next t ≡ onward u → reached (suc n) s ≡ u
unfolding reached
reached-onward zero s t u r f = ap (going_on (reached zero) s) (ap next r ∙ f)
reached-onward (suc n) s t u r f = onward-step n s t u (next s) (λ v q. reached-onward n v t u q f) refl r f

last-step : (n m : ℕ) (s t : Progress) (x : Advance) → ((v : Progress) → reached n v ≡ t → reached m v ≡ t) → next s ≡ x → reached (suc n) s ≡ t → reached (suc m) s ≡ t
unfolding reached
last-step n m s t ended ih e r = ap (going_on (reached m) s) e ∙ sym (ap (going_on (reached n) s) e) ∙ r
last-step n m s t (refused k) ih e r = ap (going_on (reached m) s) e ∙ sym (ap (going_on (reached n) s) e) ∙ r
last-step n m s t (onward v) ih e r = ap (going_on (reached m) s) e ∙ ih v (sym (ap (going_on (reached n) s) e) ∙ r)

-- a progress from which nothing goes on is the last, however many pieces are allowed
pub reached-last : (n m : ℕ) (s t : Progress) → n ≤ m → reached n s ≡ t → Stays t → reached m s ≡ t
unfolding reached
reached-last zero m s t le r h = ap (reached m) r ∙ reached-stays m t h
reached-last (suc n) zero s t le r h = absurd (omega arith)
reached-last (suc n) (suc m) s t le r h = let less : n ≤ m = omega arith in last-step n m s t (next s) (λ v q. reached-last n m v t less q h) refl r

-- ---- one piece, as the code reads it

module _ (place : ℕ) (text rest : List ℕ) (tokens : List Token) (table : Table) (u : IsUtf8 text) (v : IsUtf8 rest) (first : ℕ) (cs : List ℕ) (split : chars text ≡ first ∷ cs) where
  place-is : place_after (at place text tokens table) (chars rest) ≡ place + (length text - length rest)
  place-is = ap (λ n. place + (n - size (chars rest))) (size-chars text u) ∙ ap (λ n. place + (length text - n)) (size-chars rest v)

  pub next-gap : piece first cs ≡ gap (chars rest) → next (at place text tokens table) ≡ onward (at (place + (length text - length rest)) rest tokens table)
  next-gap e =
      let s = at place text tokens table in
      ap (next_of s) split ∙ ap (taken s) e ∙ ap (λ p. onward (record s { place = p; rest = chars rest })) place-is

  pub next-token : (l : Lexeme) (kind : TokenKind) (table' : Table) (tokens' : List Token) → piece first cs ≡ lexeme l (chars rest) → token_kind table l ≡ Some (kind, table')
      → tokens' ≡ tokens ++ record { kind = kind; start = place; end = place + (length text - length rest) } ∷ []
      → next (at place text tokens table) ≡ onward (at (place + (length text - length rest)) rest tokens' table')
  next-token l kind table' tokens' e k t =
      let s = at place text tokens table in
      ap (next_of s) split ∙ ap (taken s) e ∙ ap (with_token s (chars rest)) k
      ∙ ap (λ p. onward (record { place = p; rest = chars rest; tokens = tokens ++ record { kind = kind; start = place; end = p } ∷ []; table = table' })) place-is
      ∙ ap (λ ts. onward (at (place + (length text - length rest)) rest ts table')) (sym t)

-- ---- a whole script

pub reached-start : (base : ℕ) (text : List ℕ) (tokens : List Token) (table : Table) → tokens ≡ [] → reached zero (start base table (chars text)) ≡ at (base + (length text - length text)) text tokens table
unfolding reached
reached-start base text tokens table e =
    let here : base ≡ base + (length text - length text) = omega arith in
    ap (λ p. record { place = p; rest = chars text; tokens = []; table = table }) here ∙ ap (λ ts. at (base + (length text - length text)) text ts table) (sym e)

-- one piece more, by the places of the code
pub reached-more : (n base : ℕ) (text rest left : List ℕ) (s : Progress) (tokens tokens' : List Token) (table table' : Table) → reached n s ≡ at (base + (length text - length rest)) rest tokens table
    → next (at (base + (length text - length rest)) rest tokens table) ≡ onward (at (base + (length text - length rest) + (length rest - length left)) left tokens' table')
    → length left < length rest → length rest ≤ length text → reached (suc n) s ≡ at (base + (length text - length left)) left tokens' table'
reached-more n base text rest left s tokens tokens' table table' r e below within =
    let place : base + (length text - length rest) + (length rest - length left) ≡ base + (length text - length left) = omega arith in
    reached-onward n s _ _ r e ∙ ap (λ p. at p left tokens' table') place

pub last-is : (n : ℕ) (s t : Progress) → n ≤ size s.rest → reached n s ≡ t → Stays t → last s ≡ t
last-is n s t le r h = reached-last n (size s.rest) s t le r h

pub fails : (n : ℕ) (s t : Progress) (fault : ParseFault) (table : Table) → n ≤ size s.rest → reached n s ≡ t → FailsAt t fault → table ≡ t.table → Fails s table fault
fails n s t Memory table le r f e = (n, e ∙ ap (λ q. q.table) (sym r))
fails n s t (Refused refusal) table le r f e =
    let is : last s ≡ t = last-is n s t le r (stays-refused t refusal.kind f.0) in
    record {
      kind_is = ap next is ∙ f.0;
      place_is = f.1 ∙ ap (λ q. q.place) (sym is);
      table_is = e ∙ ap (λ q. q.table) (sym is);
    }

pub reads : (n : ℕ) (s t : Progress) (tokens : List Token) (table : Table) → n ≤ size s.rest → reached n s ≡ t → t.rest ≡ [] → tokens ≡ t.tokens ++ end_token t.place ∷ [] → table ≡ t.table → IsRead s tokens table
reads n s t tokens table le r none ts e =
    let ends : next t ≡ ended = ap (next_of t) none in
    let is : last s ≡ t = last-is n s t le r (stays-ended t ends) in
    record {
      ends = ap next is ∙ ends;
      tokens_are = ts ∙ ap (λ q. q.tokens ++ end_token q.place ∷ []) (sym is);
      table_is = e ∙ ap (λ q. q.table) (sym is);
    }
