-- An input and its characters.
use Rattle.std.proofs.Common.{◌≡◌, ℕ, ◌<◌, Bool, true, false, List, [], ◌∷◌, ◌++◌, length, take, refl, sym, ap, subst, ◌∙◌, arith, append_assoc, take_at}
use Rattle.std.proofs.lemmas.List.{append_cancel_right}
use Rattle.std.proofs.lemmas.List.Sums.{take_while-cons}
use Rattle.std.proofs.lemmas.Str.{chars-append, encodes-chars, IsUtf8-take, IsCharBoundary-at_seam, length-encode, len_utf8_bounds}
use Rattle.std.specs.Prelude.{encode_utf8}
use Rattle.std.specs.List.{take_while}
use Rattle.std.specs.Str.{chars, encode_utf8_all, IsUtf8}
use Rattle.jo_lex.specs.Characters.{drop_while}

pub encode_nonempty : (c : ℕ) → 0 < length (encode_utf8 c)
encode_nonempty c = let bounds = len_utf8_bounds c in omega (arith, length-encode c)

-- what precedes UTF-8 within UTF-8 is UTF-8
pub IsUtf8-before : (bs front back : List ℕ) → IsUtf8 bs → IsUtf8 back → bs ≡ front ++ back → IsUtf8 front
IsUtf8-before bs front back u v e =
    let n = length front in
    subst IsUtf8 (ap (take n) e ∙ take_at front back n refl) (IsUtf8-take bs n u (IsCharBoundary-at_seam bs front back e v))

-- the characters that pass, and then what is left
pub take_while-drop_while : (p : ℕ → Bool) (cs : List ℕ) → take_while p cs ++ drop_while p cs ≡ cs
take_while-drop_while p [] = refl
take_while-drop_while p (c ∷ cs) = step p c cs (take_while-drop_while p cs) (p c) refl
  where
    step : (p : ℕ → Bool) (c : ℕ) (cs : List ℕ) → take_while p cs ++ drop_while p cs ≡ cs → (b : Bool) → p c ≡ b → take_while p (c ∷ cs) ++ drop_while p (c ∷ cs) ≡ c ∷ cs
    step p c cs ih true e = rw (take_while-cons p c cs, e) (ap (λ t. c ∷ t) ih)
    step p c cs ih false e = rw (take_while-cons p c cs, e) refl

-- one more character that passes
pub drop_while-yes : (p : ℕ → Bool) (c : ℕ) (cs : List ℕ) → p c ≡ true → drop_while p (c ∷ cs) ≡ drop_while p cs
drop_while-yes p c cs e = rw e

-- what stands before the rest has the characters that pass
pub chars_pass : (p : ℕ → Bool) (bs front rest : List ℕ) → IsUtf8 bs → IsUtf8 rest → bs ≡ front ++ rest → chars rest ≡ drop_while p (chars bs) → chars front ≡ take_while p (chars bs)
chars_pass p bs front rest u v e r =
    let w : IsUtf8 front = IsUtf8-before bs front rest u v e in
    let split : chars bs ≡ chars front ++ chars rest = ap chars e ∙ chars-append front rest w in
    let whole : take_while p (chars bs) ++ drop_while p (chars bs) ≡ chars front ++ drop_while p (chars bs) = take_while-drop_while p (chars bs) ∙ split ∙ ap (λ t. chars front ++ t) r in
    sym (append_cancel_right (take_while p (chars bs)) (chars front) (drop_while p (chars bs)) whole)

-- a first character and those after it that pass
pub word_bytes : (p : ℕ → Bool) (c : ℕ) (text after front rest word : List ℕ) → IsUtf8 after → IsUtf8 rest → text ≡ encode_utf8 c ++ after → after ≡ front ++ rest → chars rest ≡ drop_while p (chars after) → text ≡ word ++ rest
    → word ≡ encode_utf8_all (c ∷ take_while p (chars after))
word_bytes p c text after front rest word u v e f r g =
    let joined : word ++ rest ≡ (encode_utf8 c ++ front) ++ rest = sym g ∙ e ∙ ap (λ t. encode_utf8 c ++ t) f ∙ sym (append_assoc (encode_utf8 c) front rest) in
    let w : IsUtf8 front = IsUtf8-before after front rest u v f in
    append_cancel_right word (encode_utf8 c ++ front) rest joined
    ∙ ap (λ t. encode_utf8 c ++ t) (sym (encodes-chars front w) ∙ ap encode_utf8_all (chars_pass p after front rest u v f r))
