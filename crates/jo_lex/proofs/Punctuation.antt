-- A punctuator at the front of an input, and the longest of a table.
use Rattle.std.proofs.Common.{◌≡◌, ◌≢◌, ℕ, zero, suc, ◌<◌, ◌≤◌, Bool, true, false, cond, not, ◌&&◌, nat_lt, nat_le, nat_eq, List, [], ◌∷◌, ◌++◌, length, drop, slice_index_or, Bor, Option, Some, None, refl, sym, ap, ◌∙◌, arith, drop_at}
use Rattle.std.proofs.lemmas.Bool.{and_parts, false_from_ne_true, leb-true, ltb-true, le-ltb}
use Rattle.std.proofs.lemmas.Bool.Decides.{Decides-eqb}
use Rattle.std.proofs.lemmas.Slice.Eq.{starts_is}
use Rattle.std.proofs.lemmas.Str.{chars-append, chars-IsAscii, IsUtf8-from_ascii, encodes-chars, encodes-append, encodes-IsAscii}
use Rattle.std.specs.List.{starts_with}
use Rattle.std.specs.Prelude.{codes}
use Rattle.jo_lex.specs.Characters.{begins_with}
use Rattle.jo_value.specs.Texts.{is_digit}
use Rattle.std.specs.Str.{bytes_eq, chars, encode_utf8_all, IsUtf8, IsAscii}
use Rattle.jo_lex.specs.declared.punct.Punct.{Punct}
use Rattle.jo_lex.specs.Punctuators.{Row, fits, longer, longest}
use Rattle.jo_lex.specs.inner.Views.{entries_of, is_ascii, is_falling}

pub IsAscii-from_test : (bs : List ℕ) → is_ascii bs ≡ true → IsAscii bs
IsAscii-from_test [] e i = omega arith
IsAscii-from_test (b ∷ bs) e zero = let k = ltb-true b 128 (and_parts (nat_lt b 128) (is_ascii bs) e).0 in omega arith
IsAscii-from_test (b ∷ bs) e (suc i) = IsAscii-from_test bs (and_parts (nat_lt b 128) (is_ascii bs) e).1 i

-- an input that begins with ASCII bytes begins with them as characters
pub starts-yes : (p s rest : List ℕ) → is_ascii p ≡ true → s ≡ p ++ rest → chars s ≡ p ++ chars rest
starts-yes p s rest a e = let ascii = IsAscii-from_test p a in ap chars e ∙ chars-append p rest (IsUtf8-from_ascii p ascii) ∙ ap (λ t. t ++ chars rest) (chars-IsAscii p ascii)

pub starts_with-yes : (p cs rest : List ℕ) → cs ≡ p ++ rest → starts_with nat_eq cs p ≡ true
starts_with-yes p cs rest e = (starts_is Decides-eqb cs p (starts_with nat_eq cs p) refl).1 rest e

-- and one that does not, does not
pub starts_with-no : (p s : List ℕ) → is_ascii p ≡ true → IsUtf8 s → ((rest : List ℕ) → s ≢ p ++ rest) → starts_with nat_eq (chars s) p ≡ false
starts_with-no p s a u none =
    false_from_ne_true (starts_with nat_eq (chars s) p) (λ h.
    let cs = chars s in
    let rest = drop (length p) cs in
    let split : cs ≡ p ++ rest = (starts_is Decides-eqb cs p (starts_with nat_eq cs p) refl).0 h in
    let ascii = IsAscii-from_test p a in
    none (encode_utf8_all rest) (sym (encodes-chars s u) ∙ ap encode_utf8_all split ∙ encodes-append p rest ∙ ap (λ t. t ++ encode_utf8_all rest) (encodes-IsAscii p ascii)))

fits-no : (p cs : List ℕ) → starts_with nat_eq cs p ≡ false → fits p cs ≡ false
fits-no p cs e = rw e

pub fits-nowhere : (p s : List ℕ) → is_ascii p ≡ true → IsUtf8 s → ((rest : List ℕ) → s ≢ p ++ rest) → fits p (chars s) ≡ false
fits-nowhere p s a u none = fits-no p (chars s) (starts_with-no p s a u none)

-- what is left after it
pub drop-front : (p cs rest : List ℕ) → cs ≡ p ++ rest → drop (length p) cs ≡ rest
drop-front p cs rest e = ap (drop (length p)) e ∙ drop_at p rest (length p) refl

pub fits-front : (p cs rest : List ℕ) (b : Bool) → cs ≡ p ++ rest → (bytes_eq p (codes "?.") && begins_with is_digit rest) ≡ b → fits p cs ≡ not b
fits-front p cs rest b e f = rw (starts_with-yes p cs rest e, drop-front p cs rest e, f)

-- ---- the longest of a table whose longer entries stand first

longer_than : (n : ℕ) (found : Option Row) → Type 0
longer_than n None = Unit {0}
longer_than n (Some q) = length q.0 ≤ n

longer-first : (p : Row) (found : Option Row) → longer_than (length p.0) found → longer p found ≡ p
unfolding longer_than
longer-first p None h = refl
longer-first p (Some q) h = ap (λ b. cond b q p) (le-ltb (length p.0) (length q.0) h)

longer_than-more : (m n : ℕ) (found : Option Row) → m ≤ n → longer_than m found → longer_than n found
unfolding longer_than
longer_than-more m n None le h = tt
longer_than-more m n (Some q) le h = omega arith

-- the parts of the test of a table
pub falling_parts : (n : ℕ) (p : Row) (ps : List Row) → is_falling n (p ∷ ps) ≡ true → (is_ascii p.0 ≡ true) × (0 < length p.0) × (length p.0 ≤ n) × (is_falling (length p.0) ps ≡ true)
falling_parts n p ps e =
    let a = and_parts (is_ascii p.0 && nat_lt 0 (length p.0) && nat_le (length p.0) n) (is_falling (length p.0) ps) e in
    let b = and_parts (is_ascii p.0 && nat_lt 0 (length p.0)) (nat_le (length p.0) n) a.0 in
    let d = and_parts (is_ascii p.0) (nat_lt 0 (length p.0)) b.0 in
    (d.0, ltb-true 0 (length p.0) d.1, leb-true (length p.0) n b.1, a.1)

longest-short : (n : ℕ) (ps : List Row) (cs : List ℕ) → is_falling n ps ≡ true → longer_than n (longest ps cs)
longest-short n [] cs e = unfold longer_than in tt
longest-short n (p ∷ ps) cs e =
    let parts = falling_parts n p ps e in
    let below = longest-short (length p.0) ps cs parts.3 in
    by_fit (fits p.0 cs) refl parts.2 below
  where
    by_fit : (b : Bool) → fits p.0 cs ≡ b → length p.0 ≤ n → longer_than (length p.0) (longest ps cs) → longer_than n (longest (p ∷ ps) cs)
    by_fit true f le below = rw (f, longer-first p (longest ps cs) below) (unfold longer_than in le)
    by_fit false f le below = rw f (longer_than-more (length p.0) n (longest ps cs) le below)

-- the first entry that fits is the longest
pub longest-first : (n : ℕ) (p : Row) (ps : List Row) (cs : List ℕ) → is_falling n (p ∷ ps) ≡ true → fits p.0 cs ≡ true → longest (p ∷ ps) cs ≡ Some p
longest-first n p ps cs e f = rw f (ap Some (longer-first p (longest ps cs) (longest-short (length p.0) ps cs (falling_parts n p ps e).3)))

pub entries_head : (rows : List (Bor (List ℕ) × Option Punct)) (d : Bor (List ℕ) × Option Punct) → 1 ≤ length rows
    → entries_of rows ≡ ((slice_index_or rows 0 d).0.now, (slice_index_or rows 0 d).1) ∷ entries_of (drop 1 rows)
entries_head [] d h = absurd (omega arith)
entries_head (row ∷ rows) d h = refl
