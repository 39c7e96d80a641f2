-- The sections of an input: each is UTF-8 where the input is, and none is longer than the whole.
use Rattle.std.proofs.Common.{◌≡◌, ℕ, ◌+◌, ◌≤◌, ◌==◌, Bool, true, false, List, [], ◌∷◌, ◌++◌, length, if◌then◌else◌, get_or, refl, sym, ap, subst, ◌∙◌, arith, append_assoc, append-nil, length-append, take_at, drop_at}
use Rattle.std.proofs.Math.Seq.{get_or-append_seam}
use Rattle.std.proofs.lemmas.Bool.{eqb-true}
use Rattle.std.proofs.lemmas.Str.{IsUtf8-nil, IsUtf8-append, IsUtf8-take, IsUtf8-drop, IsCharBoundary-after_ascii}
use Rattle.std.specs.List.{concat}
use Rattle.std.specs.Str.{IsUtf8, IsCharBoundary}
use Rattle.jo_parse_grammar.specs.Cuts.{Section, with_first, lines_of, is_separator, sections_from, sections_of}

-- ---- lines

with_first-join : (b : ℕ) (lines : List (List ℕ)) → concat (with_first b lines) ≡ b ∷ concat lines
with_first-join b [] = refl
with_first-join b (line ∷ lines) = refl

lines-join : (input : List ℕ) → concat (lines_of input) ≡ input
unfolding lines_of
lines-join [] = refl
lines-join (b ∷ input) = step (b == 10) (lines-join input)
  where
    step : (k : Bool) → concat (lines_of input) ≡ input → concat (if k then (b ∷ []) ∷ lines_of input else with_first b (lines_of input)) ≡ b ∷ input
    step true ih = ap (λ t. b ∷ t) ih
    step false ih = with_first-join b (lines_of input) ∙ ap (λ t. b ∷ t) ih

-- a line before others ends in a line feed
abbrev IsEnded : List ℕ → List (List ℕ) → Type 0
IsEnded line [] = Unit {0}
IsEnded line (next ∷ lines) = (front : List ℕ) × (line ≡ front ++ 10 ∷ [])

abbrev AreEnded : List (List ℕ) → Type 0
AreEnded [] = Unit {0}
AreEnded (line ∷ lines) = IsEnded line lines × AreEnded lines

ended-feed : (lines : List (List ℕ)) → IsEnded (10 ∷ []) lines
ended-feed [] = tt
ended-feed (next ∷ lines) = ([], refl)

ended-first : (b : ℕ) (line : List ℕ) (lines : List (List ℕ)) → IsEnded line lines → IsEnded (b ∷ line) lines
ended-first b line [] h = tt
ended-first b line (next ∷ lines) h = (b ∷ h.0, ap (λ t. b ∷ t) h.1)

with_first-ended : (b : ℕ) (lines : List (List ℕ)) → AreEnded lines → AreEnded (with_first b lines)
with_first-ended b [] h = (tt, tt)
with_first-ended b (line ∷ lines) h = (ended-first b line lines h.0, h.1)

lines-ended : (input : List ℕ) → AreEnded (lines_of input)
unfolding lines_of
lines-ended [] = tt
lines-ended (b ∷ input) = step (b == 10) refl (lines-ended input)
  where
    step : (k : Bool) → (b == 10) ≡ k → AreEnded (lines_of input) → AreEnded (if k then (b ∷ []) ∷ lines_of input else with_first b (lines_of input))
    step true e ih = (subst (λ c. IsEnded (c ∷ []) (lines_of input)) (sym (eqb-true b 10 e)) (ended-feed (lines_of input)), ih)
    step false e ih = with_first-ended b (lines_of input) ih

abbrev AreTexts : List (List ℕ) → Type 0
AreTexts [] = Unit {0}
AreTexts (line ∷ lines) = IsUtf8 line × AreTexts lines

-- after a line feed an input may be cut
cut-after : (front rest : List ℕ) → IsUtf8 ((front ++ 10 ∷ []) ++ rest) → IsUtf8 (front ++ 10 ∷ []) × IsUtf8 rest
cut-after front rest u =
    let line = front ++ 10 ∷ [] in
    let n = length front in
    let size : length line ≡ n + 1 = omega (arith, length-append front (10 ∷ [])) in
    let feed : get_or (line ++ rest) n 0 ≡ 10 = ap (λ t. get_or t n 0) (append_assoc front (10 ∷ []) rest) ∙ get_or-append_seam front 10 rest 0 in
    let boundary : IsCharBoundary (line ++ rest) (n + 1) = IsCharBoundary-after_ascii (line ++ rest) n u (omega (arith, size, length-append line rest)) (omega (arith, feed)) in
    (subst IsUtf8 (take_at line rest (n + 1) size) (IsUtf8-take (line ++ rest) (n + 1) u boundary), subst IsUtf8 (drop_at line rest (n + 1) size) (IsUtf8-drop (line ++ rest) (n + 1) u boundary))

first-input : (line : List ℕ) (lines : List (List ℕ)) → IsEnded line lines → IsUtf8 (line ++ concat lines) → IsUtf8 line × IsUtf8 (concat lines)
first-input line [] h u = (subst IsUtf8 (append-nil line) u, IsUtf8-nil)
first-input line (next ∷ lines) h u =
    let rest = concat (next ∷ lines) in
    let parts = cut-after h.0 rest (subst (λ t. IsUtf8 (t ++ rest)) h.1 u) in
    (subst IsUtf8 (sym h.1) parts.0, parts.1)

lines-texts : (lines : List (List ℕ)) → AreEnded lines → IsUtf8 (concat lines) → AreTexts lines
lines-texts [] h u = tt
lines-texts (line ∷ lines) h u =
    let parts = first-input line lines h.0 u in
    (parts.0, lines-texts lines h.1 parts.1)

-- ---- sections

-- each section is UTF-8 of at most `most` bytes
abbrev pub AreShort : ℕ → List Section → Type 0
AreShort most [] = Unit {0}
AreShort most (section ∷ sections) = IsUtf8 section.input × (length section.input ≤ most) × AreShort most sections

cut-short : (most start : ℕ) (input : List ℕ) (lines : List (List ℕ)) → IsUtf8 input → AreTexts lines → length input + length (concat lines) ≤ most → AreShort most (sections_from start input lines)
unfolding sections_from
cut-short most start input [] u us le = (u, omega (arith, le), tt)
cut-short most start input (line ∷ lines) u us le =
    let whole = length-append line (concat lines) in
    step (is_separator line)
    (cut-short most (start + length input + length line) [] lines IsUtf8-nil us.1 (omega (arith, le, whole)))
    (cut-short most start (input ++ line) lines (IsUtf8-append input line u us.0) us.1 (omega (arith, le, whole, length-append input line)))
  where
    step : (k : Bool) → AreShort most (sections_from (start + length input + length line) [] lines) → AreShort most (sections_from start (input ++ line) lines)
        → AreShort most (if k then record { start = start; input = input } ∷ sections_from (start + length input + length line) [] lines else sections_from start (input ++ line) lines)
    step true anew further = (u, omega (arith, le), anew)
    step false anew further = further

pub sections-short : (bytes : List ℕ) → IsUtf8 bytes → AreShort (length bytes) (sections_of bytes)
sections-short bytes u =
    let join = lines-join bytes in
    cut-short (length bytes) 0 [] (lines_of bytes) IsUtf8-nil (lines-texts (lines_of bytes) (lines-ended bytes) (subst IsUtf8 (sym join) u)) (omega (arith, ap length join))

cut-some : (start : ℕ) (input : List ℕ) (lines : List (List ℕ)) → 1 ≤ length (sections_from start input lines)
unfolding sections_from
cut-some start input [] = omega arith
cut-some start input (line ∷ lines) = step (is_separator line) (cut-some start (input ++ line) lines)
  where
    step : (k : Bool) → 1 ≤ length (sections_from start (input ++ line) lines)
        → 1 ≤ length (if k then record { start = start; input = input } ∷ sections_from (start + length input + length line) [] lines else sections_from start (input ++ line) lines)
    step true further = omega arith
    step false further = further

-- there is a section
pub sections-some : (bytes : List ℕ) → 1 ≤ length (sections_of bytes)
sections-some bytes = cut-some 0 [] (lines_of bytes)
