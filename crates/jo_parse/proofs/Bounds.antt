-- The sections of an input end within it.
use Rattle.std.proofs.Common.{◌≡◌, ℕ, ◌+◌, ◌≤◌, Bool, true, false, List, [], ◌∷◌, ◌++◌, length, refl, ap, arith, length-append}
use Rattle.jo_parse_grammar.specs.Cuts.{lines_of, with_first, is_separator, sections_from, sections_of, AreWithin}
use Rattle.jo_parse.proofs.Lines.{is_feed, lines-nil, lines-feed, lines-other}
use Rattle.jo_parse.proofs.Cutting.{from-nil, from-separator, from-other}

-- the bytes of all lines
abbrev size : List (List ℕ) → ℕ
size [] = 0
size (line ∷ lines) = length line + size lines

size-first : (b : ℕ) (lines : List (List ℕ)) → size (with_first b lines) ≡ 1 + size lines
size-first b [] = refl
size-first b (line ∷ lines) = omega arith

size-step : (b : ℕ) (input : List ℕ) (k : Bool) → is_feed b ≡ k → size (lines_of input) ≡ length input → size (lines_of (b ∷ input)) ≡ length (b ∷ input)
size-step b input true e ih = omega (arith, ap size (lines-feed b input e))
size-step b input false e ih = omega (arith, ap size (lines-other b input e), size-first b (lines_of input))

size-lines : (input : List ℕ) → size (lines_of input) ≡ length input
size-lines [] = ap size lines-nil
size-lines (b ∷ input) = size-step b input (is_feed b) refl (size-lines input)

from-within : (bound start : ℕ) (input : List ℕ) (lines : List (List ℕ)) → start + length input + size lines ≤ bound → AreWithin bound (sections_from start input lines)
from-within bound start input [] le = rw (from-nil start input) (omega arith, tt)
from-within bound start input (line ∷ lines) le =
    step (is_separator line) refl (from-within bound (start + length input + length line) [] lines (omega arith))
    (from-within bound start (input ++ line) lines (omega (arith, length-append input line)))
  where
    step : (k : Bool) → is_separator line ≡ k → AreWithin bound (sections_from (start + length input + length line) [] lines) → AreWithin bound (sections_from start (input ++ line) lines)
        → AreWithin bound (sections_from start input (line ∷ lines))
    step true e anew on = rw (from-separator start input line lines e) (omega arith, anew)
    step false e anew on = rw (from-other start input line lines e) on

pub sections_are_within : (input : List ℕ) → AreWithin (length input) (sections_of input)
sections_are_within input = from-within (length input) 0 [] (lines_of input) (omega (arith, size-lines input))
