-- How an input is cut into its sections.
use Rattle.std.specs.Prelude.{◌≡◌, ℕ, ◌+◌, ◌<◌, ◌≤◌, ◌-◌, ◌==◌, ◌||◌, Bool, if◌then◌else◌, List, [], ◌∷◌, ◌++◌, length, slice_get, Some, codes}
use Rattle.std.specs.Str.{bytes_eq}
use Rattle.jo_value.specs.declared.limits.TheConstants.{MOST_SCRIPTS}

-- ---- lines

-- the first line with one more byte at its front
abbrev pub with_first : ℕ → List (List ℕ) → List (List ℕ)
with_first b [] = (b ∷ []) ∷ []
with_first b (line ∷ lines) = (b ∷ line) ∷ lines

-- the lines of an input, each with the line feed that ends it; the last one may have none
unfoldable pub lines_of : List ℕ → List (List ℕ)
lines_of [] = []
lines_of (b ∷ input) = if b == 10 then (b ∷ []) ∷ lines_of input else with_first b (lines_of input)

-- the line is `%%`, with or without a carriage return after it
abbrev pub is_separator : List ℕ → Bool
is_separator line =
    bytes_eq line (codes "%%\n") || bytes_eq line (codes "%%\r\n") || bytes_eq line (codes "%%") || bytes_eq line (codes "%%\r")

-- ---- sections

-- a section: how many bytes stand before it, and its own bytes
pub record Section : Type 0 where
  pub start : ℕ
  pub input : List ℕ

-- how many bytes stand before what follows the section
abbrev pub end_of : Section → ℕ
end_of section = section.start + length section.input

-- The sections that end in these lines or after them, where one has begun at a place and has some bytes. A separator ends
-- it, and the next one begins after the separator; any other line goes on with it.
unfoldable pub sections_from : ℕ → List ℕ → List (List ℕ) → List Section
sections_from start input [] = record { start = start; input = input } ∷ []
sections_from start input (line ∷ lines) =
    if is_separator line
    then record { start = start; input = input } ∷ sections_from (start + length input + length line) [] lines
    else sections_from start (input ++ line) lines

-- each of the sections ends at the bound or before it
abbrev pub AreWithin : ℕ → List Section → Type 0
AreWithin bound [] = Unit {0}
AreWithin bound (section ∷ sections) = (end_of section ≤ bound) × AreWithin bound sections

-- the sections of an input
abbrev pub sections_of : List ℕ → List Section
sections_of input = sections_from 0 [] (lines_of input)

-- there is a section too many: the place of the separator that would begin it
abbrev pub IsOneTooMany : List Section → ℕ → Type 0
IsOneTooMany sections place =
    (MOST_SCRIPTS < length sections) × (section : Section) × (slice_get sections (MOST_SCRIPTS - 1) ≡ Some section) × (place ≡ end_of section)
