-- Printed lines.
use Rattle.std.specs.Prelude.{ℕ, ◌+◌, nat_le, if◌then◌else◌, List, [], ◌∷◌, ◌++◌, codes, length, map}
use Rattle.jo_value.specs.declared.limits.TheConstants.{MOST_LINE_BYTES}
use Rattle.jo_value.specs.declared.value.NameId.{NameId}
use Rattle.jo_value.specs.Texts.{Table, text_in}
use Rattle.jo_model.specs.declared.call.Outcome.TheVariants.{OutputFull}
use Rattle.jo_model.specs.Printed.{joined}
use Rattle.jo_meaning.specs.State.{Next, ends}

-- the line of an object's names
abbrev pub line_of_names : Table → List NameId → List ℕ
line_of_names texts names = joined (codes ",") (map (λ name. text_in texts name.0) names)

-- goes on with one more line, or ends with the lines before where there is no room for it and its end
abbrev pub prints : List ℕ → Next → Next
prints line next s =
    if nat_le (length s.lines + length line + 1) MOST_LINE_BYTES
    then next (record s { lines = s.lines ++ line ++ 10 ∷ [] }) else ends OutputFull s
