-- Fragments of the output.
use Rattle.std.specs.Prelude.{ℕ, ◌==◌, ◌||◌, List, [], ◌∷◌, ◌++◌, codes, map, flat_map, if◌then◌else◌}
use Rattle.jo_value.specs.Texts.{Table}
use Rattle.jo_model.specs.Objects.{Object}
use Rattle.jo_model.specs.Printed.{joined}
use Rattle.jo_model.specs.Rendered.{element_bytes, name_bytes}

-- fragments one after another, with a fragment before each
abbrev pub each_after : List ℕ → List (List ℕ) → List ℕ
each_after between texts = flat_map (λ u. between ++ u) texts

-- a byte as it stands between double quotes: a backslash or a double quote has a backslash before it
abbrev pub escaped : ℕ → List ℕ
escaped b = if b == 92 || b == 34 then 92 ∷ b ∷ [] else b ∷ []

-- what stands between the braces of an object's line
abbrev pub properties_bytes : Table → Object → List ℕ
properties_bytes texts o = joined (codes ", ") (map (element_bytes texts) o.elements ++ map (name_bytes texts) o.names)
