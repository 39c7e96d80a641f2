-- The output of a run: what a script printed, how it ended, and the objects at the end.
use Rattle.std.specs.Prelude.{ℕ, ◌==◌, ◌||◌, Bool, true, false, List, [], ◌∷◌, ◌++◌, codes, decimal, map, flat_map, if◌then◌else◌}
use Rattle.std.specs.List.{enumerate_from}
use Rattle.jo_value.specs.Texts.{Table, text_in}
use Rattle.jo_value.specs.declared.value.NameId.{NameId}
use Rattle.jo_value.specs.declared.value.Value.{Value}
use Rattle.jo_value.specs.declared.value.Value.TheVariants as value
use Rattle.jo_model.specs.declared.call.Outcome.{Outcome}
use Rattle.jo_model.specs.declared.call.Outcome.TheVariants as outcome
use Rattle.jo_model.specs.Objects.{Object}
use Rattle.jo_model.specs.Heaps.{Heap}
use Rattle.jo_model.specs.Printed.{object_bytes, value_bytes, joined}

-- the word for an outcome
abbrev pub outcome_bytes : Outcome → List ℕ
outcome_bytes outcome.Done = codes "done"
outcome_bytes outcome.TypeFault = codes "TypeFault"
outcome_bytes outcome.NotSafe = codes "NotSafe"
outcome_bytes outcome.KeyOutside = codes "KeyOutside"
outcome_bytes outcome.TurnsSpent = codes "TurnsSpent"
outcome_bytes outcome.OutputFull = codes "OutputFull"
outcome_bytes outcome.TooManyNames = codes "TooManyNames"
outcome_bytes outcome.ObjectsSpent = codes "ObjectsSpent"
outcome_bytes outcome.Spent = codes "Spent"

-- Lines, each closed by a line feed, with a head before each; `begins` says whether a line begins here.
abbrev pub headed : List ℕ → (begins : Bool) → List ℕ → List ℕ
headed head begins [] = []
headed head true (b ∷ lines) = head ++ b ∷ headed head (b == 10) lines
headed head false (b ∷ lines) = b ∷ headed head (b == 10) lines

-- the printed lines of script t, and the line of its outcome, by its word
abbrev pub run_bytes : ℕ → List ℕ → List ℕ → List ℕ
run_bytes t lines word = headed (decimal t ++ codes "| ") true lines ++ decimal t ++ codes "= " ++ word ++ codes "\n"

-- a text between double quotes, with a backslash before each backslash and each double quote
abbrev pub quoted : List ℕ → List ℕ
quoted text = codes "\"" ++ flat_map (λ b. if b == 92 || b == 34 then 92 ∷ b ∷ [] else b ∷ []) text ++ codes "\""

-- the value of a property as it is written
abbrev pub property_value_bytes : Table → Value → List ℕ
property_value_bytes texts (value.Text t) = quoted (text_in texts t.0)
property_value_bytes texts v = value_bytes texts v

abbrev pub element_bytes : Table → ℕ × Value → List ℕ
element_bytes texts p = decimal p.0 ++ codes ": " ++ property_value_bytes texts p.1

abbrev pub name_bytes : Table → NameId × Value → List ℕ
name_bytes texts p = quoted (text_in texts p.0.0) ++ codes ": " ++ property_value_bytes texts p.1

-- the line of an object: indexes in rising order, then names in order of creation
abbrev pub object_line : Table → ℕ → ℕ × Object → List ℕ
object_line texts pass o =
    object_bytes (record { pass = pass; serial = o.0 }) ++ codes " {"
    ++ joined (codes ", ") (map (element_bytes texts) o.1.elements ++ map (name_bytes texts) o.1.names)
    ++ codes "}\n"

-- the lines of all objects, in order of pass and serial
abbrev pub heap_bytes : Table → Heap → List ℕ
heap_bytes texts heap = flat_map (λ p. flat_map (object_line texts p.0) (enumerate_from 0 p.1)) (enumerate_from 0 heap)
