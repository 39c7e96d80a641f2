-- What the reader answers for the bytes of a set.
use Rattle.std.specs.Prelude.{◌≡◌, ℕ, List, map, Result, Ok, Err}
use Rattle.jo_value.specs.Texts.{Table}
use Rattle.jo_lex.specs.declared.refusal.ParseFault.{ParseFault}
use Rattle.jo_lex.specs.declared.refusal.ParseFault.TheVariants.{Memory, Refused}
use Rattle.jo_lex.specs.Faults.{IsMemoryOr}
use Rattle.jo_parse_tree.specs.declared.script.Script.{Script}
use Rattle.jo_parse_tree.specs.ScriptViews.{script_tree}
use Rattle.jo_parse_tree.specs.Trees.{Items}
use Rattle.jo_parse_grammar.specs.Sets.{IsRefusal}

-- a set that was read: its scripts, and the table of their texts
abbrev pub Parsed : Type 0
Parsed = List Script × Table

-- the plain trees of its scripts
abbrev pub trees_of : Parsed → List Items
trees_of set = map script_tree set.0

-- Memory, or the refusal of the bytes
abbrev pub IsSetFault : List ℕ → ParseFault → Type 0
IsSetFault bytes = IsMemoryOr (IsRefusal bytes)

-- the answer is these scripts with this table, unless memory fails
abbrev pub GivesSet : List Items → Table → Result Parsed ParseFault → Type 0
GivesSet scripts texts (Ok set) = (trees_of set ≡ scripts) × (set.1 ≡ texts)
GivesSet scripts texts (Err Memory) = Unit {0}
GivesSet scripts texts (Err (Refused refusal)) = ⊥
