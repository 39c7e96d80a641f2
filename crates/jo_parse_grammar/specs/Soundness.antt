-- When the scripts of a set are sound for its table.
use Rattle.std.specs.Prelude.{List, [], ◌∷◌}
use Rattle.jo_value.specs.Texts.{Table}
use Rattle.jo_parse_tree.specs.Trees.{Items}
use Rattle.jo_parse_grammar.specs.Sound.{IsSound}

-- each of the scripts is sound for the table
abbrev pub AreSound : Table → List Items → Type 0
AreSound texts [] = Unit {0}
AreSound texts (script ∷ scripts) = IsSound texts script × AreSound texts scripts
