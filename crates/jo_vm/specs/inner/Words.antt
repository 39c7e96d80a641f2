-- The ids of the texts of keywords.
use Rattle.std.specs.Prelude.{ℕ, List, map, slice_index_or}
use Rattle.jo_value.specs.declared.value.TextId.{TextId}
use Rattle.jo_value.specs.Texts.{Table, id_in}
use Rattle.jo_parse_tree.specs.Words.{keyword_text}
use Rattle.jo_parse_tree.specs.declared.keyword.Keyword.{Keyword}
use Rattle.jo_parse_tree.specs.declared.keyword.Keyword.TheVariants as keyword
use Rattle.jo_parse_tree.specs.declared.keyword.TheConstants.{KEYWORDS}

-- the place of a keyword among all of them
abbrev pub place_of : Keyword → ℕ
place_of keyword.Break = 0
place_of keyword.Cas = 1
place_of keyword.Continue = 2
place_of keyword.Delete = 3
place_of keyword.Else = 4
place_of keyword.False = 5
place_of keyword.For = 6
place_of keyword.If = 7
place_of keyword.In = 8
place_of keyword.Let = 9
place_of keyword.Null = 10
place_of keyword.Print = 11
place_of keyword.PrintNames = 12
place_of keyword.Shared = 13
place_of keyword.True = 14
place_of keyword.Undefined = 15
place_of keyword.While = 16

-- the id at the place of a keyword
abbrev pub id_among : List TextId → Keyword → TextId
id_among ids word = slice_index_or ids (place_of word) (record { 0 = 0 })

-- the id of the text of a keyword in a table, which is the table's length where it lacks the text
abbrev pub word_id : Table → Keyword → TextId
word_id texts word = record { 0 = id_in texts (keyword_text word) }

-- those of all keywords
abbrev pub ids_in : Table → List TextId
ids_in texts = map (word_id texts) KEYWORDS
