-- Keys of properties.
use Rattle.std.specs.Prelude.{ℕ, Result, Ok, Err}
use Rattle.jo_value.specs.declared.key.KeyOutside.{KeyOutside}
use Rattle.jo_value.specs.declared.value.Key.{Key}
use Rattle.jo_value.specs.declared.value.Value.{Value}
use Rattle.jo_value.specs.declared.value.Value.TheVariants as value
use Rattle.jo_value.specs.Keys.{key_of_int, key_of_id}
use Rattle.jo_value.specs.Texts.{Table, id_in}
use Rattle.jo_parse_tree.specs.Words.{keyword_text}
use Rattle.jo_parse_tree.specs.declared.word.Name.{Name as Word}
use Rattle.jo_parse_tree.specs.declared.word.Name.TheVariants as word
use Rattle.jo_parse_tree.specs.declared.word.PropKey.{PropKey}
use Rattle.jo_parse_tree.specs.declared.word.PropKey.TheVariants as prop
use Rattle.jo_model.specs.declared.call.Outcome.{Outcome}
use Rattle.jo_model.specs.declared.call.Outcome.TheVariants as outcome

-- ---- keys

-- what is no key is the fault KeyOutside
abbrev pub or_outside : Result Key KeyOutside → Result Key Outcome
or_outside (Ok key) = Ok key
or_outside (Err outside) = Err outcome.KeyOutside

-- the key that a value is, or the fault; other than ToPropertyKey it takes numbers and texts alone
abbrev pub key_in : Table → Value → Result Key Outcome
key_in texts (value.Int i) = or_outside (key_of_int i)
key_in texts (value.Text t) = or_outside (key_of_id texts t.0)
key_in texts _ = Err outcome.KeyOutside

-- ---- words that name properties

-- the id of a word that names a property
abbrev pub name_id : Table → Word → ℕ
name_id texts (word.Ident x) = x.text.0
name_id texts (word.Keyword w) = id_in texts (keyword_text w)
name_id texts (word.Reserved t) = t.0

-- a word that names a property, as a text
abbrev pub name_value : Table → Word → Value
name_value texts name = value.Text (record { 0 = name_id texts name })

-- the key of a property of an object literal, as a value
abbrev pub prop_value : Table → PropKey → Value
prop_value texts (prop.Name name) = name_value texts name
prop_value texts (prop.Text t) = value.Text t.text
prop_value texts (prop.Number i) = value.Int i
