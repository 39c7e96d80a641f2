-- How values are written in printed lines.
use Rattle.std.specs.Prelude.{ℕ, List, [], ◌∷◌, ◌++◌, codes, decimal, map, flat_map, true, false}
use Rattle.std.specs.Fmt.{signed_decimal}
use Rattle.jo_value.specs.Texts.{Table, text_in}
use Rattle.jo_value.specs.declared.value.ObjId.{ObjId}
use Rattle.jo_value.specs.declared.value.Value.{Value}
use Rattle.jo_value.specs.declared.value.Value.TheVariants.{Undefined, Null, Bool, Int, Text, Object}

abbrev pub object_bytes : ObjId → List ℕ
object_bytes o = codes "#" ++ decimal o.pass ++ codes "." ++ decimal o.serial

-- a value as it is written in a line
abbrev pub value_bytes : Table → Value → List ℕ
value_bytes texts Undefined = codes "undefined"
value_bytes texts Null = codes "null"
value_bytes texts (Bool true) = codes "true"
value_bytes texts (Bool false) = codes "false"
value_bytes texts (Int i) = signed_decimal i
value_bytes texts (Text t) = text_in texts t.0
value_bytes texts (Object o) = object_bytes o

-- fragments one after another, with a fragment between each two
abbrev pub joined : List ℕ → List (List ℕ) → List ℕ
joined between [] = []
joined between (t ∷ texts) = t ++ flat_map (λ u. between ++ u) texts

-- the line that these values print, without its end
abbrev pub line_of : Table → List Value → List ℕ
line_of texts values = joined (codes " ") (map (value_bytes texts) values)
