-- Which key a number or a text is.
use Rattle.std.specs.Prelude.{ℕ, ℤ, pos, ◌==◌, ◌&&◌, not, nat_le, Bool, true, false, if◌then◌else◌, List, [], ◌∷◌, slice_get, Option, Some, None, Result, Ok, Err}
use Rattle.std.specs.Str.{all_ascii_digits}
use Rattle.std.specs.Str.Parse.{digits_value}
use Rattle.jo_value.specs.declared.limits.TheConstants.{MOST_ARRAY_INDEX, MOST_INDEX}
use Rattle.jo_value.specs.declared.key.KeyOutside.{KeyOutside}
use Rattle.jo_value.specs.declared.value.Key.{Key}
use Rattle.jo_value.specs.declared.value.Key.TheVariants.{Name, Index}
use Rattle.jo_value.specs.Texts.{Table}

-- the text is one byte, or more of which the first is not 0
abbrev pub is_unpadded : List ℕ → Bool
is_unpadded [] = false
is_unpadded (b ∷ []) = true
is_unpadded (b ∷ c ∷ text) = not (b == 48)

-- the text is decimal digits, and the first of them is 0 only where it stands alone
abbrev pub is_numeral : List ℕ → Bool
is_numeral text = is_unpadded text && all_ascii_digits text

-- the array index that a text is (ECMA-262: a canonical numeric text up to 2^32 - 2)
abbrev pub array_index : List ℕ → Option ℕ
array_index text =
    if is_numeral text && nat_le (digits_value 10 text) MOST_ARRAY_INDEX then Some (digits_value 10 text) else None

-- an index, where it is within the limit
abbrev pub key_at : ℕ → Result Key KeyOutside
key_at n = if nat_le n MOST_INDEX then Ok (Index n) else Err (record {})

-- the key that a number is
abbrev pub key_of_int : ℤ → Result Key KeyOutside
key_of_int (pos n) = key_at n
key_of_int _ = Err (record {})

-- the key of the text with an id: an array index, if it is one, and else the name with that id
abbrev pub key_by : ℕ → Option ℕ → Result Key KeyOutside
key_by id None = Ok (Name (record { 0 = id }))
key_by id (Some n) = key_at n

abbrev pub key_of_text : ℕ → Option (List ℕ) → Result Key KeyOutside
key_of_text id None = Err (record {})
key_of_text id (Some text) = key_by id (array_index text)

-- the key that a text of a table is by its id; none where the table lacks it
abbrev pub key_of_id : Table → ℕ → Result Key KeyOutside
key_of_id texts id = key_of_text id (slice_get texts id)
