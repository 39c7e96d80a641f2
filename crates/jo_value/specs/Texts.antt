-- A table of texts, as the list of them.
use Rattle.std.specs.Prelude.{ℕ, Bool, nat_eq, nat_le, nat_lt, ◌&&◌, List, [], ◌∷◌, ◌++◌, length, fold, slice_index_or, if◌then◌else◌}
use Rattle.std.specs.List.{position_or_len}
use Rattle.std.specs.Cmp.Lexicographic.{pointwise}

abbrev pub Table : Type 0
Table = List (List ℕ)

-- the place of the first equal text, or the length where there is none
abbrev pub id_in : Table → List ℕ → ℕ
id_in texts text = position_or_len (λ t. pointwise nat_eq t text) texts

-- the bytes of the text with an id; the empty text where the table lacks it
abbrev pub text_in : Table → ℕ → List ℕ
text_in texts id = slice_index_or texts id []

-- the table with this text, which goes last where it is new
abbrev pub interned : Table → List ℕ → Table
interned texts text = if nat_lt (id_in texts text) (length texts) then texts else texts ++ text ∷ []

-- the table of these texts, each once, in the order of their first places
abbrev pub table_of : List (List ℕ) → Table
table_of texts = fold interned [] texts

-- the byte is one of `0` to `9`
abbrev pub is_digit : ℕ → Bool
is_digit b = nat_le 48 b && nat_le b 57
