-- What a print writes of a table without line feeds has none but the one at its end.
use Rattle.std.proofs.Common.{◌≡◌, ℕ, zero, suc, ◌+◌, ◌/◌, ◌%◌, ◌==◌, Bool, true, false, List, [], ◌∷◌, ◌++◌, map, if◌then◌else◌, refl, arith}
use Rattle.std.specs.Prelude.{ℤ, pos, negsuc, nat_lt, codes, decimal}
use Rattle.std.specs.List.{flat_map}
use Rattle.std.specs.Fmt.{digits, digits_onto, digit_glyph, signed_decimal}
use Rattle.jo_value.specs.declared.value.NameId.{NameId}
use Rattle.jo_value.specs.declared.value.ObjId.{ObjId}
use Rattle.jo_value.specs.declared.value.Value.{Value}
use Rattle.jo_value.specs.declared.value.Value.TheVariants as value
use Rattle.jo_value.specs.Texts.{Table, text_in}
use Rattle.jo_model.specs.Printed.{object_bytes, value_bytes, joined, line_of}
use Rattle.jo_meaning.specs.Printed.{line_of_names}
use Rattle.jo_meaning.proofs.LineFeeds.{IsOneLine, AreOneLine, other_byte, one_line-cons, one_line-append}

-- ---- numbers

digits_one_line : (k n : ℕ) (more : List ℕ) → IsOneLine more → IsOneLine (digits_onto k 10 false n more)
digits_one_line zero n more h = h
digits_one_line (suc k) n more h = step (n / 10 == 0) one (digits_one_line k (n / 10) (digit_glyph false (n % 10) ∷ more) one)
  where
    glyph : (b : Bool) (d : ℕ) → (if b then 48 + d else 87 + d) ≡ 10 → ⊥
    glyph true d e = omega (arith, e)
    glyph false d e = omega (arith, e)

    one : IsOneLine (digit_glyph false (n % 10) ∷ more)
    one = one_line-cons (digit_glyph false (n % 10)) more (other_byte (digit_glyph false (n % 10)) (glyph (nat_lt (n % 10) 10) (n % 10))) h

    step : (b : Bool) → IsOneLine (digit_glyph false (n % 10) ∷ more) → IsOneLine (digits_onto k 10 false (n / 10) (digit_glyph false (n % 10) ∷ more))
        → IsOneLine (if b then digit_glyph false (n % 10) ∷ more else digits_onto k 10 false (n / 10) (digit_glyph false (n % 10) ∷ more))
    step true p q = p
    step false p q = q

decimal_one_line : (n : ℕ) → IsOneLine (decimal n)
unfolding digits
decimal_one_line n = digits_one_line 64 n [] refl

signed_one_line : (i : ℤ) → IsOneLine (signed_decimal i)
signed_one_line (pos n) = decimal_one_line n
signed_one_line (negsuc n) = one_line-cons 45 (decimal (suc n)) refl (decimal_one_line (suc n))

-- ---- fragments

-- a text of the table, or the empty one
text_one_line : (texts : Table) (id : ℕ) → AreOneLine texts → IsOneLine (text_in texts id)
text_one_line [] id h = refl
text_one_line (first ∷ texts) zero h = h.0
text_one_line (first ∷ texts) (suc id) h = text_one_line texts id h.1

object_one_line : (o : ObjId) → IsOneLine (object_bytes o)
object_one_line o =
    one_line-append (codes "#" ++ decimal o.pass ++ codes ".") (decimal o.serial)
    (one_line-append (codes "#" ++ decimal o.pass) (codes ".") (one_line-append (codes "#") (decimal o.pass) refl (decimal_one_line o.pass)) refl)
    (decimal_one_line o.serial)

value_one_line : (texts : Table) → AreOneLine texts → (v : Value) → IsOneLine (value_bytes texts v)
value_one_line texts h value.Undefined = refl
value_one_line texts h value.Null = refl
value_one_line texts h (value.Bool true) = refl
value_one_line texts h (value.Bool false) = refl
value_one_line texts h (value.Int i) = signed_one_line i
value_one_line texts h (value.Text t) = text_one_line texts t.0 h
value_one_line texts h (value.Object o) = object_one_line o

-- ---- lines

after_joint : (between : List ℕ) (parts : List (List ℕ)) → IsOneLine between → AreOneLine parts → IsOneLine (flat_map (λ u. between ++ u) parts)
after_joint between [] h k = refl
after_joint between (part ∷ parts) h k =
    one_line-append (between ++ part) (flat_map (λ u. between ++ u) parts) (one_line-append between part h k.0) (after_joint between parts h k.1)

joined_one_line : (between : List ℕ) (parts : List (List ℕ)) → IsOneLine between → AreOneLine parts → IsOneLine (joined between parts)
joined_one_line between [] h k = refl
joined_one_line between (part ∷ parts) h k = one_line-append part (flat_map (λ u. between ++ u) parts) k.0 (after_joint between parts h k.1)

module _ (texts : Table) (plain : AreOneLine texts) where
  values_one_line : (values : List Value) → AreOneLine (map (value_bytes texts) values)
  values_one_line [] = tt
  values_one_line (v ∷ values) = (value_one_line texts plain v, values_one_line values)

  names_one_line : (names : List NameId) → AreOneLine (map (λ name. text_in texts name.0) names)
  names_one_line [] = tt
  names_one_line (name ∷ names) = (text_one_line texts name.0 plain, names_one_line names)

  -- the line of these values
  pub line_of_is_one_line : (values : List Value) → IsOneLine (line_of texts values)
  line_of_is_one_line values = joined_one_line (codes " ") (map (value_bytes texts) values) refl (values_one_line values)

  -- the line of these names
  pub line_of_names_is_one_line : (names : List NameId) → IsOneLine (line_of_names texts names)
  line_of_names_is_one_line names = joined_one_line (codes ",") (map (λ name. text_in texts name.0) names) refl (names_one_line names)
