-- What std's reading of a number says of a text that is a numeral.
use Rattle.std.proofs.Common.{◌≡◌, ◌<◌, ◌≤◌, ◌^◌, ◌&&◌, ℕ, Bool, true, List, [], ◌∷◌, refl, ap, arith, Some, None, Err, length, ⊎_elim, if◌then◌else◌}
use Rattle.std.specs.Prelude.{nat_le}
use Rattle.std.specs.List.{list_all}
use Rattle.std.specs.Char.{is_ascii_digit}
use Rattle.std.specs.Str.{all_ascii_digits}
use Rattle.std.specs.Str.Parse.{digits_value, ParsesUnsigned}
use Rattle.std.proofs.lemmas.Bool.{and_parts, cases_lt}
use Rattle.std.proofs.lemmas.Str.Parse.{numerals_by_value, tells_all_ascii_digits, IsNumeralModel, parse_digits}
use Rattle.jo_value.specs.declared.limits.TheConstants.{MOST_ARRAY_INDEX}
use Rattle.jo_value.specs.Keys.{is_unpadded, is_numeral, array_index}

pub all_digits : (text : List ℕ) → list_all is_ascii_digit text ≡ all_ascii_digits text
all_digits [] = refl
all_digits (b ∷ text) = ap (λ r. is_ascii_digit b && r) (all_digits text)

pub own : IsNumeralModel (λ ds. all_ascii_digits ds ≡ true) (digits_value 10)
own = numerals_by_value _ tells_all_ascii_digits

pub some_byte : (text : List ℕ) → is_unpadded text ≡ true → 0 < length text
some_byte [] e = absurd cc
some_byte (b ∷ text) e = omega arith

large : (n : ℕ) (numeral : Bool) → 2 ^ 32 ≤ n → (if numeral && nat_le n MOST_ARRAY_INDEX then Some n else None) ≡ None
large n numeral le = grind arith

-- a numeral that has no number of 32 bits is no array index
pub beyond : {E : Type 0} (text : List ℕ) (e : E) → ParsesUnsigned 32 10 text (Err e) → is_numeral text ≡ true → array_index text ≡ None
beyond text e parsed numeral =
    let parts = and_parts (is_unpadded text) (all_ascii_digits text) numeral in
    let none = parse_digits own 32 text (Err e) parsed parts.1 in
    ⊎_elim (λ lt. absurd (none (some_byte text parts.0, lt))) (λ le. large (digits_value 10 text) (is_numeral text) le)
    (cases_lt (digits_value 10 text) (2 ^ 32))
