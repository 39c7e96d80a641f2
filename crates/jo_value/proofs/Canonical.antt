-- The texts that are array indexes are just what numbers up to the largest one are written as.
use Rattle.std.proofs.Common.{◌≡◌, ◌<◌, ◌≤◌, ◌∙◌, ◌^◌, ◌&&◌, ◌==◌, not, ℕ, zero, suc, Bool, true, List, [], ◌∷◌, refl, sym, ap, arith, Some, None, length, slice_index, if◌then◌else◌, true≢false}
use Rattle.std.specs.Prelude.{nat_le, decimal}
use Rattle.std.specs.Str.{all_ascii_digits}
use Rattle.std.specs.Str.Parse.{digits_value}
use Rattle.std.proofs.lemmas.Bool.{and_parts, ne_eqb}
use Rattle.std.proofs.lemmas.Fmt.{decimal_digit, first_decimal, digits_decimal, digits_value-decimal, decimal-digits_value}
use Rattle.jo_value.specs.declared.limits.TheConstants.{MOST_ARRAY_INDEX}
use Rattle.jo_value.specs.Keys.{is_unpadded, is_numeral, array_index}
use Rattle.jo_value.proofs.Numerals.{own, some_byte}

unpadded : (text : List ℕ) → 48 < slice_index text 0 → is_unpadded text ≡ true
unpadded [] lt = absurd (omega (arith, lt))
unpadded (b ∷ []) lt = refl
unpadded (b ∷ c ∷ text) lt = ap not (ne_eqb b 48 (λ e. omega (arith, lt, e)))

lone_zero : (text : List ℕ) → is_unpadded text ≡ true → slice_index text 0 ≡ 48 → length text ≡ 1
lone_zero [] u e = absurd (true≢false (sym u))
lone_zero (b ∷ []) u e = refl
lone_zero (b ∷ c ∷ text) u e = absurd (true≢false (sym u ∙ ap (λ n. not (n == 48)) e))

is_found : (numeral : Bool) (value n : ℕ) → numeral ≡ true → value ≡ n → n ≤ MOST_ARRAY_INDEX
    → (if numeral && nat_le value MOST_ARRAY_INDEX then Some value else None) ≡ Some n
is_found numeral value n e f le = grind arith

-- what a number is written as is the array index that it is
pub decimal_is_index : (n : ℕ) → n ≤ MOST_ARRAY_INDEX → array_index (decimal n) ≡ Some n
decimal_is_index zero le = ap array_index (decimal_digit 0 (omega arith))
decimal_is_index (suc n) le =
    let small : suc n < 2 ^ 64 = omega (arith, le) in
    let numeral : is_numeral (decimal (suc n)) ≡ true = ap (λ b. b && all_ascii_digits (decimal (suc n))) (unpadded (decimal (suc n)) (first_decimal (suc n) (omega arith) small)) ∙ digits_decimal own (suc n) small in
    is_found (is_numeral (decimal (suc n))) (digits_value 10 (decimal (suc n))) (suc n) numeral (digits_value-decimal own (suc n) small) le

parts : (numeral : Bool) (value n : ℕ) → (if numeral && nat_le value MOST_ARRAY_INDEX then Some value else None) ≡ Some n
    → (numeral ≡ true) × (value ≡ n) × (n ≤ MOST_ARRAY_INDEX)
parts numeral value n e = grind arith

-- and a text that is an array index is what that number is written as
pub index_is_decimal : (text : List ℕ) (n : ℕ) → array_index text ≡ Some n → (decimal n ≡ text) × (n ≤ MOST_ARRAY_INDEX)
index_is_decimal text n e =
    let p = parts (is_numeral text) (digits_value 10 text) n e in
    let both = and_parts (is_unpadded text) (all_ascii_digits text) p.0 in
    let small : digits_value 10 text < 2 ^ 64 = omega (arith, p.1, p.2) in
    (ap decimal (sym p.1) ∙ decimal-digits_value own text both.1 (some_byte text both.0) (lone_zero text both.0) small, p.2)
