-- What std's reading of a number says of a text that is a number between bounds.
use Rattle.std.proofs.Common.{◌≡◌, ◌≤◌, ◌<◌, ◌^◌, ◌&&◌, ℕ, Bool, true, List, arith, Some, None, Err, ⊎_elim, if◌then◌else◌}
use Rattle.std.specs.Prelude.{nat_le}
use Rattle.std.specs.Str.{all_ascii_digits}
use Rattle.std.specs.Str.Parse.{digits_value, ParsesUnsigned}
use Rattle.std.proofs.lemmas.Bool.{and_parts, cases_lt}
use Rattle.std.proofs.lemmas.Str.Parse.{parse_digits}
use Rattle.jo_value.specs.Keys.{is_unpadded, is_numeral}
use Rattle.jo_value.proofs.Numerals.{own, some_byte}
use Rattle.jo_program.specs.Words.{number_in}

large : (least most n : ℕ) (numeral : Bool) → most < 2 ^ 32 → 2 ^ 32 ≤ n → (if numeral && (nat_le least n && nat_le n most) then Some n else None) ≡ None
large least most n numeral small le = grind arith

-- a numeral that has no number of 32 bits is no number between bounds that have
pub beyond : {E : Type 0} (least most : ℕ) (text : List ℕ) (e : E) → most < 2 ^ 32 → ParsesUnsigned 32 10 text (Err e) → is_numeral text ≡ true
    → number_in least most text ≡ None
beyond least most text e small parsed numeral =
    let parts = and_parts (is_unpadded text) (all_ascii_digits text) numeral in
    let none = parse_digits own 32 text (Err e) parsed parts.1 in
    ⊎_elim (λ lt. absurd (none (some_byte text parts.0, lt))) (λ le. large least most (digits_value 10 text) (is_numeral text) small le)
    (cases_lt (digits_value 10 text) (2 ^ 32))
