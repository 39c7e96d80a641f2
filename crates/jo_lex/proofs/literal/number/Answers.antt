use Rattle.std.proofs.Common.{◌≡◌, ◌≢◌, ◌+◌, ◌-◌, min, refl, sym, ap, ◌∙◌, arith}
use Rattle.std.specs.List.{take_while}
use Rattle.std.specs.Str.{chars}
use Rattle.jo_value.specs.declared.limits.TheConstants.{MOST_NUMBER}
use Rattle.jo_value.specs.Texts.{is_digit}
use Rattle.jo_lex.specs.Pieces.{decimal}
use Rattle.jo_lex.proofs.Texts.{chars_pass}
use Rattle.jo_lex.proofs.Literals.{number_piece-zero, number_piece-digits}
use Rattle.jo_lex.proofs.literal.number.Goals as goal

pub returns-then-first-eq48-clause-value : goal.returns-then-first-eq48-clause-value
returns-then-first-eq48-clause-value c =
    let zero_is : c.args.first ≡ 48 = omega arith in
    c.judged.ensures.value 0 refl ∙ sym (number_piece-zero c.args.first (chars c.args.after.now) zero_is)

pub returns-clause-value : goal.returns-clause-value
returns-clause-value c =
    let other : c.args.first ≢ 48 = omega arith in
    let digits = chars c.front-digits.result.now in
    let are : digits ≡ take_while is_digit (chars c.args.after.now) = chars_pass is_digit c.args.after.now c.front-digits.result.now c.past-rest.result.now c.utf8.after c.past-rest.utf8 c.front-digits.ensures c.past-rest.ensures.rest in
    let first : c.from-2.result - 48 ≡ c.args.first - 48 = omega arith in
    c.judged-2.ensures.value (decimal (c.args.first - 48) digits) (c.decimal.ensures ∙ ap (λ n. min (decimal n digits) (MOST_NUMBER + 1)) first)
    ∙ sym (number_piece-digits c.args.first (chars c.args.after.now) digits (chars c.past-rest.result.now) other are c.past-rest.ensures.rest)
