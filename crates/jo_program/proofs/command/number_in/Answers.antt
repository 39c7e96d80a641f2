use Rattle.std.proofs.Common.{◌≡◌, ◌<◌, ◌^◌, ◌∙◌, true, ap, sym, arith}
use Rattle.jo_value.specs.Keys.{is_numeral}
use Rattle.jo_program.proofs.Numbers.{beyond}
use Rattle.jo_program.proofs.command.number_in.Goals as goal

pub returns-in-Err : goal.returns-in-Err
returns-in-Err c =
    let small : c.args.most < 2 ^ 32 = omega (arith, c.ranges.most) in
    let numeral : is_numeral c.args.text.now ≡ true = ap is_numeral (sym c.as_bytes.ensures.value) ∙ sym c.is_numeral.ensures ∙ c.if-not-is_numeral.false in
    sym (beyond c.args.least c.args.most c.args.text.now c.in-Err.field-0 small c.in-Err.ensures.value.0 numeral)
