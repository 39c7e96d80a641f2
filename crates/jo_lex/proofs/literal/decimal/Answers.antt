use Rattle.std.proofs.Common.{◌≡◌, ◌+◌, ◌-◌, ◌*◌, min, sym, ap, ◌∙◌, arith, rules}
use Rattle.std.specs.Str.{chars}
use Rattle.jo_value.specs.declared.limits.TheConstants.{MOST_NUMBER}
use Rattle.jo_lex.specs.Pieces.{decimal}
use Rattle.jo_lex.proofs.Literals.{decimal_capped}
use Rattle.jo_lex.proofs.literal.decimal.Goals as goal

pub loop-d-preserved : goal.loop-d-preserved
loop-d-preserved c =
    let next = c.loop-d.n * 10 + (c.in-Some.d - 48) in
    let digits = chars c.in-Some.after.now in
    let capped : c.min-n.result ≡ min next (MOST_NUMBER + 1) = omega arith in
    let same : min c.min-n.result (MOST_NUMBER + 1) ≡ min next (MOST_NUMBER + 1) = omega arith in (
      search rules,
      decimal_capped (MOST_NUMBER + 1) c.min-n.result next digits same ∙ ap (λ ds. min (decimal c.loop-d.n ds) (MOST_NUMBER + 1)) (sym c.in-Some.ensures.0) ∙ c.loop-d.invariant.1,
      omega arith,
    )
