use Rattle.std.proofs.Common.{◌≡◌, length, slice_get, Some, refl, sym, subst, arith}
use Rattle.std.proofs.lemmas.Grind.{common_steps}
use Rattle.std.proofs.lemmas.Option.{slice_get_read}
use Rattle.jo_run.specs.inner.Begun.{Beside, IsAtCode}
use Rattle.jo_run.proofs.Places.{beside_more}
use Rattle.jo_run.proofs.set.machines_of.Goals as goal

pub loop-code-preserved : goal.loop-code-preserved
loop-code-preserved c =
    let codes = c.args.codes.now in
    let texts = c.args.texts.now in
    let at : slice_get codes (length c.loop-code.machines.items) ≡ Some c.code-item.result =
    subst (λ n. slice_get codes n ≡ Some c.code-item.result) (sym c.loop-code.invariant.0) (slice_get_read codes (length codes) c.loop-code.code-index c.code-item.result refl c.loop-code-test.true c.code-item.is) in (
      grind (arith, common_steps),
      subst (Beside (IsAtCode texts c.args.turns) codes) (sym c.push_reserved.ensures.items)
          (beside_more (IsAtCode texts c.args.turns) codes c.loop-code.machines.items c.code-item.result c.in_ok-new.field-0 at c.loop-code.invariant.1 c.in_ok-new.ensures.stands),
      grind (arith, common_steps),
    )
