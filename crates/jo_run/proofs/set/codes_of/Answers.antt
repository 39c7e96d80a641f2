use Rattle.std.proofs.Common.{◌≡◌, List, length, slice_get, Some, sym, subst, arith}
use Rattle.std.proofs.lemmas.Grind.{common_steps}
use Rattle.jo_code.specs.declared.instruction.Instruction.{Instruction}
use Rattle.jo_parse_tree.specs.ScriptViews.{script_tree}
use Rattle.jo_parse.specs.Parsed.{trees_of}
use Rattle.jo_run.specs.inner.Begun.{Beside, IsCodeOf}
use Rattle.jo_run.proofs.Places.{beside_more}
use Rattle.jo_run.proofs.set.codes_of.Goals as goal

pub loop-at-preserved : goal.loop-at-preserved
loop-at-preserved c =
    let set = c.args.set.now in
    let tree = script_tree c.script.result.now in
    let at : slice_get (trees_of set) (length c.loop-at.codes.items) ≡ Some tree =
    subst (λ n. slice_get (trees_of set) n ≡ Some tree) (sym c.loop-at.invariant.0) c.script.ensures.tree in
    let is : IsCodeOf set.1 tree c.in_ok-compile.field-0 = record { sound = c.script.ensures.sound; behaves = c.in_ok-compile.ensures } in (
      grind (arith, common_steps),
      subst (Beside (IsCodeOf set.1) (trees_of set)) (sym {A = List (List Instruction)} c.push_reserved.ensures.items)
          (beside_more (IsCodeOf set.1) (trees_of set) c.loop-at.codes.items tree c.in_ok-compile.field-0 at c.loop-at.invariant.1 is),
      grind (arith, common_steps),
    )
