use Rattle.std.proofs.Common.{◌≡◌, ◌∷◌, ◌∙◌, OnOk, ap, subst, sym}
use Rattle.jo_parse_tree.specs.ScriptViews.{trees_list}
use Rattle.jo_code.specs.declared.instruction.Instruction.TheVariants.{Print}
use Rattle.jo_code.specs.inner.Code.{pushes_code}
use Rattle.jo_code.proofs.Stating.{trees_list-length}
use Rattle.jo_code.proofs.draft.Draft.print.Goals as goal

pub returns : goal.returns
returns c =
    let es = trees_list c.args.exprs.now in
    let count = c.in_ok-put.ensures ∙ ap (λ i. i ∷ c.args.self.now) (c.in_ok-print_of.ensures ∙ ap Print (sym (trees_list-length c.args.exprs.now))) in
    subst (λ rest. OnOk c.pushes.result (c.pushes.new.self ≡ pushes_code c.args.scope.now es rest)) count c.pushes.ensures
