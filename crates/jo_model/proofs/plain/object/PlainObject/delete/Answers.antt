use Rattle.std.proofs.Common.{◌∙◌, sym}
use Rattle.jo_model.proofs.WellFormedObjects.{without-absent}
use Rattle.jo_model.proofs.plain.object.PlainObject.delete.Goals as goal
use Rattle.jo_model.proofs.plain.object.PlainObject.delete.Goals.{then-has, else-has}

pub returns : goal.returns
returns c =
    elim c.if-has.branch [
      | then-has w ↦ cc
      | else-has w ↦ cc (without-absent c.args.self.now c.args.key (sym c.has.ensures ∙ w.if-has.false))
    ]
