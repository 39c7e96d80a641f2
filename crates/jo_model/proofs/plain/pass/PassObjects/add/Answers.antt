use Rattle.std.proofs.Common.{◌<◌, length, ap, arith}
use Rattle.jo_value.specs.declared.limits.TheConstants.{MOST_OBJECTS}
use Rattle.jo_model.proofs.WellFormed.{well_formed-more}
use Rattle.jo_model.proofs.plain.pass.PassObjects.add.Goals as goal

pub invariant_of-self-2 : goal.invariant_of-self-2
invariant_of-self-2 c =
    let room : length c.self.inside.objects.items < MOST_OBJECTS = omega (arith, ap length c.self.view_is) in
    rw (c.in_ok-push.ensures.items, c.new.ensures) (well_formed-more _ room c.self.invariant)

pub returns-clause-well_formed : goal.returns-clause-well_formed
returns-clause-well_formed c =
    let room : length c.self.inside.objects.items < MOST_OBJECTS = omega (arith, ap length c.self.view_is) in
    rw (c.in_ok-push.ensures.items, c.new.ensures) (well_formed-more _ room c.self.invariant)
