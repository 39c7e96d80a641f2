use Rattle.std.proofs.Common.{ap, subst}
use Rattle.jo_model.specs.WellFormed.{IsWellFormed}
use Rattle.jo_model.proofs.WellFormed.{well_formed-edit, well_formed-passes}
use Rattle.jo_model.proofs.WellFormedObjects.{well_formed-cas}
use Rattle.jo_model.proofs.plain.PlainHeap.cas.Goals as goal

pub invariant_of-pass : goal.invariant_of-pass
invariant_of-pass c =
    well_formed-edit _ _ c.index_mut-object.result.now c.cas.new.self c.index_mut-object.ensures.value
    (λ well. subst IsWellFormed (ap (λ p. p.0) c.cas.ensures) (well_formed-cas _ c.args.key c.args.expected c.args.desired well)) c.pass.invariant

pub invariant_of-self : goal.invariant_of-self
invariant_of-self c =
    well_formed-passes _ _ _ c.self.invariant
    (well_formed-edit _ _ c.index_mut-object.result.now c.cas.new.self c.index_mut-object.ensures.value
    (λ well. subst IsWellFormed (ap (λ p. p.0) c.cas.ensures) (well_formed-cas _ c.args.key c.args.expected c.args.desired well)) c.pass.invariant)
