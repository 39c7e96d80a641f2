use Rattle.jo_model.proofs.WellFormed.{well_formed-edit, well_formed-passes}
use Rattle.jo_model.proofs.WellFormedObjects.{well_formed-tried}
use Rattle.jo_model.proofs.plain.PlainHeap.put.Goals as goal

pub invariant_of-pass : goal.invariant_of-pass
invariant_of-pass c =
    well_formed-edit _ _ c.index_mut-object.result.now c.put.new.self c.index_mut-object.ensures.value
    (λ well. well_formed-tried _ _ c.args.key c.args.value c.put.result c.put.ensures.ok c.put.ensures.err well) c.pass.invariant

pub invariant_of-self : goal.invariant_of-self
invariant_of-self c =
    well_formed-passes _ _ _ c.self.invariant
    (well_formed-edit _ _ c.index_mut-object.result.now c.put.new.self c.index_mut-object.ensures.value
    (λ well. well_formed-tried _ _ c.args.key c.args.value c.put.result c.put.ensures.ok c.put.ensures.err well) c.pass.invariant)
