use Rattle.jo_model.proofs.WellFormed.{well_formed-passes}
use Rattle.jo_model.proofs.plain.PlainHeap.make.Goals as goal

pub invariant_of-self-2 : goal.invariant_of-self-2
invariant_of-self-2 c = well_formed-passes _ _ _ c.self.invariant c.add.ensures.well_formed
