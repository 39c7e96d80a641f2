use Rattle.jo_model.proofs.WellFormed.{object-at, well_formed-after}
use Rattle.jo_heap.specs.Closing.{heap_left}
use Rattle.jo_heap.proofs.closed.ClosedObjects.name.Goals as goal

pub returns-clause-well_formed : goal.returns-clause-well_formed
returns-clause-well_formed c =
    let left = c.args.self.now in object-at (heap_left left) c.args.o (well_formed-after left.passes left.view.past.seen)
