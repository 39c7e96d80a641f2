use Rattle.jo_write.proofs.Looks.{shared_born}
use Rattle.jo_write.proofs.making.place.Goals as goal

pub load_cell-requires-clause-born : goal.load_cell-requires-clause-born
load_cell-requires-clause-born c = shared_born c.args.heap.now.passes c.args.pass.now.view.past.seen
