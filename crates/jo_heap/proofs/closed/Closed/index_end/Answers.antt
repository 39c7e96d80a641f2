use Rattle.jo_model.specs.Heaps.{object_of}
use Rattle.jo_heap.specs.Closing.{heap_left}
use Rattle.jo_heap.proofs.Written.{written}
use Rattle.jo_heap.proofs.closed.Closed.index_end.Goals as goal

pub returns-in-None : goal.returns-in-None
returns-in-None c =
    let object = object_of (heap_left c.args.self.now) c.args.o in
    let stands = written c.self.inside.words c.args.self.now c.args.o c.self.view_is c.self.invariant c.requires in
    absurd (c.in-None.ensures.whole object stands)
