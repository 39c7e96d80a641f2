use Rattle.jo_model.specs.Heaps.{object_of}
use Rattle.jo_heap.specs.Closing.{heap_left}
use Rattle.jo_heap.proofs.Written.{written}
use Rattle.jo_heap.proofs.closed.Closed.name.Goals as goal

pub returns-in_err-block : goal.returns-in_err-block
returns-in_err-block c =
    let object = object_of (heap_left c.args.self.now) c.args.o in
    let stands = written c.self.inside.words c.args.self.now c.args.o c.self.view_is c.self.invariant c.requires in
    absurd (c.in_err-block.ensures.whole object stands)

pub returns : goal.returns
returns c =
    let object = object_of (heap_left c.args.self.now) c.args.o in
    let stands = written c.self.inside.words c.args.self.now c.args.o c.self.view_is c.self.invariant c.requires in
    c.name.ensures object (c.in_ok-block.ensures.whole object stands)
