use Rattle.std.proofs.Common.{◌≤◌, length}
use Rattle.jo_model.specs.Heaps.{objects_of}
use Rattle.jo_heap.specs.Closing.{heap_left}
use Rattle.jo_heap.proofs.closed.Closed.objects.Given as goal

abbrev pub invariant-loop-serial : goal.invariant-loop-serial
invariant-loop-serial l = l.serial ≤ length (objects_of (heap_left l.fn.self) l.fn.pass)
