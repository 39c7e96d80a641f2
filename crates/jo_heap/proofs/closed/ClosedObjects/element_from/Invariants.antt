use Rattle.std.proofs.Common.{◌≡◌, ℕ, ◌<◌, ◌≤◌, None}
use Rattle.jo_value.specs.declared.value.Key.TheVariants.{Index}
use Rattle.jo_model.specs.Heaps.{object_of}
use Rattle.jo_model.specs.Objects.{property}
use Rattle.jo_heap.specs.Closing.{heap_left}
use Rattle.jo_heap.proofs.closed.ClosedObjects.element_from.Given as goal

abbrev pub invariant-loop-index : goal.invariant-loop-index
invariant-loop-index l = record {
  from : l.low ≤ l.index;
  none : (i : ℕ) → l.low ≤ i → i < l.index → property (object_of (heap_left l.fn.self) l.fn.o) (Index i) ≡ None;
}
