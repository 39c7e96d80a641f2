use Rattle.std.proofs.Common.{ℕ, List}
use Rattle.jo_model.specs.declared.call.Outcome.{Outcome}
use Rattle.jo_model.specs.Heaps.{Heap}
use Rattle.jo_meaning.specs.Play.{play}
use Rattle.jo_vm.specs.Machines.{IsFree, stands}
use Rattle.jo_testing.specs.inner.Rests.{rest_of, moves, MayGoOn, Leaves}
use Rattle.jo_testing.proofs.alone.drive.Given as goal

abbrev pub decreases-loop-call : goal.decreases-loop-call
decreases-loop-call l = moves (rest_of (stands l.vm)) l.heap

abbrev pub invariant-loop-call : goal.invariant-loop-call
invariant-loop-call l = record {
  free : IsFree (stands l.vm);
  calls : MayGoOn (rest_of (stands l.vm)) l.heap;
  all : (heap : Heap) (lines : List ℕ) (outcome : Outcome) → Leaves (play 1 (rest_of (stands l.vm)) l.heap) heap lines outcome
      → Leaves (play 1 (rest_of (stands l.fn.vm)) l.fn.heap) heap lines outcome;
}
