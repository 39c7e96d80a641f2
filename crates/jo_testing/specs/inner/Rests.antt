-- What is left of a run that goes on from a heap, as pass 1.
use Rattle.std.specs.Prelude.{◌≡◌, ℕ, suc, ◌<◌, List, length}
use Rattle.jo_model.specs.declared.call.Outcome.{Outcome}
use Rattle.jo_model.specs.declared.call.Reply.TheVariants.{Done}
use Rattle.jo_model.specs.Heaps.{Heap}
use Rattle.jo_model.specs.One.{one}
use Rattle.jo_model.specs.Calls.{IsOnBornObject}
use Rattle.jo_meaning.specs.Runs.{Interaction, Ends, Asks, Takes}
use Rattle.jo_meaning.specs.Play.{Played}
use Rattle.jo_vm.specs.Machines.{Standing, Free, Waiting}

-- what is left for a machine that goes on; one that waits goes on with a reply
abbrev pub rest_of : Standing → Interaction
rest_of (Free rest) = rest
rest_of (Waiting answered) = answered Done

-- how many calls and turns are still to come
abbrev pub moves : Interaction → Heap → ℕ
moves (Ends outcome lines) heap = 0
moves (Takes rest) heap = suc (moves rest heap)
moves (Asks call lines answered) heap = suc (moves (answered (one heap 1 call).1) (one heap 1 call).0)

-- each call that is still to come is made by a pass of the heap, on an object that is there then
abbrev pub MayGoOn : Interaction → Heap → Type 0
MayGoOn (Ends outcome lines) heap = Unit {0}
MayGoOn (Takes rest) heap = MayGoOn rest heap
MayGoOn (Asks call lines answered) heap =
    (1 < length heap) × IsOnBornObject heap call × MayGoOn (answered (one heap 1 call).1) (one heap 1 call).0

-- a run leaves this heap, these lines and this outcome
pub record Leaves (p : Played) (heap : Heap) (lines : List ℕ) (outcome : Outcome) : Type 0 where
  pub heap_is : heap ≡ p.heap
  pub lines_are : lines ≡ p.lines
  pub outcome_is : outcome ≡ p.outcome
