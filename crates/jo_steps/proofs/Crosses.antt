-- A heap may be shared by threads, and a pass and a lock that is held may go to another one.
use denote.Param.Send.{IsSend, IsSync}
use Rattle.jo_steps.specs.contracts.heap.Heap as heap
use Rattle.jo_steps.specs.contracts.held.Held as held
use Rattle.jo_steps.specs.contracts.pass.Pass as pass
use Rattle.jo_steps.proofs.heap.Heap.TheSendSync as of_heap
use Rattle.jo_steps.proofs.held.Held.TheSendSync as of_held
use Rattle.jo_steps.proofs.pass.Pass.TheSendSync as of_pass

-- several threads may step on a heap at once
pub heap_shows : IsSync heap.the_row
heap_shows = of_heap.the_sync

pub heap_goes : IsSend heap.the_row
heap_goes = of_heap.the_send

pub pass_goes : IsSend pass.the_row
pass_goes = of_pass.the_send

pub held_goes : IsSend held.the_row
held_goes = of_held.the_send
