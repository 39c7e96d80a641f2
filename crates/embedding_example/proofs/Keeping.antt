-- What stays while calls are made.
use Rattle.jo_value.specs.declared.value.ObjId.{ObjId}
use Rattle.jo_model.specs.declared.call.Call.{Call}
use Rattle.jo_model.specs.declared.call.Reply.{Reply}
use Rattle.jo_guard.specs.Placing.{HasPlaced}
use Rattle.jo_guard.specs.Ready.{IsReady}
use Rattle.jo_guard.proofs.Waiting.{kept_longer}
use Rattle.jo_steps.specs.Views.{HeapView, PassView}
use Rattle.embedding_example.specs.Working.{MayCall}

-- what was born for the pass is born for it after a call
pub may_placed : {h : HeapView} {o : ObjId} {p q : PassView} {c : Call} {answer : Reply} → MayCall h o p → IsReady h q → HasPlaced h.passes c answer p.view q.view → MayCall h o q
may_placed {h} {o} {p} {q} may ready placed = record { ready = ready; born = kept_longer h.passes q.view.past.seen p.view.past.seen placed.seen o may.born }
