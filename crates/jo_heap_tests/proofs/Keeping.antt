-- What stays while calls are made, and while locks are held.
use Rattle.std.proofs.Common.{◌≡◌, ℕ, ap, ◌∙◌}
use Rattle.jo_value.specs.declared.value.ObjId.{ObjId}
use Rattle.jo_model.specs.declared.call.Call.{Call}
use Rattle.jo_model.specs.declared.call.Reply.{Reply}
use Rattle.jo_model.specs.Objects.{Object}
use Rattle.jo_rule.specs.declared.event.Event.{Event}
use Rattle.jo_rule.specs.Histories.{Begins}
use Rattle.jo_rule.specs.Views.{View}
use Rattle.jo_rule.proofs.Histories.{begins_through}
use Rattle.jo_steps.specs.Holding.{HasBlockOf, HoldsLock, lock_of}
use Rattle.jo_steps.specs.Views.{HeapView, HeldView, IsPassOf, PassView}
use Rattle.jo_dict.specs.Blocks.{OnlyBlock, OnlyCounts}
use Rattle.jo_guard.specs.Locking.{HasLocked}
use Rattle.jo_guard.specs.Releasing.{HasReleased, recorded_by}
use Rattle.jo_guard.specs.Placing.{HasPlaced}
use Rattle.jo_guard.specs.Ready.{IsReady}
use Rattle.jo_guard.proofs.Finishing.{ready_still}
use Rattle.jo_guard.proofs.Holding.{IsHolding, holding_stored, holding_taken, holding_written, more_seen, stored_block, stored_counts, taken_block}
use Rattle.jo_guard.proofs.Waiting.{kept_longer}
use Rattle.jo_heap_tests.specs.Working.{MayCall}

-- ---- calls

pub may_placed : {h : HeapView} {o : ObjId} {p q : PassView} {c : Call} {answer : Reply} → MayCall h o p → IsReady h q → HasPlaced h.passes c answer p.view q.view → MayCall h o q
may_placed {h} {o} {p} {q} may ready placed = record { ready = ready; born = kept_longer h.passes q.view.past.seen p.view.past.seen placed.seen o may.born }

-- ---- a lock that is held

-- it is held since the view v, no storage was taken, and this is in its block
pub record Holds (P : ℕ) (o : ObjId) (held : HeldView) (v u : View) (z : Object) : Type 0 where
  pub holding : IsHolding P o held v u
  pub used : u.storage.used ≡ v.storage.used
  pub block : HasBlockOf u z

module _ {P : ℕ} {o : ObjId} {held : HeldView} {v : View} where
  pub holds_taken : {u : View} → HasLocked P o held v u → Holds P o held v u (lock_of u).content
  holds_taken {u} t = record {
    holding = holding_taken P o held v u t;
    used = ap (λ (x : View). x.storage.used) t.only;
    block = taken_block P o held v u t;
  }

  pub holds_read : {u w : View} {z : Object} → Holds P o held v u z → OnlyCounts u w → Holds P o held v w z
  holds_read {u} {w} {z} h only = record {
    holding = holding_stored P o held v u w (stored_counts u w only) h.holding;
    used = ap (λ (x : View). x.storage.used) only ∙ h.used;
    block = stored_block u w z (stored_counts u w only) h.block;
  }

  pub holds_written : {u w : View} {z z' : Object} → Holds P o held v u z → OnlyBlock u w → HoldsLock P w held → HasBlockOf w z' → Holds P o held v w z'
  holds_written {u} {w} {z} {z'} h only holds block = record {
    holding = holding_written P o held v u w only holds h.holding;
    used = ap (λ (x : View). x.storage.used) only ∙ h.used;
    block = block;
  }

-- the content that the holder knows stays
pub same_content : (u v w x y : View) → OnlyCounts u v → OnlyCounts v w → OnlyBlock w x → OnlyCounts x y → (lock_of y).content ≡ (lock_of u).content
same_content u v w x y a b c d =
    let content : View → Object = λ q. (lock_of q).content in ap content d ∙ (ap content c ∙ (ap content b ∙ ap content a))

-- it is released
module _ {h : HeapView} {p q : PassView} {o : ObjId} {held : HeldView} {u : View} {event : Event} where
  pub may_again : MayCall h o p → IsPassOf h q → IsHolding h.passes o held p.view u → u.storage.used ≡ p.view.storage.used → HasReleased h.passes event u.storage u q.view → MayCall h o q
  may_again may pass k used r =
      let longer : Begins q.view.past.seen u.past.seen = begins_through u.past.seen r.log q.view.past.seen (recorded_by u.number event (lock_of u).content, r.seen) r.more in
      record {
        ready = ready_still may.ready pass k r used;
        born = kept_longer h.passes q.view.past.seen p.view.past.seen (begins_through p.view.past.seen u.past.seen q.view.past.seen longer (more_seen k)) o may.born;
      }
