-- A read under the lock of an object: nothing is changed while it is held but counts.
use Rattle.std.proofs.Common.{◌≡◌, true, false, ℕ, refl, ap, ◌∙◌, Option, Some, None}
use Rattle.std.specs.Prelude.{is_some, unwrap_or}
use Rattle.jo_value.specs.declared.value.ObjId.{ObjId}
use Rattle.jo_value.specs.declared.value.Value.{Value}
use Rattle.jo_value.specs.declared.value.Value.TheVariants.{Undefined}
use Rattle.jo_value.specs.declared.words.slot.Slot.TheVariants.{Absent, Holds}
use Rattle.jo_model.specs.declared.call.Call.{Call}
use Rattle.jo_model.specs.declared.call.Reply.{Reply}
use Rattle.jo_model.specs.Logs.{after}
use Rattle.jo_model.specs.Valid.{IsValidCall}
use Rattle.jo_rule.specs.declared.event.Event.TheVariants.{Place}
use Rattle.jo_rule.specs.Dictionaries.{slot_in}
use Rattle.jo_rule.specs.Events.{StoresWords, object_called, object_reply}
use Rattle.jo_rule.specs.Steps.{MayRelease}
use Rattle.jo_rule.specs.Views.{View}
use Rattle.jo_steps.specs.Holding.{lock_of, HasBlockOf}
use Rattle.jo_steps.specs.Views.{HeapView, HeldView, IsPassOf, PassView}
use Rattle.jo_guard.specs.Locking.{HasLocked}
use Rattle.jo_guard.specs.Releasing.{HasReleased}
use Rattle.jo_guard.specs.Placing.{HasPlaced}
use Rattle.jo_guard.specs.Ready.{IsReady}
use Rattle.jo_guard.proofs.Finishing.{finished_place, ready_still}
use Rattle.jo_guard.proofs.Holding.{IsHolding, holding_stored, holding_taken, may_place, stored_counts, taken_block}

-- what is said where a slot holds a value, and where it holds none
pub value_found : (found : Option Value) (v : Value) → Holds v ≡ slot_in found → unwrap_or found Undefined ≡ v
value_found None v e = absurd cc
value_found (Some x) v e = cc

pub nothing_found : (found : Option Value) → Absent ≡ slot_in found → unwrap_or found Undefined ≡ Undefined
nothing_found None e = refl
nothing_found (Some x) e = absurd cc

pub is_there : (found : Option Value) (v : Value) → Holds v ≡ slot_in found → is_some found ≡ true
is_there None v e = absurd cc
is_there (Some x) v e = refl

pub is_not_there : (found : Option Value) → Absent ≡ slot_in found → is_some found ≡ false
is_not_there None e = refl
is_not_there (Some x) e = absurd cc

-- when the lock was taken, the block has the content
pub block_before : {P : ℕ} {o : ObjId} {held : HeldView} {v u : View} → HasLocked P o held v u → HasBlockOf u (lock_of u).content
block_before {P} {o} {held} {v} {u} t = taken_block P o held v u t

module _ {P : ℕ} {o : ObjId} {held : HeldView} {v u w : View} (t : HasLocked P o held v u) (only : w ≡ record u { counts = w.counts }) where
  pub still_held : IsHolding P o held v w
  still_held = holding_stored P o held v u w (stored_counts u w only) (holding_taken P o held v u t)

  pub may_answer : (c : Call) → object_called c ≡ Some o → IsValidCall (after P v.past.seen) c → StoresWords c → MayRelease P w (lock_of w) (Place c)
  may_answer = may_place still_held

  -- the read was placed, with its reply by the object as the holder knew it
  pub read_placed : {x : View} (c : Call) (answer : Reply) → HasReleased P (Place c) w.storage w x → object_reply c (lock_of u).content ≡ answer → HasPlaced P c answer v x
  read_placed c answer r is = finished_place still_held c answer r (ap (λ (y : View). object_reply c (lock_of y).content) only ∙ is)

  used_same : w.storage ≡ v.storage
  used_same = ap (λ (y : View). y.storage) only ∙ ap (λ (y : View). y.storage) t.only

-- and the pass is ready again
pub read_ready : {h : HeapView} {p q : PassView} {o : ObjId} {held : HeldView} {u w : View} (c : Call) → IsReady h p → IsPassOf h q → (t : HasLocked h.passes o held p.view u)
    → (only : w ≡ record u { counts = w.counts }) → HasReleased h.passes (Place c) w.storage w q.view → IsReady h q
read_ready c ready pass t only r = ready_still ready pass (still_held t only) r (ap (λ own. own.used) (used_same t only))
