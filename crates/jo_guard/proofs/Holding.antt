-- What the holder of a lock knows, from when it was taken until it is released.
use Rattle.std.proofs.Common.{◌≡◌, ℕ, sym, ap, ◌∙◌, subst, List, Option, Some}
use Rattle.jo_value.specs.declared.value.ObjId.{ObjId}
use Rattle.jo_value.specs.declared.value.Value.{Value}
use Rattle.jo_value.specs.declared.words.cell.Cell.{Cell}
use Rattle.jo_value.specs.Values.{IsInRange}
use Rattle.jo_model.specs.declared.call.Call.{Call}
use Rattle.jo_model.specs.declared.call.Reply.TheVariants as reply
use Rattle.jo_model.specs.declared.call.Spent.{Spent}
use Rattle.jo_model.specs.History.{IsLawfulSpent}
use Rattle.jo_model.specs.Logs.{Log, after}
use Rattle.jo_model.specs.Objects.{Object}
use Rattle.jo_model.specs.Valid.{IsValidCall, IsValidObject, IsValidValue}
use Rattle.jo_model.specs.WellFormed.{IsWellFormed}
use Rattle.jo_model.proofs.ValidBirths.{call_kept}
use Rattle.jo_model.proofs.ValidEdits.{in_range}
use Rattle.jo_rule.specs.declared.event.Event.{Event}
use Rattle.jo_rule.specs.declared.event.Event.TheVariants.{Place, Refuse}
use Rattle.jo_rule.specs.Contents.{HasWords}
use Rattle.jo_rule.specs.Events.{IsEventOn, MayPlace, StoresWords, object_called}
use Rattle.jo_rule.specs.Histories.{Begins}
use Rattle.jo_rule.specs.Marks.{Mark}
use Rattle.jo_rule.specs.Steps.{MayRelease}
use Rattle.jo_rule.specs.Tidy.{own_changes}
use Rattle.jo_rule.specs.Views.{View, Lock, Storage}
use Rattle.jo_rule.proofs.Heaps.{formed-after}
use Rattle.jo_steps.specs.Holding.{lock_of, HasBlockOf, HoldsLock}
use Rattle.jo_steps.specs.Views.{HeldView}
use Rattle.jo_guard.specs.Locking.{HasLocked}
use Rattle.jo_guard.specs.Releasing.{OnlyHeld}
use Rattle.jo_guard.proofs.Waiting.{kept_longer}

-- a value that is valid after a log is in range
pub value_in_range : (P : ℕ) (log : Log Mark) (v : Value) → IsValidValue (after P log) v → IsInRange v
value_in_range P log v valid = in_range (after P log) v (formed-after P log) valid

-- ---- steps of the holder: only counts and the own storage differ, or counts and words of the block

abbrev pub OnlyStored : View → View → Type 0
OnlyStored v u = u ≡ record v { storage = u.storage; counts = u.counts }

abbrev pub OnlyWritten : View → View → Type 0
OnlyWritten v u = u ≡ record v { lock = Some (record (lock_of v) { block = (lock_of u).block }); counts = u.counts }

-- where only counts differ, no more does
pub stored_counts : (v u : View) → u ≡ record v { counts = u.counts } → OnlyStored v u
stored_counts v u only = only ∙ ap (λ (own : Storage). record v { storage = own; counts = u.counts }) (sym (ap (λ (x : View). x.storage) only))

pub stored_holds : (P : ℕ) (v u : View) (held : HeldView) → OnlyStored v u → HoldsLock P v held → HoldsLock P u held
stored_holds P v u held only h = subst (λ (w : View). HoldsLock P w held) (sym only) (record {
  lock = h.lock;
  object = h.object;
  cell = h.cell;
  is_cell = h.is_cell;
  there = h.there;
  kind = h.kind;
  free = h.free;
  size = h.size;
  capacity = h.capacity;
  header = h.header;
  inside = h.inside;
})

pub stored_block : (v u : View) (z : Object) → OnlyStored v u → HasBlockOf v z → HasBlockOf u z
stored_block v u z only b = subst (λ (w : View). HasBlockOf w z) (sym only) (record { properties = b.properties; words = b.words; formed = b.formed })

-- ---- from when it was taken

-- The lock of an object was taken since the view v, and is held: only counts, the own storage and the words of its block differ
-- from when it was taken.
pub record IsHolding (passes : ℕ) (o : ObjId) (held : HeldView) (v u : View) : Type 0 where
  pub before : View
  pub taken : HasLocked passes o held v before
  pub holds : HoldsLock passes u held
  pub only : OnlyHeld before u

same_block : (v : View) → v.lock ≡ Some (lock_of v) → OnlyHeld v v
same_block v e = ap (λ (l : Option Lock). record v { lock = l }) e

pub holding_taken : (P : ℕ) (o : ObjId) (held : HeldView) (v u : View) → HasLocked P o held v u → IsHolding P o held v u
holding_taken P o held v u t = record { before = u; taken = t; holds = t.holds; only = same_block u t.holds.lock }

pub holding_stored : (P : ℕ) (o : ObjId) (held : HeldView) (v u w : View) → OnlyStored u w → IsHolding P o held v u → IsHolding P o held v w
holding_stored P o held v u w only h = record {
  before = h.before;
  taken = h.taken;
  holds = stored_holds P u w held only h.holds;
  only = subst (OnlyHeld h.before) (sym only) (ap (λ (x : View). record x { storage = w.storage; counts = w.counts }) h.only);
}

pub holding_written : (P : ℕ) (o : ObjId) (held : HeldView) (v u w : View) → OnlyWritten u w → HoldsLock P w held → IsHolding P o held v u → IsHolding P o held v w
holding_written P o held v u w only holds h =
    let block : List ℕ = (lock_of w).block in
    let lock_is : lock_of u ≡ record (lock_of h.before) { block = (lock_of u).block } = ap lock_of h.only in
    let next : View = record u { lock = Some (record (lock_of u) { block = block }); counts = w.counts } in
    record {
      before = h.before;
      taken = h.taken;
      holds = holds;
      only = subst (OnlyHeld h.before) (sym only) (λ i. record (h.only i) { lock = Some (record (lock_is i) { block = block }); counts = w.counts });
    }

-- ---- what it knows

module _ {P : ℕ} {o : ObjId} {held : HeldView} {v u : View} (h : IsHolding P o held v u) where
  pub content_is : (lock_of u).content ≡ (lock_of h.before).content
  content_is = ap (λ (x : View). (lock_of x).content) h.only

  seen_is : u.past.seen ≡ h.before.past.seen
  seen_is = ap (λ (x : View). x.past.seen) h.only

  pub object_is : (lock_of u).object ≡ o
  object_is = h.holds.object ∙ h.taken.object

  -- what was seen goes on from what was seen before the lock was taken
  pub more_seen : Begins u.past.seen v.past.seen
  more_seen = subst (λ (l : Log Mark). Begins l v.past.seen) (sym seen_is) h.taken.seen

  pub same_changes : own_changes P u ≡ own_changes P v
  same_changes = ap (λ (x : View). own_changes P x) h.only ∙ h.taken.changes

  pub content_formed : IsWellFormed (lock_of u).content
  content_formed = subst IsWellFormed (sym content_is) h.taken.taken.formed

  pub content_words : HasWords (lock_of u).content
  content_words = subst HasWords (sym content_is) h.taken.taken.words

  -- the content is valid in what was seen
  pub content_valid : IsValidObject (after P u.past.seen) (lock_of u).content
  content_valid = subst (λ (x : Log Mark × Object). IsValidObject (after P x.0) x.1) (λ i. (sym seen_is i, sym content_is i)) h.taken.taken.valid

  -- ---- what it may do

  may_release : (event : Event) → IsEventOn o event → MayPlace P u event → MayRelease P u (lock_of u) event
  may_release event on may = record {
    held = h.holds.lock;
    kind = ap (λ (c : Cell). c.kind) h.holds.cell ∙ h.holds.kind;
    on = subst (λ (x : ObjId). IsEventOn x event) (sym object_is) on;
    may = may;
  }

  call_seen : (c : Call) → IsValidCall (after P v.past.seen) c → IsValidCall (after P u.past.seen) c
  call_seen c valid = call_kept (after P v.past.seen) (after P u.past.seen) (kept_longer P u.past.seen v.past.seen more_seen) c valid

  -- a call on the object that is valid is placed
  pub may_place : (c : Call) → object_called c ≡ Some o → IsValidCall (after P v.past.seen) c → StoresWords c → MayRelease P u (lock_of u) (Place c)
  may_place c on valid words = may_release (Place c) on (call_seen c valid, words)

  -- or refused, where storage does not suffice
  pub may_refuse : (c : Call) (spent : Spent) → object_called c ≡ Some o → IsValidCall (after P v.past.seen) c → IsLawfulSpent (own_changes P v) c (reply.Spent spent)
      → MayRelease P u (lock_of u) (Refuse c spent)
  may_refuse c spent on valid lawful =
      may_release (Refuse c spent) on (call_seen c valid, subst (λ (n : ℕ). IsLawfulSpent n c (reply.Spent spent)) (sym same_changes) lawful)

-- when it was taken, the block has the content
pub taken_block : (P : ℕ) (o : ObjId) (held : HeldView) (v u : View) → HasLocked P o held v u → HasBlockOf u (lock_of u).content
taken_block P o held v u t = record { properties = t.taken.properties; words = t.taken.words; formed = t.taken.formed }
