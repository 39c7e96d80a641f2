-- What the holder of a lock knows in the middle of a call that writes.
use Rattle.std.proofs.Common.{◌≡◌, ◌<◌, ℕ, sym, ap, ◌∙◌, subst}
use Rattle.jo_value.specs.declared.value.ObjId.{ObjId}
use Rattle.jo_model.specs.Objects.{Object}
use Rattle.jo_rule.specs.declared.event.Event.{Event}
use Rattle.jo_rule.specs.Steps.{IsFilled}
use Rattle.jo_rule.specs.Views.{word_in, View}
use Rattle.jo_steps.specs.Holding.{HoldsLock, lock_of}
use Rattle.jo_steps.specs.Views.{HeldView}
use Rattle.jo_dict.specs.Blocks.{IsMade, OnlyBlock, OnlyCounts, OnlyStorage}
use Rattle.jo_guard.specs.Locking.{HasLocked}
use Rattle.jo_guard.specs.Releasing.{HasReleased}
use Rattle.jo_guard.proofs.Holding.{IsHolding, holding_stored, holding_taken, holding_written, stored_counts}

-- the block of a lock that was just taken was changed
module _ {P : ℕ} {o : ObjId} {held : HeldView} {v w u : View} (taken : HasLocked P o held v w) (only : OnlyBlock w u) where
  pub held_changed : HoldsLock P u held → IsHolding P o held v u
  held_changed holds = holding_written P o held v w u only holds (holding_taken P o held v w taken)

  pub changed_used : u.storage.used ≡ v.storage.used
  changed_used = ap (λ (x : View). x.storage.used) only ∙ ap (λ (x : View). x.storage.used) taken.only

  pub changed_content : (lock_of u).content ≡ (lock_of w).content
  changed_content = ap (λ (x : View). (lock_of x).content) only

-- it was read
module _ {P : ℕ} {o : ObjId} {held : HeldView} {v w x : View} (taken : HasLocked P o held v w) (only : OnlyCounts w x) where
  pub held_read : IsHolding P o held v x
  held_read = holding_stored P o held v w x (stored_counts w x only) (holding_taken P o held v w taken)

  pub read_used : x.storage.used ≡ v.storage.used
  read_used = ap (λ (q : View). q.storage.used) only ∙ ap (λ (q : View). q.storage.used) taken.only

  -- and then written, or a new block was made
  pub held_written : (y : View) → OnlyBlock x y → HoldsLock P y held → IsHolding P o held v y
  held_written y written holds = holding_written P o held v x y written holds held_read

  pub written_used : (y : View) → OnlyBlock x y → y.storage.used ≡ v.storage.used
  written_used y written = ap (λ (q : View). q.storage.used) written ∙ read_used

  pub written_content : (y : View) → OnlyBlock x y → (lock_of y).content ≡ (lock_of w).content
  written_content y written = ap (λ (q : View). (lock_of q).content) written ∙ ap (λ (q : View). (lock_of q).content) only

  pub held_made : (y : View) → OnlyStorage x y → IsHolding P o held v y
  held_made y stored = holding_stored P o held v x y stored held_read

  pub held_still : {y : View} → y ≡ x → IsHolding P o held v y
  held_still same = subst (IsHolding P o held v) (sym same) held_read

  -- released so, it took no storage
  pub still_storage : {y u : View} {event : Event} → y ≡ x → HasReleased P event y.storage y u → u.storage ≡ v.storage
  still_storage same left = ap (λ (q : View). q.storage) left.only ∙ (ap (λ (q : View). q.storage) same ∙ (ap (λ (q : View). q.storage) only ∙ ap (λ (q : View). q.storage) taken.only))

-- ---- new blocks

-- a property was put into a block that was made
pub made_with : (v w u : View) (room least address : ℕ) (z z' : Object) → room ≡ least → IsMade v w room z address → IsFilled u.storage v.storage.used room z'
    → ((j : ℕ) → j < v.storage.used → word_in u.storage.fresh j ≡ word_in w.storage.fresh j) → u.storage.used ≡ w.storage.used → u.storage.named ≡ w.storage.named → OnlyStorage w u → IsMade v u least z' address
made_with v w u room least address z z' e made filled others used named only = subst (λ (r : ℕ). IsMade v u r z' address) e (record {
  fits = made.fits;
  here = made.here;
  used = used ∙ made.used;
  named = named ∙ made.named;
  filled = filled;
  others = λ j lt. others j lt ∙ made.others j lt;
  only = only ∙ ap (λ (x : View). record x { storage = u.storage; counts = u.counts }) made.only;
})
