-- A call that took a lock and released it has placed one call, and leaves its pass ready for the next one.
use Rattle.std.proofs.Common.{◌≡◌, ◌≢◌, ◌*◌, ◌≤◌, ℕ, List, [], ◌∷◌, ◌++◌, refl, sym, ap, ◌∙◌, subst, arith, length, length-append, mul-le-mul_left, None}
use Rattle.jo_value.specs.declared.capacities.TheConstants.{UNSTAMPED}
use Rattle.jo_value.specs.declared.limits.TheConstants.{MOST_NEED}
use Rattle.jo_value.specs.declared.value.ObjId.{ObjId}
use Rattle.jo_model.specs.declared.call.Call.{Call}
use Rattle.jo_model.specs.declared.call.Reply.{Reply}
use Rattle.jo_model.specs.declared.call.Reply.TheVariants as reply
use Rattle.jo_model.specs.declared.call.Spent.{Spent}
use Rattle.jo_model.specs.Fits.{Fits}
use Rattle.jo_model.specs.History.{IsLawfulSpent}
use Rattle.jo_model.specs.Logs.{after}
use Rattle.jo_model.specs.Objects.{Object}
use Rattle.jo_model.specs.Valid.{IsValidObject, IsValidReply}
use Rattle.jo_model.proofs.Valid.{spent_fits}
use Rattle.jo_model.proofs.ValidBirths.{object_kept}
use Rattle.jo_rule.specs.declared.event.Event.{Event}
use Rattle.jo_rule.specs.declared.event.Event.TheVariants.{Place, Refuse}
use Rattle.jo_rule.specs.Events.{object_reply, placed}
use Rattle.jo_rule.specs.Histories.{Begins}
use Rattle.jo_rule.specs.Steps.{no_sight}
use Rattle.jo_rule.specs.Tidy.{IsTidy, own_changes}
use Rattle.jo_rule.specs.Views.{View, Quarantined, Storage}
use Rattle.jo_rule.specs.Sights.{stamp_in}
use Rattle.jo_rule.proofs.Heaps.{formed-after}
use Rattle.jo_rule.proofs.Histories.{begins_through}
use Rattle.jo_steps.specs.Holding.{lock_of}
use Rattle.jo_steps.specs.Views.{HeapView, HeldView, IsPassOf, PassView}
use Rattle.jo_guard.specs.Releasing.{HasReleased, placed_by, recorded_by}
use Rattle.jo_guard.specs.Placing.{HasPlaced, made_by}
use Rattle.jo_guard.specs.Ready.{IsReady}
use Rattle.jo_guard.proofs.Calls.{reply_fits, reply_makes, reply_valid}
use Rattle.jo_guard.proofs.Holding.{IsHolding, content_formed, content_valid, more_seen, same_changes}
use Rattle.jo_guard.proofs.Waiting.{kept_longer}

module _ {P : ℕ} {o : ObjId} {held : HeldView} {v u w : View} {event : Event} {own : Storage} (h : IsHolding P o held v u) (r : HasReleased P event own u w) where
  -- the holder has seen what it had seen, and the whole log at the end
  seen_longer : Begins w.past.seen u.past.seen
  seen_longer = begins_through u.past.seen r.log w.past.seen (recorded_by u.number event (lock_of u).content, r.seen) r.more

  calls_are : u.past.calls ≡ v.past.calls
  calls_are = ap (λ (x : View). x.past.calls) h.only ∙ ap (λ (x : View). x.past.calls) h.taken.only

  -- what else differs from before the lock was taken
  only_since : w ≡ record v { past = w.past; counts = w.counts; tries = h.before.tries; storage = own; sight = no_sight; lock = None }
  only_since =
      let left : View → View = λ x. record x { past = w.past; storage = own; sight = no_sight; lock = None; counts = w.counts } in
      r.only ∙ (ap left h.only ∙ ap left h.taken.only)

  -- the call was placed, with a reply that is valid and fits
  placed_since : (c : Call) (answer : Reply) → ((place : ℕ) → placed_by event place (lock_of u).content ≡ placed place c answer ∷ [])
      → IsValidReply (after P w.past.seen) answer → Fits c answer → made_by answer ≡ 0 → HasPlaced P c answer v w
  placed_since c answer is valid fits makes =
      let longer : length r.log ≡ length (u.past.seen ++ r.more.0) = ap length r.more.1 in
      let before : length u.past.seen ≡ length (v.past.seen ++ (more_seen h).0) = ap length (more_seen h).1 in
      let objects_are : w.births.objects ≡ v.births.objects = ap (λ (x : View). x.births.objects) only_since in
      record {
        place = length r.log;
        calls = r.calls ∙ (λ i. calls_are i ++ is (length r.log) i);
        later = omega (arith, length-append u.past.seen r.more.0, length-append v.past.seen (more_seen h).0);
        seen = begins_through v.past.seen u.past.seen w.past.seen seen_longer (more_seen h);
        valid = valid;
        fits = fits;
        objects = omega arith;
        nodes = ap (λ (x : View). x.births.nodes) only_since;
        tries = record { added = h.taken.tries.added; tries = ap (λ (x : View). x.tries) only_since ∙ h.taken.tries.tries; each = h.taken.tries.each };
        same_number = ap (λ (x : View). x.number) only_since;
        same_made = ap (λ (x : View). x.made) only_since;
        same_kept = ap (λ (x : View). x.kept) only_since;
      }

  more_calls : length v.past.calls ≤ length w.past.calls
  more_calls =
      let e : length w.past.calls ≡ length (u.past.calls ++ placed_by event (length r.log) (lock_of u).content) = ap length r.calls in
      let same : length u.past.calls ≡ length v.past.calls = ap length calls_are in
      omega (arith, length-append u.past.calls (placed_by event (length r.log) (lock_of u).content))

  -- as many changes stand among the own calls, or more
  more_changes : own_changes P v ≤ own_changes P w
  more_changes = omega (arith, r.changes, same_changes h)

  -- Nothing is owed, and the storage used is covered where it is by the changes.
  tidy_since : IsTidy P v → own.used ≤ MOST_NEED * own_changes P w → IsTidy P w
  tidy_since t covered =
      let used_is : w.storage.used ≡ own.used = ap (λ (x : View). x.storage.used) only_since in
      let nodes_are : w.births.nodes ≡ v.births.nodes = ap (λ (x : View). x.births.nodes) only_since in
      record {
        no_raise = ap (λ (x : View). x.time.owed) only_since ∙ t.no_raise;
        no_firing = ap (λ (x : View). x.sets.firing) only_since ∙ t.no_firing;
        stamped = subst (λ (l : List Quarantined). (o : ObjId) (offset : ℕ) → stamp_in l o offset ≢ UNSTAMPED) (sym (ap (λ (x : View). x.quarantine) only_since)) t.stamped;
        storage = omega arith;
        structures = omega (arith, t.structures, more_calls);
      }

-- ---- what callers of the heap are told

module _ {P : ℕ} {o : ObjId} {held : HeldView} {v u w : View} {own : Storage} (h : IsHolding P o held v u) where
  -- a call was placed with the reply that the object, as the holder knew it, gives
  pub finished_place : (c : Call) (answer : Reply) → HasReleased P (Place c) own u w → object_reply c (lock_of u).content ≡ answer → HasPlaced P c answer v w
  finished_place c answer r is =
      let z : Object = (lock_of u).content in
      let valid : IsValidObject (after P w.past.seen) z = object_kept (after P u.past.seen) (after P w.past.seen) (kept_longer P w.past.seen u.past.seen (seen_longer h r)) z (content_valid h) in
      let fits : Fits c (object_reply c z) = reply_fits (after P w.past.seen) c z (formed-after P w.past.seen) (content_formed h) valid in
      subst (λ (a : Reply). HasPlaced P c a v w) is (placed_since h r c (object_reply c z) (λ place. refl) (reply_valid (after P w.past.seen) c z valid) fits (reply_makes c z))

  -- a call was refused
  pub finished_refuse : (c : Call) (spent : Spent) (made : ℕ) → HasReleased P (Refuse c spent) own u w → IsLawfulSpent made c (reply.Spent spent) → HasPlaced P c (reply.Spent spent) v w
  finished_refuse c spent made r lawful = placed_since h r c (reply.Spent spent) (λ place. refl) tt (spent_fits made c (reply.Spent spent) lawful) refl

module _ {h : HeapView} {p q : PassView} {o : ObjId} {held : HeldView} {u : View} {event : Event} {own : Storage} where
  -- the pass is ready again, where its changes cover the storage used
  pub ready_again : IsReady h p → IsPassOf h q → IsHolding h.passes o held p.view u → HasReleased h.passes event own u q.view
      → own.used ≤ MOST_NEED * own_changes h.passes q.view → IsReady h q
  ready_again ready pass k r covered = record {
    of_heap = pass;
    script = λ e. ready.script (sym (ap (λ (x : View). x.number) (only_since k r)) ∙ e);
    tidy = tidy_since k r ready.tidy covered;
    free = ap (λ (x : View). x.lock) (only_since k r);
  }

  -- as where no more is used than before
  pub ready_still : IsReady h p → IsPassOf h q → IsHolding h.passes o held p.view u → HasReleased h.passes event own u q.view
      → own.used ≡ p.view.storage.used → IsReady h q
  ready_still ready pass k r same =
      let t = ready.tidy in ready_again ready pass k r (omega (arith, t.storage, mul-le-mul_left MOST_NEED (more_changes k r)))
