-- What is known once a lock was released with an event.
use Rattle.std.proofs.Common.{◌≡◌, ◌+◌, ℕ, Bool, true, false, List, [], ◌∷◌, ◌++◌, refl, sym, ap, ◌∙◌, subst, length, append-nil, if◌then◌else◌}
use Rattle.jo_value.specs.declared.value.ObjId.{ObjId}
use Rattle.jo_model.specs.declared.call.Call.{Call}
use Rattle.jo_model.specs.declared.call.Reply.{Reply}
use Rattle.jo_model.specs.Objects.{Object}
use Rattle.jo_model.specs.Heaps.{object_of}
use Rattle.jo_model.specs.Logs.{LogEntry, change, Log, after}
use Rattle.jo_model.specs.Placed.{PlacedCall}
use Rattle.jo_rule.specs.declared.event.Event.{Event}
use Rattle.jo_rule.specs.declared.event.Event.TheVariants.{Nothing, Place, Refuse}
use Rattle.jo_rule.specs.Events.{IsEventOn, added, changes, placed, recorded, with_event}
use Rattle.jo_rule.specs.Marks.{Mark}
use Rattle.jo_rule.specs.Steps.{without_lock}
use Rattle.jo_rule.specs.Tidy.{own_changes}
use Rattle.jo_rule.specs.Views.{View, Storage}
use Rattle.jo_rule.proofs.Events.{replies}
use Rattle.jo_steps.specs.Counting.{one_store}
use Rattle.jo_steps.specs.Holding.{lock_of}
use Rattle.jo_steps.specs.Effects.{Released}
use Rattle.jo_guard.specs.Releasing.{HasReleased, placed_by, recorded_by}
use Rattle.jo_guard.proofs.Calls.{change_told}

-- the calls of a pass after an event on an object
placed_told : (P t : ℕ) (event : Event) (log : Log Mark) (calls : List PlacedCall) (o : ObjId) → IsEventOn o event
    → with_event P t event log calls ≡ calls ++ placed_by event (length log) (object_of (after P log) o)
placed_told P t Nothing log calls o on = sym (append-nil calls)
placed_told P t (Place c) log calls o on = ap (λ (answer : Reply). calls ++ placed (length log) c answer ∷ []) (replies (after P log) t c o on)
placed_told P t (Refuse c spent) log calls o on = refl

recorded_as : (t : ℕ) (c : Call) (log : Log Mark) (b : Bool) → (if b then log ++ change t c ∷ [] else log) ≡ log ++ (if b then change t c ∷ [] else [])
recorded_as t c log true = refl
recorded_as t c log false = sym (append-nil log)

-- the log after it
recorded_told : (P t : ℕ) (event : Event) (log : Log Mark) (o : ObjId) → IsEventOn o event → recorded P t event log ≡ log ++ recorded_by t event (object_of (after P log) o)
recorded_told P t Nothing log o on = sym (append-nil log)
recorded_told P t (Place c) log o on =
    recorded_as t c log (changes (after P log) t c) ∙ ap (λ (b : Bool). log ++ (if b then change t c ∷ [] else [])) (change_told (after P log) t c o on)
recorded_told P t (Refuse c spent) log o on = sym (append-nil log)

added_as : (t : ℕ) (c : Call) (b : Bool) → (if b then 1 else 0) ≡ length {A = LogEntry Mark} (if b then change t c ∷ [] else [])
added_as t c true = refl
added_as t c false = refl

-- how many changes it is
added_told : (P t : ℕ) (event : Event) (log : Log Mark) (o : ObjId) → IsEventOn o event → added P t event log ≡ length (recorded_by t event (object_of (after P log) o))
added_told P t Nothing log o on = refl
added_told P t (Place c) log o on =
    added_as t c (changes (after P log) t c) ∙ ap (λ (b : Bool). length {A = LogEntry Mark} (if b then change t c ∷ [] else [])) (change_told (after P log) t c o on)
added_told P t (Refuse c spent) log o on = refl

pub release_told : (P : ℕ) (event : Event) (own : Storage) (v u : View) → IsEventOn (lock_of v).object event → Released P event own v u → HasReleased P event own v u
release_told P event own v u on released =
    let log : Log Mark = released.log in
    let o : ObjId = (lock_of v).object in
    let left : View = without_lock P v event log own (one_store v.counts) in
    let rose : own_changes P left ≡ own_changes P v + added P v.number event log = subst (λ (w : View). own_changes P w ≡ own_changes P v + added P v.number event log) released.view released.changes in
    subst (HasReleased P event own v) (sym released.view) (record {
      log = log;
      more = released.more;
      content = released.content;
      seen = recorded_told P v.number event log o on ∙ ap (λ (z : Object). log ++ recorded_by v.number event z) released.content;
      calls = placed_told P v.number event log v.past.calls o on ∙ ap (λ (z : Object). v.past.calls ++ placed_by event (length log) z) released.content;
      changes = rose ∙ (ap (λ (n : ℕ). own_changes P v + n) (added_told P v.number event log o on) ∙ ap (λ (z : Object). own_changes P v + length (recorded_by v.number event z)) released.content);
      only = refl;
    })
