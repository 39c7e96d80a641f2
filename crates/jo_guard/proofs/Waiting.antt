-- What a pass knows while it waits for a lock, and once it has it.
use Rattle.std.proofs.Common.{◌≡◌, ℕ, Bool, true, false, List, [], ◌∷◌, ◌++◌, refl, sym, ap, ◌∙◌, subst, length, append-nil, Some, None, slice_index}
use Rattle.std.proofs.lemmas.List.{append_assoc}
use Rattle.std.proofs.lemmas.List.Elements.{All-nil, All-push}
use Rattle.jo_value.specs.declared.value.ObjId.{ObjId}
use Rattle.jo_value.specs.declared.words.cell.Cell.{Cell}
use Rattle.jo_value.specs.declared.words.cell.Kind.TheVariants.{Dictionary}
use Rattle.jo_model.specs.Heaps.{IsBorn}
use Rattle.jo_model.specs.Logs.{Log, after}
use Rattle.jo_model.specs.Placed.{PlacedCall}
use Rattle.jo_model.proofs.ValidBirths.{KeepsBorn}
use Rattle.jo_rule.specs.declared.counts.Counts.{Counts}
use Rattle.jo_rule.specs.declared.event.Event.TheVariants.{Nothing}
use Rattle.jo_rule.specs.Histories.{Begins}
use Rattle.jo_rule.specs.Locks.{IsUnderLock}
use Rattle.jo_rule.specs.Marks.{Mark}
use Rattle.jo_rule.specs.Steps.{with_taken_lock, with_lost_try, no_sight, with_placed}
use Rattle.jo_rule.specs.Tidy.{own_changes}
use Rattle.jo_rule.specs.Views.{View, Lock, Try}
use Rattle.jo_rule.proofs.Heaps.{born-longer}
use Rattle.jo_rule.proofs.Histories.{begins_itself, begins_through}
use Rattle.jo_steps.specs.Counting.{one_load, one_lock}
use Rattle.jo_steps.specs.Holding.{lock_of}
use Rattle.jo_steps.specs.Effects.{Locked, Looked}
use Rattle.jo_steps.specs.Views.{HeldView}
use Rattle.jo_guard.specs.Locking.{HasLocked, OnlyLock}
use Rattle.jo_guard.specs.Placing.{IsTryOfDictionary, TriesDictionaries}

-- ---- what stays where more of the log is seen

-- what was born is so
pub kept_longer : (P : ℕ) (log seen : Log Mark) → Begins log seen → KeepsBorn (after P seen) (after P log)
kept_longer P log seen more = subst (λ (l : Log Mark). KeepsBorn (after P seen) (after P l)) (sym more.1) (born-longer P seen more.0)

-- ---- tries

tried_none : (v : View) → TriesDictionaries v v
tried_none v = record { added = []; tries = sym (append-nil v.tries); each = All-nil (IsTryOfDictionary (length v.past.calls)) }

-- one more, of the cell of a dictionary
tried_one : (v u w : View) (o : ObjId) (expected : Cell) → u.past.calls ≡ v.past.calls → expected.kind ≡ Dictionary
    → w.tries ≡ u.tries ++ record { call = length u.past.calls; object = o; expected = expected } ∷ [] → TriesDictionaries v u → TriesDictionaries v w
tried_one v u w o expected calls kind e t =
    let try_ : Try = record { call = length u.past.calls; object = o; expected = expected } in
    record {
      added = t.added ++ try_ ∷ [];
      tries = e ∙ (ap (λ (l : List Try). l ++ try_ ∷ []) t.tries ∙ append_assoc v.tries t.added (try_ ∷ []));
      each = All-push (IsTryOfDictionary (length v.past.calls)) t.added try_ t.each (record { call = ap (λ (l : List PlacedCall). length l) calls; kind = kind });
    }

-- ---- the wait

-- only what was seen, counts, tries and pins differ
abbrev OnlyLooks : View → View → Type 0
OnlyLooks v u = u ≡ record v { past = record v.past { seen = u.past.seen }; counts = u.counts; tries = u.tries; sight = u.sight }

-- more of the log was seen, and locks of dictionaries were tried
pub record HasWaited (passes : ℕ) (v u : View) : Type 0 where
  pub seen : Begins u.past.seen v.past.seen
  pub tries : TriesDictionaries v u
  pub changes : own_changes passes u ≡ own_changes passes v
  pub only : OnlyLooks v u

pub waited_none : (P : ℕ) (v : View) → HasWaited P v v
waited_none P v = record { seen = begins_itself v.past.seen; tries = tried_none v; changes = refl; only = refl }

-- a cell was loaded
pub waited_looked : (P : ℕ) (v u w : View) → HasWaited P v u → Looked P Nothing u w → HasWaited P v w
waited_looked P v u w h r =
    let next : View = with_placed P u Nothing r.log (one_load u.counts) in
    let same : own_changes P next ≡ own_changes P u = subst (λ (x : View). own_changes P x ≡ own_changes P u) r.view r.changes in
    subst (HasWaited P v) (sym r.view) (record {
      seen = begins_through v.past.seen u.past.seen r.log r.more h.seen;
      tries = record { added = h.tries.added; tries = h.tries.tries; each = h.tries.each };
      changes = same ∙ h.changes;
      only = ap (λ (x : View). record x { past = record x.past { seen = r.log }; counts = one_load u.counts }) h.only;
    })

waited_lost : (P : ℕ) (v u w : View) (o : ObjId) (seen : Cell) (counts : Counts) → HasWaited P v u → seen.kind ≡ Dictionary → w ≡ with_lost_try u o seen counts → HasWaited P v w
waited_lost P v u w o seen counts h kind e =
    let calls : u.past.calls ≡ v.past.calls = ap (λ (x : View). x.past.calls) h.only in
    let next : View = with_lost_try u o seen counts in
    subst (HasWaited P v) (sym e) (record {
      seen = h.seen;
      tries = tried_one v u next o seen calls kind refl h.tries;
      changes = h.changes;
      only = ap (λ (x : View). record x { counts = counts; tries = next.tries }) h.only;
    })

-- a lock was tried, and not taken
pub waited_tried : (P : ℕ) (v u w : View) (o : ObjId) (seen : Cell) (counts : Counts) (locked : Bool) → HasWaited P v u → seen.kind ≡ Dictionary
    → seen.locked ≡ locked → (seen.locked ≡ true → w ≡ u) → (seen.locked ≡ false → w ≡ with_lost_try u o seen counts) → HasWaited P v w
waited_tried P v u w o seen counts true h kind e same lost = subst (HasWaited P v) (sym (same e)) h
waited_tried P v u w o seen counts false h kind e same lost = waited_lost P v u w o seen counts h kind (lost e)

-- the object is still there
pub waited_born : (P : ℕ) (v u : View) (o : ObjId) → HasWaited P v u → IsBorn (after P v.past.seen) o → IsBorn (after P u.past.seen) o
waited_born P v u o h born = kept_longer P u.past.seen v.past.seen h.seen o born

-- and no lock is held
pub waited_free : (P : ℕ) (v u : View) → HasWaited P v u → v.lock ≡ None → u.lock ≡ None
waited_free P v u h free = ap (λ (x : View). x.lock) h.only ∙ free

-- ---- the lock

pub waited_locked : (P : ℕ) (v u w : View) (o : ObjId) (held : HeldView) → HasWaited P v u → held.object ≡ o → Locked P held u w → HasLocked P o held v w
waited_locked P v u w o held h object r =
    let calls : u.past.calls ≡ v.past.calls = ap (λ (x : View). x.past.calls) h.only in
    let next : View = with_taken_lock u r.log r.lock held.cell (one_lock u.counts) in
    let seen_is : w.past.seen ≡ r.log = ap (λ (x : View). x.past.seen) r.view in
    let lock_is : lock_of w ≡ r.lock = ap lock_of r.view in
    record {
      object = object;
      holds = r.holds;
      taken = subst (λ (x : Log Mark × ObjId × Lock). IsUnderLock (after P x.0) x.1 x.2.content x.2.room (slice_index x.2.block)) (λ i. (sym seen_is i, object i, sym lock_is i)) r.taken;
      seen = subst (λ (l : Log Mark). Begins l v.past.seen) (sym seen_is) (begins_through v.past.seen u.past.seen r.log r.more h.seen);
      tries = tried_one v u w r.lock.object held.cell calls r.holds.kind (ap (λ (x : View). x.tries) r.view) h.tries;
      changes = r.changes ∙ h.changes;
      only = subst (OnlyLock v) (sym r.view) (ap (λ (x : View). record x { past = record x.past { seen = r.log }; sight = no_sight; lock = Some r.lock; tries = next.tries; counts = next.counts }) h.only);
    }
