-- The shared object and its lock.
use Rattle.std.proofs.Common.{◌≡◌, ℕ, ◌+◌, ◌*◌, ◌<◌, ◌≤◌, refl, sym, ap, ◌∙◌, subst, arith, length, length-set, get_or-set_other, Some, None}
use Rattle.std.specs.Prelude.{slice_index}
use Rattle.jo_value.specs.declared.limits.TheConstants.{MOST_INDEX, MOST_STORAGE}
use Rattle.jo_value.specs.declared.value.ObjId.{ObjId}
use Rattle.jo_value.specs.declared.words.cell.Cell.{Cell}
use Rattle.jo_model.specs.Heaps.{IsBorn, shared}
use Rattle.jo_model.specs.Logs.{Log, after}
use Rattle.jo_model.proofs.ValidBirths.{KeepsBorn}
use Rattle.jo_rule.specs.declared.counts.Counts.{Counts}
use Rattle.jo_rule.specs.declared.event.Event.{Event}
use Rattle.jo_rule.specs.declared.event.Event.TheVariants.{Nothing}
use Rattle.jo_rule.specs.Dictionaries.{block_size, dictionary_header, HasProperties}
use Rattle.jo_rule.specs.Histories.{Begins}
use Rattle.jo_rule.specs.Marks.{Mark}
use Rattle.jo_rule.specs.Steps.{with_lost_try, with_block_word}
use Rattle.jo_rule.specs.Views.{View, Lock, Storage}
use Rattle.jo_rule.proofs.Heaps.{born-longer}
use Rattle.jo_steps.specs.Holding.{lock_of, lock_or, HoldsLock}
use Rattle.jo_steps.specs.Effects.{Locked, Looked, Released}
use Rattle.jo_steps.specs.Views.{HeldView}
use Rattle.jo_steps_tests.specs.Sharing.{HasShared, MayTake, OnlyCounts, Stays}

-- ---- what stays

-- what was born is so where more of the log is seen
kept_longer : (P : ℕ) (log seen : Log Mark) → Begins log seen → KeepsBorn (after P seen) (after P log)
kept_longer P log seen more = subst (λ (l : Log Mark). KeepsBorn (after P seen) (after P l)) (sym more.1) (born-longer P seen more.0)

pub stays_then : {v u w : View} → Stays v u → Stays u w → Stays v w
stays_then a b = record { number = b.number ∙ a.number; made = b.made ∙ a.made; kept = b.kept ∙ a.kept }

pub stays_written : (v u : View) (k word : ℕ) (counts : Counts) → u ≡ with_block_word v (lock_of v) k word counts → Stays v u
stays_written v u k word counts e = record { number = ap (λ (x : View). x.number) e; made = ap (λ (x : View). x.made) e; kept = ap (λ (x : View). x.kept) e }

-- ---- the lock is tried

pub looked_may : {P : ℕ} {v u : View} → Looked P Nothing v u → MayTake P v → MayTake P u
looked_may {P} {v} {u} l may = record {
  born = subst (λ (x : View). IsBorn (after P x.past.seen) shared) (sym l.view) (kept_longer P l.log v.past.seen l.more shared may.born);
  unlocked = ap (λ (x : View). x.lock) l.view ∙ may.unlocked;
}

pub lost_may : {P : ℕ} (v u : View) (o : ObjId) (seen : Cell) (counts : Counts) → u ≡ with_lost_try v o seen counts → MayTake P v → MayTake P u
lost_may {P} v u o seen counts e may = record {
  born = subst (λ (x : View). IsBorn (after P x.past.seen) shared) (sym e) may.born;
  unlocked = ap (λ (x : View). x.lock) e ∙ may.unlocked;
}

pub locked_shared : {P : ℕ} {held : HeldView} {v u : View} → held.object ≡ shared → Locked P held v u → MayTake P v → HasShared P u held
locked_shared {P} {held} {v} {u} o l may = record {
  born = subst (λ (x : View). IsBorn (after P x.past.seen) shared) (sym l.view) (kept_longer P l.log v.past.seen l.more shared may.born);
  object = o;
  holds = l.holds;
  properties = subst (λ (x : View). HasProperties (slice_index (lock_of x).block) (lock_of x).room (lock_of x).content) (sym l.view) l.taken.properties;
}

-- ---- it is held

-- a view with the same lock
pub same_lock : {P : ℕ} {v u : View} {held : HeldView} → u.lock ≡ v.lock → HoldsLock P v held → HoldsLock P u held
same_lock {P} {v} {u} {held} e l =
    let g : lock_of u ≡ lock_of v = ap lock_or e in
    record {
      lock = e ∙ (l.lock ∙ ap (λ (x : Lock). Some x) (sym g));
      object = ap (λ (x : Lock). x.object) g ∙ l.object;
      cell = ap (λ (x : Lock). x.cell) g ∙ l.cell;
      is_cell = l.is_cell;
      kind = l.kind;
      free = l.free;
      size = subst (λ (x : Lock). length x.block ≡ block_size x.room) (sym g) l.size;
      capacity = subst (λ (x : Lock). x.room ≤ MOST_INDEX + 1) (sym g) l.capacity;
      header = subst (λ (x : Lock). slice_index x.block 0 ≡ dictionary_header x.room) (sym g) l.header;
      inside = subst (λ (x : Lock). held.cell.address + block_size x.room ≤ MOST_STORAGE * P) (sym g) l.inside;
      there = l.there;
    }

pub counts_holds : {P : ℕ} (v u : View) {held : HeldView} → OnlyCounts v u → HoldsLock P v held → HoldsLock P u held
counts_holds v u e l = same_lock (ap (λ (x : View). x.lock) e) l

-- a word of the block was stored
pub still_held : {P : ℕ} (v u : View) {held : HeldView} (k word : ℕ) (counts : Counts) → 0 < k → u ≡ with_block_word v (lock_of v) k word counts → HoldsLock P v held → HoldsLock P u held
still_held {P} v u {held} k word counts more_ e l = subst (λ (x : View). HoldsLock P x held) (sym e) (record {
  lock = refl;
  object = l.object;
  cell = l.cell;
  is_cell = l.is_cell;
  kind = l.kind;
  free = l.free;
  size = length-set (lock_of v).block k word ∙ l.size;
  capacity = l.capacity;
  header = get_or-set_other (lock_of v).block k 0 word 0 (λ e. omega arith) ∙ l.header;
  inside = l.inside;
  there = l.there;
})

-- ---- it is released

pub let_go_stays : {P : ℕ} {event : Event} {own : Storage} {v u : View} → Released P event own v u → Stays v u
let_go_stays r = record { number = ap (λ (x : View). x.number) r.view; made = ap (λ (x : View). x.made) r.view; kept = ap (λ (x : View). x.kept) r.view }

pub let_go_unlocked : {P : ℕ} {event : Event} {own : Storage} {v u : View} → Released P event own v u → u.lock ≡ None
let_go_unlocked r = ap (λ (x : View). x.lock) r.view

pub let_go_may : {P : ℕ} {own : Storage} {v u : View} → Released P Nothing own v u → IsBorn (after P v.past.seen) shared → MayTake P u
let_go_may {P} {own} {v} {u} r born = record {
  born = subst (λ (x : View). IsBorn (after P x.past.seen) shared) (sym r.view) (kept_longer P r.log v.past.seen r.more shared born);
  unlocked = let_go_unlocked r;
}
