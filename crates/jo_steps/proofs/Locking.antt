-- A try of a lock, and a store that releases one, keep the rule and tell what they say.
use Rattle.std.proofs.Common.{◌≡◌, ◌≢◌, ℕ, ◌+◌, ◌-◌, ◌*◌, ◌^◌, ◌<◌, ◌≤◌, true, false, eqb, List, refl, sym, ap, ◌∙◌, subst, ⊎_elim, arith, set}
use mathlib.Core.Option.{some}
use lib.ListN.{get_elem?}
use prog.Atomic.{either}
use Rattle.atomic_table.proofs.Lists.{exchanged}
use Rattle.std.specs.Prelude.{slice_index}
use Rattle.std.proofs.lemmas.Bool.{ltb-true}
use Rattle.jo_value.specs.declared.capacities.TheConstants.{MOST_PASSES}
use Rattle.jo_value.specs.declared.limits.TheConstants.{MOST_OBJECTS, MOST_STORAGE}
use Rattle.jo_value.specs.declared.value.ObjId.{ObjId}
use Rattle.jo_value.specs.declared.words.cell.Cell.{Cell}
use Rattle.jo_value.specs.Words.{cell_bits}
use Rattle.jo_model.specs.Objects.{Object}
use Rattle.jo_model.specs.Heaps.{IsBorn}
use Rattle.jo_model.specs.Logs.{after}
use Rattle.jo_rule.specs.declared.counts.Counts.{Counts}
use Rattle.jo_rule.specs.declared.event.Event.{Event}
use Rattle.jo_rule.specs.Names.{cell}
use Rattle.jo_rule.specs.Areas.{Words, put}
use Rattle.jo_rule.specs.Views.{View, Storage}
use Rattle.jo_rule.specs.Dictionaries.{block_size}
use Rattle.jo_rule.specs.Owned.{address_of}
use Rattle.jo_rule.specs.Locks.{IsUnderLock}
use Rattle.jo_rule.specs.Rule.{Rule}
use Rattle.jo_rule.specs.Steps.{MayTry, MayRelease, locked_cell, taken_lock, with_taken_lock, with_lost_try, unlocked_cell, with_named, without_lock}
use Rattle.jo_rule.proofs.Names.{put_same}
use Rattle.jo_rule.proofs.Lists.{set_there}
use Rattle.jo_rule.proofs.Contents.{standing_dictionary}
use Rattle.jo_rule.proofs.Stores.{held_word, knows_storage}
use Rattle.jo_rule.proofs.Takes.{takes, loses, holds_content, releases, releases_moved}
use Rattle.jo_rule.proofs.Tidy.{locking_changes, releasing_changes}
use Rattle.jo_steps.specs.Views.{HeapView, PassView, HeldView, IsPassOf}
use Rattle.jo_steps.specs.Counting.{one_lock, one_store}
use Rattle.jo_steps.specs.Holding.{HoldsLock, lock_of}
use Rattle.jo_steps.specs.Effects.{Locked, Released, ReleasesInPlace, ReleasesMoved, MayReleaseTo, ReleasesTo}
use Rattle.jo_steps.specs.inner.Tables.{Keeps}
use Rattle.jo_steps.specs.inner.KindsOfLoads.{IsCellWordOf}
use Rattle.jo_steps.specs.inner.Locking.{HasTried, HasReleased, token}
use Rattle.jo_steps.proofs.Loading.{born_there, finds}
use Rattle.jo_steps.proofs.Going.{same_block, goes_on, not_fresh}

-- ---- a lock is tried

module _ {P : ℕ} {w : Words} {views : List View} (id : ℕ) (v : View) (r : Rule P w views) (at : get_elem? views id ≡ some v) (l : v.live ≡ true) where
  -- what was taken is held
  holds_taken : (w' : Words) (o : ObjId) (c : Cell) (content : Object) (room : ℕ) (block : List ℕ) (since : ℕ) (counts : Counts) → IsBorn (after P v.past.seen) o → MayTry v c → IsUnderLock (after P r.log) o content room (slice_index block)
      → Rule P w' (set views id (with_taken_lock v r.log (taken_lock o c content room block since) c counts)) → HoldsLock P (with_taken_lock v r.log (taken_lock o c content room block since) c counts) (token o c)
  holds_taken w' o c content room block since counts born may taken r' =
      let g = taken_lock o c content room block since in
      let u = with_taken_lock v r.log g c counts in
      let at' = set_there views id v u at in
      let below = (r.histories.seated id v at l).own.1 in
      let few = r.histories.few in
      let last : c.address + (block_size room - 1) < MOST_STORAGE * P = ltb-true (c.address + (block_size room - 1)) (MOST_STORAGE * P) (held_word id u r' at' l g (block_size room - 1) refl may.kind (omega arith)) in record {
        lock = refl;
        object = refl;
        cell = refl;
        is_cell = may.is_cell;
        kind = may.kind;
        free = may.free;
        size = (r'.locks.held id u at' l g refl).size may.kind;
        capacity = taken.capacity;
        header = taken.header;
        inside = omega arith;
        there = born_there P v.past.seen o (omega arith) born;
      }

  takes_it : (o : ObjId) (c : Cell) → v.births.objects ≤ MOST_OBJECTS → IsBorn (after P v.past.seen) o → MayTry v c → IsCellWordOf o (w (cell o)) → w (cell o) ≡ cell_bits c
      → (u : View) × Rule P (put w (cell o) (cell_bits (locked_cell c))) (set views id u) × (u.number ≡ v.number) × (u.live ≡ v.live) × HasTried P o c v (w (cell o)) u
  takes_it o c few born may is e =
      let counts = one_lock v.counts in
      let t = takes id v r at l o c counts may e in
      let g = taken_lock o c t.0 t.1 t.2 t.3 in
      let u = with_taken_lock v r.log g c counts in
      let told : Locked P (token o c) v u = record {
        log = r.log;
        more = r.histories.seen id v at l;
        lock = g;
        is_taken = refl;
        view = refl;
        changes = locking_changes id v r at l g c counts;
        holds = holds_taken (put w (cell o) (cell_bits (locked_cell c))) o c t.0 t.1 t.2 t.3 counts born may t.5 t.4;
        taken = t.5;
      } in (
        u,
        t.4,
        refl,
        refl,
        record { taken = λ f. told; lost = λ n. absurd (n e); cell = is; goes = goes_on views id v u t.4 at l refl v.storage.used v.births.objects counts refl refl refl refl few },
      )

  loses_it : (o : ObjId) (c : Cell) → v.births.objects ≤ MOST_OBJECTS → MayTry v c → IsCellWordOf o (w (cell o)) → w (cell o) ≢ cell_bits c
      → (u : View) × Rule P (put w (cell o) (w (cell o))) (set views id u) × (u.number ≡ v.number) × (u.live ≡ v.live) × HasTried P o c v (w (cell o)) u
  loses_it o c few may is n =
      let counts = one_lock v.counts in
      let u = with_lost_try v o c counts in
      let r' = loses id v r at l o c counts may n in (
        u,
        subst (λ (x : Words). Rule P x (set views id u)) (sym (put_same w (cell o))) r',
        refl,
        refl,
        record { taken = λ e. absurd (n e); lost = λ f. refl; cell = is; goes = goes_on views id v u r' at l refl v.storage.used v.births.objects counts refl refl refl refl few },
      )

-- the lock of an object is tried where a cell is expected
pub tries : (P id : ℕ) (v : View) (o : ObjId) (c : Cell) → v.live ≡ true → v.flat ≡ false → v.births.objects ≤ MOST_OBJECTS → IsBorn (after P v.past.seen) o → MayTry v c
    → Keeps P (cell o) (λ n. either (eqb n (cell_bits c)) (cell_bits (locked_cell c)) n) id v (HasTried P o c v)
tries P id v o c l none_ few born may w views r at =
    let is = finds id v r at l none_ o born in
    exchanged (w (cell o)) (cell_bits c) (cell_bits (locked_cell c)) (λ (y : ℕ). (u : View) × Rule P (put w (cell o) y) (set views id u) × (u.number ≡ v.number) × (u.live ≡ v.live) × HasTried P o c v (w (cell o)) u)
    (takes_it id v r at l o c few born may is) (loses_it id v r at l o c few may is)

-- ---- a lock is released

-- the cell that is left has no lock, and its block is where it says
left_here : (held c : Cell) → c ≡ locked_cell held → held.locked ≡ false → unlocked_cell c c.address ≡ held
left_here held c e free = ap (λ (x : Cell). unlocked_cell x x.address) e ∙ (λ i. record held { locked = (sym free) i })

left_moved : (held c : Cell) (address : ℕ) → c ≡ locked_cell held → held.locked ≡ false → unlocked_cell c address ≡ record held { address = address }
left_moved held c address e free = ap (λ (x : Cell). unlocked_cell x address) e ∙ (λ i. record held { address = address; locked = (sym free) i })

module _ {P : ℕ} {w : Words} {views : List View} (id : ℕ) (v : View) (r : Rule P w views) (at : get_elem? views id ≡ some v) (l : v.live ≡ true) (held : HeldView) (next : Cell) (event : Event) (few : v.births.objects ≤ MOST_OBJECTS) (holds : HoldsLock P v held) (goes : MayRelease P v (lock_of v) event) where
  -- it is not released both in its block and in a new one
  here_or_moved : (k room : ℕ) → ReleasesInPlace v held next event → ReleasesMoved v held next event k room → ⊥
  here_or_moved k room here moved =
      let own = knows_storage id v r at l in
      let e : held.cell.address ≡ address_of v.number k = ap (λ (x : Cell). x.address) (sym here.same ∙ moved.moved) in
      let f : (lock_of v).cell.address ≡ held.cell.address = ap (λ (x : Cell). x.address) holds.cell in
      let to = moved.filled.to in
      let from = moved.filled.from in
      let used = own.1 in
      not_fresh id v r at l (lock_of v) 0 k holds.lock goes.kind (omega arith) from (omega arith) (omega (arith, e, f))

  released : (own : Storage) (w' : Words) → Rule P w' (set views id (without_lock P v event r.log own (one_store v.counts))) → Released P event own v (without_lock P v event r.log own (one_store v.counts))
  released own w' r' =
      let t = r.locks.held id v at l (lock_of v) goes.held in
      let d = standing_dictionary r.contents (lock_of v).object (lock_of v).cell t.cell goes.kind in
      record { log = r.log; more = r.histories.seen id v at l; content = holds_content id v r at l (lock_of v) goes.held (sym t.settled ∙ d.settled); view = refl; changes = releasing_changes id v r at l event own (one_store v.counts) }

  goes_there : (own : Storage) (c : Cell) → c ≡ next → own.used ≡ v.storage.used → Rule P (put w (cell (lock_of v).object) (cell_bits c)) (set views id (without_lock P v event r.log own (one_store v.counts)))
      → ReleasesTo P v held next event (without_lock P v event r.log own (one_store v.counts))
      → (u : View) × Rule P (put w (cell held.object) (cell_bits next)) (set views id u) × (u.number ≡ v.number) × (u.live ≡ v.live) × HasReleased P held next event v u
  goes_there own c e used r' told =
      let u = without_lock P v event r.log own (one_store v.counts) in (
        u,
        subst (λ (z : ObjId × Cell). Rule P (put w (cell z.0) (cell_bits z.1)) (set views id u)) (λ i. (holds.object i, e i)) r',
        refl,
        refl,
        record { released = told; goes = goes_on views id v u r' at l refl v.storage.used v.births.objects (one_store v.counts) (sym used) refl refl refl few },
      )

  goes_here : ReleasesInPlace v held next event → (u : View) × Rule P (put w (cell held.object) (cell_bits next)) (set views id u) × (u.number ≡ v.number) × (u.live ≡ v.live) × HasReleased P held next event v u
  goes_here here =
      let g = lock_of v in
      let r' = releases id v r at l g event (one_store v.counts) goes here.properties in
      goes_there v.storage (unlocked_cell g.cell g.cell.address) (left_here held.cell g.cell holds.cell holds.free ∙ sym here.same) refl r'
      record { here = λ h. released v.storage (put w (cell g.object) (cell_bits (unlocked_cell g.cell g.cell.address))) r'; moved = λ k room m. absurd (here_or_moved k room here m) }

  goes_moved : (k room : ℕ) → P ≤ MOST_PASSES → ReleasesMoved v held next event k room → (u : View) × Rule P (put w (cell held.object) (cell_bits next)) (set views id u) × (u.number ≡ v.number) × (u.live ≡ v.live) × HasReleased P held next event v u
  goes_moved k room most moved =
      let g = lock_of v in
      let own = with_named v.storage k (block_size room) in
      let c' = unlocked_cell g.cell (address_of v.number k) in
      let r' = releases_moved id v r at l g event k room (one_store v.counts) most goes moved.filled in
      let u = without_lock P v event r.log own (one_store v.counts) in
      let told = released own (put w (cell g.object) (cell_bits c')) r' in
      goes_there own c' (left_moved held.cell g.cell (address_of v.number k) holds.cell holds.free ∙ sym moved.moved) refl r' record {
        here = λ h. absurd (here_or_moved k room h moved);
        moved = λ k' room' m.
            let e : address_of v.number k ≡ address_of v.number k' = ap (λ (x : Cell). x.address) (sym moved.moved ∙ m.moved) in
            let one = same_block v.storage v.number k room k' room' e moved.filled.header m.filled.header in
            subst (λ (z : ℕ × ℕ). Released P event (with_named v.storage z.0 (block_size z.1)) v u) (λ i. (one.0 i, one.1 i)) told;
      }

-- a lock is released with an event
pub lets_go : (P id : ℕ) (v : View) (held : HeldView) (next : Cell) (event : Event) → P ≤ MOST_PASSES → v.live ≡ true → v.births.objects ≤ MOST_OBJECTS → HoldsLock P v held → MayRelease P v (lock_of v) event → MayReleaseTo v held next event
    → Keeps P (cell held.object) (λ _. cell_bits next) id v (λ n u. HasReleased P held next event v u)
lets_go P id v held next event most l few holds goes leaves w views r at =
    ⊎_elim (goes_here id v r at l held next event few holds goes) (λ m. goes_moved id v r at l held next event few holds goes m.0 m.1 most m.2) leaves

-- the address that is left has a cell's bits
pub left_address : (P : ℕ) (h : HeapView) (p : PassView) (held : HeldView) (next : Cell) (event : Event) → P ≤ MOST_PASSES → h.passes ≡ P → IsPassOf h p → HoldsLock P p.view held → MayReleaseTo p.view held next event → next.address < 2 ^ 26
left_address P h p held next event most e is holds leaves =
    ⊎_elim (λ here. subst (λ (x : Cell). x.address < 2 ^ 26) (sym here.same) holds.is_cell.address)
    (λ m. let filled = m.2.filled in
    let to = filled.to in
    let used = is.used in
    let below = is.number in subst (λ (x : Cell). x.address < 2 ^ 26) (sym m.2.moved) (omega (arith, e))) leaves
