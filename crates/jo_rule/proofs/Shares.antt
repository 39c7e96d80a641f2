-- The steps on the lock and the bit for writes of others, of objects whose keys lie at places: taking and letting go of the lock, the
-- addition of a key under it, in the old block or in one that keeps each place, and the sharing of the cell.
use Rattle.std.proofs.Common.{◌≡◌, ◌≢◌, ◌⊎◌, ◌<◌, ◌≤◌, ℕ, Bool, true, false, List, [], ◌∷◌, length, set, refl, sym, ap, ◌∙◌, subst, inl, inr, ⊎_elim, arith, Some, None}
use mathlib.Core.Option.{some}
use lib.ListN.{get_elem?}
use Rattle.std.specs.Prelude.{nat_lt}
use Rattle.std.proofs.lemmas.Bool.{both_ways}
use Rattle.jo_value.specs.declared.capacities.TheConstants.{FIRED}
use Rattle.jo_value.specs.declared.value.Key.{Key}
use Rattle.jo_value.specs.declared.value.NameId.{NameId}
use Rattle.jo_value.specs.declared.value.ObjId.{ObjId}
use Rattle.jo_value.specs.declared.value.Sid.{Sid}
use Rattle.jo_value.specs.declared.words.cell.Cell.{Cell}
use Rattle.jo_value.specs.declared.words.cell.Kind.{Kind}
use Rattle.jo_value.specs.declared.words.cell.Kind.TheVariants.{Dictionary}
use Rattle.jo_value.specs.Words.{IsCell, cell_bits}
use Rattle.jo_model.specs.Objects.{Object}
use Rattle.jo_model.specs.Heaps.{Heap, object_of}
use Rattle.jo_model.specs.Logs.{Log, after}
use Rattle.jo_rule.proofs.Histories.{numbers}
use Rattle.jo_rule.specs.declared.counts.Counts.{Counts}
use Rattle.jo_rule.specs.declared.event.Event.{Event}
use Rattle.jo_rule.specs.declared.event.Event.TheVariants.{Nothing, Refuse}
use Rattle.jo_rule.specs.declared.watched.SetKind.TheVariants.{Transition, Write}
use Rattle.jo_rule.specs.Names.{epoch, cell}
use Rattle.jo_rule.specs.Areas.{Words, put, stored, set_object}
use Rattle.jo_rule.specs.Marks.{Mark, HasForeignMark}
use Rattle.jo_rule.specs.Shapes.{Shape, offset_of}
use Rattle.jo_rule.specs.Spots.{Spot, Location, values, spot_of}
use Rattle.jo_rule.specs.Roles.{Role, frame, IsBlockOf}
use Rattle.jo_rule.specs.Contents.{Now, is_keyed, is_flat, is_segmented, HasKeys, StandsAtPlaces, HasWords}
use Rattle.jo_rule.specs.Puts.{MayAdd, Widens}
use Rattle.jo_rule.specs.Views.{View, Pin, Lock, Storage}
use Rattle.jo_rule.specs.Owned.{OwnsStorage}
use Rattle.jo_rule.specs.Locks.{Locks, IsHeld}
use Rattle.jo_rule.specs.Events.{recorded, past_after, object_after_event}
use Rattle.jo_rule.specs.Rule.{Rule}
use Rattle.jo_rule.specs.Steps.{no_sight, pin_of, tried}
use Rattle.jo_rule.specs.Sights.{watched, Sees, Follows, IsFollowed, HasStayed, Owning, Licensed}
use Rattle.jo_rule.proofs.Concluded.{alike_same, alike_unopened, unopened_none, unopened_one, follows_unopened, at_least_same, closed_keyed, concluded_same, concluded_event}
use Rattle.jo_rule.proofs.Raised.{as_many, many_deeper, raised_cell}
use Rattle.jo_rule.proofs.Lists.{same_item, no_item, no_each, set_there}
use Rattle.jo_rule.proofs.Sets.{object_here, object_else}
use Rattle.jo_rule.proofs.Shapes.{option_cases}
use Rattle.jo_rule.proofs.Layouts.{one_place, frame_grows}
use Rattle.jo_rule.proofs.Histories.{SameItems}
use Rattle.jo_rule.proofs.Contents.{standing, keyed_no_dictionary}
use Rattle.jo_rule.specs.Contents.{is_dictionary}
use Rattle.jo_rule.proofs.Locks.{moves_locks, one_holder}
use Rattle.jo_rule.proofs.Marked.{born_so_cell, born_so_event}
use Rattle.jo_rule.proofs.Timing.{timed_dropped}
use Rattle.jo_rule.proofs.Allowed.{never}
use Rattle.jo_rule.specs.Counted.{name_count}
use Rattle.jo_rule.proofs.Counted.{counts_go, counts_same}
use Rattle.jo_rule.proofs.Events.{event_touches, event_words, event_valid, event_refuses}
use Rattle.jo_rule.proofs.Sights.{sighted_dropped, stamps_kept, follows_at, sees_now}
use Rattle.jo_rule.proofs.Moves.{RolesGrow, moves, born_of, still_born}
use Rattle.jo_rule.proofs.Takes.{nobody}
use Rattle.jo_rule.proofs.Stores.{numbers_of}
use Rattle.jo_rule.proofs.Looks.{keyed_of, apart, cons_each, segmented_not_flat}
use Rattle.jo_rule.proofs.Cells.{as_keyed, unlocked, keys_more, celling}

-- a pin goes on where its names and places do
pub follows_extend : {role role' : ℕ → Role} {here here' there : Shape} {c c' : Cell} {now now' : Now} {number : ℕ} {p : Pin} → (c.shared_write ≡ true → c'.shared_write ≡ true) → (is_flat c.kind ≡ false → is_flat c'.kind ≡ false) → ((name : NameId) (j : ℕ) → offset_of here name ≡ Some j → offset_of here' name ≡ Some j)
    → ((y : Spot) (a : Location) → frame role now.segmented p.object c.address y ≡ Some a → frame role' now'.segmented p.object c'.address y ≡ Some a) → ((y : Spot) → frame role' (is_segmented p.cell.kind) p.object p.cell.address y ≡ frame role (is_segmented p.cell.kind) p.object p.cell.address y)
    → now'.settled ≡ now.settled → ((j : ℕ) → now'.stamps j ≡ now.stamps j) → (0 < now'.sealed → p.epoch < now'.sealed) → Follows role here there c now number p → Follows role' here' there c' now' number p
follows_extend {role} {role'} {here} {here'} {there} {c} {c'} {now} {now'} {number} {p} bit flat keep frames same loose stamps below t = record {
  loose = loose ∙ t.loose;
  below = below;
  bit = λ e. bit (t.bit e);
  segments = λ e. flat (t.segments e);
  names = λ name j e. ⊎_elim (λ (f : offset_of here name ≡ Some j). inl (keep name j f)) (λ (f : p.epoch < now.stamps j). inr (subst (λ (n : ℕ). p.epoch < n) (sym (stamps j)) f)) (t.names name j e);
  tight = λ z name j e. keep name j (t.tight z name j e);
  current = λ z y a e. frames y a (t.current z y a (sym (same y) ∙ e));
}

-- the lock of an object with its keys at places, as it is when it is taken
abbrev pub held_lock : ObjId → Cell → Object → (room : ℕ) → Lock
held_lock o c content room = record { object = o; cell = record c { locked = true }; found = c.kind; settled = false; content = content; room = room; block = []; opened = None; since = 0 }

-- the lock was taken, under a pin on the locked cell
abbrev pub holding : View → Log Mark → Lock → (expected : Cell) → (epoch : ℕ) → Counts → View
holding v log g expected e counts = record v {
  past = record v.past { seen = log };
  sight = record { pins = pin_of g.object g.cell (length log) e ∷ []; licences = []; known = [] };
  lock = Some g;
  tries = tried v g.object expected;
  counts = counts;
}

-- the lock was released
abbrev pub leaving : ℕ → View → Event → Log Mark → Storage → Counts → View
leaving passes v event log own counts = record v { past = past_after passes v.number event log v.past.calls; storage = own; sight = no_sight; lock = None; counts = counts }

not_dictionary : (k : Kind) → is_keyed k ≡ true → k ≡ Dictionary → ⊥
not_dictionary k key e = both_ways (is_dictionary k) (keyed_no_dictionary k key) (ap is_dictionary e)

module _ {P : ℕ} {w : Words} {views : List View} (id : ℕ) (v : View) (r : Rule P w views) (at : get_elem? views id ≡ some v) (l : v.live ≡ true) where
  unchanged_roles : RolesGrow P (stored w) v.number r.role r.role
  unchanged_roles = record { grows = λ a n. refl; still = λ a z f. inl f; inside = r.contents.inside; elsewhere = λ t k n lt. refl }

  no_refusal : (call : Rattle.jo_model.specs.declared.call.Call.Call) (spent : Rattle.jo_model.specs.declared.call.Spent.Spent) → Nothing ≡ Refuse call spent → Rattle.jo_model.specs.History.IsLawfulSpent (Rattle.jo_model.specs.Logs.changes_of v.number r.log) call (Rattle.jo_model.specs.declared.call.Reply.TheVariants.Spent spent)
  no_refusal call spent f = (let no : Nothing ≡ Refuse call spent = f in absurd cc)

  -- An object with its keys at places is locked. A pass that does not own it locks it only where it has the bit.
  pub takes_places : (o : ObjId) (c : Cell) (counts : Counts) → r.cell o ≡ Some c → is_keyed c.kind ≡ true → c.locked ≡ false → v.lock ≡ None → v.time.out ≡ false → (c.shared_write ≡ false → o.pass ≡ v.number)
      → Rule P (put w (cell o) (cell_bits (record c { locked = true }))) (set views id (holding v r.log (held_lock o c (object_of (after P r.log) o) (r.now o).room) c (w epoch) counts))
  takes_places o c counts there keyed free none_held inside mine =
      let now = r.now o in
      let g = held_lock o c (object_of (after P r.log) o) now.room in
      let c' : Cell = record c { locked = true } in
      let p = pin_of o c' (length r.log) (w epoch) in
      let u = holding v r.log g c (w epoch) counts in
      let same : SameItems v u = numbers_of v u refl refl refl refl refl refl in
      let st = standing r.contents o c there in
      let k = keyed_of st keyed in
      let h = r.sights.each id v at l in
      let tm = r.timing.timed id v at l in
      let cells' = set_object r.cell o (Some c') in
      let now' = set_object r.now o now in
      let here : cells' o ≡ Some c' = object_here r.cell o (Some c') in
      let now_here : now' o ≡ now = object_here r.now o now in
      let holder = set_object r.locks.holder o id in
      let block_c : IsBlockOf r.role (is_segmented c.kind) o c.address = subst (λ (b : Bool). IsBlockOf r.role b o c.address) k.0.segmented_is k.1.block in
      let keys_c = subst (λ (b : Bool). HasKeys (values w) r.role b (r.shape c.sid) o c.address (object_of (after P r.log) o)) k.0.segmented_is k.1.keys in
      let places : StandsAtPlaces (values w) r.role (r.shape c.sid) o c' now (object_of (after P r.log) o) = record { block = k.1.block; keys = k.1.keys; unused = k.1.unused; under = k.1.under } in
      moves id v u r at l same Nothing o c' now r.role (λ f. absurd (never r.allowed o c there (keyed_no_dictionary c.kind keyed) f)) no_refusal refl unchanged_roles (record { others = λ q n. refl; lengths = λ p n. refl; words = r.contents.words o; valid = r.contents.valid })
      record { cell = record { sid = st.cell.sid; address = st.cell.address; owner = st.cell.owner }; structure = st.structure; root = st.root; owner = st.owner; kind = as_keyed c.kind (values w) r.role (r.shape c.sid) o c' now (object_of (after P r.log) o) keyed k.0 places }
      (λ q. still_born r o c c' there q ∙ r.contents.born q) (r.owned.storage id v at l) (r.owned.objects id v at l) refl
      (moves_locks views id v u at l l o c' now holder r.locks (λ q n. object_else r.locks.holder o q id n) (λ q n. refl) (λ j y n f ly h k. nobody id v r at l o c there free j y f ly h k)
      (λ h f. subst (IsHeld (stored w) cells' now' (after P r.log) holder id) (let both : Some g ≡ Some h = f in let one : g ≡ h = cc in one) record {
        cell = here;
        bit = refl;
        found = record { unopened = λ z. refl; turned = λ cause z. (let no : None ≡ Some cause = z in absurd cc); keyed = λ z. keyed; block = λ z. ap (λ (x : Now). x.segmented) now_here ∙ k.0.segmented_is };
        holder_is = object_here r.locks.holder o id;
        settled = ap (λ (x : Now). x.settled) now_here ∙ k.0.settled;
        sealed = ap (λ (x : Now). x.sealed) now_here ∙ k.0.sealed;
        room = ap (λ (x : Now). x.room) now_here;
        content = λ z. (let no : false ≡ true = z in absurd cc);
        size = λ z. absurd (not_dictionary c.kind keyed z);
        block = λ z. absurd (not_dictionary c.kind keyed z);
      })
      (λ q n h f same'. absurd (no_item h v.lock none_held f))
      (λ b. record { view = u; lock = g; there = ap (get_elem? (set views id u)) (object_here r.locks.holder o id) ∙ set_there views id v u at; live = l; held = refl; object = refl }))
      record {
        follows = λ j y n e ly m q f keyed' same_o t.
            let fol = follows_at c there t in
            follows_extend (λ b. b) (λ b. b) (λ name i b. b) (λ y a b. b) (λ y. refl) refl (λ i. refl) fol.below fol;
        owning = λ j y n e ly m q f same_o t. record {
          writes = λ pl. ⊎_elim
              (λ (b : r.cell o ≡ Some q.cell).
              let both : Some c ≡ Some q.cell = sym there ∙ b in
              let one : c ≡ q.cell = cc in
              absurd (apart r id j v y n at l e ly (sym (mine (ap (λ (z : Cell). z.shared_write) one ∙ pl.unshared)) ∙ (ap (λ (z : ObjId). z.pass) (sym same_o) ∙ pl.own))))
              (λ (b : watched w q.cell.sid Write ≡ FIRED). inr b) (t.writes pl);
          transitions = λ pl. ⊎_elim
              (λ (b : HasStayed (r.cell o) q). let both : Some b.current ≡ Some c = sym b.is ∙ there in let one : b.current ≡ c = cc in inl (record { current = c'; is = refl; structure = ap (λ (z : Cell). z.sid) (sym one) ∙ b.structure; address = ap (λ (z : Cell). z.address) (sym one) ∙ b.address }))
              (λ (b : watched w q.cell.sid Transition ≡ FIRED). inr b) (t.transitions pl);
        };
        stamps = λ j y n e ly i b. refl;
      }
      record {
        sees = cons_each (λ (q : Pin). is_keyed q.cell.kind ≡ true → Sees P (values w) (r.shape q.cell.sid) r.role r.log q) p [] (λ key. sees_now P (values w) (r.shape c.sid) r.role r.log o c' (w epoch) st.structure st.root (r.contents.words o) r.contents.valid block_c keys_c) (no_each (λ k q. is_keyed q.cell.kind ≡ true → Sees P (values w) (r.shape q.cell.sid) r.role r.log q));
        follows = cons_each (λ (q : Pin). is_keyed q.cell.kind ≡ true → IsFollowed r.role r.shape (cells' q.object) (now' q.object) v.number q) p []
            (λ key. record {
              current = c';
              is = here;
              follows = subst (λ (n : Now). Follows r.role (r.shape c.sid) (r.shape c.sid) c' n v.number p) (sym now_here) record {
                loose = k.0.settled;
                below = λ lt. (let z = k.0.sealed in absurd (omega arith));
                bit = λ e. e;
                segments = λ e. segmented_not_flat c.kind e;
                names = λ name j e. inl e;
                tight = λ z name j e. e;
                current = λ z y a e. subst (λ (b : Bool). frame r.role b o c.address y ≡ Some a) (sym k.0.segmented_is) e;
              };
            }) (no_each (λ k q. is_keyed q.cell.kind ≡ true → IsFollowed r.role r.shape (cells' q.object) (now' q.object) v.number q));
        owning = cons_each (λ (q : Pin). Owning (watched w) (cells' q.object) v.number q) p [] (record { writes = λ pl. inl here; transitions = λ pl. inl (record { current = c'; is = here; structure = refl; address = refl }) }) (no_each (λ k q. Owning (watched w) (cells' q.object) v.number q));
        timed = cons_each (λ (q : Pin). (r.sights.floor v.number ≤ q.epoch) × (q.epoch ≤ w epoch)) p [] (r.sights.floors v.number, omega arith) (no_each (λ k q. (r.sights.floor v.number ≤ q.epoch) × (q.epoch ≤ w epoch)));
        licensed = no_each (λ k x. Licensed (watched w) r.sights.sealed (p ∷ []) v.number x);
        firing = h.firing;
        fired = h.fired;
        knows = λ name word e. (let no : None ≡ Some word = e in absurd cc);
        stamped = stamps_kept h o now (λ i. refl);
        cleared = h.cleared;
      }
      r.so (born_so_cell r.born_so o c' c there refl) (λ f. r.marked.shared o c there f) (counts_same r.counted o c c' there (keyed_no_dictionary c.kind keyed) refl)
      (concluded_same views id v u at l (numbers same) r.concluded (alike_unopened (unopened_none none_held) (unopened_one g refl refl)) refl (at_least_same v.past.calls v.past.calls refl))
      (raised_cell views id v u at l (numbers same) r.histories r.raised refl refl o (Some c) c' there (as_many r.shape c c' refl refl))
      record {
        out = λ e. absurd (both_ways v.time.out inside e);
        inside = tm.inside;
        polled = tm.polled;
        pins = cons_each (λ (q : Pin). v.time.polled ≤ q.epoch) p [] tm.polled (no_each (λ k q. v.time.polled ≤ q.epoch));
        largest = tm.largest;
        loaded = tm.loaded;
      }

  -- locks, where the view lets go
  pub released : (u : View) {heap' : Heap} (g : Lock) (c : Cell) (now : Now) → u.live ≡ true → u.lock ≡ None → v.lock ≡ Some g → c.locked ≡ false → ((q : ObjId) → q ≢ g.object → object_of heap' q ≡ object_of (after P r.log) q) → Locks (stored w) (set_object r.cell g.object (Some c)) (set_object r.now g.object now) heap' (set views id u)
  released u {heap'} g c now lu gone held free others =
      moves_locks views id v u at l lu g.object c now r.locks.holder r.locks (λ q n. refl) others (λ j y n f ly h k. one_holder views id v u at l lu r.locks j y n f ly g h held k)
      (λ h f. absurd (no_item h u.lock gone f)) (λ q n h f e. absurd (n (sym e ∙ ap (λ (x : Lock). x.object) (sym (same_item g h v.lock held f))))) (λ b. absurd (both_ways c.locked free b))

  -- a pin of another view on a cell that is held and goes on, by structure and address or with its transition set fired
  pub held_owning : (g : Lock) (c : Cell) (number : ℕ) (p : Pin) → v.lock ≡ Some g → ((c.sid ≡ g.cell.sid) × (c.address ≡ g.cell.address)) ⊎ (watched w g.cell.sid Transition ≡ FIRED) → Owning (watched w) (r.cell g.object) number p → Owning (watched w) (Some c) number p
  held_owning g c number p held how t =
      let k = r.locks.held id v at l g held in record {
        writes = λ pl. ⊎_elim
            (λ (b : r.cell g.object ≡ Some p.cell). let both : Some g.cell ≡ Some p.cell = sym k.cell ∙ b in let one : g.cell ≡ p.cell = cc in absurd (both_ways p.cell.locked pl.unlocked (ap (λ (z : Cell). z.locked) (sym one) ∙ k.bit)))
            (λ (b : watched w p.cell.sid Write ≡ FIRED). inr b) (t.writes pl);
        transitions = λ pl. ⊎_elim
            (λ (b : HasStayed (r.cell g.object) p).
            let both : Some b.current ≡ Some g.cell = sym b.is ∙ k.cell in
            let one : b.current ≡ g.cell = cc in
            ⊎_elim
            (λ (s : (c.sid ≡ g.cell.sid) × (c.address ≡ g.cell.address)). inl (record { current = c; is = refl; structure = s.0 ∙ (ap (λ (z : Cell). z.sid) (sym one) ∙ b.structure); address = s.1 ∙ (ap (λ (z : Cell). z.address) (sym one) ∙ b.address) }))
            (λ (s : watched w g.cell.sid Transition ≡ FIRED). inr (ap (λ (z : Sid). watched w z Transition) (sym b.structure ∙ ap (λ (z : Cell). z.sid) one) ∙ s)) how)
            (λ (b : watched w p.cell.sid Transition ≡ FIRED). inr b) (t.transitions pl);
      }

  -- The lock is let go, and nothing of the object changed.
  pub releases_places : (g : Lock) (counts : Counts) → v.lock ≡ Some g → is_keyed g.cell.kind ≡ true → Rule P (put w (cell g.object) (cell_bits (record g.cell { locked = false }))) (set views id (leaving P v Nothing r.log v.storage counts))
  releases_places g counts held keyed =
      let o = g.object in
      let lk = r.locks.held id v at l g held in
      let c = g.cell in
      let c' : Cell = record c { locked = false } in
      let now = r.now o in
      let u = leaving P v Nothing r.log v.storage counts in
      let same : SameItems v u = numbers_of v u refl refl refl refl refl refl in
      let st = standing r.contents o c lk.cell in
      let k = keyed_of st keyed in
      let places : StandsAtPlaces (values w) r.role (r.shape c.sid) o c' now (object_of (after P r.log) o) = record { block = k.1.block; keys = k.1.keys; unused = k.1.unused; under = k.1.under } in
      moves id v u r at l same Nothing o c' now r.role (λ f. absurd (never r.allowed o c lk.cell (keyed_no_dictionary c.kind keyed) f)) no_refusal refl unchanged_roles (record { others = λ q n. refl; lengths = λ p n. refl; words = r.contents.words o; valid = r.contents.valid })
      record { cell = record { sid = st.cell.sid; address = st.cell.address; owner = st.cell.owner }; structure = st.structure; root = st.root; owner = st.owner; kind = as_keyed c.kind (values w) r.role (r.shape c.sid) o c' now (object_of (after P r.log) o) keyed k.0 places }
      (λ q. still_born r o c c' lk.cell q ∙ r.contents.born q) (r.owned.storage id v at l) (r.owned.objects id v at l) refl
      (released u g c' now l refl held refl (λ q n. refl))
      record {
        follows = λ j y n e ly m q f keyed' same_o t. let fol = follows_at c lk.cell t in follows_extend (λ b. b) (λ b. b) (λ name i b. b) (λ y a b. b) (λ y. refl) refl (λ i. refl) fol.below fol;
        owning = λ j y n e ly m q f same_o t. held_owning g c' y.number q held (inl (refl, refl)) t;
        stamps = λ j y n e ly i b. refl;
      }
      (sighted_dropped (r.sights.each id v at l) v.quarantine (stamps_kept (r.sights.each id v at l) o now (λ i. refl))) r.so (born_so_cell r.born_so o c' c lk.cell refl) (λ f. r.marked.shared o c lk.cell f) (counts_same r.counted o c c' lk.cell (keyed_no_dictionary c.kind keyed) refl)
      (concluded_same views id v u at l (numbers same) r.concluded (alike_unopened (closed_keyed id v r.concluded at l g held keyed) (unopened_none refl)) refl (at_least_same v.past.calls v.past.calls refl))
      (raised_cell views id v u at l (numbers same) r.histories r.raised refl refl o (Some c) c' lk.cell (as_many r.shape c c' refl refl)) (timed_dropped (r.timing.timed id v at l))

  -- A key is added under the lock, in the old block or in a new one that keeps each place. The transition set is known to be fired.
  pub releases_changed : (g : Lock) (event : Event) (c : Cell) (role : ℕ → Role) (own : Storage) (key : Key) (y : Spot) (a : Location) (x fi : ℕ) (counts : Counts) → v.lock ≡ Some g → is_keyed g.cell.kind ≡ true → MayAdd P v event g.object (r.shape g.cell.sid) key x → get_elem? v.sets.fired fi ≡ some (g.cell.sid, Transition)
      → IsCell c → c.owner ≡ g.object.pass → is_keyed c.kind ≡ true → c.locked ≡ false → c.shared_write ≡ g.cell.shared_write → (is_flat g.cell.kind ≡ false → is_flat c.kind ≡ false)
      → RolesGrow P (stored w) v.number r.role role → OwnsStorage (stored w) role v.number own → Widens (r.shape g.cell.sid) (r.shape c.sid) key y (λ j. (r.shape g.cell.sid).top ≤ j) → IsBlockOf role (is_segmented c.kind) g.object c.address → frame role (is_segmented c.kind) g.object c.address y ≡ Some a → values w a ≡ x
      → ((s : Spot) (p : Location) → frame r.role (is_segmented g.cell.kind) g.object g.cell.address s ≡ Some p → frame role (is_segmented c.kind) g.object c.address s ≡ Some p)
      → ((q : Key) (s : Spot) (p : Location) → q ≢ key → spot_of (r.shape g.cell.sid) q ≡ Some s → frame role (is_segmented c.kind) g.object c.address s ≡ Some p → frame r.role (is_segmented g.cell.kind) g.object g.cell.address s ≡ None → values w p ≡ 0)
      → Rule P (put w (cell g.object) (cell_bits c)) (set views id (leaving P v event r.log own counts))
  releases_changed g event c role own key y a x fi counts held keyed add known is owner keyed' free shared flat roles owns wide block place here kept_places new =
      let o = g.object in
      let lk = r.locks.held id v at l g held in
      let d = g.cell in
      let h = r.sights.each id v at l in
      let st = standing r.contents o d lk.cell in
      let k = keyed_of st keyed in
      let now : Now = record (r.now o) { segmented = is_segmented c.kind } in
      let u = leaving P v event r.log own counts in
      let same : SameItems v u = numbers_of v u refl refl refl refl refl refl in
      let touch = event_touches P v.number event r.log o add.on (born_of r o d lk.cell) in
      let lt = (r.histories.seated id v at l).own.1 in
      let few = r.histories.few in
      let fired = h.fired fi (d.sid, Transition) known in
      let old = subst (λ (b : Bool). HasKeys (values w) r.role b (r.shape d.sid) o d.address (object_of (after P r.log) o)) k.0.segmented_is k.1.keys in
      let old_place : (s : Spot) (p : Location) → frame r.role (r.now o).segmented o d.address s ≡ Some p → frame role (is_segmented c.kind) o c.address s ≡ Some p = λ s p e. kept_places s p (subst (λ (b : Bool). frame r.role b o d.address s ≡ Some p) k.0.segmented_is e) in
      let places : StandsAtPlaces (values w) role (r.shape c.sid) o c now (object_after_event event (object_of (after P r.log) o)) = record {
        block = block;
        keys = keys_more key y a x wide (add.adds (object_of (after P r.log) o) k.1.keys.names) place here
            (λ s f g. ⊎_elim (λ (e : frame r.role (is_segmented d.kind) o d.address s ≡ None). f e) (λ (e : (p : Location) × (frame r.role (is_segmented d.kind) o d.address s ≡ Some p)). (let bad : None ≡ Some e.0 = sym g ∙ kept_places s e.0 e.1 in absurd cc)) (option_cases (frame r.role (is_segmented d.kind) o d.address s)))
            (λ q s p n f g. ((λ p0 e. ap (values w) (one_place (frame role (is_segmented c.kind) o c.address s) p p0 g (kept_places s p0 e))), new q s p n f g)) old;
        unused = λ j name z f. ⊎_elim (λ (q : offset_of (r.shape d.sid) name ≡ Some j). k.1.unused j name z q) (λ (q : (r.shape d.sid).top ≤ j). (let b = k.1.under j z in omega arith)) (wide.back name j f);
        under = λ j z. (let b = k.1.under j z in let t = wide.top in omega arith);
      } in
      moves id v u r at l same event o c now role (λ f. absurd (never r.allowed o d lk.cell (keyed_no_dictionary d.kind keyed) f)) (event_refuses P v event r.log (r.histories.own id v at l) add.may) refl roles
      record {
        others = touch.others;
        lengths = λ p n. touch.lengths p;
        words = subst HasWords (sym touch.here) (event_words P v event (object_of (after P r.log) o) add.may (r.contents.words o));
        valid = event_valid P v event r.log (r.histories.seen id v at l) (omega arith) add.may r.contents.valid;
      }
      record {
        cell = is;
        structure = wide.born;
        root = wide.root ∙ st.root;
        owner = owner;
        kind = as_keyed c.kind (values w) role (r.shape c.sid) o c now (object_of (after P (recorded P v.number event r.log)) o) keyed' (record { settled = k.0.settled; segmented_is = refl; sealed = k.0.sealed }) (subst (StandsAtPlaces (values w) role (r.shape c.sid) o c now) (sym touch.here) places);
      }
      (λ q. still_born r o d c lk.cell q ∙ (r.contents.born q ∙ ap (nat_lt q.serial) (sym (touch.lengths q.pass)))) owns (r.owned.objects id v at l ∙ sym (touch.lengths v.number)) refl
      (released u g c now l refl held free touch.others)
      record {
        follows = λ j z n e ly m q f keyed'' same_o t.
            let fol = follows_at d lk.cell t in
            follows_extend (λ b. shared ∙ b) flat wide.keep (subst (λ (p : ObjId). (y : Spot) (a : Location) → frame r.role (r.now o).segmented p d.address y ≡ Some a → frame role (is_segmented c.kind) p c.address y ≡ Some a) (sym same_o) old_place)
            (λ s. frame_grows roles.grows ((r.sights.each j z e ly).sees m q f keyed'').block s) refl (λ i. refl) fol.below fol;
        owning = λ j z n e ly m q f same_o t. held_owning g c z.number q held (inr fired) t;
        stamps = λ j z n e ly i b. refl;
      }
      (sighted_dropped h v.quarantine (stamps_kept h o now (λ i. refl))) r.so (born_so_event P v.number event r.log (born_so_cell r.born_so o c d lk.cell (keyed' ∙ sym keyed)))
      (λ f. subst (λ (p : ℕ). HasForeignMark p r.log) st.root (r.marked.disturbed d.sid Transition (λ e. omega (arith, e, fired))))
      (let n = add.counts (object_of (after P r.log) o) k.1.keys.names in let dp = wide.depth in let hi = wide.high in counts_go r.counted v.number event o d c (name_count key) 0 add.on lk.cell (keyed_no_dictionary d.kind keyed) n.0 n.1 (omega (arith, dp)) hi)
      (concluded_event views id v u at l (numbers same) r.concluded r.histories event (follows_unopened P r.log v.number event (closed_keyed id v r.concluded at l g held keyed)) (unopened_none refl) refl refl)
      (raised_cell views id v u at l (numbers same) r.histories r.raised refl refl o (Some d) c lk.cell (let dp = wide.depth in let m = many_deeper r.shape d c 0 keyed (omega arith) in omega arith)) (timed_dropped (r.timing.timed id v at l))

  -- The bit for writes of others is set by an exchange. The write set of the cell's structure is known to be fired.
  pub shares_cell : (o : ObjId) (c : Cell) (fi : ℕ) (counts : Counts) → r.cell o ≡ Some c → is_keyed c.kind ≡ true → c.locked ≡ false → get_elem? v.sets.fired fi ≡ some (c.sid, Write)
      → Rule P (put w (cell o) (cell_bits (record c { shared_write = true }))) (set views id (celling P v Nothing r.log v.storage v.quarantine counts))
  shares_cell o c fi counts there keyed free known =
      let now = r.now o in
      let c' : Cell = record c { shared_write = true } in
      let u = celling P v Nothing r.log v.storage v.quarantine counts in
      let same : SameItems v u = numbers_of v u refl refl refl refl refl refl in
      let h = r.sights.each id v at l in
      let fired = h.fired fi (c.sid, Write) known in
      let st = standing r.contents o c there in
      let k = keyed_of st keyed in
      let places : StandsAtPlaces (values w) r.role (r.shape c.sid) o c' now (object_of (after P r.log) o) = record { block = k.1.block; keys = k.1.keys; unused = k.1.unused; under = k.1.under } in
      moves id v u r at l same Nothing o c' now r.role (λ f. absurd (never r.allowed o c there (keyed_no_dictionary c.kind keyed) f)) no_refusal refl unchanged_roles (record { others = λ q n. refl; lengths = λ p n. refl; words = r.contents.words o; valid = r.contents.valid })
      record { cell = record { sid = st.cell.sid; address = st.cell.address; owner = st.cell.owner }; structure = st.structure; root = st.root; owner = st.owner; kind = as_keyed c.kind (values w) r.role (r.shape c.sid) o c' now (object_of (after P r.log) o) keyed k.0 places }
      (λ q. still_born r o c c' there q ∙ r.contents.born q) (r.owned.storage id v at l) (r.owned.objects id v at l) refl
      (unlocked id v r at l u o c c' now l refl there free free (λ q n. refl))
      record {
        follows = λ j y n e ly m q f keyed' same_o t. let fol = follows_at c there t in follows_extend (λ b. refl) (λ b. b) (λ name i b. b) (λ y a b. b) (λ y. refl) refl (λ i. refl) fol.below fol;
        owning = λ j y n e ly m q f same_o t. record {
          writes = λ pl. inr (⊎_elim
              (λ (b : r.cell o ≡ Some q.cell). let both : Some c ≡ Some q.cell = sym there ∙ b in let one : c ≡ q.cell = cc in ap (λ (z : Cell). watched w z.sid Write) (sym one) ∙ fired)
              (λ (b : watched w q.cell.sid Write ≡ FIRED). b) (t.writes pl));
          transitions = λ pl. ⊎_elim
              (λ (b : HasStayed (r.cell o) q). let both : Some b.current ≡ Some c = sym b.is ∙ there in let one : b.current ≡ c = cc in inl (record { current = c'; is = refl; structure = ap (λ (z : Cell). z.sid) (sym one) ∙ b.structure; address = ap (λ (z : Cell). z.address) (sym one) ∙ b.address }))
              (λ (b : watched w q.cell.sid Transition ≡ FIRED). inr b) (t.transitions pl);
        };
        stamps = λ j y n e ly i b. refl;
      }
      (sighted_dropped h v.quarantine (stamps_kept h o now (λ i. refl))) r.so (born_so_cell r.born_so o c' c there refl)
      (λ f. subst (λ (p : ℕ). HasForeignMark p r.log) st.root (r.marked.disturbed c.sid Write (λ e. omega (arith, e, fired)))) (counts_same r.counted o c c' there (keyed_no_dictionary c.kind keyed) refl)
      (concluded_same views id v u at l (numbers same) r.concluded (alike_same refl) refl (at_least_same v.past.calls v.past.calls refl))
      (raised_cell views id v u at l (numbers same) r.histories r.raised refl refl o (Some c) c' there (as_many r.shape c c' refl refl)) (timed_dropped (r.timing.timed id v at l))
