-- An object becomes a dictionary: it is opened with its mark, its holder has its content alone once no pin is left on it, and the lock is
-- let go with a block that was filled.
use Rattle.std.proofs.Common.{◌≡◌, ◌≢◌, ◌+◌, ◌<◌, ◌≤◌, ℕ, true, false, List, [], ◌∷◌, ◌++◌, set, refl, sym, ap, ◌∙◌, subst, inl, ⊎_elim, arith, Some, None}
use mathlib.Core.Option.{some}
use lib.ListN.{get_elem?}
use Rattle.std.specs.Prelude.{nat_lt}
use Rattle.jo_value.specs.declared.capacities.TheConstants.{MOST_PASSES}
use Rattle.jo_value.specs.declared.value.ObjId.{ObjId}
use Rattle.jo_value.specs.declared.words.cell.Cell.{Cell}
use Rattle.jo_value.specs.declared.words.cell.Kind.{Kind}
use Rattle.jo_value.specs.declared.words.cell.Kind.TheVariants.{Opening, Dictionary}
use Rattle.jo_value.specs.Words.{cell_bits}
use Rattle.jo_model.specs.Heaps.{Heap, object_of}
use Rattle.jo_model.specs.Logs.{LogEntry, mark, Log, after}
use Rattle.jo_model.proofs.Beginnings.{after-push}
use Rattle.jo_rule.specs.declared.cause.Cause.{Cause}
use Rattle.jo_rule.specs.declared.cause.Cause.TheVariants.{Deletion}
use Rattle.jo_rule.specs.declared.counts.Counts.{Counts}
use Rattle.jo_rule.specs.declared.event.Event.{Event}
use Rattle.jo_rule.specs.Names.{epoch, cell}
use Rattle.jo_rule.specs.Areas.{Words, put, acknowledgements, nodes, stored, set_object}
use Rattle.jo_rule.specs.Marks.{Mark, fired, opened, IsCauseToOpen, IsLawfulMark}
use Rattle.jo_rule.specs.Spots.{values}
use Rattle.jo_rule.specs.Dictionaries.{block_size}
use Rattle.jo_rule.specs.Contents.{Now, is_keyed, is_segmented, StandsAtPlaces, StandsAsDictionary, HasWords, Contents}
use Rattle.jo_rule.specs.Puts.{AllClear}
use Rattle.jo_rule.specs.Views.{View, Pin, Lock}
use Rattle.jo_rule.specs.Owned.{address_of, Owned, Unmade}
use Rattle.jo_rule.specs.Locks.{KeepsKind, Locks, IsHeld}
use Rattle.jo_rule.specs.Events.{recorded, object_after_event, MayPlace, IsEventOn}
use Rattle.jo_rule.specs.Rule.{Rule}
use Rattle.jo_rule.specs.Steps.{no_sight, with_named, IsFilled}
use Rattle.jo_rule.specs.Sights.{watched, IsFollowed, ViewIsSighted}
use Rattle.jo_rule.specs.Concluded.{HasUsedNodes, MayFollow}
use Rattle.jo_rule.proofs.Placing.{placed_longer, placed_within}
use Rattle.jo_rule.proofs.Concluded.{closed_keyed, unopened_none, at_least_same, concluded_same, concluded_event, concluded_opened}
use Rattle.jo_rule.proofs.Raised.{as_many, many_opened, raised_same, raised_cell, raised_reason}
use Rattle.jo_rule.proofs.Lists.{same_item, set_there}
use Rattle.jo_rule.proofs.Sets.{cases_object, object_here, object_else}
use Rattle.jo_rule.proofs.Histories.{SameItems, same_placements, same_histories, mark_placements, mark_histories, numbers}
use Rattle.jo_rule.proofs.Contents.{standing, moves_contents, now_contents, codes_cell, standing_opening, places_of, unsettled_places}
use Rattle.jo_rule.specs.Contents.{is_dictionary}
use Rattle.jo_rule.proofs.Owned.{same_owned, same_structures, bears_unborn}
use Rattle.jo_rule.proofs.Locks.{moves_locks, now_locks, one_holder}
use Rattle.jo_rule.proofs.Marked.{born_so_cell, born_so_event, born_so_opened, marked_more, marked_cell}
use Rattle.jo_rule.proofs.Timing.{timing_set, timed_dropped, timed_owing}
use Rattle.jo_rule.proofs.Allowed.{may_flat, allowed_same, allowed_cell, never}
use Rattle.jo_rule.proofs.Counted.{counted_cell, mark_counts, counts_dictionary, event_elsewhere}
use Rattle.jo_rule.proofs.Lasting.{lasting_same}
use Rattle.jo_rule.proofs.Contents.{keyed_no_dictionary}
use Rattle.jo_rule.proofs.Events.{event_touches, event_words, event_valid, event_refuses}
use Rattle.jo_rule.proofs.Sights.{continues, sighted_cell, sighted_dropped, sighted_lock, sights_set, stamps_kept, follows_at}
use Rattle.jo_rule.proofs.Naming.{named_roles, named_grows, named_still, named_inside, named_elsewhere, named_own, named_stands}
use Rattle.jo_rule.proofs.Moves.{moves, object_within, born_of, still_born, pins_absent, no_pins_settled}
use Rattle.jo_rule.proofs.Stores.{numbers_of}
use Rattle.jo_rule.proofs.Looks.{keyed_of, apart}
use Rattle.jo_rule.proofs.Shares.{follows_extend, held_owning, released, leaving}

-- the cell of an object that is opening, and the view that opened it: it owes a raise
abbrev pub opening_cell : Cell → Cell
opening_cell c = record c { kind = Opening }

abbrev pub opening : View → Log Mark → Lock → Cause → Counts → View
opening v log g cause counts = record v { past = record v.past { seen = log }; sight = no_sight; lock = Some (record g { cell = opening_cell g.cell; opened = Some cause; since = 0 }); time = record v.time { owed = v.time.owed + 1 }; counts = counts }

keyed_opening : (k : Kind) → k ≡ Opening → is_keyed k ≡ false
keyed_opening k e = ap is_keyed e

module _ {P : ℕ} {w : Words} {views : List View} (id : ℕ) (v : View) (r : Rule P w views) (at : get_elem? views id ≡ some v) (l : v.live ≡ true) where
  -- An object whose keys lie at places is opened by the holder of its lock, with a lawful mark, for want of structures only where the pass has
  -- used all its own.
  pub opens_object : (g : Lock) (cause : Cause) (counts : Counts) → v.lock ≡ Some g → is_keyed g.cell.kind ≡ true → IsCauseToOpen P r.log v.number g.object cause → HasUsedNodes v cause
      → Rule P (put w (cell g.object) (cell_bits (opening_cell g.cell))) (set views id (opening v (r.log ++ mark v.number (opened g.object cause) ∷ []) g cause counts))
  opens_object g cause counts held keyed lawful need =
      let o = g.object in
      let lk = r.locks.held id v at l g held in
      let d = g.cell in
      let c = opening_cell d in
      let e : LogEntry Mark = mark v.number (opened o cause) in
      let log' = r.log ++ e ∷ [] in
      let g' : Lock = record g { cell = c; opened = Some cause; since = 0 } in
      let u = opening v log' g cause counts in
      let same : SameItems v u = numbers_of v u refl refl refl refl refl refl in
      let st = standing r.contents o d lk.cell in
      let k = keyed_of st keyed in
      let now = r.now o in
      let heap : after P log' ≡ after P r.log = after-push P r.log e in
      let more = continues r.log log' (e ∷ [], refl) in
      let law : IsLawfulMark P r.log v.number (opened o cause) = (lawful, (λ n t why f. r.born_so.unopened o d lk.cell keyed (record { at = n; by = t; cause = why; is = f }))) in
      let places : StandsAtPlaces (values w) r.role (r.shape c.sid) o c now (object_of (after P r.log) o) = record { block = k.1.block; keys = k.1.keys; unused = k.1.unused; under = k.1.under } in
      let cells' = set_object r.cell o (Some c) in
      let now' = set_object r.now o now in
      let h = r.sights.each id v at l in record {
        log = log';
        made = r.made;
        home = r.home;
        node = r.node;
        shape = r.shape;
        cell = cells';
        role = r.role;
        now = now';
        so = r.so;
        placements = mark_placements views id v u at l (numbers same) r.histories (opened o cause) law refl r.placements;
        histories = mark_histories views id v u at l (numbers same) r.histories (opened o cause) law refl r.placements;
        coded = codes_cell (λ q. w (cell q)) r.cell o c r.coded;
        shaped = r.shaped;
        contents = subst (Contents P (values w) cells' r.shape r.role now') (sym heap)
            (moves_contents r.contents o c now (λ a n. refl) (λ a z f. inl f) r.contents.inside (λ q n. refl)
            record { cell = record { sid = st.cell.sid; address = st.cell.address; owner = st.cell.owner }; structure = st.structure; root = st.root; owner = st.owner; kind = (lk.bit, places) }
            (λ q. still_born r o d c lk.cell q ∙ r.contents.born q) (r.contents.words o) r.contents.valid);
        owned = subst (λ (x : Heap). Owned (stored w) r.role x (set views id u)) (sym heap) (same_owned views id u v at l refl refl refl r.owned);
        structures = same_structures views id v u at l refl refl r.structures;
        locks = subst (λ (x : Heap). Locks (stored w) cells' now' x (set views id u)) (sym heap)
            (moves_locks views id v u at l l o c now r.locks.holder r.locks (λ q n. refl) (λ q n. refl) (λ j y n f ly q m. one_holder views id v u at l l r.locks j y n f ly g q held m)
            (λ q f. subst (IsHeld (stored w) cells' now' (after P r.log) r.locks.holder id) (let both : Some g' ≡ Some q = f in let one : g' ≡ q = cc in one) record {
              cell = object_here r.cell o (Some c);
              bit = lk.bit;
              found = record {
                unopened = λ z. (let no : Some cause ≡ None = z in absurd cc);
                turned = λ why z. refl;
                keyed = λ z. lk.found.keyed (keyed_no_dictionary d.kind keyed);
                block = λ z. ap (λ (x : Now). x.segmented) (object_here r.now o now) ∙ lk.found.block (keyed_no_dictionary d.kind keyed);
              };
              holder_is = lk.holder_is;
              settled = ap (λ (x : Now). x.settled) (object_here r.now o now) ∙ lk.settled;
              sealed = ap (λ (x : Now). x.sealed) (object_here r.now o now) ∙ k.0.sealed;
              room = ap (λ (x : Now). x.room) (object_here r.now o now) ∙ lk.room;
              content = lk.content;
              size = λ z. (let no : Opening ≡ Dictionary = z in absurd cc);
              block = λ z. (let no : Opening ≡ Dictionary = z in absurd cc);
            })
            (λ q n m f e'. absurd (n (sym e' ∙ ap (λ (x : Lock). x.object) (sym (same_item g m v.lock held f)))))
            (λ b. record { view = u; lock = g'; there = ap (get_elem? (set views id u)) lk.holder_is ∙ set_there views id v u at; live = l; held = refl; object = refl }));
        unborn = bears_unborn o c r.unborn;
        unmade = subst (λ (x : Heap). Unmade P r.made (acknowledgements w) (nodes w) (stored w) r.role x) (sym heap) r.unmade;
        sights = sights_set views id u r.sights
            (λ j y n f ly b. sighted_cell b o c now (λ a z. refl) more
            (λ m p i key same_o t. (let fol = follows_at d lk.cell t in follows_extend (λ z. z) (λ z. refl) (λ name q z. z) (λ s a z. z) (λ s. refl) refl (λ q. refl) fol.below fol))
            (λ m p i same_o t. held_owning id v r at l g c y.number p held (inl (refl, refl)) t) (λ q mine. refl)
            (λ q x is loose. let sq = standing r.contents q x is in (places_of sq (unsettled_places sq loose)).block))
            (sighted_dropped h v.quarantine (stamps_kept h o now (λ q. refl)));
        born_so = born_so_opened r.born_so o c d v.number cause lk.cell keyed refl;
        marked = marked_cell (marked_more r.marked e (λ by s which q f. (let both : mark v.number (opened o cause) ≡ mark by (fired s which q) = f in cc))) o c
            (λ f. ⊎_elim (λ (b : c.shared_write ≡ true). Rattle.jo_rule.proofs.Marked.foreign_more r.log e o.pass (r.marked.shared o d lk.cell (inl b))) (λ (b : is_segmented Opening ≡ true). (let no : false ≡ true = b in absurd cc)) f);
        allowed = allowed_cell views id v u at l refl o c r.allowed (λ f. absurd (never r.allowed o d lk.cell (keyed_no_dictionary d.kind keyed) f));
        timing = timing_set views id u r.timing (timed_owing (v.time.owed + 1) (timed_dropped (r.timing.timed id v at l)));
        lasting = lasting_same views id v u at l refl r.lasting;
        counted = counted_cell r.counted o c record {
          others = λ q n. mark_counts P v.number r.log v.number (opened o cause) q;
          depth = λ f. (let m = mark_counts P v.number r.log v.number (opened o cause) o in let m0 = m.0 in let m1 = m.1 in let old = r.counted.depth o d lk.cell (keyed_no_dictionary d.kind keyed) in omega (arith, m0, m1, old));
          top = λ f. (let m = mark_counts P v.number r.log v.number (opened o cause) o in let m0 = m.0 in let old = r.counted.top o d lk.cell (keyed_no_dictionary d.kind keyed) in omega (arith, m0, old));
        };
        concluded = concluded_opened views id v u at l (numbers same) r.concluded r.histories g' cause (closed_keyed id v r.concluded at l g held keyed) refl refl refl need
            (placed_within P r.log v.number v.past.calls (placed_longer P r.log v.past.seen v.number v.past.calls (r.histories.seen id v at l) (r.placements.own id v at l))) refl refl;
        raised = raised_reason views id v u at l (numbers same) r.histories r.raised (may_flat r.allowed id v at l o d lk.cell (keyed_no_dictionary d.kind keyed)) refl refl refl o d c lk.cell (object_within id v r at l o d lk.cell) (many_opened r.shape d c keyed refl refl);
      }

  -- so does an owner for a deletion, though nobody disturbed its objects
  pub opens_own : (g : Lock) (counts : Counts) → v.lock ≡ Some g → is_keyed g.cell.kind ≡ true → v.number ≡ g.object.pass
      → Rule P (put w (cell g.object) (cell_bits (opening_cell g.cell))) (set views id (opening v (r.log ++ mark v.number (opened g.object Deletion) ∷ []) g Deletion counts))
  opens_own g counts held keyed own = opens_object g Deletion counts held keyed (inl own) (λ e. let never : ⊥ = cc in absurd never)

  -- No pin with keys is left on an object that is opening, once each pin of another pass is made in the epoch of its raise or later.
  pub no_pins_opened : (g : Lock) → v.lock ≡ Some g → 0 < g.since → AllClear P v g.since → (j : ℕ) (y : View) → j ≢ id → get_elem? views j ≡ some y → y.live ≡ true → (k : ℕ) (p : Pin) → get_elem? y.sight.pins k ≡ some p → is_keyed p.cell.kind ≡ true → p.object ≡ g.object → ⊥
  no_pins_opened g held some_e clear j y n f ly k p i key same =
      let b = r.sights.each j y f ly in
      let lk = r.locks.held id v at l g held in
      let fol = (b.follows k p i key).follows in
      let seal : (r.now p.object).sealed ≡ g.since = ap (λ (q : ObjId). (r.now q).sealed) same ∙ lk.sealed in
      let lt : p.epoch < (r.now p.object).sealed = fol.below (omega arith) in
      let below = (r.histories.seated j y f ly).own.1 in
      let few = r.histories.few in
      let c = clear y.number (omega arith) (λ x. apart r id j v y n at l f ly (sym x)) in
      let low = (r.sights.each id v at l).cleared c.0 c.1 c.2 in
      let floor_is : r.sights.floor c.1.pass ≡ r.sights.floor y.number = ap r.sights.floor c.3 in
      let past = c.4 in
      let above = (b.timed k p i).0 in
      omega arith

  -- The holder has the content alone from then on: it may read it in any number of steps. No own pin with keys is on the object.
  pub settles : (g : Lock) (counts : Counts) → v.lock ≡ Some g → g.cell.kind ≡ Opening → 0 < g.since → AllClear P v g.since → ((k : ℕ) (p : Pin) → get_elem? v.sight.pins k ≡ some p → is_keyed p.cell.kind ≡ true → p.object ≢ g.object)
      → Rule P w (set views id (record v { lock = Some (record g { settled = true; content = object_of (after P r.log) g.object }); counts = counts }))
  settles g counts held kind some_e clear own =
      let o = g.object in
      let g' : Lock = record g { settled = true; content = object_of (after P r.log) o } in
      let u : View = record v { lock = Some g'; counts = counts } in
      let same : SameItems v u = numbers_of v u refl refl refl refl refl refl in
      let lk = r.locks.held id v at l g held in
      let now_o : Now = record (r.now o) { settled = true } in
      let now = set_object r.now o now_o in
      let others : (q : ObjId) → q ≢ o → now q ≡ r.now q = λ q n. object_else r.now o q now_o n in
      let stamps : (q : ObjId) (i : ℕ) → (now q).stamps i ≡ (r.now q).stamps i = λ q i. Rattle.jo_rule.proofs.Sets.each_object r.now o now_o (λ q x. x.stamps i ≡ (r.now q).stamps i) refl (λ q n. refl) q in
      let h = r.sights.each id v at l in
      let go : (j : ℕ) (y : View) → get_elem? views j ≡ some y → y.live ≡ true → ((k : ℕ) (p : Pin) → get_elem? y.sight.pins k ≡ some p → is_keyed p.cell.kind ≡ true → p.object ≢ o) → ViewIsSighted P (w epoch) (values w) r.cell r.shape r.role r.now (watched w) r.log r.sights.floor r.sights.sealed r.sights.firer j y → ViewIsSighted P (w epoch) (values w) r.cell r.shape r.role now (watched w) r.log r.sights.floor r.sights.sealed r.sights.firer j y = λ j y f ly away b. record {
        sees = b.sees;
        follows = λ k p i key. subst (λ (x : Now). IsFollowed r.role r.shape (r.cell p.object) x y.number p) (sym (others p.object (away k p i key))) (b.follows k p i key);
        owning = b.owning;
        timed = b.timed;
        licensed = b.licensed;
        firing = b.firing;
        fired = b.fired;
        knows = b.knows;
        stamped = λ q i mine. stamps q i ∙ b.stamped q i mine;
        cleared = b.cleared;
      } in record {
        log = r.log;
        made = r.made;
        home = r.home;
        node = r.node;
        shape = r.shape;
        cell = r.cell;
        role = r.role;
        now = now;
        so = r.so;
        placements = same_placements views id v u at l (numbers same) refl r.placements;
        histories = same_histories views id v u at l (numbers same) refl r.histories;
        coded = r.coded;
        shaped = r.shaped;
        contents = now_contents r.contents o g.cell now_o lk.cell (standing_opening kind refl (λ j. refl) (standing r.contents o g.cell lk.cell));
        owned = same_owned views id u v at l refl refl refl r.owned;
        structures = same_structures views id v u at l refl refl r.structures;
        locks = now_locks views id v u at l l r.locks (λ j y n f ly q k. let far = one_holder views id v u at l l r.locks j y n f ly g q held k in let s = others q.object far in (ap (λ (x : Now). x.settled) s, ap (λ (x : Now). x.sealed) s, ap (λ (x : Now). x.room) s, ap (λ (x : Now). x.segmented) s))
            (λ q f. subst (IsHeld (stored w) r.cell now (after P r.log) r.locks.holder id) (let both : Some g' ≡ Some q = f in let one : g' ≡ q = cc in one)
            (let here : now o ≡ now_o = object_here r.now o now_o in record { cell = lk.cell; bit = lk.bit; found = subst (KeepsKind g.cell.kind g.found g.opened) (sym (ap (λ (x : Now). x.segmented) here)) lk.found; holder_is = lk.holder_is; settled = ap (λ (x : Now). x.settled) here; sealed = ap (λ (x : Now). x.sealed) here ∙ lk.sealed; room = ap (λ (x : Now). x.room) here ∙ lk.room; content = λ z. refl; size = lk.size; block = lk.block }))
            (λ q f. (g', refl, ap (λ (x : Lock). x.object) (same_item g q v.lock held f)));
        unborn = r.unborn;
        unmade = r.unmade;
        sights = sights_set views id u r.sights (λ j y n f ly b. go j y f ly (λ k p i key same. no_pins_opened g held some_e clear j y n f ly k p i key same) b)
            (sighted_lock (go id v at l (λ k p i key same. own k p i key same) h) (λ q f. let one = same_item g q v.lock held f in (g', refl, ap (λ (x : Lock). x.object) one, ap (λ (x : Lock). x.cell) one)));
        born_so = r.born_so;
        marked = r.marked;
        allowed = allowed_same views id v u at l refl r.allowed;
        timing = timing_set views id u r.timing (let t = r.timing.timed id v at l in record { out = t.out; inside = t.inside; polled = t.polled; pins = t.pins; largest = t.largest; loaded = t.loaded });
        lasting = lasting_same views id v u at l refl r.lasting;
        counted = r.counted;
        concluded = concluded_same views id v u at l (numbers same) r.concluded (
          (λ q cause f e. let one = same_item g q v.lock held f in (g', refl, ap (λ (x : Lock). x.object) one, ap (λ (x : Lock). x.opened) one ∙ e, ap (λ (x : Lock). x.cell.kind) one)),
          (λ q cause f e. (let both : Some g' ≡ Some q = f in let one : g' ≡ q = cc in (g, held, ap (λ (x : Lock). x.object) one, ap (λ (x : Lock). x.opened) one ∙ e, ap (λ (x : Lock). x.cell.kind) one))),
        ) refl (at_least_same v.past.calls v.past.calls refl);
        raised = raised_same views id v u at l (numbers same) r.histories r.raised refl refl;
      }

  -- The lock is let go, with the change that the object was opened for: it is a dictionary, in a block of the own storage that was filled with
  -- what the event leaves.
  pub releases_opened : (g : Lock) (event : Event) (k room : ℕ) (counts : Counts) → P ≤ MOST_PASSES → v.lock ≡ Some g → g.cell.kind ≡ Opening → g.settled ≡ true → MayPlace P v event → IsEventOn g.object event → MayFollow P r.log v.number v.lock event → IsFilled v.storage k room (object_after_event event g.content)
      → Rule P (put w (cell g.object) (cell_bits (record g.cell { address = address_of v.number k; locked = false; kind = Dictionary }))) (set views id (leaving P v event r.log (with_named v.storage k (block_size room)) counts))
  releases_opened g event k room counts most held kind sure may on follow filled =
      let o = g.object in
      let d = g.cell in
      let c : Cell = record d { address = address_of v.number k; locked = false; kind = Dictionary } in
      let lk = r.locks.held id v at l g held in
      let st = standing r.contents o d lk.cell in
      let own = r.owned.storage id v at l in
      let from = filled.from in
      let to = filled.to in
      let lt = (r.histories.seated id v at l).own.1 in
      let few = r.histories.few in
      let all = own.used in
      let settled : (r.now o).settled ≡ true = lk.settled ∙ sure in
      let role = named_roles r.role (address_of v.number k) room o in
      let now : Now = record (r.now o) { room = room } in
      let u = leaving P v event r.log (with_named v.storage k (block_size room)) counts in
      let same : SameItems v u = numbers_of v u refl refl refl refl refl refl in
      let log' = recorded P v.number event r.log in
      let touch = event_touches P v.number event r.log o on (born_of r o d lk.cell) in
      let left : object_of (after P log') o ≡ object_after_event event g.content = touch.here ∙ ap (object_after_event event) (lk.content sure) in
      let h = r.sights.each id v at l in
      moves id v u r at l same event o c now role (λ f. absurd (never r.allowed o d lk.cell (ap is_dictionary kind) f)) (event_refuses P v event r.log (r.histories.own id v at l) may) refl
      record { grows = named_grows own o k room from to; still = named_still own o k room from to filled.header; inside = named_inside own o k room from to P (omega arith) r.contents.inside; elsewhere = named_elsewhere own o k room from to }
      record {
        others = touch.others;
        lengths = λ p n. touch.lengths p;
        words = subst HasWords (sym touch.here) (event_words P v event (object_of (after P r.log) o) may (r.contents.words o));
        valid = event_valid P v event r.log (r.histories.seen id v at l) (omega arith) may r.contents.valid;
      }
      record {
        cell = record { sid = st.cell.sid; address = omega arith; owner = st.cell.owner };
        structure = st.structure;
        root = st.root;
        owner = st.owner;
        kind = subst (StandsAsDictionary (stored w) role o c now) (sym left) (named_stands own o k room from to c (r.now o) (object_after_event event g.content) settled filled.capacity refl filled.properties);
      }
      (λ q. still_born r o d c lk.cell q ∙ (r.contents.born q ∙ ap (nat_lt q.serial) (sym (touch.lengths q.pass)))) (named_own own o k room from to) (r.owned.objects id v at l ∙ sym (touch.lengths v.number)) refl
      (released id v r at l u g c now l refl held refl touch.others)
      (pins_absent r id o c now role (no_pins_settled r o settled) (λ i. refl)) (sighted_dropped h v.quarantine (stamps_kept h o now (λ i. refl))) r.so (born_so_event P v.number event r.log (born_so_cell r.born_so o c d lk.cell (sym (keyed_opening d.kind kind))))
      (λ f. ⊎_elim (λ (b : d.shared_write ≡ true). r.marked.shared o d lk.cell (inl b)) (λ (b : is_segmented Dictionary ≡ true). (let no : false ≡ true = b in absurd cc)) f) (counts_dictionary o r.shape c refl (λ q n. event_elsewhere P v.number r.log event o q on n)) (concluded_event views id v u at l (numbers same) r.concluded r.histories event follow (unopened_none refl) refl refl)
      (raised_cell views id v u at l (numbers same) r.histories r.raised refl refl o (Some d) c lk.cell (as_many r.shape d c refl (sym (keyed_opening d.kind kind)))) (timed_dropped (r.timing.timed id v at l))
