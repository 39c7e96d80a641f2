-- The lock of a dictionary is taken, and released with an event, in its block or in a new one.
use Rattle.std.proofs.Common.{◌≡◌, ◌≢◌, ◌+◌, ◌*◌, ◌<◌, ◌≤◌, ℕ, zero, suc, true, false, List, [], ◌∷◌, refl, sym, ap, ◌∙◌, subst, inl, arith, length, set, Some, None}
use mathlib.Core.Option.{some}
use lib.ListN.{get_elem?}
use Rattle.std.specs.Prelude.{nat_lt, slice_index}
use Rattle.std.proofs.lemmas.Bool.{both_ways}
use Rattle.jo_value.specs.declared.capacities.TheConstants.{MOST_PASSES}
use Rattle.jo_value.specs.declared.limits.TheConstants.{MOST_STORAGE, MOST_INDEX}
use Rattle.jo_value.specs.declared.value.ObjId.{ObjId}
use Rattle.jo_value.specs.declared.words.cell.Cell.{Cell}
use Rattle.jo_value.specs.Words.{IsCell, cell_bits}
use Rattle.jo_model.specs.Objects.{Object}
use Rattle.jo_model.specs.Heaps.{object_of}
use Rattle.jo_model.specs.Logs.{after}
use Rattle.jo_rule.proofs.Histories.{numbers}
use Rattle.jo_rule.specs.declared.counts.Counts.{Counts}
use Rattle.jo_rule.specs.declared.event.Event.{Event}
use Rattle.jo_rule.specs.declared.event.Event.TheVariants.{Nothing, Refuse}
use Rattle.jo_rule.specs.Names.{cell}
use Rattle.jo_rule.specs.Areas.{Words, put, stored, set_object}
use Rattle.jo_rule.specs.Spots.{values}
use Rattle.jo_rule.specs.Views.{View, Lock, Storage}
use Rattle.jo_rule.specs.Events.{recorded, object_after_event}
use Rattle.jo_rule.specs.Dictionaries.{block_size, dictionary_header, HasProperties}
use Rattle.jo_rule.specs.Contents.{Role, unnamed, fixed, Now, StandsAsDictionary, HasWords}
use Rattle.jo_rule.specs.Owned.{address_of, OwnsStorage}
use Rattle.jo_rule.specs.Locks.{IsHeld, IsUnderLock}
use Rattle.jo_rule.specs.Rule.{Rule}
use Rattle.jo_rule.specs.Steps.{MayTry, MayRelease, IsFilled, locked_cell, taken_lock, with_taken_lock, with_named, unlocked_cell, without_lock, with_lost_try}
use Rattle.jo_model.proofs.WellFormed.{object-at}
use Rattle.jo_model.proofs.ValidEdits.{object_valid}
use Rattle.jo_rule.proofs.Heaps.{formed-after}
use Rattle.jo_rule.proofs.Concluded.{alike_unopened, unopened_none, unopened_one, follows_unopened, at_least_same, closed_dictionary, concluded_same, concluded_event}
use Rattle.jo_rule.proofs.Raised.{as_many, raised_cell}
use Rattle.jo_rule.proofs.Lists.{set_there, same_item, no_item}
use Rattle.jo_rule.proofs.Events.{event_touches, event_valid, event_refuses, event_words}
use Rattle.jo_rule.proofs.Contents.{standing, dictionary_of, as_dictionary, same_properties}
use Rattle.jo_rule.proofs.Locks.{moves_locks, one_holder}
use Rattle.jo_rule.proofs.Naming.{named_roles, named_grows, named_still, named_inside, named_elsewhere, named_own, named_stands}
use Rattle.jo_rule.proofs.Moves.{RolesGrow, found_cell, born_of, still_born, moves, looks, pins_absent, no_pins_settled}
use Rattle.jo_rule.proofs.Sights.{sighted_dropped, stamps_kept}
use Rattle.jo_rule.proofs.Marked.{born_so_cell, born_so_event}
use Rattle.jo_rule.proofs.Timing.{timed_dropped}
use Rattle.jo_rule.specs.Contents.{is_dictionary}
use Rattle.jo_rule.proofs.Counted.{counts_dictionary, event_elsewhere}
use Rattle.jo_rule.proofs.Sets.{object_here, object_else}
use Rattle.jo_rule.proofs.Stores.{numbers_of, saw_same}

-- no role is given
same_roles : {P : ℕ} {s : ℕ → ℕ} {pass : ℕ} {role : ℕ → Role} → ((a : ℕ) → role a ≢ unnamed → a < MOST_STORAGE * P) → RolesGrow P s pass role role
same_roles inside = record { grows = λ a n. refl; still = λ a z f. inl f; inside = inside; elsewhere = λ t k n lt. refl }

-- the first n words of an area
pub words_read : ℕ → (ℕ → ℕ) → List ℕ
words_read zero f = []
words_read (suc n) f = f 0 ∷ words_read n (λ k. f (suc k))

pub read_length : (n : ℕ) (f : ℕ → ℕ) → length (words_read n f) ≡ n
unfolding words_read
read_length zero f = refl
read_length (suc n) f = ap suc (read_length n (λ k. f (suc k)))

pub read_word : (n : ℕ) (f : ℕ → ℕ) (k : ℕ) → k < n → slice_index (words_read n f) k ≡ f k
unfolding words_read
read_word zero f k lt = absurd (omega arith)
read_word (suc n) f zero lt = refl
read_word (suc n) f (suc k) lt = read_word n (λ k. f (suc k)) k (omega arith)

module _ {P : ℕ} {w : Words} {views : List View} (id : ℕ) (v : View) (r : Rule P w views) (at : get_elem? views id ≡ some v) (l : v.live ≡ true) where
  -- nobody holds the lock of an object whose cell is not locked
  pub nobody : (o : ObjId) (c : Cell) → r.cell o ≡ Some c → c.locked ≡ false → (j : ℕ) (y : View) → get_elem? views j ≡ some y → y.live ≡ true → (g : Lock) → y.lock ≡ Some g → g.object ≢ o
  nobody o c e free j y f ly g h same =
      let t = r.locks.held j y f ly g h in
      let both : Some g.cell ≡ Some c = sym t.cell ∙ (ap r.cell same ∙ e) in
      let one : g.cell ≡ c = cc in
      both_ways c.locked free (ap (λ (x : Cell). x.locked) (sym one) ∙ t.bit)

  -- a pass that holds no lock tries to take one where it expects an unlocked dictionary, and the exchange finds another word
  pub loses : (o : ObjId) (expected : Cell) (counts : Counts) → MayTry v expected → w (cell o) ≢ cell_bits expected → Rule P w (set views id (with_lost_try v o expected counts))
  loses o expected counts may other =
      looks id v (with_lost_try v o expected counts) r at l (numbers_of v (with_lost_try v o expected counts) refl refl refl refl refl refl) (saw_same r.log v (with_lost_try v o expected counts) (r.histories.seen id v at l) refl) refl refl refl refl refl refl (r.sights.each id v at l) (r.timing.timed id v at l)

  -- what the holder of a lock knows is the object after the log
  pub holds_content : (g : Lock) → v.lock ≡ Some g → g.settled ≡ true → object_of (after P r.log) g.object ≡ g.content
  holds_content g held settled = (r.locks.held id v at l g held).content settled

  -- The lock of an object is taken by an exchange of its cell, which was not locked. The view then has the object's
  -- content, and the words of its block, and is told what `IsUnderLock` says of them.
  pub takes : (o : ObjId) (c : Cell) (counts : Counts) → MayTry v c → w (cell o) ≡ cell_bits c
      → (content : Object) × (room : ℕ) × (block : List ℕ) × (since : ℕ) × Rule P (put w (cell o) (cell_bits (locked_cell c))) (set views id (with_taken_lock v r.log (taken_lock o c content room block since) c counts))
      × IsUnderLock (after P r.log) o content room (slice_index block)
  takes o c counts may word =
      let none_held = may.no_lock in
      let is = may.is_cell in
      let kind = may.kind in
      let free = may.free in
      let e = found_cell r o c word is in
      let s = standing r.contents o c e in
      let d = dictionary_of s kind in
      let content = object_of (after P r.log) o in
      let room = (r.now o).room in
      let block = words_read (block_size room) (λ k. stored w (c.address + k)) in
      let read : (k : ℕ) → k < block_size room → slice_index block k ≡ stored w (c.address + k) = λ k lt. read_word (block_size room) (λ k. stored w (c.address + k)) k lt in
      let since = (r.now o).sealed in
      let g = taken_lock o c content room block since in
      let u = with_taken_lock v r.log g c counts in
      let c' = locked_cell c in
      let same = numbers_of v u refl refl refl refl refl refl in
      let holder = set_object r.locks.holder o id in (
        content,
        room,
        block,
        since,
        moves id v u r at l same Nothing o c' (r.now o) r.role (λ f. record { kind = kind; structure = (r.allowed.dictionaries f o c e).structure }) (λ call spent f. (let no : Nothing ≡ Refuse call spent = f in absurd cc)) refl (same_roles r.contents.inside) (record { others = λ q n. refl; lengths = λ p n. refl; words = r.contents.words o; valid = r.contents.valid })
            record {
              cell = record { sid = is.sid; address = is.address; owner = is.owner };
              structure = s.structure;
              root = s.root;
              owner = s.owner;
              kind = as_dictionary c.kind (values w) (r.shape c.sid) kind record { settled = d.settled; capacity = d.capacity; header = d.header; words = d.words; properties = λ f. (let no : true ≡ false = f in absurd cc) };
            } (λ q. still_born r o c c' e q ∙ r.contents.born q) (r.owned.storage id v at l) (r.owned.objects id v at l) refl
            (moves_locks views id v u at l l o c' (r.now o) holder r.locks (λ q n. object_else r.locks.holder o q id n) (λ q n. refl) (λ j y n f ly h k. nobody o c e free j y f ly h k)
            (λ h f. subst (IsHeld (stored w) (set_object r.cell o (Some c')) (set_object r.now o (r.now o)) (after P r.log) holder id) (let both : Some g ≡ Some h = f in let one : g ≡ h = cc in one) record {
              cell = object_here r.cell o (Some c');
              bit = refl;
              found = record { unopened = λ z. refl; turned = λ cause z. (let no : None ≡ Some cause = z in absurd cc); keyed = λ z. absurd (both_ways (is_dictionary c.kind) z (ap is_dictionary kind)); block = λ z. absurd (both_ways (is_dictionary c.kind) z (ap is_dictionary kind)) };
              holder_is = object_here r.locks.holder o id;
              settled = ap (λ (x : Now). x.settled) (object_here r.now o (r.now o)) ∙ d.settled;
              sealed = ap (λ (x : Now). x.sealed) (object_here r.now o (r.now o));
              room = ap (λ (x : Now). x.room) (object_here r.now o (r.now o));
              content = λ z. refl;
              size = λ z. read_length (block_size room) (λ k. stored w (c.address + k));
              block = λ z k lt. sym (read k lt);
            })
            (λ q n h f same'. absurd (no_item h v.lock none_held f))
            (λ b. record { view = u; lock = g; there = ap (get_elem? (set views id u)) (object_here r.locks.holder o id) ∙ set_there views id v u at; live = l; held = refl; object = refl }))
            (pins_absent r id o c' (r.now o) r.role (no_pins_settled r o d.settled) (λ i. refl)) (sighted_dropped (r.sights.each id v at l) v.quarantine (stamps_kept (r.sights.each id v at l) o (r.now o) (λ i. refl)))
            r.so (born_so_cell r.born_so o c' c e refl) (λ h. r.marked.shared o c e h) (counts_dictionary o r.shape c' (ap is_dictionary kind) (λ q n. (refl, refl)))
            (concluded_same views id v u at l (numbers same) r.concluded (alike_unopened (unopened_none none_held) (unopened_one g refl refl)) refl (at_least_same v.past.calls v.past.calls refl))
            (raised_cell views id v u at l (numbers same) r.histories r.raised refl refl o (Some c) c' e (as_many r.shape c c' refl refl)) (timed_dropped (r.timing.timed id v at l)),
        record {
          left = refl;
          properties = same_properties (λ k. stored w (c.address + k)) (slice_index block) room content (λ k lo hi. read k hi) (d.properties free);
          header = read 0 (omega arith) ∙ (ap (stored w) (let f : c.address + 0 ≡ c.address = omega arith in f) ∙ r.contents.still c.address (dictionary_header room) d.header);
          capacity = d.capacity;
          words = r.contents.words o;
          formed = object-at (after P r.log) o (formed-after P r.log);
          valid = object_valid (after P r.log) o r.contents.valid;
        },
      )

  -- the lock is released, and the object stands as a dictionary with what the event left
  releases_by : (g : Lock) (event : Event) (address room : ℕ) (role : ℕ → Role) (own : Storage) (counts : Counts) → MayRelease P v g event → IsCell (unlocked_cell g.cell address)
      → RolesGrow P (stored w) v.number r.role role → OwnsStorage (stored w) role v.number own
      → StandsAsDictionary (stored w) role g.object (unlocked_cell g.cell address) (record (r.now g.object) { room = room }) (object_after_event event g.content)
      → Rule P (put w (cell g.object) (cell_bits (unlocked_cell g.cell address))) (set views id (without_lock P v event r.log own counts))
  releases_by g event address room role own counts goes is roles owns stands =
      let held = goes.held in
      let kind = goes.kind in
      let on = goes.on in
      let may = goes.may in
      let o = g.object in
      let t = r.locks.held id v at l g held in
      let s = standing r.contents o g.cell t.cell in
      let d = dictionary_of s kind in
      let c' = unlocked_cell g.cell address in
      let now' : Now = record (r.now o) { room = room } in
      let u = without_lock P v event r.log own counts in
      let same = numbers_of v u refl refl refl refl refl refl in
      let log' = recorded P v.number event r.log in
      let touch = event_touches P v.number event r.log o on (born_of r o g.cell t.cell) in
      let left : object_of (after P log') o ≡ object_after_event event g.content = touch.here ∙ ap (object_after_event event) (t.content (sym t.settled ∙ d.settled)) in
      let lt = (r.histories.seated id v at l).own.1 in
      let few = r.histories.few in
      moves id v u r at l same event o c' now' role (λ f. record { kind = kind; structure = (r.allowed.dictionaries f o g.cell t.cell).structure }) (event_refuses P v event r.log (r.histories.own id v at l) may) refl roles
      record {
        others = touch.others;
        lengths = λ p n. touch.lengths p;
        words = subst HasWords (sym touch.here) (event_words P v event (object_of (after P r.log) o) may (r.contents.words o));
        valid = event_valid P v event r.log (r.histories.seen id v at l) (omega arith) may r.contents.valid;
      }
      record {
        cell = is;
        structure = s.structure;
        root = s.root;
        owner = s.owner;
        kind = as_dictionary g.cell.kind (values w) (r.shape g.cell.sid) kind (subst (StandsAsDictionary (stored w) role o c' now') (sym left) stands);
      } (λ q. still_born r o g.cell c' t.cell q ∙ (r.contents.born q ∙ ap (nat_lt q.serial) (sym (touch.lengths q.pass))))
      owns (r.owned.objects id v at l ∙ sym (touch.lengths v.number)) refl
      (moves_locks views id v u at l l o c' now' r.locks.holder r.locks (λ q n. refl) touch.others (λ j y n f ly h k. one_holder views id v u at l l r.locks j y n f ly g h held k)
      (λ h f. (let no : None ≡ Some h = f in absurd cc)) (λ q n h f e. absurd (n (sym e ∙ ap (λ (x : Lock). x.object) (sym (same_item g h v.lock held f))))) (λ b. (let no : false ≡ true = b in absurd cc)))
      (pins_absent r id o c' now' role (no_pins_settled r o d.settled) (λ i. refl)) (sighted_dropped (r.sights.each id v at l) v.quarantine (stamps_kept (r.sights.each id v at l) o now' (λ i. refl)))
      r.so (born_so_event P v.number event r.log (born_so_cell r.born_so o c' g.cell t.cell refl)) (λ h. r.marked.shared o g.cell t.cell h) (counts_dictionary o r.shape c' (ap is_dictionary kind) (λ q n. event_elsewhere P v.number r.log event o q on n))
      (concluded_event views id v u at l (numbers same) r.concluded r.histories event (follows_unopened P r.log v.number event (closed_dictionary id v r.concluded at l g held kind)) (unopened_none refl) refl refl)
      (raised_cell views id v u at l (numbers same) r.histories r.raised refl refl o (Some g.cell) c' t.cell (as_many r.shape g.cell c' refl refl)) (timed_dropped (r.timing.timed id v at l))

  -- in the block that was held, whose words have the properties that the event left
  pub releases : (g : Lock) (event : Event) (counts : Counts) → MayRelease P v g event → HasProperties (slice_index g.block) g.room (object_after_event event g.content)
      → Rule P (put w (cell g.object) (cell_bits (unlocked_cell g.cell g.cell.address))) (set views id (without_lock P v event r.log v.storage counts))
  releases g event counts goes has =
      let held = goes.held in
      let kind = goes.kind in
      let o = g.object in
      let t = r.locks.held id v at l g held in
      let s = standing r.contents o g.cell t.cell in
      let d = dictionary_of s kind in
      let room : (r.now o).room ≡ g.room = t.room in
      releases_by g event g.cell.address g.room r.role v.storage counts goes (record { sid = s.cell.sid; address = s.cell.address; owner = s.cell.owner }) (same_roles r.contents.inside) (r.owned.storage id v at l)
      record {
        settled = d.settled;
        capacity = subst (λ (m : ℕ). m ≤ MOST_INDEX + 1) room d.capacity;
        header = d.header ∙ ap (λ (m : ℕ). fixed (dictionary_header m)) room;
        words = λ k lo hi. d.words k lo (subst (λ (m : ℕ). k < block_size m) (sym room) hi);
        properties = λ f. same_properties (slice_index g.block) (λ k. stored w (g.cell.address + k)) g.room (object_after_event event g.content) (λ k lo hi. t.block kind k hi) has;
      }

  -- in a new block of the own storage, which then is named
  pub releases_moved : (g : Lock) (event : Event) (k room : ℕ) (counts : Counts) → P ≤ MOST_PASSES → MayRelease P v g event → IsFilled v.storage k room (object_after_event event g.content)
      → Rule P (put w (cell g.object) (cell_bits (unlocked_cell g.cell (address_of v.number k)))) (set views id (without_lock P v event r.log (with_named v.storage k (block_size room)) counts))
  releases_moved g event k room counts most goes filled =
      let held = goes.held in
      let kind = goes.kind in
      let capacity = filled.capacity in
      let from = filled.from in
      let to = filled.to in
      let head = filled.header in
      let has = filled.properties in
      let o = g.object in
      let t = r.locks.held id v at l g held in
      let s = standing r.contents o g.cell t.cell in
      let own = r.owned.storage id v at l in
      let lt = (r.histories.seated id v at l).own.1 in
      let few = r.histories.few in
      let all = own.used in
      let c' = unlocked_cell g.cell (address_of v.number k) in
      releases_by g event (address_of v.number k) room (named_roles r.role (address_of v.number k) room o) (with_named v.storage k (block_size room)) counts goes (record { sid = s.cell.sid; address = omega arith; owner = s.cell.owner })
      (record { grows = named_grows own o k room from to; still = named_still own o k room from to head; inside = named_inside own o k room from to P (omega arith) r.contents.inside; elsewhere = named_elsewhere own o k room from to }) (named_own own o k room from to) (named_stands own o k room from to c' (r.now o) (object_after_event event g.content) (dictionary_of s kind).settled capacity refl has)
