-- The steps that store or exchange a value in place, and those that store the word of a slot that no key has.
use Rattle.std.proofs.Common.{◌≡◌, ◌≢◌, ◌<◌, ◌≤◌, ℕ, Bool, true, false, eqb, List, [], length, set, refl, sym, ap, ◌∙◌, subst, inl, ⊎_elim, arith, Some, None}
use mathlib.Core.Option.{some}
use lib.ListN.{get_elem?}
use Rattle.std.specs.Prelude.{nat_eq, ◌&&◌, if◌then◌else◌}
use Rattle.std.proofs.lemmas.Bool.{both_ways, cases_eq, and_parts, and_from, eq-eqb, eqb-true}
use Rattle.jo_value.specs.declared.value.Key.{Key}
use Rattle.jo_value.specs.declared.value.Key.TheVariants.{Name, Index}
use Rattle.jo_value.specs.declared.value.NameId.{NameId}
use Rattle.jo_value.specs.declared.value.ObjId.{ObjId}
use Rattle.jo_value.specs.declared.words.cell.Cell.{Cell}
use Rattle.jo_value.specs.Values.{is_same_object}
use Rattle.jo_value.specs.Words.{slot_bits}
use Rattle.jo_model.specs.Objects.{Object, property}
use Rattle.jo_model.specs.Heaps.{objects_of, object_of}
use Rattle.jo_model.specs.Logs.{Log, after}
use Rattle.jo_model.specs.Valid.{IsValidHeap}
use Rattle.jo_rule.specs.declared.counts.Counts.{Counts}
use Rattle.jo_rule.specs.declared.event.Event.{Event}
use Rattle.jo_rule.specs.Names.{WordName, epoch, inline}
use Rattle.jo_rule.specs.Areas.{Words, put, acknowledgements, stored, set_number}
use Rattle.jo_rule.specs.Timing.{ViewIsTimed}
use Rattle.jo_rule.specs.Marks.{Mark, names_added, names_removed}
use Rattle.jo_rule.proofs.Lasting.{lasting_same}
use Rattle.jo_rule.proofs.Counted.{counted_log, event_counts, event_elsewhere}
use Rattle.jo_rule.specs.Shapes.{Shape, offset_of, IsShape}
use Rattle.jo_rule.specs.Spots.{Spot, offset, element, Location, beside, stored_at, name_of_place, values, spot_of}
use Rattle.jo_rule.specs.Roles.{Role, unnamed, fixed, value, dictionary, role_at, frame}
use Rattle.jo_rule.specs.Dictionaries.{slot_in}
use Rattle.jo_rule.specs.Contents.{Now, is_keyed, is_segmented, HasWords, Standing, Contents}
use Rattle.jo_rule.specs.Puts.{PutsIn, MayPut, AllClear}
use Rattle.jo_rule.proofs.Events.{event_touches, event_words, event_valid, event_refuses}
use Rattle.jo_rule.proofs.Moves.{born_of}
use Rattle.jo_rule.specs.Views.{View, Pin, Licence, KnownWord, Storage, Births}
use Rattle.jo_rule.specs.Owned.{address_of, OwnsStorage}
use Rattle.jo_rule.specs.Events.{recorded, past_after}
use Rattle.jo_rule.specs.Rule.{Rule}
use Rattle.jo_rule.specs.Steps.{with_known}
use Rattle.jo_rule.specs.Sights.{watched, IsTight, Follows, HasRight, IsKnown, told, stamp_in, Sights}
use Rattle.jo_rule.specs.Concluded.{NotOpened}
use Rattle.jo_rule.specs.Views.{Past}
use Rattle.jo_rule.proofs.Concluded.{follows_unopened, alike_same, at_least_same, concluded_same, concluded_event}
use Rattle.jo_rule.proofs.Raised.{debts_of, raised_same}
use Rattle.jo_rule.proofs.Lists.{one_there}
use Rattle.jo_rule.proofs.Sets.{cases_object, number_here, number_else}
use Rattle.jo_rule.proofs.Names.{same_object, object_is}
use Rattle.jo_rule.proofs.Keys.{spot_cases, spot_name, one_key, offset_named}
use Rattle.jo_rule.proofs.Layouts.{same_spot}
use Rattle.jo_rule.proofs.Histories.{same_placements, same_histories, SameItems, RefusesLawfully, begins_recorded, event_placements, event_histories, numbers}
use Rattle.jo_rule.proofs.Contents.{standing, places_of, unsettled_places, puts_contents, stores_contents}
use Rattle.jo_rule.proofs.Owned.{goes_owned, same_owned, owns_else, same_structures, goes_unmade}
use Rattle.jo_rule.proofs.Locks.{puts_locks, same_locks}
use Rattle.jo_rule.proofs.Marked.{born_so_event, marked_event}
use Rattle.jo_rule.proofs.Timing.{timing_set}
use Rattle.jo_rule.proofs.Allowed.{allowed_same}
use Rattle.jo_rule.proofs.Sights.{continues, stays, sighted_put, knows_else, sights_set, follows_at}
use Rattle.jo_rule.proofs.Moves.{cases_place, stores_else, held_else}
use Rattle.jo_rule.proofs.Stores.{numbers_of}
use Rattle.jo_rule.proofs.Looks.{keyed_of, still, pin_keyed, clash, clash_swap, flat_not_segmented, apart, told_split}

-- ---- the words of values, where one of them is stored

else_by : (w : Words) (o q : ObjId) (j k x : ℕ) (b : Bool) → (is_same_object q o && nat_eq k j) ≡ b → beside q k ≢ beside o j → (if b then x else w (inline q k)) ≡ w (inline q k)
else_by w o q j k x true e n =
    let p = and_parts (is_same_object q o) (eqb k j) e in
    let a = object_is q o p.0 in
    let b = eqb-true k j p.1 in
    absurd (n (λ i. beside (a i) (b i)))
else_by w o q j k x false e n = refl

pub place_else : (w : Words) (a : Location) (x : ℕ) (p : Location) → p ≢ a → values (put w (name_of_place a) x) p ≡ values w p
place_else w (stored_at a) x p n = stores_else w a x p n
place_else w (beside o j) x (beside q k) n = else_by w o q j k x (is_same_object q o && nat_eq k j) refl n
place_else w (beside o j) x (stored_at b) n = refl

pub place_here : (w : Words) (a : Location) (x : ℕ) → values (put w (name_of_place a) x) a ≡ x
place_here w (stored_at a) x = number_here (stored w) a x
place_here w (beside o j) x = rw (and_from (is_same_object o o) (eqb j j) (same_object o) (eq-eqb j j refl)) refl

-- a key of a pin at the slot of a current key is that key
pub same_key_at : {role : ℕ → Role} {here there : Shape} {c : Cell} {now : Now} {number : ℕ} {p : Pin} (q k : Key) (y : Spot) → IsShape here → ((j : ℕ) (name : NameId) → 0 < now.stamps j → offset_of here name ≢ Some j) → Follows role here there c now number p → spot_of there q ≡ Some y → spot_of here k ≡ Some y → q ≡ k
same_key_at {role} {here} {there} {c} {now} {number} {p} q k y formed unused f e at = ⊎_elim
    (λ (t : (name : NameId) × (j : ℕ) × (q ≡ Name name) × (y ≡ offset j) × (offset_of there name ≡ Some j)). ⊎_elim
    (λ (g : offset_of here t.0 ≡ Some t.1). one_key here formed q k y (ap (spot_of here) t.2 ∙ (spot_name here t.0 t.1 g ∙ ap (λ (x : Spot). Some x) (sym t.3))) at)
    (λ (g : p.epoch < now.stamps t.1).
    let b = offset_named here k t.1 (at ∙ ap (λ (x : Spot). Some x) t.3) in
    absurd (unused t.1 b.0 (omega arith) b.2)) (f.names t.0 t.1 t.4))
    (λ (t : (i : ℕ) × (q ≡ Index i) × (y ≡ element i)). one_key here formed q k y (ap (spot_of here) t.1 ∙ ap (λ (x : Spot). Some x) (sym t.2)) at) (spot_cases there q y e)

-- What a store of a value owes: it is the word of a key of an object that is not settled, at its current place, and no other view has a
-- right to that slot. The event changes the object there alone.
pub record IsPut {P : ℕ} {w : Words} {views : List View} (r : Rule P w views) (id : ℕ) (v : View) (event : Event) (o : ObjId) (c : Cell) (key : Key) (y : Spot) (a : Location) (x : ℕ) : Type 0 where
  pub unopened : NotOpened v.lock
  pub law : RefusesLawfully v.number r.log event
  pub cell : r.cell o ≡ Some c
  pub loose : (r.now o).settled ≡ false
  pub spot : spot_of (r.shape c.sid) key ≡ Some y
  pub place : frame r.role (r.now o).segmented o c.address y ≡ Some a
  pub puts : PutsIn (object_of (after P r.log) o) (object_of (after P (recorded P v.number event r.log)) o) key x
  pub others : (q : ObjId) → q ≢ o → object_of (after P (recorded P v.number event r.log)) q ≡ object_of (after P r.log) q
  pub lengths : (p : ℕ) → length (objects_of (after P (recorded P v.number event r.log)) p) ≡ length (objects_of (after P r.log) p)
  pub words : HasWords (object_of (after P (recorded P v.number event r.log)) o)
  pub valid : IsValidHeap (after P (recorded P v.number event r.log))
  pub steady : (q : ObjId) → (names_added P q (recorded P v.number event r.log) ≡ names_added P q r.log) × (names_removed P q (recorded P v.number event r.log) ≡ names_removed P q r.log)
  pub unknown : (j : ℕ) (z : View) → j ≢ id → get_elem? views j ≡ some z → z.live ≡ true → HasRight r.shape z.sight.licences z.lock z.sets.fired o y → ⊥

-- the view after it
abbrev pub putting : ℕ → View → Event → Log Mark → List KnownWord → Counts → View
putting passes v event log known counts = record v { past = past_after passes v.number event log v.past.calls; sight = record v.sight { known = known }; counts = counts }

module _ {P : ℕ} {w : Words} {views : List View} (id : ℕ) (v : View) (r : Rule P w views) (at : get_elem? views id ≡ some v) (l : v.live ≡ true) (event : Event) (o : ObjId) (c : Cell) (key : Key) (y : Spot) where
  module _ (a : Location) (x : ℕ) (h : IsPut r id v event o c key y a x) where
    log' : Log Mark
    log' = recorded P v.number event r.log

    role_here : role_at r.role a ≡ value o y
    role_here = let st = standing r.contents o c h.cell in (places_of st (unsettled_places st h.loose)).block.mine y a h.place

    -- each pin that has the place sees the new value
    hits : (j : ℕ) (z : View) → get_elem? views j ≡ some z → z.live ≡ true → (k : ℕ) (p : Pin) → get_elem? z.sight.pins k ≡ some p → is_keyed p.cell.kind ≡ true → (q : Key) (s : Spot) → spot_of (r.shape p.cell.sid) q ≡ Some s → frame r.role (is_segmented p.cell.kind) p.object p.cell.address s ≡ Some a
        → values (put w (name_of_place a) x) a ≡ slot_bits (slot_in (property (object_of (after P (recorded P v.number event r.log)) p.object) q))
    hits j z e lz k p f keyed q s at_s there =
        let g = r.sights.each j z e lz in
        let both = same_spot r.role a s y ((g.sees k p f keyed).block.mine s a there) role_here in
        let cell : r.cell p.object ≡ Some c = ap r.cell both.0 ∙ h.cell in
        let st = standing r.contents o c h.cell in
        let places = places_of st (unsettled_places st h.loose) in
        let fol = follows_at c cell (g.follows k p f keyed) in
        let fol' = subst (λ (n : Now). Follows r.role (r.shape c.sid) (r.shape p.cell.sid) c n z.number p) (ap r.now both.0) fol in
        let same = same_key_at q key s (r.shaped.formed c.sid) places.unused fol' at_s (h.spot ∙ ap (λ (t : Spot). Some t) (sym both.1)) in
        place_here w a x ∙ (h.puts.here ∙ ap (λ (t : ObjId × Key). slot_bits (slot_in (property (object_of (after P (recorded P v.number event r.log)) t.0) t.1))) (λ i. (sym both.0 i, sym same i)))

    unknown_there : (j : ℕ) (z : View) → j ≢ id → get_elem? views j ≡ some z → z.live ≡ true → (q : ObjId) (s : Spot) → role_at r.role a ≡ value q s → HasRight r.shape z.sight.licences z.lock z.sets.fired q s → ⊥
    unknown_there j z n e lz q s f right =
        let both = same_spot r.role a s y f role_here in
        h.unknown j z n e lz (subst (λ (t : ObjId × Spot). HasRight r.shape z.sight.licences z.lock z.sets.fired t.0 t.1) (λ i. (both.0 i, both.1 i)) right)

    all_words : (q : ObjId) → HasWords (object_of (after P (recorded P v.number event r.log)) q)
    all_words q = ⊎_elim (λ (e : q ≡ o). subst (λ (x : ObjId). HasWords (object_of (after P (recorded P v.number event r.log)) x)) (sym e) h.words) (λ (n : q ≢ o). subst HasWords (sym (h.others q n)) (r.contents.words q)) (cases_object q o)

    settled_kept : (q : ObjId) → (r.now q).settled ≡ true → object_of (after P (recorded P v.number event r.log)) q ≡ object_of (after P r.log) q
    settled_kept q s = h.others q (λ e. both_ways (r.now q).settled (ap (λ (t : ObjId). (r.now t).settled) e ∙ h.loose) s)

  -- the law
  pub puts_at : (a : Location) (x : ℕ) (known : List KnownWord) (counts : Counts) → IsPut r id v event o c key y a x
      → ((name : WordName) (word : ℕ) → told known name ≡ Some word → IsKnown (values (put w (name_of_place a) x)) r.shape r.role v.sight.licences v.lock v.sets.fired name word)
      → Rule P (put w (name_of_place a) x) (set views id (putting P v event r.log known counts))
  puts_at (stored_at b) x known counts h knows' =
      let a = stored_at b in
      let u = putting P v event r.log known counts in
      let same : SameItems v u = numbers_of v u refl refl refl refl refl refl in
      let role_is = role_here a x h in
      let named : r.role b ≢ unnamed = λ e. let no : value o y ≡ unnamed = sym role_is ∙ e in cc in
      let loose : (word : ℕ) → r.role b ≢ fixed word = λ word e. let no : value o y ≡ fixed word = sym role_is ∙ e in cc in
      let no_words : (q : ObjId) → r.role b ≢ dictionary q = λ q e. let no : value o y ≡ dictionary q = sym role_is ∙ e in cc in
      let more = continues r.log (recorded P v.number event r.log) (begins_recorded P v.number event r.log) in
      let t = r.timing.timed id v at l in record {
        log = recorded P v.number event r.log;
        made = r.made;
        home = r.home;
        node = r.node;
        shape = r.shape;
        cell = r.cell;
        role = r.role;
        now = r.now;
        so = r.so;
        placements = event_placements views id v u at l (numbers same) r.histories event h.law refl r.placements;
        histories = event_histories views id v u at l (numbers same) r.histories event h.law refl r.placements;
        coded = r.coded;
        shaped = r.shaped;
        contents = puts_contents r.contents o c key y a r.shaped.formed (place_else w a x) h.cell h.loose h.spot h.place (subst (PutsIn (object_of (after P r.log) o) (object_of (after P (recorded P v.number event r.log)) o) key) (sym (place_here w a x)) h.puts) h.others h.lengths h.words h.valid;
        owned = goes_owned views id u (λ j z n e lz g. owns_else g b x (λ k le lt f. named (ap r.role (sym f) ∙ g.nameless k le lt))) (λ j z n e lz. h.lengths z.number)
            (owns_else (r.owned.storage id v at l) b x (λ k le lt f. named (ap r.role (sym f) ∙ (r.owned.storage id v at l).nameless k le lt))) (r.owned.objects id v at l ∙ sym (h.lengths v.number)) r.owned;
        structures = same_structures views id v u at l refl refl r.structures;
        locks = puts_locks views id v u at l l refl (settled_kept a x h) (λ j z e lz g f s i li. held_else r j z e lz g f b x loose (no_words g.object) s i li) r.locks;
        unborn = r.unborn;
        unmade = goes_unmade (λ t k le lt lk f. f) (λ t k le lt lk f. number_else (stored w) b (address_of t k) x (λ g. named (ap r.role (sym g) ∙ f))) (λ t le. h.lengths t) r.unmade;
        sights = sights_set views id u r.sights
            (λ j z n e lz g. sighted_put g z.sight.known a (all_words a x h) h.valid (λ q. cases_place q a) more (place_else w a x) (hits a x h j z e lz) (knows_else g a (place_else w a x) (unknown_there a x h j z n e lz)))
            (sighted_put (r.sights.each id v at l) known a (all_words a x h) h.valid (λ q. cases_place q a) more (place_else w a x) (hits a x h id v at l) knows');
        born_so = born_so_event P v.number event r.log r.born_so;
        marked = marked_event P v.number event r.log r.marked;
        allowed = allowed_same views id v u at l refl r.allowed;
        timing = timing_set views id u r.timing record { out = t.out; inside = t.inside; polled = t.polled; pins = t.pins; largest = t.largest; loaded = t.loaded };
        lasting = lasting_same views id v u at l refl r.lasting;
        counted = counted_log r.counted h.steady;
        concluded = concluded_event views id v u at l (numbers same) r.concluded r.histories event (follows_unopened P r.log v.number event h.unopened) h.unopened refl refl;
        raised = raised_same views id v u at l (numbers same) r.histories r.raised refl refl;
      }
  puts_at (beside q m) x known counts h knows' =
      let a = beside q m in
      let u = putting P v event r.log known counts in
      let same : SameItems v u = numbers_of v u refl refl refl refl refl refl in
      let role_is = role_here a x h in
      let owner : q ≡ o = (let both = same_spot r.role a (offset m) y refl role_is in both.0) in
      let more = continues r.log (recorded P v.number event r.log) (begins_recorded P v.number event r.log) in
      let t = r.timing.timed id v at l in record {
        log = recorded P v.number event r.log;
        made = r.made;
        home = r.home;
        node = r.node;
        shape = r.shape;
        cell = r.cell;
        role = r.role;
        now = r.now;
        so = r.so;
        placements = event_placements views id v u at l (numbers same) r.histories event h.law refl r.placements;
        histories = event_histories views id v u at l (numbers same) r.histories event h.law refl r.placements;
        coded = r.coded;
        shaped = r.shaped;
        contents = puts_contents r.contents o c key y a r.shaped.formed (place_else w a x) h.cell h.loose h.spot h.place (subst (PutsIn (object_of (after P r.log) o) (object_of (after P (recorded P v.number event r.log)) o) key) (sym (place_here w a x)) h.puts) h.others h.lengths h.words h.valid;
        owned = goes_owned views id u (λ j z n e lz g. g) (λ j z n e lz. h.lengths z.number) (r.owned.storage id v at l) (r.owned.objects id v at l ∙ sym (h.lengths v.number)) r.owned;
        structures = same_structures views id v u at l refl refl r.structures;
        locks = puts_locks views id v u at l l refl (settled_kept a x h) (λ j z e lz g f s i li. refl) r.locks;
        unborn = record {
          children = r.unborn.children;
          transitions = r.unborn.transitions;
          writes = r.unborn.writes;
          offsets = λ p k e. place_else w a x (beside p k) (λ f. let one : p ≡ q = cc in let no : None ≡ Some c = sym e ∙ (ap r.cell (one ∙ owner) ∙ h.cell) in cc) ∙ r.unborn.offsets p k e;
        };
        unmade = goes_unmade (λ t k le lt lk f. f) (λ t k le lt lk f. refl) (λ t le. h.lengths t) r.unmade;
        sights = sights_set views id u r.sights
            (λ j z n e lz g. sighted_put g z.sight.known a (all_words a x h) h.valid (λ q. cases_place q a) more (place_else w a x) (hits a x h j z e lz) (knows_else g a (place_else w a x) (unknown_there a x h j z n e lz)))
            (sighted_put (r.sights.each id v at l) known a (all_words a x h) h.valid (λ q. cases_place q a) more (place_else w a x) (hits a x h id v at l) knows');
        born_so = born_so_event P v.number event r.log r.born_so;
        marked = marked_event P v.number event r.log r.marked;
        allowed = allowed_same views id v u at l refl r.allowed;
        timing = timing_set views id u r.timing record { out = t.out; inside = t.inside; polled = t.polled; pins = t.pins; largest = t.largest; loaded = t.loaded };
        lasting = lasting_same views id v u at l refl r.lasting;
        counted = counted_log r.counted h.steady;
        concluded = concluded_event views id v u at l (numbers same) r.concluded r.histories event (follows_unopened P r.log v.number event h.unopened) h.unopened refl refl;
        raised = raised_same views id v u at l (numbers same) r.histories r.raised refl refl;
      }

-- ---- kinds of step in place

module _ {P : ℕ} {w : Words} {views : List View} (id : ℕ) (v : View) (r : Rule P w views) (at : get_elem? views id ≡ some v) (l : v.live ≡ true) where
  -- what an event on an object gives, where it puts a slot
  is_put : (event : Event) (o : ObjId) (c : Cell) (key : Key) (y : Spot) (a : Location) (x : ℕ) → r.cell o ≡ Some c → (r.now o).settled ≡ false → spot_of (r.shape c.sid) key ≡ Some y → frame r.role (r.now o).segmented o c.address y ≡ Some a → MayPut P v event o (r.shape c.sid) key (values w a) x
      → ((j : ℕ) (z : View) → j ≢ id → get_elem? views j ≡ some z → z.live ≡ true → HasRight r.shape z.sight.licences z.lock z.sets.fired o y → ⊥) → IsPut r id v event o c key y a x
  is_put event o c key y a x cell loose spot place may unknown =
      let st = standing r.contents o c cell in
      let places = places_of st (unsettled_places st loose) in
      let touch = event_touches P v.number event r.log o may.on (born_of r o c cell) in
      let lt = (r.histories.seated id v at l).own.1 in
      let few = r.histories.few in record {
        unopened = may.unopened;
        law = event_refuses P v event r.log (r.histories.own id v at l) may.may;
        cell = cell;
        loose = loose;
        spot = spot;
        place = place;
        puts = subst (λ (z : Object). PutsIn (object_of (after P r.log) o) z key x) (sym touch.here) (may.puts (object_of (after P r.log) o) places.keys.names (places.keys.values key y a spot place));
        others = touch.others;
        lengths = touch.lengths;
        words = subst HasWords (sym touch.here) (event_words P v event (object_of (after P r.log) o) may.may (r.contents.words o));
        valid = event_valid P v event r.log (r.histories.seen id v at l) (omega arith) may.may r.contents.valid;
        steady = λ q. ⊎_elim
            (λ (e : q ≡ o).
            let n = event_counts P v.number r.log event o may.on in
            let s = may.steady (object_of (after P r.log) o) places.keys.names (places.keys.values key y a spot place) in
            let n0 = n.0 in
            let n1 = n.1 in
            let s0 = s.0 in
            let s1 = s.1 in
            subst (λ (x : ObjId). (names_added P x (recorded P v.number event r.log) ≡ names_added P x r.log) × (names_removed P x (recorded P v.number event r.log) ≡ names_removed P x r.log)) (sym e) (omega (arith, n0, s0), omega (arith, n1, s1)))
            (λ (n : q ≢ o). event_elsewhere P v.number r.log event o q may.on n) (cases_object q o);
        unknown = unknown;
      }

  -- A licensed owner stores a value in place: no other pass may change the object.
  pub stores_value : (i : ℕ) (lic : Licence) (event : Event) (key : Key) (y : Spot) (a : Location) (x : ℕ) (counts : Counts) → get_elem? v.sight.licences i ≡ some lic → lic.writes ≡ true → spot_of (r.shape lic.pin.cell.sid) key ≡ Some y → frame r.role false lic.pin.object lic.pin.cell.address y ≡ Some a
      → MayPut P v event lic.pin.object (r.shape lic.pin.cell.sid) key (values w a) x → Rule P (put w (name_of_place a) x) (set views id (putting P v event r.log (with_known v.sight (name_of_place a) x).known counts))
  stores_value i lic event key y a x counts has writes spot place may =
      let o = lic.pin.object in
      let c = lic.pin.cell in
      let cell = still r id v at l i lic has writes in
      let st = standing r.contents o c cell in
      let h = r.sights.each id v at l in
      let plain = (h.licensed i lic has).plain in
      let k = keyed_of st (pin_keyed r id v at l i lic has) in
      let flat : (r.now o).segmented ≡ false = k.0.segmented_is ∙ flat_not_segmented c.kind plain.flat in
      let there : frame r.role (r.now o).segmented o c.address y ≡ Some a = subst (λ (b : Bool). frame r.role b o c.address y ≡ Some a) (sym flat) place in
      let right : HasRight r.shape v.sight.licences v.lock v.sets.fired o y = inl (record { index = i; licence = lic; is = has; object = refl; writes = writes }) in
      let role_is : role_at r.role a ≡ value o y = k.1.block.mine y a there in
      let is = is_put event o c key y a x cell k.0.settled spot there may (λ j z n e lz b. clash r id j v z n at l e lz o y right b) in
      let old : (name : WordName) (word : ℕ) → told v.sight.known name ≡ Some word → (name ≢ name_of_place a) → IsKnown (values (put w (name_of_place a) x)) r.shape r.role v.sight.licences v.lock v.sets.fired name word = λ name word e n.
      let q = h.knows name word e in record { place = q.place; name_is = q.name_is; is = place_else w a x q.place (λ f. n (q.name_is ∙ ap name_of_place f)) ∙ q.is; object = q.object; spot = q.spot; role_is = q.role_is; right = q.right } in
      puts_at id v r at l event o c key y a x (with_known v.sight (name_of_place a) x).known counts is
      (λ name word e. ⊎_elim
      (λ (t : (name ≡ name_of_place a) × (x ≡ word)). record { place = a; name_is = t.0; is = place_here w a x ∙ t.1; object = o; spot = y; role_is = role_is; right = right })
      (λ (t : (name ≢ name_of_place a) × (told v.sight.known name ≡ Some word)). old name word t.1 t.0) (told_split v.sight.known name (name_of_place a) x word e))

  -- A pass with a tight pin exchanges a value in place. The word that was there is that of the key.
  pub swaps_value : (i : ℕ) (p : Pin) (event : Event) (key : Key) (y : Spot) (a : Location) (x : ℕ) (counts : Counts) → get_elem? v.sight.pins i ≡ some p → is_keyed p.cell.kind ≡ true → IsTight v.number p → spot_of (r.shape p.cell.sid) key ≡ Some y → frame r.role (is_segmented p.cell.kind) p.object p.cell.address y ≡ Some a
      → ((c : Cell) → r.cell p.object ≡ Some c → MayPut P v event p.object (r.shape c.sid) key (values w a) x)
      → (values w a ≡ slot_bits (slot_in (property (object_of (after P r.log) p.object) key))) × Rule P (put w (name_of_place a) x) (set views id (putting P v event r.log [] counts))
  swaps_value i p event key y a x counts has keyed tight spot place may =
      let o = p.object in
      let h = r.sights.each id v at l in
      let f = h.follows i p has keyed in
      let c = f.current in
      let cell = f.is in
      let fol = f.follows in
      let here : spot_of (r.shape c.sid) key ≡ Some y = ⊎_elim
      (λ (t : (name : NameId) × (j : ℕ) × (key ≡ Name name) × (y ≡ offset j) × (offset_of (r.shape p.cell.sid) name ≡ Some j)). ap (spot_of (r.shape c.sid)) t.2 ∙ (spot_name (r.shape c.sid) t.0 t.1 (fol.tight tight t.0 t.1 t.4) ∙ ap (λ (s : Spot). Some s) (sym t.3)))
      (λ (t : (m : ℕ) × (key ≡ Index m) × (y ≡ element m)). ap (spot_of (r.shape c.sid)) t.1 ∙ ap (λ (s : Spot). Some s) (sym t.2)) (spot_cases (r.shape p.cell.sid) key y spot) in
      let there = fol.current tight y a place in
      let st = standing r.contents o c cell in
      let places = places_of st (unsettled_places st fol.loose) in (
        places.keys.values key y a here there,
        puts_at id v r at l event o c key y a x [] counts (is_put event o c key y a x cell fol.loose here there (may c cell) (λ j z n e lz b. clash_swap r id j v z n at l e lz i p has keyed tight c cell key y here b))
            (λ name word e. (let no : None ≡ Some word = e in absurd cc)),
      )

-- a word that is a value of a born object is stored, and no event is placed
stores_location : {P : ℕ} {w : Words} {views : List View} (id : ℕ) (v u : View) (r : Rule P w views) (at : get_elem? views id ≡ some v) (l : v.live ≡ true) (o : ObjId) (c : Cell) (y : Spot) (a : Location) (x : ℕ) → SameItems v u → r.cell o ≡ Some c → role_at r.role a ≡ value o y → v.past ≡ u.past → v.storage ≡ u.storage → v.births ≡ u.births → v.lock ≡ u.lock → debts_of v ≡ debts_of u → v.time.unowed ≡ u.time.unowed → u.live ≡ true
    → Contents P (values (put w (name_of_place a) x)) r.cell r.shape r.role r.now (after P r.log) → Sights P (w epoch) (values (put w (name_of_place a) x)) r.cell r.shape r.role r.now (watched w) r.log (set views id u) → ViewIsTimed (w epoch) (acknowledgements w) id u → Rule P (put w (name_of_place a) x) (set views id u)
stores_location {P} {w} {views} id v u r at l o c y (stored_at b) x same cell role_is past store births lock owed unowed lu contents' sights' times =
    let named : r.role b ≢ unnamed = λ e. let no : value o y ≡ unnamed = sym role_is ∙ e in cc in
    let loose : (word : ℕ) → r.role b ≢ fixed word = λ word e. let no : value o y ≡ fixed word = sym role_is ∙ e in cc in
    let no_words : (q : ObjId) → r.role b ≢ dictionary q = λ q e. let no : value o y ≡ dictionary q = sym role_is ∙ e in cc in record {
      log = r.log;
      made = r.made;
      home = r.home;
      node = r.node;
      shape = r.shape;
      cell = r.cell;
      role = r.role;
      now = r.now;
      so = r.so;
      placements = same_placements views id v u at l (numbers same) past r.placements;
      histories = same_histories views id v u at l (numbers same) past r.histories;
      coded = r.coded;
      shaped = r.shaped;
      contents = contents';
      owned = goes_owned views id u (λ j z n e lz g. owns_else g b x (λ k le lt f. named (ap r.role (sym f) ∙ g.nameless k le lt))) (λ j z n e lz. refl)
          (subst (λ (q : ℕ × Storage). OwnsStorage (set_number (stored w) b x) r.role q.0 q.1) (λ i. (same.number i, store i)) (owns_else (r.owned.storage id v at l) b x (λ k le lt f. named (ap r.role (sym f) ∙ (r.owned.storage id v at l).nameless k le lt))))
          (subst (λ (q : ℕ × Births). q.1.objects ≡ length (objects_of (after P r.log) q.0)) (λ i. (same.number i, births i)) (r.owned.objects id v at l)) r.owned;
      structures = same_structures views id v u at l same.number (ap Rattle.jo_rule.specs.Owned.structures_in births) r.structures;
      locks = same_locks views id v u at l lu lock (λ j z e lz g f s i li. held_else r j z e lz g f b x loose (no_words g.object) s i li) r.locks;
      unborn = r.unborn;
      unmade = goes_unmade (λ t k le lt lk f. f) (λ t k le lt lk f. number_else (stored w) b (address_of t k) x (λ g. named (ap r.role (sym g) ∙ f))) (λ t le. refl) r.unmade;
      sights = sights';
      born_so = r.born_so;
      marked = r.marked;
      allowed = allowed_same views id v u at l same.flat r.allowed;
      timing = timing_set views id u r.timing times;
      lasting = lasting_same views id v u at l same.lasting r.lasting;
      counted = r.counted;
      concluded = concluded_same views id v u at l (numbers same) r.concluded (alike_same lock) (ap (λ (q : Births). q.nodes) births) (at_least_same v.past.calls u.past.calls (ap (λ (q : Past). q.calls) past));
      raised = raised_same views id v u at l (numbers same) r.histories r.raised owed unowed;
    }
stores_location {P} {w} {views} id v u r at l o c y (beside q m) x same cell role_is past store births lock owed unowed lu contents' sights' times =
    let owner : q ≡ o = (let both = same_spot r.role (beside q m) (offset m) y refl role_is in both.0) in record {
      log = r.log;
      made = r.made;
      home = r.home;
      node = r.node;
      shape = r.shape;
      cell = r.cell;
      role = r.role;
      now = r.now;
      so = r.so;
      placements = same_placements views id v u at l (numbers same) past r.placements;
      histories = same_histories views id v u at l (numbers same) past r.histories;
      coded = r.coded;
      shaped = r.shaped;
      contents = contents';
      owned = same_owned views id u v at l same.number store (ap (λ (q : Births). q.objects) births) r.owned;
      structures = same_structures views id v u at l same.number (ap Rattle.jo_rule.specs.Owned.structures_in births) r.structures;
      locks = same_locks views id v u at l lu lock (λ j z e lz g f s i li. refl) r.locks;
      unborn = record {
        children = r.unborn.children;
        transitions = r.unborn.transitions;
        writes = r.unborn.writes;
        offsets = λ p k e. place_else w (beside q m) x (beside p k) (λ f. let one : p ≡ q = cc in let no : None ≡ Some c = sym e ∙ (ap r.cell (one ∙ owner) ∙ cell) in cc) ∙ r.unborn.offsets p k e;
      };
      unmade = r.unmade;
      sights = sights';
      born_so = r.born_so;
      marked = r.marked;
      allowed = allowed_same views id v u at l same.flat r.allowed;
      timing = timing_set views id u r.timing times;
      lasting = lasting_same views id v u at l same.lasting r.lasting;
      counted = r.counted;
      concluded = concluded_same views id v u at l (numbers same) r.concluded (alike_same lock) (ap (λ (q : Births). q.nodes) births) (at_least_same v.past.calls u.past.calls (ap (λ (q : Past). q.calls) past));
      raised = raised_same views id v u at l (numbers same) r.histories r.raised owed unowed;
    }

-- ---- the word of a slot that no key has

module _ {P : ℕ} {w : Words} {views : List View} (r : Rule P w views) where
  -- no pin has a name at the offset, nor has the structure of the cell one there
  pub record IsHidden (o : ObjId) (j : ℕ) : Type 0 where
    pub pins : (i : ℕ) (z : View) → get_elem? views i ≡ some z → z.live ≡ true → (k : ℕ) (p : Pin) → get_elem? z.sight.pins k ≡ some p → is_keyed p.cell.kind ≡ true → p.object ≡ o → (name : NameId) → offset_of (r.shape p.cell.sid) name ≢ Some j
    pub cells : (c : Cell) → r.cell o ≡ Some c → (name : NameId) → offset_of (r.shape c.sid) name ≢ Some j

  -- an offset that was never given out
  pub never_used : (o : ObjId) (c : Cell) (j : ℕ) → r.cell o ≡ Some c → (r.now o).settled ≡ false → (r.shape c.sid).top ≤ j → IsHidden o j
  never_used o c j cell loose le =
      let st = standing r.contents o c cell in
      let places = places_of st (unsettled_places st loose) in record {
        pins = λ i z e lz k p f keyed same name g.
            let fol = follows_at c (ap r.cell same ∙ cell) ((r.sights.each i z e lz).follows k p f keyed) in
            ⊎_elim (λ (t : offset_of (r.shape c.sid) name ≡ Some j). (let b = (r.shaped.formed c.sid).below name j t in omega arith))
            (λ (t : p.epoch < (r.now p.object).stamps j).
            let is : (r.now p.object).stamps j ≡ (r.now o).stamps j = ap (λ (q : ObjId). (r.now q).stamps j) same in
            let b = places.under j (omega arith) in omega arith) (fol.names name j g);
        cells = λ d e name g.
            let both : Some c ≡ Some d = sym cell ∙ e in
            let one : c ≡ d = cc in
            let b = (r.shaped.formed c.sid).below name j (ap (λ (x : Cell). offset_of (r.shape x.sid) name) one ∙ g) in omega arith;
      }

  -- one that was given back, and stamped, where each pin of another pass is made in the epoch of the stamp or later
  pub cleared : (id : ℕ) (v : View) (o : ObjId) (c : Cell) (j : ℕ) → get_elem? views id ≡ some v → v.live ≡ true → r.cell o ≡ Some c → (r.now o).settled ≡ false → o.pass ≡ v.number → 0 < stamp_in v.quarantine o j → AllClear P v (stamp_in v.quarantine o j) → IsHidden o j
  cleared id v o c j at l cell loose own given clear =
      let st = standing r.contents o c cell in
      let places = places_of st (unsettled_places st loose) in
      let mine = r.sights.each id v at l in
      let is : (r.now o).stamps j ≡ stamp_in v.quarantine o j = mine.stamped o j own in record {
        pins = λ i z e lz k p f keyed same name g.
            let h = r.sights.each i z e lz in
            let fol = follows_at c (ap r.cell same ∙ cell) (h.follows k p f keyed) in
            let stamp_is : (r.now p.object).stamps j ≡ stamp_in v.quarantine o j = ap (λ (q : ObjId). (r.now q).stamps j) same ∙ is in
            ⊎_elim (λ (t : offset_of (r.shape c.sid) name ≡ Some j). places.unused j name (omega arith) t)
            (λ (t : p.epoch < (r.now p.object).stamps j). ⊎_elim
            (λ (n : i ≡ id).
            let same_view : z ≡ v = one_there views id z v (ap (get_elem? views) (sym n) ∙ e) at in
            places.unused j name (omega arith) (fol.tight (inl (ap (λ (q : ObjId). q.pass) same ∙ (own ∙ ap (λ (x : View). x.number) (sym same_view)))) name j g))
            (λ (n : i ≢ id).
            let lt = (r.histories.seated i z e lz).own.1 in
            let few = r.histories.few in
            let q = clear z.number (omega arith) (λ x. apart r id i v z n at l e lz (sym x)) in
            let low = mine.cleared q.0 q.1 q.2 in
            let floor_is : r.sights.floor q.1.pass ≡ r.sights.floor z.number = ap r.sights.floor q.3 in
            let past = q.4 in
            let above = (h.timed k p f).0 in
            omega arith) (cases_eq i id)) (fol.names name j g);
        cells = λ d e name g. (let both : Some c ≡ Some d = sym cell ∙ e in let one : c ≡ d = cc in places.unused j name (omega arith) (ap (λ (x : Cell). offset_of (r.shape x.sid) name) one ∙ g));
      }

module _ {P : ℕ} {w : Words} {views : List View} (id : ℕ) (v : View) (r : Rule P w views) (at : get_elem? views id ≡ some v) (l : v.live ≡ true) (o : ObjId) (c : Cell) (j : ℕ) where
  -- the word of such an offset is stored by a view that has a right to it, and knows it then
  pub stores_hidden : (a : Location) (x : ℕ) (counts : Counts) → r.cell o ≡ Some c → (r.now o).settled ≡ false → frame r.role (r.now o).segmented o c.address (offset j) ≡ Some a → HasRight r.shape v.sight.licences v.lock v.sets.fired o (offset j) → IsHidden r o j
      → Rule P (put w (name_of_place a) x) (set views id (record v { sight = with_known v.sight (name_of_place a) x; counts = counts }))
  stores_hidden a x counts cell loose place right hidden =
      stores_location id v (record v { sight = with_known v.sight (name_of_place a) x; counts = counts }) r at l o c (offset j) a x same cell role_is refl refl refl refl refl refl l contents' sights'
      (let t = r.timing.timed id v at l in record { out = t.out; inside = t.inside; polled = t.polled; pins = t.pins; largest = t.largest; loaded = t.loaded })
    where
      st : Standing (values w) r.role (r.shape c.sid) o c (r.now o) (object_of (after P r.log) o)
      st = standing r.contents o c cell

      role_is : role_at r.role a ≡ value o (offset j)
      role_is = (places_of st (unsettled_places st loose)).block.mine (offset j) a place

      u : View
      u = record v { sight = with_known v.sight (name_of_place a) x; counts = counts }

      same : SameItems v (record v { sight = with_known v.sight (name_of_place a) x; counts = counts })
      same = numbers_of v (record v { sight = with_known v.sight (name_of_place a) x; counts = counts }) refl refl refl refl refl refl

      no_key : (z : Shape) → ((name : NameId) → offset_of z name ≢ Some j) → (key : Key) (s : Spot) → spot_of z key ≡ Some s → s ≢ offset j
      no_key z none_ key s e f = (let b = offset_named z key j (e ∙ ap (λ (t : Spot). Some t) f) in none_ b.0 b.2)

      hit : (i : ℕ) (z : View) → get_elem? views i ≡ some z → z.live ≡ true → (k : ℕ) (p : Pin) → get_elem? z.sight.pins k ≡ some p → is_keyed p.cell.kind ≡ true → (q : Key) (s : Spot) → spot_of (r.shape p.cell.sid) q ≡ Some s → frame r.role (is_segmented p.cell.kind) p.object p.cell.address s ≡ Some a → ⊥
      hit i z e lz k p f keyed q s at_s there =
          let both = same_spot r.role a s (offset j) (((r.sights.each i z e lz).sees k p f keyed).block.mine s a there) role_is in
          no_key (r.shape p.cell.sid) (hidden.pins i z e lz k p f keyed both.0) q s at_s both.1

      contents' : Contents P (values (put w (name_of_place a) x)) r.cell r.shape r.role r.now (after P r.log)
      contents' = stores_contents r.contents a (place_else w a x) (λ word e. (let no : value o (offset j) ≡ fixed word = sym role_is ∙ e in cc))
          (λ q d e key s f g. (let both = same_spot r.role a (offset j) s role_is g in no_key (r.shape d.sid) (hidden.cells d (ap r.cell both.0 ∙ e)) key s f (sym both.1)))
          (λ q d e f. (let no : value o (offset j) ≡ dictionary q = sym role_is ∙ f in absurd cc))

      unknown : (i : ℕ) (z : View) → i ≢ id → get_elem? views i ≡ some z → z.live ≡ true → (q : ObjId) (s : Spot) → role_at r.role a ≡ value q s → HasRight r.shape z.sight.licences z.lock z.sets.fired q s → ⊥
      unknown i z n e lz q s f b = (let both = same_spot r.role a s (offset j) f role_is in clash r id i v z n at l e lz o (offset j) right (subst (λ (t : ObjId × Spot). HasRight r.shape z.sight.licences z.lock z.sets.fired t.0 t.1) (λ i. (both.0 i, both.1 i)) b))

      sights' : Sights P (w epoch) (values (put w (name_of_place a) x)) r.cell r.shape r.role r.now (watched w) r.log (set views id (record v { sight = with_known v.sight (name_of_place a) x; counts = counts }))
      sights' = sights_set views id (record v { sight = with_known v.sight (name_of_place a) x; counts = counts }) r.sights
          (λ i z n e lz g. sighted_put g z.sight.known a r.contents.words r.contents.valid (λ q. cases_place q a) (stays r.log) (place_else w a x) (λ k p f keyed q s at_s there. absurd (hit i z e lz k p f keyed q s at_s there)) (knows_else g a (place_else w a x) (unknown i z n e lz)))
          (sighted_put (r.sights.each id v at l) (with_known v.sight (name_of_place a) x).known a r.contents.words r.contents.valid (λ q. cases_place q a) (stays r.log) (place_else w a x) (λ k p f keyed q s at_s there. absurd (hit id v at l k p f keyed q s at_s there))
          (λ name word e. ⊎_elim
          (λ (t : (name ≡ name_of_place a) × (x ≡ word)). record { place = a; name_is = t.0; is = place_here w a x ∙ t.1; object = o; spot = offset j; role_is = role_is; right = right })
          (λ (t : (name ≢ name_of_place a) × (told v.sight.known name ≡ Some word)). (let q = (r.sights.each id v at l).knows name word t.1 in record { place = q.place; name_is = q.name_is; is = place_else w a x q.place (λ f. t.0 (q.name_is ∙ ap name_of_place f)) ∙ q.is; object = q.object; spot = q.spot; role_is = q.role_is; right = q.right }))
          (told_split v.sight.known name (name_of_place a) x word e)))
