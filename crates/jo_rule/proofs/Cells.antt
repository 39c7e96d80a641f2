-- The steps by which a licensed owner stores the cell: additions, growth by copy, removals and reuse.
use Rattle.std.proofs.Common.{◌≡◌, ◌≢◌, ◌⊎◌, ◌+◌, ◌<◌, ◌≤◌, ℕ, Bool, true, false, eqb, List, ◌∷◌, set, refl, sym, ap, ◌∙◌, subst, inl, inr, ⊎_elim, arith, Option, Some, None}
use mathlib.Core.Option.{some}
use lib.ListN.{get_elem?}
use Rattle.std.specs.Prelude.{nat_lt, ◌&&◌, if◌then◌else◌}
use Rattle.std.proofs.lemmas.Bool.{both_ways, cases_eq, cases_Bool}
use Rattle.jo_value.specs.declared.capacities.TheConstants.{UNSTAMPED}
use Rattle.jo_value.specs.declared.value.Key.{Key}
use Rattle.jo_value.specs.declared.value.Key.TheVariants.{Name, Index}
use Rattle.jo_value.specs.declared.value.NameId.{NameId}
use Rattle.jo_value.specs.declared.value.ObjId.{ObjId}
use Rattle.jo_value.specs.declared.value.Value.{Value}
use Rattle.jo_value.specs.declared.words.cell.Cell.{Cell}
use Rattle.jo_value.specs.declared.words.cell.Kind.{Kind}
use Rattle.jo_value.specs.declared.words.cell.Kind.TheVariants.{Flat, Segmented, Opening, Dictionary}
use Rattle.jo_value.specs.Values.{is_same_object}
use Rattle.jo_value.specs.Words.{IsCell, cell_bits, slot_bits}
use Rattle.jo_model.specs.Objects.{Object, property}
use Rattle.jo_model.specs.Heaps.{Heap, object_of}
use Rattle.jo_model.specs.Logs.{Log, after}
use Rattle.jo_rule.specs.Raised.{Raised}
use Rattle.jo_rule.proofs.Timing.{timed_owing}
use Rattle.jo_rule.proofs.Raised.{many_deeper, raised_cell, raised_reason}
use Rattle.jo_rule.proofs.Histories.{numbers}
use Rattle.jo_rule.specs.Concluded.{NotOpened}
use Rattle.jo_rule.proofs.Concluded.{follows_unopened, concluded_event}
use Rattle.jo_rule.specs.declared.counts.Counts.{Counts}
use Rattle.jo_rule.specs.declared.event.Event.{Event}
use Rattle.jo_rule.specs.Names.{epoch, cell}
use Rattle.jo_rule.specs.Areas.{Words, put, stored, set_object, set_number}
use Rattle.jo_rule.specs.Marks.{Mark}
use Rattle.jo_rule.specs.Shapes.{Shape, offset_of, names_of}
use Rattle.jo_rule.specs.Spots.{Spot, offset, element, Location, values, spot_of}
use Rattle.jo_rule.specs.Roles.{Role, frame, IsBlockOf}
use Rattle.jo_rule.specs.Dictionaries.{slot_in}
use Rattle.jo_rule.specs.Contents.{Now, is_keyed, is_flat, is_segmented, IsLoose, HasKeys, StandsAtPlaces, StandsAs, HasWords}
use Rattle.jo_rule.specs.Puts.{AddsIn, TakesOut, MayGrow, MayAdd, MayTakeOut, Widens, names_with, left_of}
use Rattle.jo_rule.specs.Views.{View, Pin, Licence, Storage, Quarantined}
use Rattle.jo_rule.specs.Owned.{OwnsStorage}
use Rattle.jo_rule.specs.Locks.{KeepsKind, Locks}
use Rattle.jo_rule.specs.Events.{recorded, past_after, object_after_event, MayPlace, IsEventOn}
use Rattle.jo_rule.specs.Rule.{Rule}
use Rattle.jo_rule.specs.Steps.{no_sight}
use Rattle.jo_rule.specs.Sights.{watched, IsTight, Follows, stamp_in}
use Rattle.jo_rule.proofs.Sets.{cases_object, object_here, object_else, number_here, number_else}
use Rattle.jo_rule.proofs.Names.{same_object}
use Rattle.jo_rule.proofs.Shapes.{option_cases, Removed, removed_back}
use Rattle.jo_rule.proofs.Keys.{cases_key, spot_cases, spot_name, one_spot, offset_named}
use Rattle.jo_rule.proofs.Layouts.{one_place}
use Rattle.jo_rule.proofs.Histories.{SameItems}
use Rattle.jo_rule.proofs.Contents.{standing}
use Rattle.jo_rule.proofs.Locks.{moves_locks}
use Rattle.jo_rule.proofs.Marked.{born_so_cell, born_so_event}
use Rattle.jo_rule.proofs.Timing.{timed_dropped}
use Rattle.jo_rule.proofs.Allowed.{may_flat, never}
use Rattle.jo_rule.specs.Counted.{name_count, CountsGo}
use Rattle.jo_rule.proofs.Counted.{counts_go}
use Rattle.jo_rule.proofs.Contents.{keyed_no_dictionary}
use Rattle.jo_rule.proofs.Events.{event_touches, event_words, event_valid, event_refuses}
use Rattle.jo_rule.proofs.Sights.{sighted_dropped, kind_keyed, follows_at}
use Rattle.jo_rule.proofs.Moves.{object_within, RolesGrow, moves, born_of, still_born}
use Rattle.jo_rule.proofs.Takes.{nobody}
use Rattle.jo_rule.proofs.Stores.{numbers_of}
use Rattle.jo_rule.proofs.Looks.{keyed_of, apart, still, flat_not_segmented}
use Rattle.jo_rule.proofs.Puts.{IsHidden}

-- the view after a change of a cell by a pass that is its owner
abbrev pub celling : ℕ → View → Event → Log Mark → Storage → List Quarantined → Counts → View
celling passes v event log own quarantine counts = record v { past = past_after passes v.number event log v.past.calls; storage = own; sight = no_sight; quarantine = quarantine; counts = counts }

-- and where it owes so many raises then
abbrev pub celling_owing : ℕ → View → Event → Log Mark → Storage → List Quarantined → (owed : ℕ) → Counts → View
celling_owing passes v event log own quarantine owed counts = record (celling passes v event log own quarantine counts) { time = record v.time { owed = owed } }

and_false_left : (a b : Bool) → a ≡ false → (a && b) ≡ false
and_false_left a b e = rw e refl

and_false_right : (a b : Bool) → b ≡ false → (a && b) ≡ false
and_false_right true b e = e
and_false_right false b e = refl

-- a cell whose keys are at places stands as its kind says
pub as_keyed : (k : Kind) (v : Location → ℕ) (role : ℕ → Role) (shape : Shape) (o : ObjId) (c : Cell) (now : Now) (z : Object) → is_keyed k ≡ true → IsLoose (is_segmented k) now → StandsAtPlaces v role shape o c now z → StandsAs k v role shape o c now z
as_keyed Flat v role shape o c now z e h p = (h, p)
as_keyed Segmented v role shape o c now z e h p = (h, p)
as_keyed Opening v role shape o c now z e h p = (let no : false ≡ true = e in absurd cc)
as_keyed Dictionary v role shape o c now z e h p = (let no : false ≡ true = e in absurd cc)

-- a pin that is not tight goes on where its names do, or are given back
pub follows_loose : {role role' : ℕ → Role} {here here' there : Shape} {c c' : Cell} {now now' : Now} {number : ℕ} {p : Pin} → c.shared_write ≡ false → is_flat c.kind ≡ true → p.object.pass ≢ number
    → ((name : NameId) (j : ℕ) → offset_of there name ≡ Some j → (offset_of here name ≡ Some j) ⊎ (p.epoch < now.stamps j) → (offset_of here' name ≡ Some j) ⊎ (p.epoch < now'.stamps j)) → now'.settled ≡ false → now'.sealed ≡ 0 → Follows role here there c now number p → Follows role' here' there c' now' number p
follows_loose {role} {role'} {here} {here'} {there} {c} {c'} {now} {now'} {number} {p} unshared flat foreign names loose unsealed t =
    let not_shared : p.cell.shared_write ≡ true → ⊥ = λ e. both_ways c.shared_write unshared (t.bit e) in
    let not_segmented : is_segmented p.cell.kind ≡ true → ⊥ = λ e. both_ways (is_flat c.kind) (t.segments e) flat in
    let not_tight : IsTight number p → ⊥ = λ z. ⊎_elim foreign (λ (z : (p.cell.shared_write ≡ true) ⊎ (is_segmented p.cell.kind ≡ true)). ⊎_elim not_shared not_segmented z) z in
    record {
      loose = loose;
      below = λ lt. absurd (omega (arith, unsealed));
      bit = λ e. absurd (not_shared e);
      segments = λ e. absurd (not_segmented e);
      names = λ name j e. names name j e (t.names name j e);
      tight = λ z. absurd (not_tight z);
      current = λ z. absurd (not_tight z);
    }

-- The keys after an addition: the old ones have their values at their places, old or new.
pub keys_more : {v : Location → ℕ} {role role' : ℕ → Role} {sg sg' : Bool} {shape shape' : Shape} {fresh : ℕ → Type 0} {o : ObjId} {b b' : ℕ} {z z' : Object} (key : Key) (y : Spot) (a : Location) (x : ℕ) → Widens shape shape' key y fresh → AddsIn z z' key x → frame role' sg' o b' y ≡ Some a → v a ≡ x
    → ((s : Spot) → frame role sg o b s ≢ None → frame role' sg' o b' s ≢ None)
    → ((q : Key) (s : Spot) (p : Location) → q ≢ key → spot_of shape q ≡ Some s → frame role' sg' o b' s ≡ Some p → ((p0 : Location) → frame role sg o b s ≡ Some p0 → v p ≡ v p0) × (frame role sg o b s ≡ None → v p ≡ 0))
    → HasKeys v role sg shape o b z → HasKeys v role' sg' shape' o b' z'
keys_more {v} {role} {role'} {sg} {sg'} {shape} {shape'} {fresh} {o} {b} {b'} {z} {z'} key y a x wide adds place is rooms copied h = record {
  names = wide.names ∙ (ap (names_with key) h.names ∙ sym adds.names);
  inside = λ name j f. ⊎_elim
      (λ (g : Name name ≡ key). let same : offset j ≡ y = one_spot (spot_of shape' key) (offset j) y (ap (spot_of shape') (sym g) ∙ spot_name shape' name j f) wide.here in λ i. (let bad : None ≡ Some a = sym i ∙ (ap (frame role' sg' o b') same ∙ place) in cc))
      (λ (g : Name name ≢ key). (let old = offset_named shape (Name name) j (sym (wide.others (Name name) g) ∙ spot_name shape' name j f) in let same : Name name ≡ Name old.0 = old.1 in let one : name ≡ old.0 = cc in rooms (offset j) (h.inside name j (ap (offset_of shape) one ∙ old.2)))) (cases_key (Name name) key);
  values = λ q s p f g. ⊎_elim
      (λ (i : q ≡ key).
      let same : s ≡ y = one_spot (spot_of shape' key) s y (ap (spot_of shape') (sym i) ∙ f) wide.here in
      let there : p ≡ a = one_place (frame role' sg' o b' y) p a (ap (frame role' sg' o b') (sym same) ∙ g) place in
      ap v there ∙ (is ∙ (adds.here ∙ ap (λ (k : Key). slot_bits (slot_in (property z' k))) (sym i))))
      (λ (i : q ≢ key).
      let old : spot_of shape q ≡ Some s = sym (wide.others q i) ∙ f in
      let both = copied q s p i old g in
      let was : v p ≡ slot_bits (slot_in (property z q)) = ⊎_elim
      (λ (n : frame role sg o b s ≡ None). ⊎_elim
      (λ (t : (name : NameId) × (j : ℕ) × (q ≡ Name name) × (s ≡ offset j) × (offset_of shape name ≡ Some j)). absurd (h.inside t.0 t.1 t.4 (ap (frame role sg o b) (sym t.3) ∙ n)))
      (λ (t : (m : ℕ) × (q ≡ Index m) × (s ≡ element m)). both.1 n ∙ sym (ap (λ (k : Key). slot_bits (slot_in (property z k))) t.1 ∙ ap (λ (k : Option Value). slot_bits (slot_in k)) (h.beyond t.0 (ap (frame role sg o b) (sym t.2) ∙ n)))) (spot_cases shape q s old))
      (λ (n : (p0 : Location) × (frame role sg o b s ≡ Some p0)). both.0 n.0 n.1 ∙ h.values q s n.0 old n.1) (option_cases (frame role sg o b s)) in
      was ∙ ap (λ (k : Option Value). slot_bits (slot_in k)) (sym (adds.others q i))) (cases_key q key);
  beyond = λ i f.
      let g : Index i ≢ key = λ n. (let same : element i ≡ y = one_spot (spot_of shape' key) (element i) y (ap (spot_of shape') (sym n)) wide.here in let bad : None ≡ Some a = sym f ∙ (ap (frame role' sg' o b') same ∙ place) in cc) in
      let out : frame role sg o b (element i) ≡ None = ⊎_elim (λ (n : frame role sg o b (element i) ≡ None). n) (λ (n : (p0 : Location) × (frame role sg o b (element i) ≡ Some p0)). absurd (rooms (element i) (λ q. let bad : None ≡ Some n.0 = sym q ∙ n.1 in cc) f)) (option_cases (frame role sg o b (element i))) in
      adds.others (Index i) g ∙ h.beyond i out;
}

module _ {P : ℕ} {w : Words} {views : List View} (id : ℕ) (v : View) (r : Rule P w views) (at : get_elem? views id ≡ some v) (l : v.live ≡ true) where
  -- locks, where a cell that is not locked becomes another that is not
  pub unlocked : (u : View) {heap' : Heap} (o : ObjId) (d c : Cell) (now : Now) → u.live ≡ true → v.lock ≡ u.lock → r.cell o ≡ Some d → d.locked ≡ false → c.locked ≡ false → ((q : ObjId) → q ≢ o → object_of heap' q ≡ object_of (after P r.log) q) → Locks (stored w) (set_object r.cell o (Some c)) (set_object r.now o now) heap' (set views id u)
  unlocked u {heap'} o d c now lu lock was free free' others =
      moves_locks views id v u at l lu o c now r.locks.holder r.locks (λ q n. refl) others (λ j y n f ly g k. nobody id v r at l o d was free j y f ly g k)
      (λ g f.
      let held : v.lock ≡ Some g = lock ∙ f in
      let far = nobody id v r at l o d was free id v at l g held in
      let k = r.locks.held id v at l g held in record {
        cell = object_else r.cell o g.object (Some c) far ∙ k.cell;
        bit = k.bit;
        found = subst (KeepsKind g.cell.kind g.found g.opened) (sym (ap (λ (z : Now). z.segmented) (object_else r.now o g.object now far))) k.found;
        holder_is = k.holder_is;
        settled = ap (λ (z : Now). z.settled) (object_else r.now o g.object now far) ∙ k.settled;
        sealed = ap (λ (z : Now). z.sealed) (object_else r.now o g.object now far) ∙ k.sealed;
        room = ap (λ (z : Now). z.room) (object_else r.now o g.object now far) ∙ k.room;
        content = λ i. others g.object far ∙ k.content i;
        size = k.size;
        block = k.block;
      })
      (λ q n g f same. (g, sym lock ∙ f, same)) (λ b. absurd (both_ways c.locked free' b))

  -- What each store of a cell by a licensed owner owes.
  licensed : (i : ℕ) (lic : Licence) (event : Event) (c : Cell) (now : Now) (role : ℕ → Role) (own : Storage) (quarantine : List Quarantined) (owed : ℕ) (counts : Counts) → get_elem? v.sight.licences i ≡ some lic → r.cell lic.pin.object ≡ Some lic.pin.cell
      → NotOpened v.lock → MayPlace P v event → IsEventOn lic.pin.object event → IsCell c → c.owner ≡ lic.pin.object.pass → (r.shape c.sid).born ≡ true → (r.shape c.sid).root ≡ lic.pin.object.pass → c.kind ≡ Flat → c.locked ≡ false → c.shared_write ≡ false → IsLoose false now
      → RolesGrow P (stored w) v.number r.role role → OwnsStorage (stored w) role v.number own → StandsAtPlaces (values w) role (r.shape c.sid) lic.pin.object c now (object_after_event event (object_of (after P r.log) lic.pin.object))
      → ((j : ℕ) (y : View) → j ≢ id → get_elem? views j ≡ some y → y.live ≡ true → (k : ℕ) (p : Pin) → get_elem? y.sight.pins k ≡ some p → is_keyed p.cell.kind ≡ true → p.object ≡ lic.pin.object → (name : NameId) (q : ℕ) → offset_of (r.shape p.cell.sid) name ≡ Some q → (offset_of (r.shape lic.pin.cell.sid) name ≡ Some q) ⊎ (p.epoch < (r.now lic.pin.object).stamps q) → (offset_of (r.shape c.sid) name ≡ Some q) ⊎ (p.epoch < now.stamps q))
      → ((q : ObjId) (j : ℕ) → q.pass ≡ v.number → (set_object r.now lic.pin.object now q).stamps j ≡ stamp_in quarantine q j) → CountsGo P r.log (recorded P v.number event r.log) lic.pin.object r.shape c → Raised P r.made (w epoch) (set_object r.cell lic.pin.object (Some c)) r.shape (watched w) (set views id (celling_owing P v event r.log own quarantine owed counts))
      → Rule P (put w (cell lic.pin.object) (cell_bits c)) (set views id (celling_owing P v event r.log own quarantine owed counts))
  licensed i lic event c now role own quarantine owed counts has there closed may on is owner born root kind free unshared loose roles owns places names stamps go raised =
      let o = lic.pin.object in
      let d = lic.pin.cell in
      let h = r.sights.each id v at l in
      let plain = (h.licensed i lic has).plain in
      let mine : o.pass ≡ v.number = plain.own in
      let u = celling_owing P v event r.log own quarantine owed counts in
      let same : SameItems v u = numbers_of v u refl refl refl refl refl refl in
      let touch = event_touches P v.number event r.log o on (born_of r o d there) in
      let lt = (r.histories.seated id v at l).own.1 in
      let few = r.histories.few in
      let foreign : (j : ℕ) (y : View) → j ≢ id → get_elem? views j ≡ some y → y.live ≡ true → o.pass ≢ y.number = λ j y n e ly f. apart r id j v y n at l e ly (sym mine ∙ f) in
      let keyed_kind : is_keyed c.kind ≡ is_keyed d.kind = ap is_keyed kind ∙ sym (kind_keyed d.kind plain.flat) in
      moves id v u r at l same event o c now role (λ f. absurd (never r.allowed o d there (keyed_no_dictionary d.kind (kind_keyed d.kind plain.flat)) f)) (event_refuses P v event r.log (r.histories.own id v at l) may) refl roles
      record {
        others = touch.others;
        lengths = λ p n. touch.lengths p;
        words = subst HasWords (sym touch.here) (event_words P v event (object_of (after P r.log) o) may (r.contents.words o));
        valid = event_valid P v event r.log (r.histories.seen id v at l) (omega arith) may r.contents.valid;
      }
      record {
        cell = is;
        structure = born;
        root = root;
        owner = owner;
        kind = as_keyed c.kind (values w) role (r.shape c.sid) o c now (object_of (after P (recorded P v.number event r.log)) o) (ap is_keyed kind) (subst (λ (b : Bool). IsLoose b now) (sym (ap is_segmented kind)) loose)
            (subst (StandsAtPlaces (values w) role (r.shape c.sid) o c now) (sym touch.here) places);
      }
      (λ q. still_born r o d c there q ∙ (r.contents.born q ∙ ap (nat_lt q.serial) (sym (touch.lengths q.pass)))) owns (r.owned.objects id v at l ∙ sym (touch.lengths v.number)) refl
      (unlocked u o d c now l refl there plain.unlocked free touch.others)
      record {
        follows = λ j y n e ly k p f keyed same_o t. follows_loose plain.unshared plain.flat (λ q. foreign j y n e ly (ap (λ (z : ObjId). z.pass) (sym same_o) ∙ q)) (names j y n e ly k p f keyed same_o) loose.settled loose.sealed (follows_at d there t);
        owning = λ j y n e ly k p f same_o t. record { writes = λ q. absurd (foreign j y n e ly (ap (λ (z : ObjId). z.pass) (sym same_o) ∙ q.own)); transitions = λ q. absurd (foreign j y n e ly (ap (λ (z : ObjId). z.pass) (sym same_o) ∙ q.own)) };
        stamps = λ j y n e ly q b. absurd (foreign j y n e ly b);
      }
      (sighted_dropped h quarantine stamps) r.so (born_so_event P v.number event r.log (born_so_cell r.born_so o c d there keyed_kind))
      (λ f. absurd (⊎_elim (λ (g : c.shared_write ≡ true). both_ways c.shared_write unshared g) (λ (g : is_segmented c.kind ≡ true). both_ways (is_segmented c.kind) (ap is_segmented kind) g) f)) go (concluded_event views id v u at l (numbers same) r.concluded r.histories event (follows_unopened P r.log v.number event closed) closed refl refl) raised (timed_owing owed (timed_dropped (r.timing.timed id v at l)))

  -- A key is added by a licensed owner, at an offset that was never given out or an index, in the old block or a new one that is a copy.
  -- The cell is the pin's by a licence on writes, or where the exchange finds it.
  pub stores_cell : (i : ℕ) (lic : Licence) (event : Event) (c : Cell) (role : ℕ → Role) (own : Storage) (key : Key) (y : Spot) (a : Location) (x : ℕ) (counts : Counts) → get_elem? v.sight.licences i ≡ some lic → r.cell lic.pin.object ≡ Some lic.pin.cell
      → MayGrow lic c → MayAdd P v event lic.pin.object (r.shape lic.pin.cell.sid) key x → IsCell c → c.owner ≡ lic.pin.object.pass → c.kind ≡ Flat → c.locked ≡ false → c.shared_write ≡ false
      → RolesGrow P (stored w) v.number r.role role → OwnsStorage (stored w) role v.number own → Widens (r.shape lic.pin.cell.sid) (r.shape c.sid) key y (λ j. (r.shape lic.pin.cell.sid).top ≤ j) → IsBlockOf role false lic.pin.object c.address → frame role false lic.pin.object c.address y ≡ Some a → values w a ≡ x
      → ((s : Spot) → frame r.role false lic.pin.object lic.pin.cell.address s ≢ None → frame role false lic.pin.object c.address s ≢ None)
      → ((q : Key) (s : Spot) (p : Location) → q ≢ key → spot_of (r.shape lic.pin.cell.sid) q ≡ Some s → frame role false lic.pin.object c.address s ≡ Some p → ((p0 : Location) → frame r.role false lic.pin.object lic.pin.cell.address s ≡ Some p0 → values w p ≡ values w p0) × (frame r.role false lic.pin.object lic.pin.cell.address s ≡ None → values w p ≡ 0))
      → Rule P (put w (cell lic.pin.object) (cell_bits c)) (set views id (celling P v event r.log own v.quarantine counts))
  stores_cell i lic event c role own key y a x counts has there grows add is owner kind free unshared roles owns wide block place here rooms copied =
      let o = lic.pin.object in
      let d = lic.pin.cell in
      let h = r.sights.each id v at l in
      let plain = (h.licensed i lic has).plain in
      let st = standing r.contents o d there in
      let k = keyed_of st (kind_keyed d.kind plain.flat) in
      let now = r.now o in
      let flat : now.segmented ≡ false = k.0.segmented_is ∙ flat_not_segmented d.kind plain.flat in
      let loose : IsLoose false now = record { settled = k.0.settled; segmented_is = flat; sealed = k.0.sealed } in
      let old = subst (λ (b : Bool). HasKeys (values w) r.role b (r.shape d.sid) o d.address (object_of (after P r.log) o)) flat k.1.keys in
      licensed i lic event c now role own v.quarantine v.time.owed counts has there add.unopened add.may add.on is owner wide.born (wide.root ∙ st.root) kind free unshared loose roles owns
      record {
        block = subst (λ (b : Bool). IsBlockOf role b o c.address) (sym flat) block;
        keys = subst (λ (b : Bool). HasKeys (values w) role b (r.shape c.sid) o c.address (object_after_event event (object_of (after P r.log) o))) (sym flat)
            (keys_more key y a x wide (add.adds (object_of (after P r.log) o) k.1.keys.names) place here rooms copied old);
        unused = λ j name g f. ⊎_elim (λ (q : offset_of (r.shape d.sid) name ≡ Some j). k.1.unused j name g q) (λ (q : (r.shape d.sid).top ≤ j). (let u = k.1.under j g in omega arith)) (wide.back name j f);
        under = λ j g. (let u = k.1.under j g in let b = wide.top in omega arith);
      }
      (λ j z n e ly m p f keyed same name q off was. ⊎_elim (λ (b : offset_of (r.shape d.sid) name ≡ Some q). inl (wide.keep name q b)) (λ (b : p.epoch < now.stamps q). inr b) was)
      (λ q j mine. Rattle.jo_rule.proofs.Sights.stamps_kept h o now (λ i. refl) q j mine)
      (let n = add.counts (object_of (after P r.log) o) k.1.keys.names in let dp = wide.depth in let hi = wide.high in counts_go r.counted v.number event o d c (name_count key) 0 add.on there (keyed_no_dictionary d.kind (kind_keyed d.kind plain.flat)) n.0 n.1 (omega (arith, dp)) hi)
      (let u = celling P v event r.log own v.quarantine counts in let same : SameItems v u = numbers_of v u refl refl refl refl refl refl in let dp = wide.depth in let m = many_deeper r.shape d c 0 (kind_keyed d.kind plain.flat) (omega arith) in raised_cell views id v u at l (numbers same) r.histories r.raised refl refl o (Some d) c there (omega arith))

  -- the stamps of the pass go on with one more
  pub stamped_more : (o : ObjId) (j x : ℕ) (now : Now) → now.stamps ≡ set_number (r.now o).stamps j x → (q : ObjId) (i : ℕ) → q.pass ≡ v.number → (set_object r.now o now q).stamps i ≡ stamp_in (record { object = o; offset = j; stamp = x } ∷ v.quarantine) q i
  stamped_more o j x now is q i mine =
      let old = (r.sights.each id v at l).stamped q i mine in
      ⊎_elim
      (λ (f : q ≡ o).
      let same : is_same_object q o ≡ true = ap (is_same_object q) (sym f) ∙ same_object q in
      let here : (set_object r.now o now q).stamps i ≡ set_number (r.now o).stamps j x i = ap (λ (z : Now). z.stamps i) (ap (set_object r.now o now) f ∙ object_here r.now o now) ∙ ap (λ (g : ℕ → ℕ). g i) is in
      here ∙ ⊎_elim
      (λ (g : eqb i j ≡ true). rw (g, same) refl)
      (λ (g : eqb i j ≡ false). rw g (ap (λ (z : ObjId). (r.now z).stamps i) (sym f) ∙ (old ∙ sym (ap (λ (b : Bool). if b then x else stamp_in v.quarantine q i) (and_false_right (is_same_object q o) false refl))))) (cases_Bool (eqb i j)))
      (λ (f : q ≢ o).
      let no : is_same_object q o ≡ false = Rattle.jo_rule.proofs.Sets.other_object q o f in
      ap (λ (z : Now). z.stamps i) (object_else r.now o q now f) ∙ (old ∙ sym (ap (λ (b : Bool). if b then x else stamp_in v.quarantine q i) (and_false_left (is_same_object q o) (eqb i j) no)))) (cases_object q o)

  -- no role is given
  same_roles : RolesGrow P (stored w) v.number r.role r.role
  same_roles = record { grows = λ a n. refl; still = λ a z f. inl f; inside = r.contents.inside; elsewhere = λ t k n lt. refl }

  -- A licensed owner takes a name out, by a licence on both sets: its offset is given back, and not stamped yet.
  pub removes_name : (i : ℕ) (lic : Licence) (event : Event) (c : Cell) (name : NameId) (j : ℕ) (counts : Counts) → get_elem? v.sight.licences i ≡ some lic → lic.writes ≡ true → lic.transitions ≡ true → MayTakeOut P v event lic.pin.object (r.shape lic.pin.cell.sid) name
      → IsCell c → c.owner ≡ lic.pin.object.pass → c.kind ≡ Flat → c.locked ≡ false → c.shared_write ≡ false → c.address ≡ lic.pin.cell.address → (r.shape c.sid).born ≡ true → names_of (r.shape c.sid) ≡ left_of name (names_of (r.shape lic.pin.cell.sid)) → Removed (r.shape lic.pin.cell.sid) (r.shape c.sid) name j → (r.shape c.sid).depth ≡ (r.shape lic.pin.cell.sid).depth + 1
      → Rule P (put w (cell lic.pin.object) (cell_bits c)) (set views id (celling_owing P v event r.log v.storage (record { object = lic.pin.object; offset = j; stamp = UNSTAMPED } ∷ v.quarantine) (v.time.owed + 1) counts))
  removes_name i lic event c name j counts has writes transitions take is owner kind free unshared at_same born names out deeper =
      let o = lic.pin.object in
      let d = lic.pin.cell in
      let there : r.cell o ≡ Some d = still r id v at l i lic has writes in
      let h = r.sights.each id v at l in
      let plain = (h.licensed i lic has).plain in
      let st = standing r.contents o d there in
      let k = keyed_of st (kind_keyed d.kind plain.flat) in
      let now : Now = record (r.now o) { stamps = set_number (r.now o).stamps j UNSTAMPED } in
      let flat : (r.now o).segmented ≡ false = k.0.segmented_is ∙ flat_not_segmented d.kind plain.flat in
      let loose : IsLoose false now = record { settled = k.0.settled; segmented_is = flat; sealed = k.0.sealed } in
      let z = object_of (after P r.log) o in
      let z' = object_after_event event z in
      let takes : TakesOut z z' name = take.takes z k.1.keys.names in
      let frames : (y : Spot) → frame r.role (r.now o).segmented o c.address y ≡ frame r.role (r.now o).segmented o d.address y = λ y. ap (λ (b : ℕ). frame r.role (r.now o).segmented o b y) at_same in
      let kept : (q : Key) (s : Spot) → spot_of (r.shape c.sid) q ≡ Some s → (q ≢ Name name) × (spot_of (r.shape d.sid) q ≡ Some s) = λ q s f. ⊎_elim
      (λ (t : (m : NameId) × (n : ℕ) × (q ≡ Name m) × (s ≡ offset n) × (offset_of (r.shape c.sid) m ≡ Some n)).
      let b = removed_back out t.0 t.1 t.4 in
      ((λ e. b.0 (let same : Name t.0 ≡ Name name = sym t.2 ∙ e in cc)), ap (spot_of (r.shape d.sid)) t.2 ∙ (spot_name (r.shape d.sid) t.0 t.1 b.1 ∙ ap (λ (x : Spot). Some x) (sym t.3))))
      (λ (t : (m : ℕ) × (q ≡ Index m) × (s ≡ element m)). ((λ e. let no : Index t.0 ≡ Name name = sym t.1 ∙ e in cc), ap (spot_of (r.shape d.sid)) t.1 ∙ ap (λ (x : Spot). Some x) (sym t.2))) (spot_cases (r.shape c.sid) q s f) in
      let here : now.stamps j ≡ UNSTAMPED = number_here (r.now o).stamps j UNSTAMPED in
      let away : (n : ℕ) → n ≢ j → now.stamps n ≡ (r.now o).stamps n = λ n e. number_else (r.now o).stamps j n UNSTAMPED e in
      licensed i lic event c now r.role v.storage (record { object = o; offset = j; stamp = UNSTAMPED } ∷ v.quarantine) (v.time.owed + 1) counts has there take.unopened take.may take.on is owner born (out.root ∙ st.root) kind free unshared loose same_roles (r.owned.storage id v at l)
      record {
        block = subst (λ (b : ℕ). IsBlockOf r.role (r.now o).segmented o b) (sym at_same) k.1.block;
        keys = record {
          names = names ∙ (ap (left_of name) k.1.keys.names ∙ sym takes.names);
          inside = λ m n f g. k.1.keys.inside m n (removed_back out m n f).1 (sym (frames (offset n)) ∙ g);
          values = λ q s p f g. let b = kept q s f in k.1.keys.values q s p b.1 (sym (frames s) ∙ g) ∙ ap (λ (x : Option Value). slot_bits (slot_in x)) (sym (takes.others q b.0));
          beyond = λ m f. takes.others (Index m) (λ e. cc) ∙ k.1.keys.beyond m (sym (frames (element m)) ∙ f);
        };
        unused = λ n m g f.
            let b = removed_back out m n f in
            ⊎_elim (λ (e : n ≡ j). b.0 ((r.shaped.formed d.sid).apart m name j (b.1 ∙ ap (λ (x : ℕ). Some x) e) out.was))
            (λ (e : n ≢ j). (let same = away n e in k.1.unused n m (omega arith) b.1)) (cases_eq n j);
        under = λ n g. ⊎_elim (λ (e : n ≡ j). (let b = (r.shaped.formed d.sid).below name j out.was in let t = out.top in omega arith))
            (λ (e : n ≢ j). (let same = away n e in let b = k.1.under n (omega arith) in let t = out.top in omega arith)) (cases_eq n j);
      }
      (λ i' y n e ly m p f keyed same m' q off was. ⊎_elim
      (λ (g : q ≡ j).
      let past = ((r.sights.each i' y e ly).timed m p f).1 in
      let few = r.sights.few in
      let is_un : now.stamps q ≡ UNSTAMPED = ap now.stamps g ∙ here in
      inr (omega arith))
      (λ (g : q ≢ j). ⊎_elim
      (λ (a : offset_of (r.shape d.sid) m' ≡ Some q). inl (out.others m' (λ b. g (let both : Some q ≡ Some j = sym a ∙ (ap (offset_of (r.shape d.sid)) b ∙ out.was) in cc)) ∙ a))
      (λ (a : p.epoch < (r.now o).stamps q). (let same' = away q g in inr (omega arith))) was) (cases_eq q j))
      (stamped_more o j UNSTAMPED now refl)
      (let n = take.counts z k.1.keys.names in let t = out.top in counts_go r.counted v.number event o d c 0 1 take.on there (keyed_no_dictionary d.kind (kind_keyed d.kind plain.flat)) n.0 n.1 (omega (arith, deeper)) (omega (arith, t)))
      (let u = celling_owing P v event r.log v.storage (record { object = o; offset = j; stamp = UNSTAMPED } ∷ v.quarantine) (v.time.owed + 1) counts in let same : SameItems v u = numbers_of v u refl refl refl refl refl refl in let m = many_deeper r.shape d c 1 (kind_keyed d.kind plain.flat) (omega (arith, deeper)) in raised_reason views id v u at l (numbers same) r.histories r.raised (may_flat r.allowed id v at l o d there (keyed_no_dictionary d.kind (kind_keyed d.kind plain.flat))) refl refl refl o d c there (object_within id v r at l o d there) m)

  -- A licensed owner adds a name at an offset that was given back, which no pin has any more.
  pub reuses_offset : (i : ℕ) (lic : Licence) (event : Event) (c : Cell) (name : NameId) (j : ℕ) (a : Location) (x : ℕ) (counts : Counts) → get_elem? v.sight.licences i ≡ some lic → lic.writes ≡ true → lic.transitions ≡ true → MayAdd P v event lic.pin.object (r.shape lic.pin.cell.sid) (Name name) x
      → IsCell c → c.owner ≡ lic.pin.object.pass → c.kind ≡ Flat → c.locked ≡ false → c.shared_write ≡ false → c.address ≡ lic.pin.cell.address → Widens (r.shape lic.pin.cell.sid) (r.shape c.sid) (Name name) (offset j) (λ n. n ≡ j)
      → frame r.role false lic.pin.object lic.pin.cell.address (offset j) ≡ Some a → values w a ≡ x → IsHidden r lic.pin.object j
      → Rule P (put w (cell lic.pin.object) (cell_bits c)) (set views id (celling P v event r.log v.storage (record { object = lic.pin.object; offset = j; stamp = 0 } ∷ v.quarantine) counts))
  reuses_offset i lic event c name j a x counts has writes transitions add is owner kind free unshared at_same wide place word hidden =
      let o = lic.pin.object in
      let d = lic.pin.cell in
      let there : r.cell o ≡ Some d = still r id v at l i lic has writes in
      let h = r.sights.each id v at l in
      let plain = (h.licensed i lic has).plain in
      let st = standing r.contents o d there in
      let k = keyed_of st (kind_keyed d.kind plain.flat) in
      let now : Now = record (r.now o) { stamps = set_number (r.now o).stamps j 0 } in
      let flat : (r.now o).segmented ≡ false = k.0.segmented_is ∙ flat_not_segmented d.kind plain.flat in
      let loose : IsLoose false now = record { settled = k.0.settled; segmented_is = flat; sealed = k.0.sealed } in
      let here : now.stamps j ≡ 0 = number_here (r.now o).stamps j 0 in
      let away : (n : ℕ) → n ≢ j → now.stamps n ≡ (r.now o).stamps n = λ n e. number_else (r.now o).stamps j n 0 e in
      let frames : (y : Spot) → frame r.role false o c.address y ≡ frame r.role false o d.address y = λ y. ap (λ (b : ℕ). frame r.role false o b y) at_same in
      let old = subst (λ (b : Bool). HasKeys (values w) r.role b (r.shape d.sid) o d.address (object_of (after P r.log) o)) flat k.1.keys in
      licensed i lic event c now r.role v.storage (record { object = o; offset = j; stamp = 0 } ∷ v.quarantine) v.time.owed counts has there add.unopened add.may add.on is owner wide.born (wide.root ∙ st.root) kind free unshared loose same_roles (r.owned.storage id v at l)
      record {
        block = subst (λ (b : ℕ). IsBlockOf r.role (r.now o).segmented o b) (sym at_same) k.1.block;
        keys = subst (λ (b : Bool). HasKeys (values w) r.role b (r.shape c.sid) o c.address (object_after_event event (object_of (after P r.log) o))) (sym flat)
            (keys_more (Name name) (offset j) a x wide (add.adds (object_of (after P r.log) o) k.1.keys.names) (frames (offset j) ∙ place) word (λ s f g. f (sym (frames s) ∙ g))
            (λ q s p n f g. ((λ p0 e. ap (values w) (one_place (frame r.role false o d.address s) p p0 (sym (frames s) ∙ g) e)), (λ e. (let bad : None ≡ Some p = sym e ∙ (sym (frames s) ∙ g) in absurd cc)))) old);
        unused = λ n m g f. ⊎_elim
            (λ (b : offset_of (r.shape d.sid) m ≡ Some n). ⊎_elim (λ (e : n ≡ j). (let zero_stamp : now.stamps n ≡ 0 = ap now.stamps e ∙ here in omega arith)) (λ (e : n ≢ j). (let same = away n e in k.1.unused n m (omega arith) b)) (cases_eq n j))
            (λ (b : n ≡ j). (let zero_stamp : now.stamps n ≡ 0 = ap now.stamps b ∙ here in omega arith)) (wide.back m n f);
        under = λ n g. ⊎_elim (λ (e : n ≡ j). (let zero_stamp : now.stamps n ≡ 0 = ap now.stamps e ∙ here in absurd (omega arith)))
            (λ (e : n ≢ j). (let same = away n e in let b = k.1.under n (omega arith) in let t = wide.top in omega arith)) (cases_eq n j);
      }
      (λ i' y n e ly m p f keyed same m' q off was. ⊎_elim
      (λ (b : offset_of (r.shape d.sid) m' ≡ Some q). inl (wide.keep m' q b))
      (λ (b : p.epoch < (r.now o).stamps q). ⊎_elim
      (λ (g : q ≡ j). absurd (hidden.pins i' y e ly m p f keyed same m' (off ∙ ap (λ (x : ℕ). Some x) g)))
      (λ (g : q ≢ j). (let same' = away q g in inr (omega arith))) (cases_eq q j)) was)
      (stamped_more o j 0 now refl)
      (let n = add.counts (object_of (after P r.log) o) k.1.keys.names in let dp = wide.depth in let hi = wide.high in counts_go r.counted v.number event o d c 1 0 add.on there (keyed_no_dictionary d.kind (kind_keyed d.kind plain.flat)) n.0 n.1 (omega (arith, dp)) hi)
      (let u = celling P v event r.log v.storage (record { object = o; offset = j; stamp = 0 } ∷ v.quarantine) counts in let same : SameItems v u = numbers_of v u refl refl refl refl refl refl in let dp = wide.depth in let m = many_deeper r.shape d c 0 (kind_keyed d.kind plain.flat) (omega arith) in raised_cell views id v u at l (numbers same) r.histories r.raised refl refl o (Some d) c there (omega arith))
