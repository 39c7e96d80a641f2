-- The assemblers: what a step owes that changes no word, that stores a storage word, or that stores a cell.
use Rattle.std.proofs.Common.{◌≡◌, ◌≢◌, ◌⊎◌, ◌+◌, ◌*◌, ◌<◌, ◌≤◌, ℕ, Bool, true, false, List, refl, sym, ap, ◌∙◌, subst, inl, inr, ⊎_elim, arith, length, set, Option, Some, None}
use mathlib.Core.Option.{some}
use lib.ListN.{get_elem?}
use Rattle.std.specs.Prelude.{nat_lt}
use Rattle.std.proofs.lemmas.Bool.{cases_eq, both_ways}
use Rattle.jo_value.specs.declared.limits.TheConstants.{MOST_STORAGE}
use Rattle.jo_value.specs.declared.value.ObjId.{ObjId}
use Rattle.jo_value.specs.declared.value.Sid.{Sid}
use Rattle.jo_value.specs.declared.words.cell.Cell.{Cell}
use Rattle.jo_value.specs.declared.words.cell.Kind.TheVariants.{Dictionary}
use Rattle.jo_value.specs.Words.{IsCell, cell_bits}
use Rattle.jo_value.proofs.Distinct.{cell_words, no_cell_is_zero}
use Rattle.jo_model.specs.Objects.{Object}
use Rattle.jo_model.specs.Heaps.{Heap, objects_of, object_of, IsBorn}
use Rattle.jo_model.specs.Logs.{Log, after}
use Rattle.jo_model.specs.Valid.{IsValidHeap}
use Rattle.jo_value.specs.declared.limits.TheConstants.{MOST_OBJECTS}
use Rattle.jo_model.proofs.ValidEdits.{within_most}
use Rattle.jo_rule.proofs.Heaps.{within_passes, passes-after, formed-after}
use Rattle.jo_rule.specs.Raised.{Raised}
use Rattle.jo_rule.proofs.Raised.{debts_of, raised_same}
use Rattle.jo_rule.specs.Views.{Past}
use Rattle.jo_rule.specs.Concluded.{Concluded}
use Rattle.jo_rule.proofs.Concluded.{OpensAlike, alike_same, AtLeast, at_least_same, at_least_event, concluded_same}
use Rattle.jo_rule.specs.declared.event.Event.{Event}
use Rattle.jo_rule.specs.Names.{epoch, cell, storage}
use Rattle.jo_rule.specs.Areas.{Words, put, acknowledgements, stored, set_number, set_object}
use Rattle.jo_rule.specs.Shapes.{Shape}
use Rattle.jo_rule.specs.Spots.{Spot, Location, beside, stored_at, values}
use Rattle.jo_rule.specs.Roles.{value}
use Rattle.jo_rule.specs.Marks.{Mark, HasForeignMark}
use Rattle.jo_rule.specs.Marked.{BornSo}
use Rattle.jo_rule.specs.Timing.{ViewIsTimed}
use Rattle.jo_rule.proofs.Marked.{marked_event, marked_cell}
use Rattle.jo_rule.proofs.Timing.{timing_set}
use Rattle.jo_rule.specs.Allowed.{IsDictionaryOf}
use Rattle.jo_rule.proofs.Allowed.{allowed_same, allowed_cell}
use Rattle.jo_rule.specs.Counted.{CountsGo}
use Rattle.jo_rule.proofs.Lasting.{lasting_same, lasting_grows}
use Rattle.jo_rule.proofs.Counted.{counted_cell}
use Rattle.jo_rule.specs.Views.{View, Lock, Pin}
use Rattle.jo_rule.specs.Events.{recorded, past_after}
use Rattle.jo_rule.specs.Dictionaries.{block_size, dictionary_header}
use Rattle.jo_rule.specs.Contents.{Role, unnamed, fixed, dictionary, Now, Grows, word_of_cell, is_born, is_keyed, is_segmented, Standing, Stands, HasWords}
use Rattle.jo_rule.specs.Owned.{address_of, structures_in, OwnsStorage}
use Rattle.jo_rule.specs.Histories.{Histories}
use Rattle.jo_rule.specs.Locks.{Locks}
use Rattle.jo_rule.specs.Rule.{Rule}
use Rattle.jo_rule.specs.Sights.{watched, IsFollowed, Follows, Owning, ViewIsSighted}
use Rattle.jo_rule.proofs.Sights.{continues, kind_keyed, sighted_store, sighted_cell, sights_set}
use Rattle.jo_rule.proofs.Histories.{begins_recorded, SameItems, SawMore, RefusesLawfully, saw_placements, saw_histories, event_placements, event_histories, alone, numbers}
use Rattle.jo_rule.proofs.Contents.{stores_contents, moves_contents, codes_cell, standing, standing_dictionary, places_of, unsettled_places}
use Rattle.jo_rule.proofs.Owned.{same_owned, goes_owned, same_structures, goes_unmade, bears_unborn, owns_else, owns_grown}
use Rattle.jo_rule.proofs.Locks.{same_locks}
use Rattle.jo_rule.proofs.Sets.{number_else, cases_object, object_here, object_else}
use Rattle.std.proofs.lemmas.Bool.{ltb-true}

-- the words of values, where one of storage is stored
pub stores_else : (w : Words) (a x : ℕ) (p : Location) → p ≢ stored_at a → values (put w (storage a) x) p ≡ values w p
stores_else w a x (beside o j) n = refl
stores_else w a x (stored_at b) n = number_else (stored w) a b x (λ e. n (ap stored_at e))

-- ---- what a step owes that stores a word of storage

-- the word does not stay for ever, and is no value; where it is a dictionary's, that is locked; where nothing is, it is no other pass's
pub record IsFree (passes made id : ℕ) (views : List View) (role : ℕ → Role) (cells : ObjId → Option Cell) (a : ℕ) : Type 0 where
  pub loose : (word : ℕ) → role a ≢ fixed word
  pub held : (o : ObjId) (c : Cell) → cells o ≡ Some c → role a ≡ dictionary o → c.locked ≡ true
  pub no_value : (o : ObjId) (y : Spot) → role a ≢ value o y
  pub others : (j : ℕ) (y : View) → j ≢ id → get_elem? views j ≡ some y → y.live ≡ true → (k : ℕ) → k < MOST_STORAGE → role a ≡ unnamed → address_of y.number k ≢ a
  pub unmade : (t k : ℕ) → made ≤ t → t < passes → k < MOST_STORAGE → role a ≡ unnamed → address_of t k ≢ a

-- ---- what a step owes that stores a cell

-- roles are given to words of the pass alone, and one that stays has its word already
pub record RolesGrow (passes : ℕ) (s : ℕ → ℕ) (pass : ℕ) (role role' : ℕ → Role) : Type 0 where
  pub grows : Grows role role'
  pub still : (a word : ℕ) → role' a ≡ fixed word → (role a ≡ fixed word) ⊎ (s a ≡ word)
  pub inside : (a : ℕ) → role' a ≢ unnamed → a < MOST_STORAGE * passes
  pub elsewhere : (t k : ℕ) → t ≢ pass → k < MOST_STORAGE → role' (address_of t k) ≡ role (address_of t k)

-- one object changes, which has words then, and at most the pass makes objects
pub record OneChanges (pass : ℕ) (o : ObjId) (heap heap' : Heap) : Type 0 where
  pub others : (q : ObjId) → q ≢ o → object_of heap' q ≡ object_of heap q
  pub lengths : (p : ℕ) → p ≢ pass → length (objects_of heap' p) ≡ length (objects_of heap p)
  pub words : HasWords (object_of heap' o)
  pub valid : IsValidHeap heap'

-- How other views go on where the cell of an object changes: their pins on it, and its stamps where they own it.
pub record PinsGoOn {P : ℕ} {w : Words} {views : List View} (r : Rule P w views) (id : ℕ) (o : ObjId) (c : Cell) (now : Now) (role : ℕ → Role) : Type 0 where
  pub follows : (j : ℕ) (y : View) → j ≢ id → get_elem? views j ≡ some y → y.live ≡ true → (k : ℕ) (p : Pin) → get_elem? y.sight.pins k ≡ some p → is_keyed p.cell.kind ≡ true → p.object ≡ o → IsFollowed r.role r.shape (r.cell o) (r.now o) y.number p → Follows role (r.shape c.sid) (r.shape p.cell.sid) c now y.number p
  pub owning : (j : ℕ) (y : View) → j ≢ id → get_elem? views j ≡ some y → y.live ≡ true → (k : ℕ) (p : Pin) → get_elem? y.sight.pins k ≡ some p → p.object ≡ o → Owning (watched w) (r.cell o) y.number p → Owning (watched w) (Some c) y.number p
  pub stamps : (j : ℕ) (y : View) → j ≢ id → get_elem? views j ≡ some y → y.live ≡ true → (i : ℕ) → o.pass ≡ y.number → now.stamps i ≡ (r.now o).stamps i

-- what is said of the sight of a view, as the rule stands
abbrev pub SightOf : {P : ℕ} {w : Words} {views : List View} → Rule P w views → ℕ → View → Type 0
SightOf {P} {w} r seat y = ViewIsSighted P (w epoch) (values w) r.cell r.shape r.role r.now (watched w) r.log r.sights.floor r.sights.sealed r.sights.firer seat y

pub cases_place : (p q : Location) → (p ≡ q) ⊎ (p ≢ q)
cases_place (beside o j) (beside q k) = ⊎_elim
    (λ (e : o ≡ q). ⊎_elim (λ (f : j ≡ k). inl (λ i. beside (e i) (f i))) (λ (f : j ≢ k). inr (λ g. f cc)) (cases_eq j k))
    (λ (e : o ≢ q). inr (λ g. e cc)) (cases_object o q)
cases_place (stored_at a) (stored_at b) = ⊎_elim (λ (e : a ≡ b). inl (ap stored_at e)) (λ (e : a ≢ b). inr (λ g. e cc)) (cases_eq a b)
cases_place (beside o j) (stored_at b) = inr (λ g. cc)
cases_place (stored_at a) (beside o j) = inr (λ g. cc)

-- ---- facts that steps read

-- a word that is that of a cell is the word of this object's cell
pub cell_is : (x : Option Cell) (v : Location → ℕ) (role : ℕ → Role) (shape : Sid → Shape) (o : ObjId) (now : Now) (z : Object) (c : Cell) → Stands v role shape o x now z → word_of_cell x ≡ cell_bits c → IsCell c → x ≡ Some c
cell_is None v role shape o now z c h e is = absurd (let lt = no_cell_is_zero c in omega (arith, e))
cell_is (Some d) v role shape o now z c h e is = ap (λ (y : Cell). Some y) (cell_words d c h.cell is e)

module _ {P : ℕ} {w : Words} {views : List View} (r : Rule P w views) where
  pub found_cell : (o : ObjId) (c : Cell) → w (cell o) ≡ cell_bits c → IsCell c → r.cell o ≡ Some c
  found_cell o c e is = cell_is (r.cell o) (values w) r.role r.shape o (r.now o) (object_of (after P r.log) o) c (r.contents.stands o) (sym (r.coded o) ∙ e) is

  -- a born object is one of the heap
  pub born_of : (o : ObjId) (c : Cell) → r.cell o ≡ Some c → IsBorn (after P r.log) o
  born_of o c e = ltb-true o.serial (length (objects_of (after P r.log) o.pass)) (sym (r.contents.born o) ∙ ap is_born e)

  -- a born object stays born where its cell becomes another
  pub still_born : (o : ObjId) (d c : Cell) → r.cell o ≡ Some d → (q : ObjId) → is_born (set_object r.cell o (Some c) q) ≡ is_born (r.cell q)
  still_born o d c e q = ⊎_elim (λ (f : q ≡ o). ap is_born (ap (set_object r.cell o (Some c)) f ∙ object_here r.cell o (Some c)) ∙ sym (ap is_born (ap r.cell f ∙ e)))
      (λ (n : q ≢ o). ap is_born (object_else r.cell o q (Some c) n)) (cases_object q o)

  -- the roles of a block that is a dictionary's
  pub block_roles : (o : ObjId) (c : Cell) → r.cell o ≡ Some c → c.kind ≡ Dictionary → (k : ℕ) → k < block_size (r.now o).room → (r.role (c.address + k) ≡ fixed (dictionary_header (r.now o).room)) ⊎ (r.role (c.address + k) ≡ dictionary o)
  block_roles o c e is k lt =
      let d = standing_dictionary r.contents o c e is in
      ⊎_elim (λ (z : k ≡ 0). inl (ap r.role (let f : c.address + k ≡ c.address = omega arith in f) ∙ d.header))
      (λ (n : k ≢ 0). inr (d.words k (omega arith) lt)) (cases_eq k 0)

  -- no pin with keys is on an object that is settled, or on one that is not born
  pub no_pins_settled : (o : ObjId) → (r.now o).settled ≡ true → (number : ℕ) (p : Pin) → IsFollowed r.role r.shape (r.cell o) (r.now o) number p → ⊥
  no_pins_settled o settled number p h = both_ways (r.now o).settled h.follows.loose settled

  pub no_pins_unborn : (o : ObjId) → r.cell o ≡ None → (number : ℕ) (p : Pin) → IsFollowed r.role r.shape (r.cell o) (r.now o) number p → ⊥
  no_pins_unborn o none_ number p h = (let no : None ≡ Some h.current = sym none_ ∙ h.is in cc)

  -- so each goes on, whatever becomes of such an object
  pub pins_absent : (id : ℕ) (o : ObjId) (c : Cell) (now : Now) (role : ℕ → Role) → ((number : ℕ) (p : Pin) → IsFollowed r.role r.shape (r.cell o) (r.now o) number p → ⊥) → ((i : ℕ) → now.stamps i ≡ (r.now o).stamps i) → PinsGoOn r id o c now role
  pins_absent id o c now role none_ stamps =
      let away : (j : ℕ) (y : View) → get_elem? views j ≡ some y → y.live ≡ true → (k : ℕ) (p : Pin) → get_elem? y.sight.pins k ≡ some p → is_keyed p.cell.kind ≡ true → p.object ≡ o → ⊥ = λ j y e ly k p f key same.
      none_ y.number p (subst (λ (z : ObjId). IsFollowed r.role r.shape (r.cell z) (r.now z) y.number p) same ((r.sights.each j y e ly).follows k p f key)) in record {
        follows = λ j y n e ly k p f key same h. absurd (away j y e ly k p f key same);
        owning = λ j y n e ly k p f same h. record {
          writes = λ pl. absurd (away j y e ly k p f (kind_keyed p.cell.kind pl.flat) same);
          transitions = λ pl. absurd (away j y e ly k p f (kind_keyed p.cell.kind pl.flat) same);
        };
        stamps = λ j y n e ly i mine. stamps i;
      }

  -- a word of a held block is no word of this role
  pub held_else : (j : ℕ) (y : View) → get_elem? views j ≡ some y → y.live ≡ true → (g : Lock) → y.lock ≡ Some g → (a x : ℕ) → ((word : ℕ) → r.role a ≢ fixed word) → r.role a ≢ dictionary g.object → g.cell.kind ≡ Dictionary → (k : ℕ) → k < block_size g.room
      → set_number (stored w) a x (g.cell.address + k) ≡ stored w (g.cell.address + k)
  held_else j y e l g f a x loose other is k lt =
      let t = r.locks.held j y e l g f in
      let room = t.room in
      number_else (stored w) a (g.cell.address + k) x (λ h. ⊎_elim
      (λ (z : r.role (g.cell.address + k) ≡ fixed (dictionary_header (r.now g.object).room)). loose (dictionary_header (r.now g.object).room) (ap r.role (sym h) ∙ z))
      (λ (z : r.role (g.cell.address + k) ≡ dictionary g.object). other (ap r.role (sym h) ∙ z)) (block_roles g.object g.cell t.cell is k (subst (λ (m : ℕ). k < block_size m) (sym room) lt)))

module _ {P : ℕ} {w : Words} {views : List View} (id : ℕ) (v u : View) (r : Rule P w views) (at : get_elem? views id ≡ some v) (l : v.live ≡ true) (same : SameItems v u) where
  alive : u.live ≡ true
  alive = sym same.live ∙ l

  -- a step changes no word, and the pass saw more of the log, or as much
  pub looks : SawMore r.log v u → v.storage ≡ u.storage → v.births.objects ≡ u.births.objects → structures_in v.births ≡ structures_in u.births → v.lock ≡ u.lock → debts_of v ≡ debts_of u → v.time.unowed ≡ u.time.unowed → SightOf r id u → ViewIsTimed (w epoch) (acknowledgements w) id u → Rule P w (set views id u)
  looks saw store objects nodes lock owed unowed sight times = record {
    log = r.log;
    made = r.made;
    home = r.home;
    node = r.node;
    shape = r.shape;
    cell = r.cell;
    role = r.role;
    now = r.now;
    so = r.so;
    placements = saw_placements views id v u at l (numbers same) saw r.placements;
    histories = saw_histories views id v u at l (numbers same) saw r.placements r.histories;
    coded = r.coded;
    shaped = r.shaped;
    contents = r.contents;
    owned = same_owned views id u v at l same.number store objects r.owned;
    structures = same_structures views id v u at l same.number nodes r.structures;
    locks = same_locks views id v u at l alive lock (λ j y e ly g f w k lt. refl) r.locks;
    unborn = r.unborn;
    unmade = r.unmade;
    sights = sights_set views id u r.sights (λ j y n e ly h. h) sight;
    born_so = r.born_so;
    marked = r.marked;
    allowed = allowed_same views id v u at l same.flat r.allowed;
    timing = timing_set views id u r.timing times;
    lasting = lasting_same views id v u at l same.lasting r.lasting;
    counted = r.counted;
    concluded = concluded_same views id v u at l (numbers same) r.concluded (alike_same lock) (ap (λ (x : ℕ × List Rattle.jo_rule.specs.Views.KnownWord). x.0) nodes) (at_least_same v.past.calls u.past.calls saw.calls);
    raised = raised_same views id v u at l (numbers same) r.histories r.raised owed unowed;
  }

  -- a step changes no word, and an event is placed that is no change
  pub looks_event : (event : Event) → RefusesLawfully v.number r.log event → recorded P v.number event r.log ≡ r.log → u.past ≡ past_after P v.number event r.log v.past.calls → v.storage ≡ u.storage → v.births.objects ≡ u.births.objects → structures_in v.births ≡ structures_in u.births → v.lock ≡ u.lock → debts_of v ≡ debts_of u → v.time.unowed ≡ u.time.unowed → SightOf r id u → ViewIsTimed (w epoch) (acknowledgements w) id u → Rule P w (set views id u)
  looks_event event law stays past store objects nodes lock owed unowed sight times = record {
    log = r.log;
    made = r.made;
    home = r.home;
    node = r.node;
    shape = r.shape;
    cell = r.cell;
    role = r.role;
    now = r.now;
    so = r.so;
    placements = event_placements views id v u at l (numbers same) r.histories event law past r.placements;
    histories = subst (λ (log : Log Mark). Histories P log r.made r.home (set views id u)) stays (event_histories views id v u at l (numbers same) r.histories event law past r.placements);
    coded = r.coded;
    shaped = r.shaped;
    contents = r.contents;
    owned = same_owned views id u v at l same.number store objects r.owned;
    structures = same_structures views id v u at l same.number nodes r.structures;
    locks = same_locks views id v u at l alive lock (λ j y e ly g f w k lt. refl) r.locks;
    unborn = r.unborn;
    unmade = r.unmade;
    sights = sights_set views id u r.sights (λ j y n e ly h. h) sight;
    born_so = r.born_so;
    marked = r.marked;
    allowed = allowed_same views id v u at l same.flat r.allowed;
    timing = timing_set views id u r.timing times;
    lasting = lasting_same views id v u at l same.lasting r.lasting;
    counted = r.counted;
    concluded = concluded_same views id v u at l (numbers same) r.concluded (alike_same lock) (ap (λ (x : ℕ × List Rattle.jo_rule.specs.Views.KnownWord). x.0) nodes) (subst (AtLeast v.past.calls) (sym (ap (λ (x : Past). x.calls) past)) (at_least_event P v.number event r.log v.past.calls));
    raised = raised_same views id v u at l (numbers same) r.histories r.raised owed unowed;
  }

  -- a storage word is stored that is free
  pub stores : (a x : ℕ) → SawMore r.log v u → v.births.objects ≡ u.births.objects → structures_in v.births ≡ structures_in u.births → debts_of v ≡ debts_of u → v.time.unowed ≡ u.time.unowed → OpensAlike v.lock u.lock → IsFree P r.made id views r.role r.cell a
      → OwnsStorage (set_number (stored w) a x) r.role u.number u.storage → Locks (set_number (stored w) a x) r.cell r.now (after P r.log) (set views id u)
      → ViewIsSighted P (w epoch) (values (put w (storage a) x)) r.cell r.shape r.role r.now (watched w) r.log r.sights.floor r.sights.sealed r.sights.firer id u → ViewIsTimed (w epoch) (acknowledgements w) id u → Rule P (put w (storage a) x) (set views id u)
  stores a x saw objects nodes owed unowed alike free own locks sight times = record {
    log = r.log;
    made = r.made;
    home = r.home;
    node = r.node;
    shape = r.shape;
    cell = r.cell;
    role = r.role;
    now = r.now;
    so = r.so;
    placements = saw_placements views id v u at l (numbers same) saw r.placements;
    histories = saw_histories views id v u at l (numbers same) saw r.placements r.histories;
    coded = r.coded;
    shaped = r.shaped;
    contents = stores_contents r.contents (stored_at a) (stores_else w a x) free.loose (λ o c e key y f. free.no_value o y) free.held;
    owned = goes_owned views id u
        (λ j y n e ly h. owns_else h a x (λ k le lt f. free.others j y n e ly k lt (ap r.role (sym f) ∙ h.nameless k le lt) f))
        (λ j y n e ly. refl) own
        (subst (λ (z : ℕ × ℕ). z.1 ≡ length (objects_of (after P r.log) z.0)) (λ i. (same.number i, objects i)) (r.owned.objects id v at l)) r.owned;
    structures = same_structures views id v u at l same.number nodes r.structures;
    locks = locks;
    unborn = r.unborn;
    unmade = goes_unmade (λ t k le lt lk h. h) (λ t k le lt lk h. number_else (stored w) a (address_of t k) x (λ f. free.unmade t k le lt lk (ap r.role (sym f) ∙ h) f)) (λ t le. refl) r.unmade;
    sights = sights_set views id u r.sights (λ j y n e ly h. sighted_store h (stored_at a) r.contents.words r.contents.valid (λ q. cases_place q (stored_at a)) (stores_else w a x) free.no_value) sight;
    born_so = r.born_so;
    marked = r.marked;
    allowed = allowed_same views id v u at l same.flat r.allowed;
    timing = timing_set views id u r.timing times;
    lasting = lasting_same views id v u at l same.lasting r.lasting;
    counted = r.counted;
    concluded = concluded_same views id v u at l (numbers same) r.concluded alike (ap (λ (x : ℕ × List Rattle.jo_rule.specs.Views.KnownWord). x.0) nodes) (at_least_same v.past.calls u.past.calls saw.calls);
    raised = raised_same views id v u at l (numbers same) r.histories r.raised owed unowed;
  }

  -- the cell of an object is stored, with an event on it
  pub moves : (event : Event) (o : ObjId) (c : Cell) (now : Now) (role : ℕ → Role) → (r.allowed.flat ≡ false → IsDictionaryOf o c) → RefusesLawfully v.number r.log event → u.past ≡ past_after P v.number event r.log v.past.calls
      → RolesGrow P (stored w) v.number r.role role → OneChanges v.number o (after P r.log) (after P (recorded P v.number event r.log))
      → Standing (values w) role (r.shape c.sid) o c now (object_of (after P (recorded P v.number event r.log)) o) → ((q : ObjId) → is_born (set_object r.cell o (Some c) q) ≡ nat_lt q.serial (length (objects_of (after P (recorded P v.number event r.log)) q.pass)))
      → OwnsStorage (stored w) role u.number u.storage → u.births.objects ≡ length (objects_of (after P (recorded P v.number event r.log)) u.number) → structures_in v.births ≡ structures_in u.births
      → Locks (stored w) (set_object r.cell o (Some c)) (set_object r.now o now) (after P (recorded P v.number event r.log)) (set views id u) → PinsGoOn r id o c now role
      → ViewIsSighted P (w epoch) (values w) (set_object r.cell o (Some c)) r.shape role (set_object r.now o now) (watched w) (recorded P v.number event r.log) r.sights.floor r.sights.sealed r.sights.firer id u
      → (so : ObjId → Bool) → BornSo (recorded P v.number event r.log) (set_object r.cell o (Some c)) so → ((c.shared_write ≡ true) ⊎ (is_segmented c.kind ≡ true) → HasForeignMark o.pass r.log) → CountsGo P r.log (recorded P v.number event r.log) o r.shape c → Concluded P (recorded P v.number event r.log) (set views id u) → Raised P r.made (w epoch) (set_object r.cell o (Some c)) r.shape (watched w) (set views id u) → ViewIsTimed (w epoch) (acknowledgements w) id u → Rule P (put w (cell o) (cell_bits c)) (set views id u)
  moves event o c now role kinds law past roles one here born own objects nodes locks pins sight so came marks go concluded raised times =
      let lt = (r.histories.seated id v at l).own.1 in
      let far : (t : ℕ) → r.made ≤ t → t ≢ v.number = λ t le e. omega arith in record {
        log = recorded P v.number event r.log;
        made = r.made;
        home = r.home;
        node = r.node;
        shape = r.shape;
        cell = set_object r.cell o (Some c);
        role = role;
        now = set_object r.now o now;
        so = so;
        placements = event_placements views id v u at l (numbers same) r.histories event law past r.placements;
        histories = event_histories views id v u at l (numbers same) r.histories event law past r.placements;
        coded = codes_cell (λ q. w (cell q)) r.cell o c r.coded;
        shaped = r.shaped;
        contents = moves_contents r.contents o c now roles.grows roles.still roles.inside one.others here born one.words one.valid;
        owned = goes_owned views id u
            (λ j y n e ly h. owns_grown h (λ k lk. roles.elsewhere y.number k (λ f. alone views id v u at l (numbers same) r.histories j y n e ly (sym f)) lk))
            (λ j y n e ly. one.lengths y.number (λ f. alone views id v u at l (numbers same) r.histories j y n e ly (sym f))) own objects r.owned;
        structures = same_structures views id v u at l same.number nodes r.structures;
        locks = locks;
        unborn = bears_unborn o c r.unborn;
        unmade = goes_unmade (λ t k le lp lk h. roles.elsewhere t k (far t le) lk ∙ h) (λ t k le lp lk h. refl) (λ t le. one.lengths t (far t le)) r.unmade;
        sights = sights_set views id u r.sights
            (λ j y n e ly h. sighted_cell h o c now roles.grows (continues r.log (recorded P v.number event r.log) (begins_recorded P v.number event r.log))
            (λ k p f key same. pins.follows j y n e ly k p f key same) (λ k p f same. pins.owning j y n e ly k p f same) (λ i mine. pins.stamps j y n e ly i mine)
            (λ q d is loose. let st = standing r.contents q d is in (places_of st (unsettled_places st loose)).block)) sight;
        born_so = came;
        marked = marked_event P v.number event r.log (marked_cell r.marked o c marks);
        allowed = allowed_cell views id v u at l same.flat o c r.allowed kinds;
        timing = timing_set views id u r.timing times;
        lasting = lasting_grows views id v u at l same.lasting (λ s n e. e) roles.grows r.lasting;
        counted = counted_cell r.counted o c go;
        concluded = concluded;
        raised = raised;
      }

-- the cell of a born object is one of the heap's objects
pub object_within : {P : ℕ} {w : Words} {views : List View} (id : ℕ) (v : View) (r : Rule P w views) → get_elem? views id ≡ some v → v.live ≡ true → (o : ObjId) (c : Cell) → r.cell o ≡ Some c → (o.pass < P) × (o.serial < MOST_OBJECTS)
object_within {P} id v r at l o c e =
    let born = born_of r o c e in
    let below = (r.histories.seated id v at l).own.1 in
    let few = r.histories.few in
    let lt = within_passes (after P r.log) o born in
    let passes = passes-after P r.log (omega arith) in
    (omega arith, within_most (after P r.log) o (formed-after P r.log) born)
