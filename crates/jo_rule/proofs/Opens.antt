-- The words of a new heap, and the view of its first pass, satisfy the rule.
use Rattle.std.proofs.Common.{◌≡◌, ◌≢◌, ◌+◌, ◌-◌, ◌*◌, ◌%◌, ◌/◌, ◌<◌, ◌≤◌, ℕ, zero, suc, Bool, true, false, cond, eqb, ltb, ◌&&◌, List, [], ◌∷◌, refl, sym, ap, ◌∙◌, ◌⊎◌, subst, inl, inr, ⊎_elim, arith, length, get_or, Option, Some, None}
use Rattle.std.specs.Prelude.{nat_lt, nat_eq, slice_index, replicate, if◌then◌else◌}
use Rattle.std.proofs.lemmas.Bool.{cases_Bool, and_parts, eqb-true, ltb-true, cases_eq, cases_lt, cond_both, both_ways, eq-eqb, ne_eqb, lt-ltb, le-ltb, and_from}
use Rattle.std.proofs.lemmas.List.{get_or-replicate, get_or_past, length-replicate}
use Rattle.jo_value.specs.declared.capacities.TheConstants.{MOST_PASSES, MOST_STRUCTURES, SHARED_ADDRESS, SHARED_STORAGE}
use Rattle.jo_value.specs.declared.limits.TheConstants.{MOST_STORAGE, MOST_OBJECTS}
use Rattle.jo_value.specs.declared.value.ObjId.{ObjId}
use Rattle.jo_value.specs.declared.value.Sid.{Sid}
use Rattle.jo_value.specs.declared.words.node.Node.{Node}
use Rattle.jo_value.specs.declared.words.cell.Cell.{Cell}
use Rattle.jo_value.specs.Values.{is_same_object}
use Rattle.jo_value.specs.Words.{cell_bits, node_bits}
use Rattle.jo_model.specs.Objects.{Object, empty_object}
use Rattle.jo_model.specs.Heaps.{heap_at_start, objects_of, object_of, shared}
use Rattle.jo_model.proofs.Growing.{log-nil}
use Rattle.jo_model.proofs.Valid.{valid_at_start}
use Rattle.jo_rule.specs.Names.{WordName, first_child, sibling, transition_set, write_set, cell, inline, word_at, is_word}
use Rattle.jo_rule.specs.Areas.{words_of, nodes, first_children, siblings, cells, stored, set_object}
use Rattle.jo_rule.specs.Shapes.{Shape, unborn_shape, root_shape, IsShape, word_of_node, Shaped}
use Rattle.jo_rule.specs.Spots.{values}
use Rattle.jo_value.specs.declared.capacities.TheConstants.{VALID}
use Rattle.jo_rule.specs.declared.watched.SetKind.{SetKind}
use Rattle.jo_rule.specs.declared.watched.SetKind.TheVariants.{Transition, Write}
use Rattle.jo_rule.specs.Sights.{watched, ViewIsSighted}
use Rattle.jo_rule.proofs.Sights.{sighted_nothing}
use Rattle.jo_rule.specs.Contents.{is_keyed, is_segmented, is_dictionary}
use Rattle.jo_rule.specs.Lasting.{KnowsLasting}
use Rattle.jo_rule.specs.Timing.{ViewIsTimed}
use Rattle.jo_rule.proofs.Timing.{timed_new}
use Rattle.jo_rule.specs.Allowed.{SaysSo, IsDictionaryOf}
use Rattle.jo_rule.specs.Areas.{acknowledgements}
use Rattle.jo_rule.proofs.Shapes.{formed_unborn, formed_root}
use Rattle.jo_rule.specs.Views.{View, Lock}
use Rattle.jo_rule.specs.Dictionaries.{block_size, dictionary_header, HasProperties}
use Rattle.jo_rule.specs.Histories.{OwnArePlaced, KeptArePlaced, HasSeen, home_at, HasHome, CountsPasses, OwnEntries, KeptEntries, ArePlacedIn, HasItsEntries}
use Rattle.jo_rule.specs.Contents.{Role, unnamed, fixed, dictionary, Now, unborn_now, dictionary_now, root_of, word_of_cell, is_born, AreCells, Stands, HasWords}
use Rattle.jo_rule.specs.Owned.{address_of, structure_of, root_node, StorageIsOwn, ObjectsAreOwn, StructuresAreOwn}
use Rattle.jo_rule.specs.Locks.{HoldsItsLock}
use Rattle.jo_rule.specs.Rule.{Rule}
use Rattle.jo_rule.specs.Steps.{opening_view}
use Rattle.jo_rule.specs.Opening.{shared_cell, opening_word, opening_words, AreOpening}
use Rattle.jo_rule.proofs.Names.{word_back, word_below}
use Rattle.jo_rule.proofs.Concluded.{concluded_first}
use Rattle.jo_rule.proofs.Raised.{raised_first}
use Rattle.jo_rule.proofs.Lists.{live_one, no_each, no_item}
use Rattle.jo_rule.proofs.Events.{no_words}
use Rattle.jo_rule.proofs.Naming.{named_roles, named_first, named_words, named_else}
use Rattle.jo_rule.proofs.Passes.{nothing_placed}
use Rattle.jo_rule.proofs.Sets.{cases_object, object_here, object_else, other_object}

-- ---- the list and the names

-- a list of the opening words has them by name
pub opening_by_name : (P : ℕ) (ws : List ℕ) → AreOpening P ws → words_of P ws ≡ opening_words P
opening_by_name P ws h =
    let by : (n : WordName) (b : Bool) → is_word P n ≡ b → cond b (slice_index ws (word_at P n)) 0 ≡ cond b (opening_word n) 0
    = λ n b. elim b as (λ c. is_word P n ≡ c → cond c (slice_index ws (word_at P n)) 0 ≡ cond c (opening_word n) 0) [ true ↦ λ e. h.each (word_at P n) (word_below P n e) ∙ ap opening_word (word_back P n e) | false ↦ λ e. refl ] in
    λ i n. by n (is_word P n) refl i

-- ---- the heap at the start

objects_later : (P p : ℕ) → 0 < p → objects_of (heap_at_start P) p ≡ []
objects_later P zero lt = absurd (omega arith)
objects_later P (suc p) lt = ⊎_elim
    (λ l. get_or-replicate (P - 1) p [] [] l)
    (λ g. get_or_past (replicate (P - 1) []) p [] (let e = length-replicate {A = List Object} (P - 1) [] in omega arith)) (cases_lt p (P - 1))

one_empty : (i : ℕ) → get_or (empty_object ∷ []) i empty_object ≡ empty_object
one_empty zero = refl
one_empty (suc i) = refl

all_empty : (P : ℕ) (o : ObjId) → object_of (heap_at_start P) o ≡ empty_object
all_empty P o = ⊎_elim
    (λ (e : o.pass ≡ 0). ap (λ (p : ℕ). get_or (objects_of (heap_at_start P) p) o.serial empty_object) e ∙ one_empty o.serial)
    (λ (n : o.pass ≢ 0). ap (λ (l : List Object). get_or l o.serial empty_object) (objects_later P o.pass (omega arith))) (cases_eq o.pass 0)

-- ---- its words

storage_else : (P a : ℕ) → a ≢ SHARED_ADDRESS → stored (opening_words P) a ≡ 0
storage_else P a n =
    let e : eqb a SHARED_ADDRESS ≡ false = ne_eqb a SHARED_ADDRESS n in
    cond_both (nat_lt a (MOST_STORAGE * P)) (cond (eqb a SHARED_ADDRESS) (dictionary_header 0) 0) 0 (λ x. x ≡ 0) (λ t. rw e refl) (λ f. refl)

storage_first : (P : ℕ) → 0 < P → stored (opening_words P) SHARED_ADDRESS ≡ dictionary_header 0
storage_first P lt = let e : ltb SHARED_ADDRESS (MOST_STORAGE * P) ≡ true = lt-ltb SHARED_ADDRESS (MOST_STORAGE * P) (omega arith) in rw e refl

abbrev first_cells : ObjId → Option Cell
first_cells = set_object (λ o. None) shared (Some shared_cell)

-- before a block is named: word 0 is 0 for ever
abbrev bare_roles : ℕ → Role
bare_roles a = if nat_eq a 0 then fixed 0 else unnamed

abbrev first_roles : ℕ → Role
first_roles = named_roles bare_roles SHARED_ADDRESS 0 shared

first_zero : first_roles 0 ≡ fixed 0
first_zero = refl

first_else : (a : ℕ) → a ≢ 0 → ((k : ℕ) → k < block_size 0 → a ≢ SHARED_ADDRESS + k) → first_roles a ≡ unnamed
first_else a n far =
    let e : eqb a 0 ≡ false = ne_eqb a 0 n in
    let bare : bare_roles a ≡ unnamed = rw e refl in
    named_else bare_roles SHARED_ADDRESS 0 shared a far ∙ bare

abbrev first_now : ObjId → Now
first_now = set_object (λ o. unborn_now) shared (dictionary_now 0)

first_coded : (P : ℕ) → 0 < P → AreCells (cells (opening_words P)) first_cells
first_coded P lt o = ⊎_elim
    (λ (e : o ≡ shared).
    let there : (ltb 0 P && ltb 0 MOST_OBJECTS) ≡ true = and_from (ltb 0 P) (ltb 0 MOST_OBJECTS) (lt-ltb 0 P lt) (lt-ltb 0 MOST_OBJECTS (omega arith)) in
    let here : cells (opening_words P) shared ≡ cell_bits shared_cell = rw there refl in
    ap (cells (opening_words P)) e ∙ (here ∙ sym (ap word_of_cell (ap first_cells e ∙ object_here (λ o. None) shared (Some shared_cell)))))
    (λ (n : o ≢ shared).
    let d : is_same_object o shared ≡ false = other_object o shared n in
    let none_there : cells (opening_words P) o ≡ 0 = cond_both (is_word P (cell o)) (cond (is_same_object o shared) (cell_bits shared_cell) 0) 0 (λ x. x ≡ 0) (λ t. rw d refl) (λ f. refl) in
    none_there ∙ sym (ap word_of_cell (object_else (λ o. None) shared o (Some shared_cell) n))) (cases_object o shared)

no_properties : (P : ℕ) → HasProperties (λ k. stored (opening_words P) (SHARED_ADDRESS + k)) 0 empty_object
no_properties P = record {
  few = omega arith;
  count = storage_else P (SHARED_ADDRESS + 1) (λ e. omega arith);
  names = λ j name v e. absurd cc;
  elements = λ i lt. absurd (omega arith);
  beyond = λ i le. refl;
}

first_still : (P : ℕ) → 0 < P → (a word : ℕ) → first_roles a ≡ fixed word → stored (opening_words P) a ≡ word
first_still P pos a word e = ⊎_elim
    (λ (f : a ≡ 0). ap (stored (opening_words P)) f ∙ (storage_else P 0 (λ g. omega (arith, g)) ∙ (let g : fixed 0 ≡ fixed word = sym (ap first_roles f ∙ first_zero) ∙ e in let h : 0 ≡ word = cc in h)))
    (λ (m : a ≢ 0). ⊎_elim
    (λ (f : a ≡ SHARED_ADDRESS). ap (stored (opening_words P)) f ∙ (storage_first P pos ∙ (let g : fixed (dictionary_header 0) ≡ fixed word = sym (ap first_roles f ∙ named_first bare_roles SHARED_ADDRESS 0 shared) ∙ e in let h : dictionary_header 0 ≡ word = cc in h)))
    (λ (n : a ≢ SHARED_ADDRESS). absurd (
    let away : eqb a SHARED_ADDRESS ≡ false = ne_eqb a SHARED_ADDRESS n in
    let far : eqb a 0 ≡ false = ne_eqb a 0 m in
    let rest : (if nat_lt SHARED_ADDRESS a && nat_lt a (SHARED_ADDRESS + block_size 0) then dictionary shared else unnamed) ≡ fixed word = (rw (away, far) at e) in
    cond_both (nat_lt SHARED_ADDRESS a && nat_lt a (SHARED_ADDRESS + block_size 0)) (dictionary shared) unnamed (λ x. x ≡ fixed word → ⊥) (λ t g. (let no : dictionary shared ≡ fixed word = g in cc)) (λ t g. (let no : unnamed ≡ fixed word = g in cc)) rest)) (cases_eq a SHARED_ADDRESS)) (cases_eq a 0)

none_of : (b : Bool) → ◌≡◌ {A = ℕ} (cond {A = ℕ} b 0 0) 0
none_of true = refl
none_of false = refl

node_of_root : (P p : ℕ) → p < P → nodes (opening_words P) (root_of p) ≡ node_bits root_node
node_of_root P p lt =
    let there : ltb (MOST_STRUCTURES * p) (MOST_STRUCTURES * P) ≡ true = lt-ltb (MOST_STRUCTURES * p) (MOST_STRUCTURES * P) (omega arith) in
    let root : eqb (MOST_STRUCTURES * p % MOST_STRUCTURES) 0 ≡ true = eq-eqb (MOST_STRUCTURES * p % MOST_STRUCTURES) 0 (omega arith) in
    rw (there, root) refl

-- the roots are the structures that are there
abbrev is_root_of : ℕ → Sid → Bool
is_root_of P s = nat_lt s.0 (MOST_STRUCTURES * P) && nat_eq (s.0 % MOST_STRUCTURES) 0

abbrev first_node : ℕ → Sid → Option Node
first_node P s = if is_root_of P s then Some root_node else None

abbrev first_shape : ℕ → Sid → Shape
first_shape P s = if is_root_of P s then root_shape (s.0 / MOST_STRUCTURES) else unborn_shape

first_root : (P t : ℕ) → t < P → (first_node P (root_of t) ≡ Some root_node) × (first_shape P (root_of t) ≡ root_shape t)
first_root P t lt =
    let there : ltb (MOST_STRUCTURES * t) (MOST_STRUCTURES * P) ≡ true = lt-ltb (MOST_STRUCTURES * t) (MOST_STRUCTURES * P) (omega arith) in
    let root : eqb (MOST_STRUCTURES * t % MOST_STRUCTURES) 0 ≡ true = eq-eqb (MOST_STRUCTURES * t % MOST_STRUCTURES) 0 (omega arith) in
    let number : MOST_STRUCTURES * t / MOST_STRUCTURES ≡ t = omega arith in
    (rw (there, root) refl, rw (there, root) (ap root_shape number))

root_cases : (P : ℕ) (s : Sid) → (is_root_of P s ≡ false) ⊎ ((t : ℕ) × (t < P) × (s ≡ root_of t))
root_cases P s = ⊎_elim
    (λ (e : is_root_of P s ≡ true).
    let both = and_parts (ltb s.0 (MOST_STRUCTURES * P)) (eqb (s.0 % MOST_STRUCTURES) 0) e in
    let lt = ltb-true s.0 (MOST_STRUCTURES * P) both.0 in
    let root = eqb-true (s.0 % MOST_STRUCTURES) 0 both.1 in
    let number : s.0 ≡ MOST_STRUCTURES * (s.0 / MOST_STRUCTURES) = omega arith in
    inr (s.0 / MOST_STRUCTURES, omega arith, (λ i. record { 0 = number i })))
    (λ (e : is_root_of P s ≡ false). inl e) (cases_Bool (is_root_of P s))

first_none : (P : ℕ) (s : Sid) → is_root_of P s ≡ false → (first_node P s ≡ None) × (first_shape P s ≡ unborn_shape)
first_none P s e = (rw e refl, rw e refl)

first_inside_shape : (P : ℕ) (s : Sid) → (first_shape P s).born ≡ true → s.0 < MOST_STRUCTURES * P
first_inside_shape P s b = ⊎_elim
    (λ (e : is_root_of P s ≡ false). (let no : false ≡ true = sym (ap (λ (z : Shape). z.born) (first_none P s e).1) ∙ b in absurd cc))
    (λ (e : (t : ℕ) × (t < P) × (s ≡ root_of t)). let lt = e.1 in let is = ap (λ (x : Sid). x.0) e.2 in omega (arith, is)) (root_cases P s)

no_root_word : (P : ℕ) (s : Sid) → is_root_of P s ≡ false → nodes (opening_words P) s ≡ 0
no_root_word P s e = cond_both (nat_lt s.0 (MOST_STRUCTURES * P)) (cond (eqb (s.0 % MOST_STRUCTURES) 0) (node_bits root_node) 0) 0 (λ x. x ≡ 0)
    (λ t. ⊎_elim (λ (q : eqb (s.0 % MOST_STRUCTURES) 0 ≡ true). absurd (both_ways (is_root_of P s) e (and_from (ltb s.0 (MOST_STRUCTURES * P)) (eqb (s.0 % MOST_STRUCTURES) 0) t q))) (λ (q : eqb (s.0 % MOST_STRUCTURES) 0 ≡ false). rw q refl) (cases_Bool (eqb (s.0 % MOST_STRUCTURES) 0))) (λ f. refl)

first_shaped : (P : ℕ) → Shaped P (nodes (opening_words P)) (first_children (opening_words P)) (siblings (opening_words P)) (first_node P) (first_shape P)
first_shaped P = record {
  coded = λ s. ⊎_elim
      (λ (e : is_root_of P s ≡ false). no_root_word P s e ∙ sym (ap word_of_node (first_none P s e).0))
      (λ (e : (t : ℕ) × (t < P) × (s ≡ root_of t)). ap (nodes (opening_words P)) e.2 ∙ (node_of_root P e.0 e.1 ∙ sym (ap word_of_node (ap (first_node P) e.2 ∙ (first_root P e.0 e.1).0)))) (root_cases P s);
  roots = first_root P;
  unborn = λ s e. ⊎_elim
      (λ (f : is_root_of P s ≡ false). (first_none P s f).1)
      (λ (f : (t : ℕ) × (t < P) × (s ≡ root_of t)). (let no : Some root_node ≡ None = sym (ap (first_node P) f.2 ∙ (first_root P f.0 f.1).0) ∙ e in absurd cc)) (root_cases P s);
  made = λ s n e. ⊎_elim
      (λ (f : is_root_of P s ≡ false). (let no : None ≡ Some n = sym (first_none P s f).0 ∙ e in absurd cc))
      (λ (f : (t : ℕ) × (t < P) × (s ≡ root_of t)).
      let both : Some root_node ≡ Some n = sym (ap (first_node P) f.2 ∙ (first_root P f.0 f.1).0) ∙ e in
      inl (f.0, f.1, f.2, cc, ap (first_shape P) f.2 ∙ (first_root P f.0 f.1).1)) (root_cases P s);
  formed = λ s. ⊎_elim
      (λ (f : is_root_of P s ≡ false). subst IsShape (sym (first_none P s f).1) formed_unborn)
      (λ (f : (t : ℕ) × (t < P) × (s ≡ root_of t)). subst IsShape (sym (ap (first_shape P) f.2 ∙ (first_root P f.0 f.1).1)) (formed_root f.0)) (root_cases P s);
  firsts = λ s. inl (none_of (is_word P (first_child s)));
}

first_stands : (P : ℕ) → 0 < P → (o : ObjId) → Stands (values (opening_words P)) first_roles (first_shape P) o (first_cells o) (first_now o) (object_of (heap_at_start P) o)
first_stands P pos o = ⊎_elim
    (λ (e : o ≡ shared). subst (λ (x : ObjId × Option Cell × Now). Stands (values (opening_words P)) first_roles (first_shape P) x.0 x.1 x.2 (object_of (heap_at_start P) x.0))
    (λ i. (sym e i, sym (ap first_cells e ∙ object_here (λ o. None) shared (Some shared_cell)) i, sym (ap first_now e ∙ object_here (λ o. unborn_now) shared (dictionary_now 0)) i))
    record {
      cell = record { sid = omega arith; address = omega arith; owner = omega arith };
      structure = ap (λ (z : Shape). z.born) (first_root P 0 pos).1;
      root = ap (λ (z : Shape). z.root) (first_root P 0 pos).1;
      owner = refl;
      kind = record { settled = refl; capacity = omega arith; header = named_first bare_roles SHARED_ADDRESS 0 shared; words = λ k lt le. named_words bare_roles SHARED_ADDRESS 0 shared k lt le; properties = λ f. subst (HasProperties (λ k. stored (opening_words P) (SHARED_ADDRESS + k)) 0) (sym (all_empty P shared)) (no_properties P) };
    })
    (λ (n : o ≢ shared). subst (λ (x : Option Cell × Now). Stands (values (opening_words P)) first_roles (first_shape P) o x.0 x.1 (object_of (heap_at_start P) o))
    (λ i. (sym (object_else (λ o. None) shared o (Some shared_cell) n) i, sym (object_else (λ o. unborn_now) shared o (dictionary_now 0) n) i)) (refl, all_empty P o)) (cases_object o shared)

first_born : (P : ℕ) (o : ObjId) → is_born (first_cells o) ≡ nat_lt o.serial (length (objects_of (heap_at_start P) o.pass))
first_born P o = ⊎_elim
    (λ (e : o ≡ shared). ap is_born (ap first_cells e ∙ object_here (λ o. None) shared (Some shared_cell)) ∙ sym (ap (λ (x : ObjId). nat_lt x.serial (length (objects_of (heap_at_start P) x.pass))) e ∙ lt-ltb 0 1 (omega arith)))
    (λ (n : o ≢ shared). ap is_born (object_else (λ o. None) shared o (Some shared_cell) n) ∙ sym (⊎_elim
    (λ (z : o.pass ≡ 0). ap (λ (p : ℕ). nat_lt o.serial (length (objects_of (heap_at_start P) p))) z ∙ le-ltb o.serial 1 (let d : o.serial ≢ 0 = λ f. n (λ i. record { pass = z i; serial = f i }) in omega arith))
    (λ (d : o.pass ≢ 0). ap (λ (l : List Object). nat_lt o.serial (length l)) (objects_later P o.pass (omega arith)) ∙ le-ltb o.serial 0 (omega arith)) (cases_eq o.pass 0))) (cases_object o shared)

first_inside : (P : ℕ) → 0 < P → (a : ℕ) → first_roles a ≢ unnamed → a < MOST_STORAGE * P
first_inside P pos a n = ⊎_elim (λ lt. omega arith)
    (λ ge. absurd (n (first_else a (λ e. omega arith) (λ j lj e. omega arith)))) (cases_lt a SHARED_STORAGE)

node_else : (P p k : ℕ) → 0 < k → k < MOST_STRUCTURES → nodes (opening_words P) (structure_of p k) ≡ 0
node_else P p k lo hi =
    let n = MOST_STRUCTURES * p + k in
    let no_root : eqb (n % MOST_STRUCTURES) 0 ≡ false = ne_eqb (n % MOST_STRUCTURES) 0 (λ e. omega arith) in
    cond_both (nat_lt n (MOST_STRUCTURES * P)) (cond (eqb (n % MOST_STRUCTURES) 0) (node_bits root_node) 0) 0 (λ x. x ≡ 0) (λ t. rw no_root refl) (λ f. refl)

all_valid : (P : ℕ) (s : Sid) (which : SetKind) → watched (opening_words P) s which ≡ VALID
all_valid P s Transition = none_of (is_word P (transition_set s))
all_valid P s Write = none_of (is_word P (write_set s))

first_stamps : (o : ObjId) (j : ℕ) → (first_now o).stamps j ≡ 0
first_stamps o j = ⊎_elim (λ (e : o ≡ shared). ap (λ (z : Now). z.stamps j) (ap first_now e ∙ object_here (λ o. unborn_now) shared (dictionary_now 0)))
    (λ (n : o ≢ shared). ap (λ (z : Now). z.stamps j) (object_else (λ o. unborn_now) shared o (dictionary_now 0) n)) (cases_object o shared)

-- each object of a new heap is a dictionary
first_kind : (o : ObjId) (c : Cell) → first_cells o ≡ Some c → IsDictionaryOf o c
first_kind o c e = ⊎_elim
    (λ (f : o ≡ shared). (let both : Some shared_cell ≡ Some c = sym (ap first_cells f ∙ object_here (λ o. None) shared (Some shared_cell)) ∙ e in let one : shared_cell ≡ c = cc in subst (λ (x : ObjId × Cell). IsDictionaryOf x.0 x.1) (λ i. (sym f i, one i)) (record { kind = refl; structure = refl })))
    (λ (n : o ≢ shared). (let no : None ≡ Some c = sym (object_else (λ o. None) shared o (Some shared_cell) n) ∙ e in absurd cc)) (cases_object o shared)

-- the words and the first view of a new heap, whether objects may be born flat in it or not
pub opens_either : (flat : Bool) (P : ℕ) → 0 < P → P ≤ MOST_PASSES → Rule P (opening_words P) (record opening_view { flat = flat } ∷ [])
opens_either flat P pos most =
    let first : View = record opening_view { flat = flat } in
    let w = opening_words P in
    let heap = heap_at_start P in
    let none_locked : (g : Lock) → first.lock ≡ Some g → ⊥ = λ g e. no_item g None refl e in record {
      log = [];
      made = 1;
      home = λ t. home_at 0 0;
      node = first_node P;
      shape = first_shape P;
      cell = first_cells;
      role = first_roles;
      now = first_now;
      so = set_object (λ o. false) shared true;
      placements = record { own = live_one (OwnArePlaced P) first (nothing_placed P [] 0); kept = live_one (KeptArePlaced P) first (no_each (λ k q. ArePlacedIn P [] q.number q.calls)) };
      histories = record {
        few = omega arith;
        authors = λ n e is. absurd cc;
        lawful = log-nil P;
        marks = λ n t noted is. absurd cc;
        seen = live_one (HasSeen []) first ([], refl);
        whole_at = 0;
        whole = record { view = first; there = refl; live = refl; all = refl };
        seated = live_one (HasHome 1 (λ t. home_at 0 0)) first record { own = (refl, omega arith); others = no_each (λ k q. (home_at 0 0 ≡ home_at 0 (k + 1)) × (q.number < 1)) };
        stands = λ t lt. record { view = first; there = refl; live = refl; number = let e : 0 ≡ t = omega arith in e };
        counted = live_one (CountsPasses 1) first (λ e. refl);
        own = live_one (OwnEntries P []) first refl;
        kept = live_one (KeptEntries P []) first (no_each (λ k q. HasItsEntries P [] [] q.number q.calls));
      };
      coded = first_coded P pos;
      shaped = first_shaped P;
      contents = record {
        stands = first_stands P pos;
        born = first_born P;
        still = first_still P pos;
        origin = first_zero;
        inside = λ a n. first_inside P pos a n;
        words = λ o. subst HasWords (sym (all_empty P o)) no_words;
        valid = valid_at_start P;
      };
      owned = record {
        storage = live_one (StorageIsOwn (stored w) first_roles) first record {
          named = omega arith;
          used = omega arith;
          nameless = λ k le lt. first_else (address_of 0 k) (λ e. omega arith) (λ j lj e. omega arith);
          known = λ k le lt. storage_else P (address_of 0 k) (λ e. omega arith);
          zeros = λ k le. refl;
        };
        objects = live_one (ObjectsAreOwn heap) first refl;
      };
      structures = record {
        roots = node_of_root P;
        own = live_one (StructuresAreOwn (nodes w) (siblings w)) first record { root = omega arith; few = omega arith; unborn = λ k le lt. node_else P 0 k (omega arith) lt; links = λ k le lt. none_of (is_word P (sibling (structure_of 0 k))); later = λ k le lt. refl };
        unlinked = λ t k le lt lo hi. none_of (is_word P (sibling (structure_of t k)));
      };
      locks = record {
        holder = λ o. 0;
        held = live_one (HoldsItsLock (stored w) first_cells first_now heap (λ o. 0)) first (λ g e. absurd (none_locked g e));
        locked = λ o c e bit. absurd (⊎_elim
            (λ (f : o ≡ shared). (let both : Some shared_cell ≡ Some c = sym (ap first_cells f ∙ object_here (λ o. None) shared (Some shared_cell)) ∙ e in let one : shared_cell ≡ c = cc in both_ways c.locked (ap (λ (x : Cell). x.locked) (sym one)) bit))
            (λ (n : o ≢ shared). (let no : None ≡ Some c = sym (object_else (λ o. None) shared o (Some shared_cell) n) ∙ e in cc)) (cases_object o shared));
      };
      unborn = record {
        children = λ s e. none_of (is_word P (first_child s));
        transitions = λ s e. none_of (is_word P (transition_set s));
        writes = λ s e. none_of (is_word P (write_set s));
        offsets = λ o j e. none_of (is_word P (inline o j));
      };
      unmade = record {
        out = λ t le lt. (let there : ltb t P ≡ true = lt-ltb t P lt in rw there refl);
        structures = λ t k le lt lo hi. node_else P t k lo hi;
        nameless = λ t k le lt lk. first_else (address_of t k) (λ e. omega arith) (λ j lj e. omega arith);
        storage = λ t k le lt lk. storage_else P (address_of t k) (λ e. omega arith);
        objects = λ t le. ap (λ (l : List Object). length l) (objects_later P t (omega arith));
      };
      sights = record {
        floor = λ q. 0;
        sealed = λ s which. 0;
        firer = λ s which. 0;
        each = live_one (ViewIsSighted P 0 (values w) first_cells (first_shape P) first_roles first_now (watched w) [] (λ q. 0) (λ s which. 0) (λ s which. 0)) first
            (sighted_nothing P 0 (values w) first_cells (first_shape P) first_roles first_now (watched w) [] (λ q. 0) (λ s which. 0) (λ s which. 0) 0 0 (λ o j e. first_stamps o j));
        floors = λ q. omega arith;
        few = omega arith;
        states = λ s which. inl (all_valid P s which);
        unsealed = λ s which e. refl;
      };
      born_so = record {
        dictionaries = λ o c e k. ⊎_elim (λ (f : o ≡ shared). inl (ap (set_object (λ o. false) shared true) f ∙ object_here (λ o. false) shared true))
            (λ (n : o ≢ shared). (let no : None ≡ Some c = sym (object_else (λ o. None) shared o (Some shared_cell) n) ∙ e in absurd cc)) (cases_object o shared);
        others = λ o c e k. ⊎_elim
            (λ (f : o ≡ shared). (let both : Some shared_cell ≡ Some c = sym (ap first_cells f ∙ object_here (λ o. None) shared (Some shared_cell)) ∙ e in let one : shared_cell ≡ c = cc in absurd (both_ways (is_keyed c.kind) (ap (λ (z : Cell). is_keyed z.kind) (sym one)) k)))
            (λ (n : o ≢ shared). object_else (λ o. false) shared o true n) (cases_object o shared);
        unopened = λ o c e k h. (let i = h.is in absurd cc);
        unborn = λ o e h. (let i = h.is in absurd cc);
        apart = λ o e h. (let i = h.is in absurd cc);
      };
      marked = record {
        shared = λ o c e h. ⊎_elim
            (λ (f : o ≡ shared). (let both : Some shared_cell ≡ Some c = sym (ap first_cells f ∙ object_here (λ o. None) shared (Some shared_cell)) ∙ e in let one : shared_cell ≡ c = cc in absurd (⊎_elim (λ (g : c.shared_write ≡ true). both_ways c.shared_write (ap (λ (z : Cell). z.shared_write) (sym one)) g) (λ (g : is_segmented c.kind ≡ true). both_ways (is_segmented c.kind) (ap (λ (z : Cell). is_segmented z.kind) (sym one)) g) h)))
            (λ (n : o ≢ shared). (let no : None ≡ Some c = sym (object_else (λ o. None) shared o (Some shared_cell) n) ∙ e in absurd cc)) (cases_object o shared);
        disturbed = λ s which n. absurd (n (all_valid P s which));
        noted = λ s which n. absurd (n (all_valid P s which));
        valid = λ s which e h. (let i = h.is in absurd cc);
        rooted = λ n by s which o e. absurd cc;
      };
      allowed = record {
        flat = flat;
        agreed = live_one (SaysSo flat) first refl;
        dictionaries = λ none_ o c e. first_kind o c e;
      };
      timing = record { timed = live_one (ViewIsTimed 0 (acknowledgements w)) first (timed_new 0 (acknowledgements w) 0 first.time refl refl refl refl (let there : ltb 0 P ≡ true = lt-ltb 0 P pos in rw there refl)) };
      lasting = record { known = live_one (KnowsLasting (first_node P) (siblings w) first_roles) first (λ name word e. (let no : None ≡ Some word = e in absurd cc)) };
      concluded = concluded_first P first refl refl;
      raised = raised_first P first_cells (first_shape P) (watched w) first refl refl refl refl refl (all_valid P) (first_inside_shape P);
      counted = record {
        unborn = λ o e. (refl, refl);
        depth = λ o c e k. absurd (both_ways (is_dictionary c.kind) k (ap is_dictionary (first_kind o c e).kind));
        top = λ o c e k. absurd (both_ways (is_dictionary c.kind) k (ap is_dictionary (first_kind o c e).kind));
      };
    }

-- and so where they may not
pub opens : (P : ℕ) → 0 < P → P ≤ MOST_PASSES → Rule P (opening_words P) (opening_view ∷ [])
opens P pos most = opens_either false P pos most
