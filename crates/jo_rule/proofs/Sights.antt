-- What a pass sees and may do goes on: where the log grows, roles are given, and words are stored that are no values.
use Rattle.std.proofs.Common.{◌≡◌, ◌≢◌, ◌⊎◌, ◌≤◌, ℕ, zero, suc, true, false, List, [], ◌∷◌, ◌++◌, length, take, set, map, refl, sym, ap, ◌∙◌, subst, inl, inr, ⊎_elim, arith, take_all, length-append, Option, Some, None}
use mathlib.Core.Option.{some}
use lib.ListN.{get_elem?}
use Rattle.std.proofs.lemmas.List.{take-append-le}
use Rattle.jo_value.specs.declared.capacities.TheConstants.{FIRED}
use Rattle.jo_value.specs.declared.value.Key.{Key}
use Rattle.jo_value.specs.declared.value.Key.TheVariants.{Name, Index}
use Rattle.jo_value.specs.declared.value.NameId.{NameId}
use Rattle.jo_value.specs.declared.value.ObjId.{ObjId}
use Rattle.jo_value.specs.declared.value.Sid.{Sid}
use Rattle.jo_value.specs.declared.words.cell.Cell.{Cell}
use Rattle.jo_value.specs.declared.words.cell.Kind.{Kind}
use Rattle.jo_value.specs.declared.words.cell.Kind.TheVariants.{Flat, Segmented, Opening, Dictionary}
use Rattle.jo_value.specs.declared.value.Value.{Value}
use Rattle.jo_value.specs.declared.words.slot.Slot.TheVariants.{Holds}
use Rattle.jo_value.specs.Words.{IsSlot, slot_bits}
use Rattle.std.specs.Prelude.{All, option_map, slice_get}
use Rattle.std.proofs.lemmas.List.Elements.{All-head, All-tail}
use Rattle.jo_rule.specs.Dictionaries.{IsNameWord}
use Rattle.jo_model.specs.Objects.{Object, property, name_place, element_place}
use Rattle.jo_model.specs.Heaps.{Heap, object_of}
use Rattle.jo_model.specs.Logs.{Log, after, heap_at}
use Rattle.jo_rule.specs.declared.watched.SetKind.{SetKind}
use Rattle.jo_rule.specs.declared.watched.SetKind.TheVariants.{Transition}
use Rattle.jo_rule.specs.Names.{WordName}
use Rattle.jo_rule.specs.Areas.{set_object}
use Rattle.jo_rule.specs.Marks.{Mark}
use Rattle.jo_rule.specs.Shapes.{Shape}
use Rattle.jo_rule.specs.Spots.{Spot, offset, element, Location, spot_of}
use Rattle.jo_rule.specs.Roles.{Role, value, Grows, role_at, frame, IsBlockOf}
use Rattle.jo_rule.specs.Dictionaries.{slot_in}
use Rattle.jo_model.specs.Valid.{IsValidObject, IsValidHeap}
use Rattle.jo_model.proofs.ValidEdits.{object_valid}
use Rattle.jo_rule.specs.Contents.{Now, is_keyed, is_flat, is_segmented, HasKeys, HasWords}
use Rattle.jo_rule.specs.Views.{View, Pin, Licence, Sight, Sets, Quarantined, Since, Lock, KnownWord}
use Rattle.jo_rule.specs.Histories.{Begins}
use Rattle.jo_rule.specs.Steps.{no_sight}
use Rattle.jo_rule.specs.Sights.{Valued, Sees, Follows, IsFollowed, Owning, Licensed, ByWrites, ByTransitions, ByLock, HasRight, IsKnown, told, stamp_in, IsSighted, ViewIsSighted, Sights}
use Rattle.jo_rule.proofs.Layouts.{frame_grows, block_grows, role_grows}
use Rattle.jo_rule.proofs.Lists.{live_set, no_each}
use Rattle.jo_rule.proofs.Sets.{cases_object, object_here, object_else}

-- ---- the slot of a property has a word

names_word : (l : List (NameId × Value)) (j : ℕ) → All (λ (p : NameId × Value). IsNameWord p.0 × IsSlot (Holds p.1)) l → IsSlot (slot_in (option_map (λ p. p.1) (slice_get l j)))
names_word [] j all = tt
names_word (p ∷ l) zero all = (All-head (λ (p : NameId × Value). IsNameWord p.0 × IsSlot (Holds p.1)) p l all).1
names_word (p ∷ l) (suc j) all = names_word l j (All-tail (λ (p : NameId × Value). IsNameWord p.0 × IsSlot (Holds p.1)) p l all)

elements_word : (l : List (ℕ × Value)) (j : ℕ) → All (λ (p : ℕ × Value). IsSlot (Holds p.1)) l → IsSlot (slot_in (option_map (λ p. p.1) (slice_get l j)))
elements_word [] j all = tt
elements_word (p ∷ l) zero all = All-head (λ (p : ℕ × Value). IsSlot (Holds p.1)) p l all
elements_word (p ∷ l) (suc j) all = elements_word l j (All-tail (λ (p : ℕ × Value). IsSlot (Holds p.1)) p l all)

pub property_word : (z : Object) (key : Key) → HasWords z → IsSlot (slot_in (property z key))
property_word z (Name name) h = names_word z.names (name_place z name) h.names
property_word z (Index index) h = elements_word z.elements (element_place z index) h.elements

-- ---- the log goes on

pub record Continues (log log' : Log Mark) : Type 0 where
  pub longer : length log ≤ length log'
  pub same : (m : ℕ) → m ≤ length log → take m log' ≡ take m log

pub continues : (log log' : Log Mark) → Begins log' log → Continues log log'
continues log log' b =
    let long : length log' ≡ length (log ++ b.0) = ap length b.1 in record {
      longer = omega (arith, length-append log b.0);
      same = λ m le. ap (take m) b.1 ∙ take-append-le m log b.0 le;
    }

pub stays : (log : Log Mark) → Continues log log
stays log = record { longer = omega arith; same = λ m le. refl }

pub heap_kept : (P : ℕ) (log log' : Log Mark) (m : ℕ) → Continues log log' → m ≤ length log → heap_at P m log' ≡ heap_at P m log
heap_kept P log log' m c le = ap (after P) (c.same m le)

pub heap_now : (P : ℕ) (log : Log Mark) → heap_at P (length log) log ≡ after P log
heap_now P log = ap (after P) (take_all (length log) log (omega arith))

pub valued_later : {P : ℕ} {log log' : Log Mark} {o : ObjId} {key : Key} {n word : ℕ} → Continues log log' → Valued P log o key n word → Valued P log' o key n word
valued_later {P} {log} {log'} {o} {key} {n} {word} c h =
    let le = c.longer in
    let within = h.within in record {
      at = h.at;
      later = h.later;
      within = omega arith;
      is = h.is ∙ ap (λ (x : Heap). slot_bits (slot_in (property (object_of x o) key))) (sym (heap_kept P log log' h.at c h.within));
      slot = subst (λ (x : Heap). IsSlot (slot_in (property (object_of x o) key))) (sym (heap_kept P log log' h.at c h.within)) h.slot;
      valid = subst (λ (x : Heap). IsValidObject x (object_of x o)) (sym (heap_kept P log log' h.at c h.within)) h.valid;
    }

pub valued_now : (P : ℕ) (log : Log Mark) (o : ObjId) (key : Key) (n word : ℕ) → n ≤ length log → HasWords (object_of (after P log) o) → IsValidHeap (after P log) → word ≡ slot_bits (slot_in (property (object_of (after P log) o) key)) → Valued P log o key n word
valued_now P log o key n word le words valid is = record {
  at = length log;
  later = le;
  within = omega arith;
  is = is ∙ ap (λ (x : Heap). slot_bits (slot_in (property (object_of x o) key))) (sym (heap_now P log));
  slot = subst (λ (x : Heap). IsSlot (slot_in (property (object_of x o) key))) (sym (heap_now P log)) (property_word (object_of (after P log) o) key words);
  valid = subst (λ (x : Heap). IsValidObject x (object_of x o)) (sym (heap_now P log)) (object_valid (after P log) o valid);
}

-- ---- pins

module _ {P : ℕ} {v : Location → ℕ} {shape : Shape} {role : ℕ → Role} {log : Log Mark} {p : Pin} (t : Sees P v shape role log p) where
  -- nothing is stored that it reads, the log may grow and words may be named
  pub sees_on : {role' : ℕ → Role} {log' : Log Mark} → Continues log log' → Grows role role' → Sees P v shape role' log' p
  sees_on {role'} {log'} c g =
      let past = t.past in
      let longer = c.longer in
      let kept = heap_kept P log log' p.place c t.past in record {
        structure = t.structure;
        root = t.root;
        block = block_grows g t.block;
        inside = λ name j e f. t.inside name j e (sym (frame_grows g t.block (offset j)) ∙ f);
        past = omega arith;
        names = t.names ∙ ap (λ (x : Heap). map (λ z. z.0) (object_of x p.object).names) (sym kept);
        values = λ key y a e f. valued_later c (t.values key y a e (sym (frame_grows g t.block y) ∙ f));
        beyond = λ i f. ap (λ (x : Heap). property (object_of x p.object) (Index i)) kept ∙ t.beyond i (sym (frame_grows g t.block (element i)) ∙ f);
      }

  -- a word is stored: where it is a place of the pin, it is the key's value after the new log
  pub sees_store : {v' : Location → ℕ} {log' : Log Mark} (q : Location) → HasWords (object_of (after P log') p.object) → IsValidHeap (after P log') → ((a : Location) → (a ≡ q) ⊎ (a ≢ q)) → Continues log log' → ((a : Location) → a ≢ q → v' a ≡ v a)
      → ((key : Key) (y : Spot) → spot_of shape key ≡ Some y → frame role (is_segmented p.cell.kind) p.object p.cell.address y ≡ Some q → v' q ≡ slot_bits (slot_in (property (object_of (after P log') p.object) key))) → Sees P v' shape role log' p
  sees_store {v'} {log'} q words valid cases c else_ hit =
      let past = t.past in
      let longer = c.longer in
      let kept = heap_kept P log log' p.place c t.past in record {
        structure = t.structure;
        root = t.root;
        block = t.block;
        inside = t.inside;
        past = omega arith;
        names = t.names ∙ ap (λ (x : Heap). map (λ z. z.0) (object_of x p.object).names) (sym kept);
        values = λ key y a e f. ⊎_elim
            (λ (d : a ≡ q). valued_now P log' p.object key p.place (v' a) (omega arith) words valid (ap v' d ∙ hit key y e (f ∙ ap (λ (z : Location). Some z) d)))
            (λ (d : a ≢ q). subst (Valued P log' p.object key p.place) (sym (else_ a d)) (valued_later c (t.values key y a e f))) (cases a);
        beyond = λ i f. ap (λ (x : Heap). property (object_of x p.object) (Index i)) kept ∙ t.beyond i f;
      }

  -- a place that is a value of no slot of the object is none of the pin
  pub no_place : (q : Location) → ((o : ObjId) (y : Spot) → role_at role q ≢ value o y) → (y : Spot) → frame role (is_segmented p.cell.kind) p.object p.cell.address y ≢ Some q
  no_place q none_ y f = none_ p.object y (t.block.mine y q f)

-- a pin of the current cell
pub sees_now : (P : ℕ) (v : Location → ℕ) (shape : Shape) (role : ℕ → Role) (log : Log Mark) (o : ObjId) (c : Cell) (e : ℕ) → shape.born ≡ true → shape.root ≡ o.pass → HasWords (object_of (after P log) o) → IsValidHeap (after P log) → IsBlockOf role (is_segmented c.kind) o c.address → HasKeys v role (is_segmented c.kind) shape o c.address (object_of (after P log) o)
    → Sees P v shape role log (record { object = o; cell = c; place = length log; epoch = e })
sees_now P v shape role log o c e born root words valid block keys = record {
  structure = born;
  root = root;
  block = block;
  inside = keys.inside;
  past = omega arith;
  names = keys.names ∙ ap (λ (x : Heap). map (λ z. z.0) (object_of x o).names) (sym (heap_now P log));
  values = λ key y a f g. valued_now P log o key (length log) (v a) (omega arith) words valid (keys.values key y a f g);
  beyond = λ i f. ap (λ (x : Heap). property (object_of x o) (Index i)) (heap_now P log) ∙ keys.beyond i f;
}

pub follows_at : {role : ℕ → Role} {shape : Sid → Shape} {x : Option Cell} {now : Now} {number : ℕ} {p : Pin} (c : Cell) → x ≡ Some c → IsFollowed role shape x now number p → Follows role (shape c.sid) (shape p.cell.sid) c now number p
follows_at {role} {shape} {x} {now} {number} {p} c is h =
    let both : Some h.current ≡ Some c = sym h.is ∙ is in
    let one : h.current ≡ c = cc in
    subst (λ (z : Cell). Follows role (shape z.sid) (shape p.cell.sid) z now number p) one h.follows

pub follows_grows : {role role' : ℕ → Role} {here there : Shape} {c : Cell} {now : Now} {number : ℕ} {p : Pin} → Grows role role' → IsBlockOf role (is_segmented p.cell.kind) p.object p.cell.address → IsBlockOf role now.segmented p.object c.address → Follows role here there c now number p → Follows role' here there c now number p
follows_grows {role} {role'} {here} {there} {c} {now} {number} {p} g old new h = record {
  loose = h.loose;
  below = h.below;
  bit = h.bit;
  segments = h.segments;
  names = h.names;
  tight = h.tight;
  current = λ z y a f. frame_grows g new y ∙ h.current z y a (sym (frame_grows g old y) ∙ f);
}

-- ---- words that are known

pub kind_keyed : (k : Kind) → is_flat k ≡ true → is_keyed k ≡ true
kind_keyed Flat e = refl
kind_keyed Segmented e = refl
kind_keyed Opening e = (let no : false ≡ true = e in absurd cc)
kind_keyed Dictionary e = (let no : false ≡ true = e in absurd cc)

-- a right by a lock stays where the lock keeps its object and cell
pub right_lock : {shape : Sid → Shape} {licences : List Licence} {lock lock' : Option Lock} {fired : List (Sid × SetKind)} {o : ObjId} {y : Spot} → ((g : Lock) → lock ≡ Some g → (h : Lock) × (lock' ≡ Some h) × (h.object ≡ g.object) × (h.cell ≡ g.cell)) → HasRight shape licences lock fired o y → HasRight shape licences lock' fired o y
right_lock {shape} {licences} {lock} {lock'} {fired} {o} {y} kept h = ⊎_elim (λ (a : ByWrites licences o). inl a)
    (λ (b : ByTransitions shape licences o y ⊎ ByLock shape lock fired o y). ⊎_elim (λ (a : ByTransitions shape licences o y). inr (inl a))
    (λ (a : ByLock shape lock fired o y).
    let k = kept a.held a.is in
    inr (inr (record {
      held = k.0;
      is = k.1;
      object = k.2 ∙ a.object;
      index = a.index;
      known = a.known ∙ ap (λ (z : Cell). some (z.sid, Transition)) (sym k.3);
      at = a.at;
      spot_is = a.spot_is;
      unused = subst (λ (z : Cell). (shape z.sid).top ≤ a.at) (sym k.3) a.unused;
    }))) b) h

-- a right by the structures of pins and of the lock's cell stays where these stay
pub right_shapes : {shape shape' : Sid → Shape} {licences : List Licence} {lock : Option Lock} {fired : List (Sid × SetKind)} {o : ObjId} {y : Spot} → ((k : ℕ) (l : Licence) → get_elem? licences k ≡ some l → shape' l.pin.cell.sid ≡ shape l.pin.cell.sid) → ((g : Lock) → lock ≡ Some g → shape' g.cell.sid ≡ shape g.cell.sid) → HasRight shape licences lock fired o y → HasRight shape' licences lock fired o y
right_shapes {shape} {shape'} {licences} {lock} {fired} {o} {y} pins cell h = ⊎_elim (λ (a : ByWrites licences o). inl a)
    (λ (b : ByTransitions shape licences o y ⊎ ByLock shape lock fired o y). ⊎_elim
    (λ (a : ByTransitions shape licences o y). inr (inl (record { index = a.index; licence = a.licence; is = a.is; object = a.object; transitions = a.transitions; at = a.at; spot_is = a.spot_is; unused = subst (λ (z : Shape). z.top ≤ a.at) (sym (pins a.index a.licence a.is)) a.unused })))
    (λ (a : ByLock shape lock fired o y). inr (inr (record { held = a.held; is = a.is; object = a.object; index = a.index; known = a.known; at = a.at; spot_is = a.spot_is; unused = subst (λ (z : Shape). z.top ≤ a.at) (sym (cell a.held a.is)) a.unused }))) b) h

-- ---- one view

module _ {P E : ℕ} {v : Location → ℕ} {cells : ObjId → Option Cell} {shape : Sid → Shape} {role : ℕ → Role} {now : ObjId → Now} {sets : Sid → SetKind → ℕ} {log : Log Mark} {floor : ℕ → ℕ} {sealed firer : Sid → SetKind → ℕ} {seat number : ℕ} {sight : Sight} {known : Sets} {quarantine : List Quarantined} {clear : List Since} {lock : Option Lock}
    (h : IsSighted P E v cells shape role now sets log floor sealed firer seat number sight known quarantine clear lock) where
  -- a word is stored that is no value, and the log may grow by what changes no object
  pub sighted_store : {v' : Location → ℕ} (q : Location) → ((o : ObjId) → HasWords (object_of (after P log) o)) → IsValidHeap (after P log) → ((a : Location) → (a ≡ q) ⊎ (a ≢ q)) → ((a : Location) → a ≢ q → v' a ≡ v a) → ((o : ObjId) (y : Spot) → role_at role q ≢ value o y)
      → IsSighted P E v' cells shape role now sets log floor sealed firer seat number sight known quarantine clear lock
  sighted_store {v'} q words valid cases else_ none_ = record {
    sees = λ k p e key. sees_store (h.sees k p e key) q (words p.object) valid cases (stays log) else_ (λ key' y f g. absurd (no_place (h.sees k p e key) q none_ y g));
    follows = h.follows;
    owning = h.owning;
    timed = h.timed;
    licensed = h.licensed;
    firing = h.firing;
    fired = h.fired;
    knows = λ name word e.
        let k = h.knows name word e in record {
          place = k.place;
          name_is = k.name_is;
          is = else_ k.place (λ f. none_ k.object k.spot (ap (role_at role) (sym f) ∙ k.role_is)) ∙ k.is;
          object = k.object;
          spot = k.spot;
          role_is = k.role_is;
          right = k.right;
        };
    stamped = h.stamped;
    cleared = h.cleared;
  }

  -- a value is stored, and the log may grow: each pin that has the place sees the new value there, and these words are known
  pub sighted_put : {v' : Location → ℕ} {log' : Log Mark} (known' : List KnownWord) (q : Location) → ((o : ObjId) → HasWords (object_of (after P log') o)) → IsValidHeap (after P log') → ((a : Location) → (a ≡ q) ⊎ (a ≢ q)) → Continues log log' → ((a : Location) → a ≢ q → v' a ≡ v a)
      → ((k : ℕ) (p : Pin) → get_elem? sight.pins k ≡ some p → is_keyed p.cell.kind ≡ true → (key : Key) (y : Spot) → spot_of (shape p.cell.sid) key ≡ Some y → frame role (is_segmented p.cell.kind) p.object p.cell.address y ≡ Some q → v' q ≡ slot_bits (slot_in (property (object_of (after P log') p.object) key)))
      → ((name : WordName) (word : ℕ) → told known' name ≡ Some word → IsKnown v' shape role sight.licences lock known.fired name word)
      → IsSighted P E v' cells shape role now sets log' floor sealed firer seat number (record sight { known = known' }) known quarantine clear lock
  sighted_put {v'} {log'} known' q words valid cases more else_ hit knows' = record {
    sees = λ k p e key. sees_store (h.sees k p e key) q (words p.object) valid cases more else_ (hit k p e key);
    follows = h.follows;
    owning = h.owning;
    timed = h.timed;
    licensed = h.licensed;
    firing = h.firing;
    fired = h.fired;
    knows = knows';
    stamped = h.stamped;
    cleared = h.cleared;
  }

  -- words that are known stay so where another is stored to which the view has no right
  pub knows_else : {v' : Location → ℕ} (q : Location) → ((a : Location) → a ≢ q → v' a ≡ v a) → ((o : ObjId) (y : Spot) → role_at role q ≡ value o y → HasRight shape sight.licences lock known.fired o y → ⊥) → (name : WordName) (word : ℕ) → told sight.known name ≡ Some word → IsKnown v' shape role sight.licences lock known.fired name word
  knows_else {v'} q else_ unknown name word e =
      let k = h.knows name word e in record {
        place = k.place;
        name_is = k.name_is;
        is = else_ k.place (λ f. unknown k.object k.spot (ap (role_at role) (sym f) ∙ k.role_is) k.right) ∙ k.is;
        object = k.object;
        spot = k.spot;
        role_is = k.role_is;
        right = k.right;
      }

  -- the lock's words change, or it is another of the same cell
  pub sighted_lock : {lock' : Option Lock} → ((g : Lock) → lock ≡ Some g → (k : Lock) × (lock' ≡ Some k) × (k.object ≡ g.object) × (k.cell ≡ g.cell)) → IsSighted P E v cells shape role now sets log floor sealed firer seat number sight known quarantine clear lock'
  sighted_lock {lock'} kept = record {
    sees = h.sees;
    follows = h.follows;
    owning = h.owning;
    timed = h.timed;
    licensed = h.licensed;
    firing = h.firing;
    fired = h.fired;
    knows = λ name word e. let k = h.knows name word e in record { place = k.place; name_is = k.name_is; is = k.is; object = k.object; spot = k.spot; role_is = k.role_is; right = right_lock kept k.right };
    stamped = h.stamped;
    cleared = h.cleared;
  }

  -- a structure is born
  pub sighted_shapes : {shape' : Sid → Shape} → ((s : Sid) → (shape s).born ≡ true → shape' s ≡ shape s) → ((g : Lock) → lock ≡ Some g → (shape g.cell.sid).born ≡ true) → ((o : ObjId) (c : Cell) → cells o ≡ Some c → (shape c.sid).born ≡ true)
      → IsSighted P E v cells shape' role now sets log floor sealed firer seat number sight known quarantine clear lock
  sighted_shapes {shape'} kept held born =
      let pin : (k : ℕ) (p : Pin) → get_elem? sight.pins k ≡ some p → is_keyed p.cell.kind ≡ true → shape' p.cell.sid ≡ shape p.cell.sid = λ k p e key. kept p.cell.sid (h.sees k p e key).structure in record {
        sees = λ k p e key. subst (λ (z : Shape). Sees P v z role log p) (sym (pin k p e key)) (h.sees k p e key);
        follows = λ k p e key.
            let t = h.follows k p e key in record {
              current = t.current;
              is = t.is;
              follows = subst (λ (z : Shape × Shape). Follows role z.0 z.1 t.current (now p.object) number p) (λ i. (sym (kept t.current.sid (born p.object t.current t.is)) i, sym (pin k p e key) i)) t.follows;
            };
        owning = h.owning;
        timed = h.timed;
        licensed = h.licensed;
        firing = h.firing;
        fired = h.fired;
        knows = λ name word e.
            let k = h.knows name word e in record {
              place = k.place;
              name_is = k.name_is;
              is = k.is;
              object = k.object;
              spot = k.spot;
              role_is = k.role_is;
              right = right_shapes (λ n l f. let t = h.licensed n l f in pin t.index l.pin t.is (kind_keyed l.pin.cell.kind t.plain.flat)) (λ g f. kept g.cell.sid (held g f)) k.right;
            };
        stamped = h.stamped;
        cleared = h.cleared;
      }

  -- the cell of one object changes, roles may be given and the log may grow. Pins on the object go on as is said
  pub sighted_cell : {role' : ℕ → Role} {log' : Log Mark} (o : ObjId) (c : Cell) (w : Now) → Grows role role' → Continues log log'
      → ((k : ℕ) (p : Pin) → get_elem? sight.pins k ≡ some p → is_keyed p.cell.kind ≡ true → p.object ≡ o → IsFollowed role shape (cells o) (now o) number p → Follows role' (shape c.sid) (shape p.cell.sid) c w number p)
      → ((k : ℕ) (p : Pin) → get_elem? sight.pins k ≡ some p → p.object ≡ o → Owning sets (cells o) number p → Owning sets (Some c) number p)
      → ((i : ℕ) → o.pass ≡ number → w.stamps i ≡ (now o).stamps i)
      → ((q : ObjId) (d : Cell) → cells q ≡ Some d → (now q).settled ≡ false → IsBlockOf role (now q).segmented q d.address)
      → IsSighted P E v (set_object cells o (Some c)) shape role' (set_object now o w) sets log' floor sealed firer seat number sight known quarantine clear lock
  sighted_cell {role'} {log'} o c w grows more go own stamps blocks =
      let cells' = set_object cells o (Some c) in
      let now' = set_object now o w in record {
        sees = λ k p e key. sees_on (h.sees k p e key) more grows;
        follows = λ k p e key. ⊎_elim
            (λ (d : p.object ≡ o). record {
              current = c;
              is = ap cells' d ∙ object_here cells o (Some c);
              follows = subst (λ (z : Now). Follows role' (shape c.sid) (shape p.cell.sid) c z number p) (sym (ap now' d ∙ object_here now o w)) (go k p e key d (subst (λ (z : ObjId). IsFollowed role shape (cells z) (now z) number p) d (h.follows k p e key)));
            })
            (λ (d : p.object ≢ o).
            let t = h.follows k p e key in record {
              current = t.current;
              is = object_else cells o p.object (Some c) d ∙ t.is;
              follows = subst (λ (z : Now). Follows role' (shape t.current.sid) (shape p.cell.sid) t.current z number p) (sym (object_else now o p.object w d)) (follows_grows grows (h.sees k p e key).block (blocks p.object t.current t.is t.follows.loose) t.follows);
            }) (cases_object p.object o);
        owning = λ k p e. ⊎_elim
            (λ (d : p.object ≡ o). subst (λ (z : Option Cell). Owning sets z number p) (sym (ap cells' d ∙ object_here cells o (Some c))) (own k p e d (subst (λ (z : ObjId). Owning sets (cells z) number p) d (h.owning k p e))))
            (λ (d : p.object ≢ o). subst (λ (z : Option Cell). Owning sets z number p) (sym (object_else cells o p.object (Some c) d)) (h.owning k p e)) (cases_object p.object o);
        timed = h.timed;
        licensed = h.licensed;
        firing = h.firing;
        fired = h.fired;
        knows = λ name word e. let k = h.knows name word e in record { place = k.place; name_is = k.name_is; is = k.is; object = k.object; spot = k.spot; role_is = role_grows grows k.place k.object k.spot k.role_is; right = k.right };
        stamped = λ q i mine. ⊎_elim
            (λ (d : q ≡ o). ap (λ (z : Now). z.stamps i) (ap now' d ∙ object_here now o w) ∙ (stamps i (ap (λ (z : ObjId). z.pass) (sym d) ∙ mine) ∙ (ap (λ (z : ObjId). (now z).stamps i) (sym d) ∙ h.stamped q i mine)))
            (λ (d : q ≢ o). ap (λ (z : Now). z.stamps i) (object_else now o q w d) ∙ h.stamped q i mine) (cases_object q o);
        cleared = h.cleared;
      }

  -- pins, licences and known words are dropped; what is said of objects then speaks of stamps alone
  pub sighted_dropped : {v' : Location → ℕ} {cells' : ObjId → Option Cell} {shape' : Sid → Shape} {role' : ℕ → Role} {now' : ObjId → Now} {log' : Log Mark} {lock' : Option Lock} (quarantine' : List Quarantined) → ((o : ObjId) (j : ℕ) → o.pass ≡ number → (now' o).stamps j ≡ stamp_in quarantine' o j)
      → IsSighted P E v' cells' shape' role' now' sets log' floor sealed firer seat number no_sight known quarantine' clear lock'
  sighted_dropped {v'} {cells'} {shape'} {role'} {now'} {log'} {lock'} quarantine' stamps = record {
    sees = no_each (λ k p. is_keyed p.cell.kind ≡ true → Sees P v' (shape' p.cell.sid) role' log' p);
    follows = no_each (λ k p. is_keyed p.cell.kind ≡ true → IsFollowed role' shape' (cells' p.object) (now' p.object) number p);
    owning = no_each (λ k p. Owning sets (cells' p.object) number p);
    timed = no_each (λ k p. (floor number ≤ p.epoch) × (p.epoch ≤ E));
    licensed = no_each (λ k l. Licensed sets sealed [] number l);
    firing = h.firing;
    fired = h.fired;
    knows = λ name word e. (let no : None ≡ Some word = e in absurd cc);
    stamped = stamps;
    cleared = h.cleared;
  }

  -- the stamps of own objects stay where those of the one that changes do
  pub stamps_kept : (o : ObjId) (w : Now) → ((i : ℕ) → w.stamps i ≡ (now o).stamps i) → (q : ObjId) (j : ℕ) → q.pass ≡ number → (set_object now o w q).stamps j ≡ stamp_in quarantine q j
  stamps_kept o w same q j mine = ⊎_elim
      (λ (d : q ≡ o). ap (λ (z : Now). z.stamps j) (ap (set_object now o w) d ∙ object_here now o w) ∙ (same j ∙ (ap (λ (z : ObjId). (now z).stamps j) (sym d) ∙ h.stamped q j mine)))
      (λ (d : q ≢ o). ap (λ (z : Now). z.stamps j) (object_else now o q w d) ∙ h.stamped q j mine) (cases_object q o)

-- ---- all views

module _ {P E : ℕ} {v : Location → ℕ} {cells : ObjId → Option Cell} {shape : Sid → Shape} {role : ℕ → Role} {now : ObjId → Now} {sets : Sid → SetKind → ℕ} {log : Log Mark} (views : List View) (id : ℕ) (u : View) (r : Sights P E v cells shape role now sets log views) where
  -- one view is set, and the others go on; no set changes, nor the epoch
  pub sights_set : {v' : Location → ℕ} {cells' : ObjId → Option Cell} {shape' : Sid → Shape} {role' : ℕ → Role} {now' : ObjId → Now} {log' : Log Mark}
      → ((j : ℕ) (y : View) → j ≢ id → get_elem? views j ≡ some y → y.live ≡ true → ViewIsSighted P E v cells shape role now sets log r.floor r.sealed r.firer j y → ViewIsSighted P E v' cells' shape' role' now' sets log' r.floor r.sealed r.firer j y)
      → ViewIsSighted P E v' cells' shape' role' now' sets log' r.floor r.sealed r.firer id u → Sights P E v' cells' shape' role' now' sets log' (set views id u)
  sights_set {v'} {cells'} {shape'} {role'} {now'} {log'} go own = record {
    floor = r.floor;
    sealed = r.sealed;
    firer = r.firer;
    each = live_set (ViewIsSighted P E v cells shape role now sets log r.floor r.sealed r.firer) (ViewIsSighted P E v' cells' shape' role' now' sets log' r.floor r.sealed r.firer) views id u r.each go own;
    floors = r.floors;
    few = r.few;
    states = r.states;
    unsealed = r.unsealed;
  }

-- a view that has nothing, where its objects have no stamps
pub sighted_nothing : (P E : ℕ) (v : Location → ℕ) (cells : ObjId → Option Cell) (shape : Sid → Shape) (role : ℕ → Role) (now : ObjId → Now) (sets : Sid → SetKind → ℕ) (log : Log Mark) (floor : ℕ → ℕ) (sealed firer : Sid → SetKind → ℕ) (seat number : ℕ) → ((o : ObjId) (j : ℕ) → o.pass ≡ number → (now o).stamps j ≡ 0)
    → IsSighted P E v cells shape role now sets log floor sealed firer seat number no_sight (record { fired = []; firing = None }) [] [] None
sighted_nothing P E v cells shape role now sets log floor sealed firer seat number stamps = record {
  sees = no_each (λ k p. is_keyed p.cell.kind ≡ true → Sees P v (shape p.cell.sid) role log p);
  follows = no_each (λ k p. is_keyed p.cell.kind ≡ true → IsFollowed role shape (cells p.object) (now p.object) number p);
  owning = no_each (λ k p. Owning sets (cells p.object) number p);
  timed = no_each (λ k p. (floor number ≤ p.epoch) × (p.epoch ≤ E));
  licensed = no_each (λ k l. Licensed sets sealed [] number l);
  firing = λ f e. (let no : None ≡ Some f = e in absurd cc);
  fired = no_each (λ k s. sets s.0 s.1 ≡ FIRED);
  knows = λ name word e. (let no : None ≡ Some word = e in absurd cc);
  stamped = stamps;
  cleared = no_each (λ k c. c.epoch ≤ floor c.pass);
}
