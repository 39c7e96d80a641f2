-- Loads of cells, values and sets: a pin, a licence, a set that is known to be fired, and what is read under them. And what two views
-- know of one object.
use Rattle.std.proofs.Common.{◌≡◌, ◌≢◌, ◌⊎◌, ◌≤◌, ℕ, zero, suc, Bool, true, false, List, [], ◌∷◌, ◌++◌, length, take, drop, set, refl, sym, ap, ◌∙◌, subst, inl, inr, ⊎_elim, arith, Option, Some, None}
use mathlib.Core.Option.{some, some-injective}
use lib.ListN.{get_elem?}
use Rattle.std.specs.Prelude.{if◌then◌else◌, unwrap_or}
use Rattle.std.proofs.lemmas.Bool.{both_ways}
use Rattle.jo_value.specs.declared.capacities.TheConstants.{VALID, FIRED}
use Rattle.jo_value.specs.declared.value.Key.{Key}
use Rattle.jo_value.specs.declared.value.Key.TheVariants.{Name, Index}
use Rattle.jo_value.specs.declared.value.NameId.{NameId}
use Rattle.jo_value.specs.declared.value.ObjId.{ObjId}
use Rattle.jo_value.specs.declared.value.Sid.{Sid}
use Rattle.jo_value.specs.declared.words.cell.Cell.{Cell}
use Rattle.jo_value.specs.declared.words.cell.Kind.{Kind}
use Rattle.jo_value.specs.declared.words.cell.Kind.TheVariants.{Flat, Segmented, Opening, Dictionary}
use Rattle.jo_value.specs.declared.value.Value.{Value}
use Rattle.jo_value.specs.declared.value.Value.TheVariants.{Undefined}
use Rattle.jo_value.specs.declared.words.slot.Slot.TheVariants.{Absent, Holds}
use Rattle.jo_value.specs.Words.{IsSlot, slot_bits}
use Rattle.jo_value.proofs.Distinct.{slot_words}
use Rattle.jo_model.specs.Valid.{IsValidValue}
use Rattle.jo_model.proofs.ValidBirths.{KeepsBorn, value_kept}
use Rattle.jo_model.proofs.ValidEdits.{value_valid}
use Rattle.jo_rule.proofs.Heaps.{born-longer}
use Rattle.jo_rule.specs.Dictionaries.{slot_in}
use Rattle.jo_model.specs.Objects.{Object, property}
use Rattle.jo_model.specs.Heaps.{object_of}
use Rattle.jo_model.specs.Logs.{Log, after, heap_at}
use Rattle.jo_rule.specs.declared.counts.Counts.{Counts}
use Rattle.jo_rule.specs.declared.watched.SetKind.{SetKind}
use Rattle.jo_rule.specs.declared.watched.SetKind.TheVariants.{Transition, Write}
use Rattle.jo_rule.specs.Names.{WordName, epoch}
use Rattle.jo_rule.specs.Areas.{Words, is_same_word}
use Rattle.jo_rule.specs.Marks.{Mark}
use Rattle.jo_rule.specs.Shapes.{Shape, offset_of}
use Rattle.jo_rule.specs.Spots.{Spot, offset, element, Location, name_of_place, values, spot_of}
use Rattle.jo_rule.specs.Roles.{Role, value, role_at, frame, IsBlockOf}
use Rattle.jo_rule.specs.Contents.{Now, is_keyed, is_flat, is_segmented, IsLoose, StandsAtPlaces, StandsAs, Standing}
use Rattle.jo_rule.specs.Views.{View, Pin, Licence, Sight, Lock, KnownWord}
use Rattle.jo_rule.specs.Lists.{Each}
use Rattle.jo_rule.specs.Rule.{Rule}
use Rattle.jo_rule.specs.Steps.{pin_of, with_sight, with_pin, with_licence, with_known, by_writes, by_transitions, by_both, with_fired}
use Rattle.jo_rule.specs.Sights.{watched, Valued, Sees, IsTight, IsFollowed, IsPlain, HasStayed, Owning, IsRelied, Licensed, ByWrites, ByTransitions, ByLock, HasRight, IsKnown, told}
use Rattle.jo_rule.proofs.Keys.{spot_cases}
use Rattle.jo_rule.proofs.Contents.{standing}
use Rattle.jo_rule.proofs.Histories.{begins_itself, alone, numbers}
use Rattle.jo_rule.proofs.Names.{same_is, same_self}
use Rattle.jo_rule.proofs.Sights.{sees_now, kind_keyed, follows_at}
use Rattle.jo_rule.proofs.Moves.{looks}
use Rattle.jo_rule.proofs.Stores.{numbers_of}

pub cons_each : {A : Type 0} (Q : A → Type 0) (x : A) (l : List A) → Q x → Each l (λ k a. Q a) → Each (x ∷ l) (λ k a. Q a)
cons_each Q x l here there zero a e = subst Q (some-injective x a e) here
cons_each Q x l here there (suc k) a e = there k a e

-- a list is its beginning and the rest
split_list : {A : Type 0} (n : ℕ) (l : List A) → take n l ++ drop n l ≡ l
split_list {A} zero l = refl
split_list {A} (suc n) [] = refl
split_list {A} (suc n) (x ∷ l) = ap (λ (t : List A). x ∷ t) (split_list n l)

-- a slot that holds a value is that of a property which is there
value_held : (x : Option Value) (v : Value) → slot_in x ≡ Holds v → x ≡ Some v
value_held None v e = (let no : Absent ≡ Holds v = e in absurd cc)
value_held (Some y) v e = (let same : Holds y ≡ Holds v = e in cc)

pub segmented_not_flat : (k : Kind) → is_segmented k ≡ true → is_flat k ≡ false
segmented_not_flat Flat e = (let no : false ≡ true = e in absurd cc)
segmented_not_flat Segmented e = refl
segmented_not_flat Opening e = (let no : false ≡ true = e in absurd cc)
segmented_not_flat Dictionary e = (let no : false ≡ true = e in absurd cc)

pub flat_not_segmented : (k : Kind) → is_flat k ≡ true → is_segmented k ≡ false
flat_not_segmented Flat e = refl
flat_not_segmented Segmented e = (let no : false ≡ true = e in absurd cc)
flat_not_segmented Opening e = (let no : false ≡ true = e in absurd cc)
flat_not_segmented Dictionary e = (let no : false ≡ true = e in absurd cc)

-- what is said of an object whose cell has keys at places
keyed_by : (k : Kind) (v : Location → ℕ) (role : ℕ → Role) (shape : Shape) (o : ObjId) (c : Cell) (now : Now) (z : Object) → is_keyed k ≡ true → StandsAs k v role shape o c now z → IsLoose (is_segmented k) now × StandsAtPlaces v role shape o c now z
keyed_by Flat v role shape o c now z e h = h
keyed_by Segmented v role shape o c now z e h = h
keyed_by Opening v role shape o c now z e h = (let no : false ≡ true = e in absurd cc)
keyed_by Dictionary v role shape o c now z e h = (let no : false ≡ true = e in absurd cc)

pub keyed_of : {v : Location → ℕ} {role : ℕ → Role} {shape : Shape} {o : ObjId} {c : Cell} {now : Now} {z : Object} → Standing v role shape o c now z → is_keyed c.kind ≡ true → IsLoose (is_segmented c.kind) now × StandsAtPlaces v role shape o c now z
keyed_of {v} {role} {shape} {o} {c} {now} {z} h key = keyed_by c.kind v role shape o c now z key h.kind

-- ---- what is known of one object by two views

module _ {P : ℕ} {w : Words} {views : List View} (r : Rule P w views) where
  -- a number is of one live view
  pub apart : (i j : ℕ) (v y : View) → j ≢ i → get_elem? views i ≡ some v → v.live ≡ true → get_elem? views j ≡ some y → y.live ≡ true → v.number ≢ y.number
  apart i j v y n at l e ly = alone views i v v at l (numbers (numbers_of v v refl refl refl refl refl refl)) r.histories j y n e ly

  -- the cell of a licence on writes is the current one
  pub still : (i : ℕ) (v : View) → get_elem? views i ≡ some v → v.live ≡ true → (k : ℕ) (x : Licence) → get_elem? v.sight.licences k ≡ some x → x.writes ≡ true → r.cell x.pin.object ≡ Some x.pin.cell
  still i v at l k x is wr =
      let h = r.sights.each i v at l in
      let t = h.licensed k x is in
      ⊎_elim (λ (e : r.cell x.pin.object ≡ Some x.pin.cell). e) (λ (e : watched w x.pin.cell.sid Write ≡ FIRED). absurd ((t.writes wr).unfired e)) ((h.owning t.index x.pin t.is).writes t.plain)

  -- structure and address of the cell of a licence on transitions are the current ones
  pub still_place : (i : ℕ) (v : View) → get_elem? views i ≡ some v → v.live ≡ true → (k : ℕ) (x : Licence) → get_elem? v.sight.licences k ≡ some x → x.transitions ≡ true → HasStayed (r.cell x.pin.object) x.pin
  still_place i v at l k x is tr =
      let h = r.sights.each i v at l in
      let t = h.licensed k x is in
      ⊎_elim (λ (e : HasStayed (r.cell x.pin.object) x.pin). e) (λ (e : watched w x.pin.cell.sid Transition ≡ FIRED). absurd ((t.transitions tr).unfired e)) ((h.owning t.index x.pin t.is).transitions t.plain)

  pub pin_keyed : (i : ℕ) (v : View) → get_elem? views i ≡ some v → v.live ≡ true → (k : ℕ) (x : Licence) → get_elem? v.sight.licences k ≡ some x → is_keyed x.pin.cell.kind ≡ true
  pin_keyed i v at l k x is = kind_keyed x.pin.cell.kind ((r.sights.each i v at l).licensed k x is).plain.flat

  -- the object of a licence is not settled
  pub licence_loose : (i : ℕ) (v : View) → get_elem? views i ≡ some v → v.live ≡ true → (k : ℕ) (x : Licence) → get_elem? v.sight.licences k ≡ some x → (r.now x.pin.object).settled ≡ false
  licence_loose i v at l k x is = let h = r.sights.each i v at l in let t = h.licensed k x is in (h.follows t.index x.pin t.is (pin_keyed i v at l k x is)).follows.loose

  -- a slot to which a view has a right by transitions or by its lock is at an offset that was never used
  pub unused_now : (i : ℕ) (v : View) → get_elem? views i ≡ some v → v.live ≡ true → (o : ObjId) (c : Cell) (y : Spot) → r.cell o ≡ Some c → ByTransitions r.shape v.sight.licences o y ⊎ ByLock r.shape v.lock v.sets.fired o y → (j : ℕ) × (y ≡ offset j) × ((r.shape c.sid).top ≤ j)
  unused_now i v at l o c y is h = ⊎_elim
      (λ (t : ByTransitions r.shape v.sight.licences o y).
      let s = still_place i v at l t.index t.licence t.is t.transitions in
      let both : Some s.current ≡ Some c = sym s.is ∙ (ap r.cell t.object ∙ is) in
      let one : s.current ≡ c = cc in
      let sid : t.licence.pin.cell.sid ≡ c.sid = sym s.structure ∙ ap (λ (z : Cell). z.sid) one in
      (t.at, t.spot_is, subst (λ (z : Sid). (r.shape z).top ≤ t.at) sid t.unused))
      (λ (t : ByLock r.shape v.lock v.sets.fired o y).
      let g = r.locks.held i v at l t.held t.is in
      let both : Some t.held.cell ≡ Some c = sym g.cell ∙ (ap r.cell t.object ∙ is) in
      let one : t.held.cell ≡ c = cc in
      (t.at, t.spot_is, subst (λ (z : Cell). (r.shape z.sid).top ≤ t.at) one t.unused)) h

  writes_lock : (i j : ℕ) (v y : View) → get_elem? views i ≡ some v → v.live ≡ true → get_elem? views j ≡ some y → y.live ≡ true → (o : ObjId) (z : Spot) → ByWrites v.sight.licences o → ByLock r.shape y.lock y.sets.fired o z → ⊥
  writes_lock i j v y at l e ly o z a b =
      let cell = still i v at l a.index a.licence a.is a.writes in
      let g = r.locks.held j y e ly b.held b.is in
      let both : Some a.licence.pin.cell ≡ Some b.held.cell = sym cell ∙ (ap r.cell (a.object ∙ sym b.object) ∙ g.cell) in
      let one : a.licence.pin.cell ≡ b.held.cell = cc in
      both_ways b.held.cell.locked (ap (λ (x : Cell). x.locked) (sym one) ∙ ((r.sights.each i v at l).licensed a.index a.licence a.is).plain.unlocked) g.bit

  transitions_lock : (i j : ℕ) (v y : View) → get_elem? views i ≡ some v → v.live ≡ true → get_elem? views j ≡ some y → y.live ≡ true → (o : ObjId) (z : Spot) → ByTransitions r.shape v.sight.licences o z → ByLock r.shape y.lock y.sets.fired o z → ⊥
  transitions_lock i j v y at l e ly o z a b =
      let s = still_place i v at l a.index a.licence a.is a.transitions in
      let g = r.locks.held j y e ly b.held b.is in
      let both : Some b.held.cell ≡ Some s.current = sym g.cell ∙ (ap r.cell (b.object ∙ sym a.object) ∙ s.is) in
      let one : b.held.cell ≡ s.current = cc in
      let sid : b.held.cell.sid ≡ a.licence.pin.cell.sid = ap (λ (x : Cell). x.sid) one ∙ s.structure in
      (((r.sights.each i v at l).licensed a.index a.licence a.is).transitions a.transitions).unfired (ap (λ (q : Sid). watched w q Transition) (sym sid) ∙ (r.sights.each j y e ly).fired b.index (b.held.cell.sid, Transition) b.known)

  owners : (i j : ℕ) (v y : View) → j ≢ i → get_elem? views i ≡ some v → v.live ≡ true → get_elem? views j ≡ some y → y.live ≡ true → (k n : ℕ) (x z : Licence) → get_elem? v.sight.licences k ≡ some x → get_elem? y.sight.licences n ≡ some z → x.pin.object ≢ z.pin.object
  owners i j v y d at l e ly k n x z f g same = apart i j v y d at l e ly (sym ((r.sights.each i v at l).licensed k x f).plain.own ∙ (ap (λ (q : ObjId). q.pass) same ∙ ((r.sights.each j y e ly).licensed n z g).plain.own))

  one_holder_of : (i j : ℕ) (v y : View) → j ≢ i → get_elem? views i ≡ some v → v.live ≡ true → get_elem? views j ≡ some y → y.live ≡ true → (g h : Lock) → v.lock ≡ Some g → y.lock ≡ Some h → g.object ≢ h.object
  one_holder_of i j v y n at l e ly g h f k same = n (sym (r.locks.held j y e ly h k).holder_is ∙ (ap r.locks.holder (sym same) ∙ (r.locks.held i v at l g f).holder_is))

  -- two views never have a right to one slot
  pub clash : (i j : ℕ) (v y : View) → j ≢ i → get_elem? views i ≡ some v → v.live ≡ true → get_elem? views j ≡ some y → y.live ≡ true → (o : ObjId) (z : Spot) → HasRight r.shape v.sight.licences v.lock v.sets.fired o z → HasRight r.shape y.sight.licences y.lock y.sets.fired o z → ⊥
  clash i j v y n at l e ly o z a b = ⊎_elim
      (λ (p : ByWrites v.sight.licences o). ⊎_elim
      (λ (q : ByWrites y.sight.licences o). owners i j v y n at l e ly p.index q.index p.licence q.licence p.is q.is (p.object ∙ sym q.object))
      (λ (q : ByTransitions r.shape y.sight.licences o z ⊎ ByLock r.shape y.lock y.sets.fired o z). ⊎_elim
      (λ (q : ByTransitions r.shape y.sight.licences o z). owners i j v y n at l e ly p.index q.index p.licence q.licence p.is q.is (p.object ∙ sym q.object))
      (λ (q : ByLock r.shape y.lock y.sets.fired o z). writes_lock i j v y at l e ly o z p q) q) b)
      (λ (p : ByTransitions r.shape v.sight.licences o z ⊎ ByLock r.shape v.lock v.sets.fired o z). ⊎_elim
      (λ (p : ByTransitions r.shape v.sight.licences o z). ⊎_elim
      (λ (q : ByWrites y.sight.licences o). owners i j v y n at l e ly p.index q.index p.licence q.licence p.is q.is (p.object ∙ sym q.object))
      (λ (q : ByTransitions r.shape y.sight.licences o z ⊎ ByLock r.shape y.lock y.sets.fired o z). ⊎_elim
      (λ (q : ByTransitions r.shape y.sight.licences o z). owners i j v y n at l e ly p.index q.index p.licence q.licence p.is q.is (p.object ∙ sym q.object))
      (λ (q : ByLock r.shape y.lock y.sets.fired o z). transitions_lock i j v y at l e ly o z p q) q) b)
      (λ (p : ByLock r.shape v.lock v.sets.fired o z). ⊎_elim
      (λ (q : ByWrites y.sight.licences o). writes_lock j i y v e ly at l o z q p)
      (λ (q : ByTransitions r.shape y.sight.licences o z ⊎ ByLock r.shape y.lock y.sets.fired o z). ⊎_elim
      (λ (q : ByTransitions r.shape y.sight.licences o z). transitions_lock j i y v e ly at l o z q p)
      (λ (q : ByLock r.shape y.lock y.sets.fired o z). one_holder_of i j v y n at l e ly p.held q.held p.is q.is (p.object ∙ sym q.object)) q) b) p) a

  -- nor does one have it where another changes the word in place, by a tight pin, at a slot of a key
  pub clash_swap : (i j : ℕ) (v y : View) → j ≢ i → get_elem? views i ≡ some v → v.live ≡ true → get_elem? views j ≡ some y → y.live ≡ true → (k : ℕ) (p : Pin) → get_elem? v.sight.pins k ≡ some p → is_keyed p.cell.kind ≡ true → IsTight v.number p
      → (c : Cell) → r.cell p.object ≡ Some c → (key : Key) (z : Spot) → spot_of (r.shape c.sid) key ≡ Some z → HasRight r.shape y.sight.licences y.lock y.sets.fired p.object z → ⊥
  clash_swap i j v y n at l e ly k p is key tight c cell key' z at_spot b =
      let t = follows_at c cell ((r.sights.each i v at l).follows k p is key) in
      ⊎_elim
      (λ (x : ByWrites y.sight.licences p.object).
      let now = still j y e ly x.index x.licence x.is x.writes in
      let both : Some x.licence.pin.cell ≡ Some c = sym now ∙ (ap r.cell x.object ∙ cell) in
      let one : x.licence.pin.cell ≡ c = cc in
      let plain = ((r.sights.each j y e ly).licensed x.index x.licence x.is).plain in
      ⊎_elim (λ (own : p.object.pass ≡ v.number). apart i j v y n at l e ly (sym own ∙ (ap (λ (q : ObjId). q.pass) (sym x.object) ∙ plain.own)))
      (λ (tight : (p.cell.shared_write ≡ true) ⊎ (is_segmented p.cell.kind ≡ true)). ⊎_elim
      (λ (bit : p.cell.shared_write ≡ true). both_ways c.shared_write (ap (λ (q : Cell). q.shared_write) (sym one) ∙ plain.unshared) (t.bit bit))
      (λ (seg : is_segmented p.cell.kind ≡ true). both_ways (is_flat c.kind) (t.segments seg) (ap (λ (q : Cell). is_flat q.kind) (sym one) ∙ plain.flat)) tight) tight)
      (λ (x : ByTransitions r.shape y.sight.licences p.object z ⊎ ByLock r.shape y.lock y.sets.fired p.object z).
      let u = unused_now j y e ly p.object c z cell x in
      let le = u.2 in
      ⊎_elim
      (λ (f : (name : NameId) × (g : ℕ) × (key' ≡ Name name) × (z ≡ offset g) × (offset_of (r.shape c.sid) name ≡ Some g)).
      let same : offset u.0 ≡ offset f.1 = sym u.1 ∙ f.3 in
      let eq : u.0 ≡ f.1 = cc in
      let lt = (r.shaped.formed c.sid).below f.0 f.1 f.4 in omega arith)
      (λ (f : (m : ℕ) × (key' ≡ Index m) × (z ≡ element m)). let same : offset u.0 ≡ element f.0 = sym u.1 ∙ f.2 in cc) (spot_cases (r.shape c.sid) key' z at_spot)) b

-- ---- the list of known words

told_by : (known : List KnownWord) (name place : WordName) (word x : ℕ) (b : Bool) → is_same_word name place ≡ b → (if b then Some word else told known name) ≡ Some x → ((name ≡ place) × (word ≡ x)) ⊎ (told known name ≡ Some x)
told_by known name place word x true e f = (let g : Some word ≡ Some x = f in inl (same_is name place e, cc))
told_by known name place word x false e f = inr f

pub told_cases : (known : List KnownWord) (name place : WordName) (word x : ℕ) → told (record { at = place; word = word } ∷ known) name ≡ Some x → ((name ≡ place) × (word ≡ x)) ⊎ (told known name ≡ Some x)
told_cases known name place word x e = told_by known name place word x (is_same_word name place) refl e

split_by : (known : List KnownWord) (name place : WordName) (word x : ℕ) (b : Bool) → is_same_word name place ≡ b → (if b then Some word else told known name) ≡ Some x → ((name ≡ place) × (word ≡ x)) ⊎ ((name ≢ place) × (told known name ≡ Some x))
split_by known name place word x true e f = (let g : Some word ≡ Some x = f in inl (same_is name place e, cc))
split_by known name place word x false e f = inr ((λ g. both_ways (is_same_word name place) e (ap (is_same_word name) (sym g) ∙ same_self name)), f)

pub told_split : (known : List KnownWord) (name place : WordName) (word x : ℕ) → told (record { at = place; word = word } ∷ known) name ≡ Some x → ((name ≡ place) × (word ≡ x)) ⊎ ((name ≢ place) × (told known name ≡ Some x))
told_split known name place word x e = split_by known name place word x (is_same_word name place) refl e

-- one more word is known
pub knows_more : {v : Location → ℕ} {shape : Sid → Shape} {role : ℕ → Role} {licences : List Licence} {lock : Option Lock} {fired : List (Sid × SetKind)} (known : List KnownWord) (a : Location) (word : ℕ) (o : ObjId) (y : Spot) → v a ≡ word → role_at role a ≡ value o y → HasRight shape licences lock fired o y
    → ((name : WordName) (x : ℕ) → told known name ≡ Some x → IsKnown v shape role licences lock fired name x) → (name : WordName) (x : ℕ) → told (record { at = name_of_place a; word = word } ∷ known) name ≡ Some x → IsKnown v shape role licences lock fired name x
knows_more {v} {shape} {role} {licences} {lock} {fired} known a word o y is role_is right old name x e = ⊎_elim
    (λ (t : (name ≡ name_of_place a) × (word ≡ x)). record { place = a; name_is = t.0; is = is ∙ t.1; object = o; spot = y; role_is = role_is; right = right })
    (λ (t : told known name ≡ Some x). old name x t) (told_cases known name (name_of_place a) word x e)

-- ---- steps

module _ {P : ℕ} {w : Words} {views : List View} (id : ℕ) (v : View) (r : Rule P w views) (at : get_elem? views id ≡ some v) (l : v.live ≡ true) where
  saw_all : (sight : Sight) (counts : Counts) → (let u = with_sight v r.log sight counts in Rattle.jo_rule.proofs.Histories.SawMore r.log v u)
  saw_all sight counts = record { calls = refl; more = r.histories.seen id v at l; seen = begins_itself r.log }

  -- A cell is loaded under a pin, which shows the whole log.
  pub pins_cell : (o : ObjId) (c : Cell) (counts : Counts) → r.cell o ≡ Some c → v.time.out ≡ false → Rule P w (set views id (with_sight v r.log (with_pin v.sight (pin_of o c (length r.log) (w epoch))) counts))
  pins_cell o c counts cell inside =
      let p = pin_of o c (length r.log) (w epoch) in
      let sight = with_pin v.sight p in
      let u = with_sight v r.log sight counts in
      let h = r.sights.each id v at l in
      let t = r.timing.timed id v at l in
      let st = standing r.contents o c cell in
      looks id v u r at l (numbers_of v u refl refl refl refl refl refl) (saw_all sight counts) refl refl refl refl refl refl
      record {
        sees = cons_each (λ (p : Pin). is_keyed p.cell.kind ≡ true → Sees P (values w) (r.shape p.cell.sid) r.role r.log p) p v.sight.pins
            (λ key. let k = keyed_of st key in sees_now P (values w) (r.shape c.sid) r.role r.log o c (w epoch) st.structure st.root (r.contents.words o) r.contents.valid (subst (λ (b : Bool). IsBlockOf r.role b o c.address) k.0.segmented_is k.1.block)
            (subst (λ (b : Bool). Rattle.jo_rule.specs.Contents.HasKeys (values w) r.role b (r.shape c.sid) o c.address (object_of (after P r.log) o)) k.0.segmented_is k.1.keys)) h.sees;
        follows = cons_each (λ (p : Pin). is_keyed p.cell.kind ≡ true → IsFollowed r.role r.shape (r.cell p.object) (r.now p.object) v.number p) p v.sight.pins
            (λ key. let k = keyed_of st key in record {
              current = c;
              is = cell;
              follows = record {
                loose = k.0.settled;
                below = λ lt. (let none_ = k.0.sealed in absurd (omega arith));
                bit = λ e. e;
                segments = λ e. segmented_not_flat c.kind e;
                names = λ name j e. inl e;
                tight = λ z name j e. e;
                current = λ z y a e. subst (λ (b : Bool). frame r.role b o c.address y ≡ Some a) (sym k.0.segmented_is) e;
              };
            }) h.follows;
        owning = cons_each (λ (p : Pin). Owning (watched w) (r.cell p.object) v.number p) p v.sight.pins (record { writes = λ pl. inl cell; transitions = λ pl. inl (record { current = c; is = cell; structure = refl; address = refl }) }) h.owning;
        timed = cons_each (λ (p : Pin). (r.sights.floor v.number ≤ p.epoch) × (p.epoch ≤ w epoch)) p v.sight.pins (r.sights.floors v.number, omega arith) h.timed;
        licensed = λ k x e. let b = h.licensed k x e in record { index = suc b.index; is = b.is; plain = b.plain; writes = b.writes; transitions = b.transitions };
        firing = h.firing;
        fired = h.fired;
        knows = h.knows;
        stamped = h.stamped;
        cleared = h.cleared;
      }
      record {
        out = λ e. absurd (both_ways v.time.out inside e);
        inside = t.inside;
        polled = t.polled;
        pins = cons_each (λ (p : Pin). v.time.polled ≤ p.epoch) p v.sight.pins t.polled t.pins;
        largest = t.largest;
        loaded = t.loaded;
      }

  -- A value is loaded under a pin: it is the key's at a place of the log that is not before the pin's, whatever became of the object.
  pub finds_value : (i : ℕ) (p : Pin) (key : Key) (y : Spot) (a : Location) → get_elem? v.sight.pins i ≡ some p → is_keyed p.cell.kind ≡ true → spot_of (r.shape p.cell.sid) key ≡ Some y → frame r.role (is_segmented p.cell.kind) p.object p.cell.address y ≡ Some a → Valued P r.log p.object key p.place (values w a)
  finds_value i p key y a has keyed is place = ((r.sights.each id v at l).sees i p has keyed).values key y a is place

  -- A value that was loaded so is valid after the log, so that a call may name it.
  pub valued_valid : (o : ObjId) (key : Key) (n word : ℕ) (x : Value) → Valued P r.log o key n word → IsSlot (Holds x) → word ≡ slot_bits (Holds x) → IsValidValue (after P r.log) x
  valued_valid o key n word x h slot is =
      let heap = heap_at P h.at r.log in
      let same : slot_in (property (object_of heap o) key) ≡ Holds x = slot_words (slot_in (property (object_of heap o) key)) (Holds x) h.slot slot (sym h.is ∙ is) in
      let rest : r.log ≡ take h.at r.log ++ drop h.at r.log = sym (split_list h.at r.log) in
      let kept : KeepsBorn heap (after P r.log) = subst (λ (log : Log Mark). KeepsBorn heap (after P log)) (sym rest) (born-longer P (take h.at r.log) (drop h.at r.log)) in
      value_kept heap (after P r.log) kept x (subst (IsValidValue heap) (ap (λ (y : Option Value). unwrap_or y Undefined) (value_held (property (object_of heap o) key) x same)) (value_valid heap (object_of heap o) key h.valid))

  right_more : (licences : List Licence) (x : Licence) (o : ObjId) (y : Spot) → HasRight r.shape licences v.lock v.sets.fired o y → HasRight r.shape (x ∷ licences) v.lock v.sets.fired o y
  right_more licences x o y h = ⊎_elim (λ (t : ByWrites licences o). inl (record { index = suc t.index; licence = t.licence; is = t.is; object = t.object; writes = t.writes }))
      (λ (t : ByTransitions r.shape licences o y ⊎ ByLock r.shape v.lock v.sets.fired o y). ⊎_elim
      (λ (t : ByTransitions r.shape licences o y). inr (inl (record { index = suc t.index; licence = t.licence; is = t.is; object = t.object; transitions = t.transitions; at = t.at; spot_is = t.spot_is; unused = t.unused })))
      (λ (t : ByLock r.shape v.lock v.sets.fired o y). inr (inr t)) t) h

  right_fired : (s : Sid) (which : SetKind) (o : ObjId) (y : Spot) → HasRight r.shape v.sight.licences v.lock v.sets.fired o y → HasRight r.shape v.sight.licences v.lock ((s, which) ∷ v.sets.fired) o y
  right_fired s which o y h = ⊎_elim (λ (t : ByWrites v.sight.licences o). inl t)
      (λ (t : ByTransitions r.shape v.sight.licences o y ⊎ ByLock r.shape v.lock v.sets.fired o y). ⊎_elim (λ (t : ByTransitions r.shape v.sight.licences o y). inr (inl t))
      (λ (t : ByLock r.shape v.lock v.sets.fired o y). inr (inr (record { held = t.held; is = t.is; object = t.object; index = suc t.index; known = t.known; at = t.at; spot_is = t.spot_is; unused = t.unused }))) t) h

  -- one more licence
  more_licences : (x : Licence) (counts : Counts) → v.time.out ≡ false → Licensed (watched w) r.sights.sealed v.sight.pins v.number x → Rule P w (set views id (record v { sight = with_licence v.sight x; counts = counts }))
  more_licences x counts inside new =
      let sight = with_licence v.sight x in
      let u : View = record v { sight = sight; counts = counts } in
      let h = r.sights.each id v at l in
      let t = r.timing.timed id v at l in
      looks id v u r at l (numbers_of v u refl refl refl refl refl refl) (record { calls = refl; more = begins_itself v.past.seen; seen = r.histories.seen id v at l }) refl refl refl refl refl refl
      record {
        sees = h.sees;
        follows = h.follows;
        owning = h.owning;
        timed = h.timed;
        licensed = cons_each (Licensed (watched w) r.sights.sealed v.sight.pins v.number) x v.sight.licences new h.licensed;
        firing = h.firing;
        fired = h.fired;
        knows = λ name word e. let k = h.knows name word e in record { place = k.place; name_is = k.name_is; is = k.is; object = k.object; spot = k.spot; role_is = k.role_is; right = right_more v.sight.licences x k.object k.spot k.right };
        stamped = h.stamped;
        cleared = h.cleared;
      }
      record { out = λ e. absurd (both_ways v.time.out inside e); inside = t.inside; polled = t.polled; pins = t.pins; largest = t.largest; loaded = t.loaded }

  relied : (s : Sid) (which : SetKind) (e : ℕ) → watched w s which ≡ VALID → IsRelied (watched w) r.sights.sealed s which e
  relied s which e valid = record { unfired = λ f. omega (arith, valid, f); older = λ lt. (let z = r.sights.unsealed s which valid in absurd (omega arith)) }

  -- The write set of an own pin is found valid: a licence on writes.
  pub licenses_writes : (i : ℕ) (p : Pin) (counts : Counts) → get_elem? v.sight.pins i ≡ some p → IsPlain v.number p → v.time.out ≡ false → watched w p.cell.sid Write ≡ VALID → Rule P w (set views id (record v { sight = with_licence v.sight (by_writes p); counts = counts }))
  licenses_writes i p counts has plain inside valid = more_licences (by_writes p) counts inside
      record { index = i; is = has; plain = plain; writes = λ e. relied p.cell.sid Write p.epoch valid; transitions = λ e. (let no : false ≡ true = e in absurd cc) }

  -- Its transition set is found valid, alone.
  pub licenses_transitions : (i : ℕ) (p : Pin) (counts : Counts) → get_elem? v.sight.pins i ≡ some p → IsPlain v.number p → v.time.out ≡ false → watched w p.cell.sid Transition ≡ VALID → Rule P w (set views id (record v { sight = with_licence v.sight (by_transitions p); counts = counts }))
  licenses_transitions i p counts has plain inside valid = more_licences (by_transitions p) counts inside
      record { index = i; is = has; plain = plain; writes = λ e. (let no : false ≡ true = e in absurd cc); transitions = λ e. relied p.cell.sid Transition p.epoch valid }

  -- The transition set of a licence on writes is found valid: a licence on both.
  pub licenses_both : (i : ℕ) (x : Licence) (counts : Counts) → get_elem? v.sight.licences i ≡ some x → x.writes ≡ true → v.time.out ≡ false → watched w x.pin.cell.sid Transition ≡ VALID → Rule P w (set views id (record v { sight = with_licence v.sight (by_both x.pin); counts = counts }))
  licenses_both i x counts has writes inside valid =
      let t = (r.sights.each id v at l).licensed i x has in
      more_licences (by_both x.pin) counts inside record { index = t.index; is = t.is; plain = t.plain; writes = λ e. t.writes writes; transitions = λ e. relied x.pin.cell.sid Transition x.pin.epoch valid }

  -- A set is found fired, which shows the whole log.
  pub finds_fired : (s : Sid) (which : SetKind) (counts : Counts) → watched w s which ≡ FIRED → Rule P w (set views id (with_fired v r.log s which counts))
  finds_fired s which counts is =
      let u = with_fired v r.log s which counts in
      let h = r.sights.each id v at l in
      looks id v u r at l (numbers_of v u refl refl refl refl refl refl) (record { calls = refl; more = r.histories.seen id v at l; seen = begins_itself r.log }) refl refl refl refl refl refl
      record {
        sees = h.sees;
        follows = h.follows;
        owning = h.owning;
        timed = h.timed;
        licensed = h.licensed;
        firing = h.firing;
        fired = cons_each (λ (x : Sid × SetKind). watched w x.0 x.1 ≡ FIRED) (s, which) v.sets.fired is h.fired;
        knows = λ name word e. let k = h.knows name word e in record { place = k.place; name_is = k.name_is; is = k.is; object = k.object; spot = k.spot; role_is = k.role_is; right = right_fired s which k.object k.spot k.right };
        stamped = h.stamped;
        cleared = h.cleared;
      } (r.timing.timed id v at l)

  -- A value word of an object on which the pass has a licence on writes is loaded: it is known from then on.
  pub knows_value : (i : ℕ) (x : Licence) (y : Spot) (a : Location) (counts : Counts) → get_elem? v.sight.licences i ≡ some x → x.writes ≡ true → frame r.role false x.pin.object x.pin.cell.address y ≡ Some a → Rule P w (set views id (record v { sight = with_known v.sight (name_of_place a) (values w a); counts = counts }))
  knows_value i x y a counts has writes place =
      let o = x.pin.object in
      let c = x.pin.cell in
      let cell = still r id v at l i x has writes in
      let st = standing r.contents o c cell in
      let h = r.sights.each id v at l in
      let plain = (h.licensed i x has).plain in
      let k = keyed_of st (pin_keyed r id v at l i x has) in
      let flat : (r.now o).segmented ≡ false = k.0.segmented_is ∙ flat_not_segmented c.kind plain.flat in
      let role_is : role_at r.role a ≡ value o y = k.1.block.mine y a (subst (λ (b : Bool). frame r.role b o c.address y ≡ Some a) (sym flat) place) in
      let sight = with_known v.sight (name_of_place a) (values w a) in
      let u : View = record v { sight = sight; counts = counts } in
      let t = r.timing.timed id v at l in
      looks id v u r at l (numbers_of v u refl refl refl refl refl refl) (record { calls = refl; more = begins_itself v.past.seen; seen = r.histories.seen id v at l }) refl refl refl refl refl refl
      record {
        sees = h.sees;
        follows = h.follows;
        owning = h.owning;
        timed = h.timed;
        licensed = h.licensed;
        firing = h.firing;
        fired = h.fired;
        knows = knows_more v.sight.known a (values w a) o y refl role_is (inl (record { index = i; licence = x; is = has; object = refl; writes = writes })) h.knows;
        stamped = h.stamped;
        cleared = h.cleared;
      } record { out = t.out; inside = t.inside; polled = t.polled; pins = t.pins; largest = t.largest; loaded = t.loaded }
