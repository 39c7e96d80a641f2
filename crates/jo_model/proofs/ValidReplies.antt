-- Nothing fits a call that one thread never answers: each fitting reply but a refusal for want of storage is given at some valid heap.
use Rattle.std.proofs.Common.{◌≡◌, ◌⊎◌, ◌+◌, ◌<◌, ◌≤◌, ℕ, Bool, true, false, length, map, replicate, refl, ap, ◌∙◌, inl, inr, arith, if◌then◌else◌, lit<}
use Rattle.std.specs.Prelude.{nat_lt, nat_le}
use Rattle.std.proofs.lemmas.Bool.{lt-ltb, le-ltb, le-leb}
use Rattle.std.proofs.lemmas.List.{length-replicate, length-map}
use Rattle.jo_value.specs.declared.limits.TheConstants.{MOST_NAMES, MOST_OBJECTS}
use Rattle.jo_value.specs.declared.value.NameId.{NameId}
use Rattle.jo_value.specs.declared.value.ObjId.{ObjId}
use Rattle.jo_value.specs.declared.value.Key.{Key}
use Rattle.jo_value.specs.declared.value.Key.TheVariants.{Name, Index}
use Rattle.jo_value.specs.declared.value.Value.{Value}
use Rattle.jo_value.specs.declared.value.Value.TheVariants as value
use Rattle.jo_value.specs.Values.{IsInRange}
use Rattle.jo_model.specs.declared.call.Call.{Call}
use Rattle.jo_model.specs.declared.call.Call.TheVariants as call
use Rattle.jo_model.specs.declared.call.Reply.{Reply}
use Rattle.jo_model.specs.declared.call.Reply.TheVariants as reply
use Rattle.jo_model.specs.declared.call.Spent.{Spent}
use Rattle.jo_model.specs.Objects.{Object, empty_object, has_property, value_of, is_full_for}
use Rattle.jo_model.specs.Heaps.{Heap, objects_of, with_new_object}
use Rattle.jo_model.specs.One.{one, put_in}
use Rattle.jo_model.specs.WellFormed.{IsWellFormed, IsWellFormedHeap}
use Rattle.jo_model.specs.Valid.{IsValidKey, IsValidCall, IsValidObject, IsValidHeap}
use Rattle.jo_model.specs.Fits.{Fits, FitsNew, FitsRead, FitsHas, FitsNames, FitsPut, FitsDelete}
use Rattle.jo_model.proofs.ValidEdits.{within_most, in_range, empty_is_valid}
use Rattle.jo_model.proofs.ValidHeaps.{alike, objects-alike, formed-alike, valid-alike, Holds, holds}
use Rattle.jo_model.proofs.WellFormed.{well_formed-empty}
use Rattle.jo_model.proofs.ValidObjects.{single, formed-single, valid-single, value_of-single, has_property-single, has_property-empty, with_undefined, of_names, names-of_names, formed-of_names, valid-of_names, lacks, Others, others}

-- one thread answers the call so, at a heap that is well formed and valid, and for which the call is valid
pub record IsGiven (c : Call) (answer : Reply) : Type 0 where
  pub heap : Heap
  pub pass : ℕ
  pub within : pass < length heap
  pub formed : IsWellFormedHeap heap
  pub valid : IsValidHeap heap
  pub call_valid : IsValidCall heap c
  pub answered : (one heap pass c).1 ≡ answer

abbrev pub IsSpent : Reply → Type 0
IsSpent answer = (spent : Spent) × (answer ≡ reply.Spent spent)

-- the reply of one of two outcomes
abbrev reply_of : Bool → Heap × Reply → Heap × Reply → Reply
reply_of b x y = (if b then x else y).1

given_made : (o : ObjId) → o.serial < MOST_OBJECTS → IsGiven call.New (reply.Made o)
given_made o small =
    let heap : Heap = alike (o.pass + 1) o.serial empty_object in
    let many : length (objects_of heap o.pass) ≡ o.serial =
    ap (length {A = Object}) (objects-alike (o.pass + 1) o.serial empty_object o.pass (omega arith)) ∙ length-replicate o.serial empty_object in
    record {
      heap = heap;
      pass = o.pass;
      within = omega (arith, length-replicate (o.pass + 1) (replicate o.serial empty_object));
      formed = formed-alike (o.pass + 1) o.serial empty_object (omega arith) well_formed-empty;
      valid = valid-alike (o.pass + 1) o.serial empty_object (empty_is_valid heap);
      call_valid = record { object = tt; key = tt; values = tt };
      answered =
          ap (λ n. reply_of (nat_lt n MOST_OBJECTS) (with_new_object heap o.pass, reply.Made (record { pass = o.pass; serial = n })) (heap, reply.ObjectsSpent)) many
          ∙ ap (λ b. reply_of b (with_new_object heap o.pass, reply.Made o) (heap, reply.ObjectsSpent)) (lt-ltb o.serial MOST_OBJECTS small);
    }

given_objects_spent : (most : ℕ) → most ≡ MOST_OBJECTS → IsGiven call.New reply.ObjectsSpent
given_objects_spent most is_most =
    let heap : Heap = alike 1 most empty_object in
    let many : length (objects_of heap 0) ≡ most =
    ap (length {A = Object}) (objects-alike 1 most empty_object 0 (lit< tt)) ∙ length-replicate most empty_object in
    record {
      heap = heap;
      pass = 0;
      within = lit< tt;
      formed = formed-alike 1 most empty_object (omega arith) well_formed-empty;
      valid = valid-alike 1 most empty_object (empty_is_valid heap);
      call_valid = record { object = tt; key = tt; values = tt };
      answered =
          ap (λ b. reply_of b (with_new_object heap 0, reply.Made (record { pass = 0; serial = length (objects_of heap 0) })) (heap, reply.ObjectsSpent))
          (le-ltb (length (objects_of heap 0)) MOST_OBJECTS (omega (arith, many, is_most)));
    }

given_new : (answer : Reply) → FitsNew answer → IsGiven call.New answer ⊎ IsSpent answer
given_new (reply.Made o) h = inl (given_made o h)
given_new reply.ObjectsSpent h = inl (given_objects_spent MOST_OBJECTS refl)
given_new (reply.Spent spent) h = inr (spent, refl)
given_new _ h = absurd h

-- an object of the call, which is in range, and its key, which is valid
module _ (o : ObjId) (small : o.serial < MOST_OBJECTS) where
  given_get : (key : Key) → IsValidKey key → (answer : Reply) → FitsRead answer → IsGiven (call.Get o key) answer
  given_get key key_valid (reply.Found v) h =
      let w : Holds o v value.Undefined value.Undefined (single key v) =
      holds o v value.Undefined value.Undefined (single key v) small h tt tt (formed-single key v) (λ heap v_valid. valid-single heap key v key_valid v_valid) in
      record {
        heap = w.heap;
        pass = 0;
        within = w.within;
        formed = w.formed;
        valid = w.valid;
        call_valid = record { object = w.born; key = key_valid; values = tt };
        answered = ap (λ x. reply.Found (value_of x key)) w.object ∙ ap (λ v. reply.Found v) (value_of-single key v);
      }
  given_get key key_valid _ h = absurd h

  given_cas : (key : Key) (expected desired : Value) → IsValidKey key → IsInRange expected → IsInRange desired
      → (answer : Reply) → FitsRead answer → IsGiven (call.Cas o key expected desired) answer
  given_cas key expected desired key_valid expected_in desired_in (reply.Found v) h =
      let w : Holds o v expected desired (single key v) =
      holds o v expected desired (single key v) small h expected_in desired_in (formed-single key v) (λ heap v_valid. valid-single heap key v key_valid v_valid) in
      record {
        heap = w.heap;
        pass = 0;
        within = w.within;
        formed = w.formed;
        valid = w.valid;
        call_valid = record { object = w.born; key = key_valid; values = (w.b_valid, w.c_valid) };
        answered = ap (λ x. reply.Found (value_of x key)) w.object ∙ ap (λ v. reply.Found v) (value_of-single key v);
      }
  given_cas key expected desired key_valid expected_in desired_in _ h = absurd h

  -- a heap where the object is like this one, which holds undefined alone, and a value is valid
  plain : (v : Value) (x : Object) → IsInRange v → IsWellFormed x → ((heap : Heap) → IsValidObject heap x) → Holds o value.Undefined v value.Undefined x
  plain v x v_in formed valid = holds o value.Undefined v value.Undefined x small tt v_in tt formed (λ heap undefined_valid. valid heap)

  given_has : (key : Key) → IsValidKey key → (answer : Reply) → FitsHas answer → IsGiven (call.Has o key) answer
  given_has key key_valid (reply.Flag true) h =
      let w : Holds o value.Undefined value.Undefined value.Undefined (single key value.Undefined) =
      plain value.Undefined (single key value.Undefined) tt (formed-single key value.Undefined) (λ heap. valid-single heap key value.Undefined key_valid tt) in
      record {
        heap = w.heap;
        pass = 0;
        within = w.within;
        formed = w.formed;
        valid = w.valid;
        call_valid = record { object = w.born; key = key_valid; values = tt };
        answered = ap (λ x. reply.Flag (has_property x key)) w.object ∙ ap (λ b. reply.Flag b) (has_property-single key value.Undefined);
      }
  given_has key key_valid (reply.Flag false) h =
      let w : Holds o value.Undefined value.Undefined value.Undefined empty_object =
      plain value.Undefined empty_object tt well_formed-empty empty_is_valid in
      record {
        heap = w.heap;
        pass = 0;
        within = w.within;
        formed = w.formed;
        valid = w.valid;
        call_valid = record { object = w.born; key = key_valid; values = tt };
        answered = ap (λ x. reply.Flag (has_property x key)) w.object ∙ ap (λ b. reply.Flag b) (has_property-empty key);
      }
  given_has key key_valid _ h = absurd h

  given_names : (answer : Reply) → FitsNames answer → IsGiven (call.Names o) answer
  given_names (reply.Names names) h =
      let w : Holds o value.Undefined value.Undefined value.Undefined (of_names names) =
      plain value.Undefined (of_names names) tt (formed-of_names names h.0 h.1) (λ heap. valid-of_names heap names) in
      record {
        heap = w.heap;
        pass = 0;
        within = w.within;
        formed = w.formed;
        valid = w.valid;
        call_valid = record { object = w.born; key = tt; values = tt };
        answered = ap (λ (x : Object). reply.Names (map (λ p. p.0) x.names)) w.object ∙ ap (λ names. reply.Names names) (names-of_names names);
      }
  given_names _ h = absurd h

  done_at_empty : (key : Key) (v : Value) → (put_in empty_object key v).1 ≡ reply.Done
  done_at_empty (Name name) v = refl
  done_at_empty (Index index) v = refl

  -- what a Put of a name that an object lacks is answered where the object is full
  refused : (x : Object) (name : NameId) (v : Value) → has_property x (Name name) ≡ false → is_full_for x (Name name) ≡ true
      → (put_in x (Name name) v).1 ≡ reply.TooManyNames
  refused x name v lacking full = rw (lacking, full)

  given_put : (key : Key) (v : Value) → IsValidKey key → IsInRange v → (answer : Reply) → FitsPut key answer
      → IsGiven (call.Put o key v) answer ⊎ IsSpent answer
  given_put key v key_valid v_in reply.Done h =
      let w : Holds o value.Undefined v value.Undefined empty_object = plain v empty_object v_in well_formed-empty empty_is_valid in
      inl (record {
        heap = w.heap;
        pass = 0;
        within = w.within;
        formed = w.formed;
        valid = w.valid;
        call_valid = record { object = w.born; key = key_valid; values = w.b_valid };
        answered = ap (λ x. (put_in x key v).1) w.object ∙ done_at_empty key v;
      })
  given_put (Name name) v key_valid v_in reply.TooManyNames h =
      let other : Others name = others name in
      let few : length other.names ≤ MOST_NAMES = omega (arith, other.many) in
      let w : Holds o value.Undefined v value.Undefined (of_names other.names) =
      plain v (of_names other.names) v_in (formed-of_names other.names other.once few) (λ heap. valid-of_names heap other.names) in
      let full : nat_le MOST_NAMES (length (map with_undefined other.names)) ≡ true =
      le-leb MOST_NAMES (length (map with_undefined other.names)) (omega (arith, other.many, length-map other.names with_undefined)) in
      inl (record {
        heap = w.heap;
        pass = 0;
        within = w.within;
        formed = w.formed;
        valid = w.valid;
        call_valid = record { object = w.born; key = key_valid; values = w.b_valid };
        answered = ap (λ x. (put_in x (Name name) v).1) w.object ∙ refused (of_names other.names) name v (lacks name other.names other.differ) full;
      })
  given_put key v key_valid v_in (reply.Spent spent) h = inr (spent, refl)
  given_put (Name name) v key_valid v_in _ h = absurd h
  given_put (Index index) v key_valid v_in _ h = absurd h

  given_delete : (key : Key) → IsValidKey key → (answer : Reply) → FitsDelete answer → IsGiven (call.Delete o key) answer ⊎ IsSpent answer
  given_delete key key_valid (reply.Flag true) h =
      let w : Holds o value.Undefined value.Undefined value.Undefined empty_object =
      plain value.Undefined empty_object tt well_formed-empty empty_is_valid in
      inl (record {
        heap = w.heap;
        pass = 0;
        within = w.within;
        formed = w.formed;
        valid = w.valid;
        call_valid = record { object = w.born; key = key_valid; values = tt };
        answered = refl;
      })
  given_delete key key_valid (reply.Spent spent) h = inr (spent, refl)
  given_delete key key_valid _ h = absurd h

-- Where a call is valid for some heap, each reply that fits it is one that one thread gives, or a refusal for want of storage.
pub each_is_given : (heap : Heap) (c : Call) (answer : Reply) → IsWellFormedHeap heap → IsValidCall heap c → Fits c answer
    → IsGiven c answer ⊎ IsSpent answer
each_is_given heap call.New answer formed c h = given_new answer h
each_is_given heap (call.Get o key) answer formed c h = inl (given_get o (within_most heap o formed c.object) key c.key answer h)
each_is_given heap (call.Has o key) answer formed c h = inl (given_has o (within_most heap o formed c.object) key c.key answer h)
each_is_given heap (call.Names o) answer formed c h = inl (given_names o (within_most heap o formed c.object) answer h)
each_is_given heap (call.Put o key v) answer formed c h =
    given_put o (within_most heap o formed c.object) key v c.key (in_range heap v formed c.values) answer h
each_is_given heap (call.Delete o key) answer formed c h = given_delete o (within_most heap o formed c.object) key c.key answer h
each_is_given heap (call.Cas o key expected desired) answer formed c h =
    inl (given_cas o (within_most heap o formed c.object) key expected desired c.key
    (in_range heap expected formed c.values.0) (in_range heap desired formed c.values.1) answer h)
