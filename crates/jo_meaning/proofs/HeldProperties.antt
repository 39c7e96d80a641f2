-- What is so of each property that calls put is so of each property of the heap, where there is one thread.
use Rattle.std.proofs.Common.{◌≡◌, ◌-◌, ℕ, suc, List, [], ◌∷◌, length, take, drop, replicate, refl, sym, ap, subst, inl, inr, All, if◌then◌else◌}
use Rattle.std.specs.Prelude.{nat_lt, insert, remove, slice_get, option_map, unwrap_or, count_by}
use Rattle.std.proofs.lemmas.Bool.{cond_both}
use Rattle.std.proofs.lemmas.List.{length-set}
use Rattle.std.proofs.lemmas.List.Elements.{All-nil, All-cons, All-set, All-push, All-append, All-take, All-drop, All-weaker, All-replicate}
use Rattle.std.proofs.lemmas.Option.{slice_get_cases}
use Rattle.jo_value.specs.declared.limits.TheConstants.{MOST_OBJECTS}
use Rattle.jo_value.specs.declared.value.ObjId.{ObjId}
use Rattle.jo_value.specs.declared.value.Key.{Key}
use Rattle.jo_value.specs.declared.value.Key.TheVariants.{Name, Index}
use Rattle.jo_value.specs.declared.value.Value.{Value}
use Rattle.jo_value.specs.declared.value.Value.TheVariants as value
use Rattle.jo_model.specs.declared.call.Call.{Call}
use Rattle.jo_model.specs.declared.call.Call.TheVariants as call
use Rattle.jo_model.specs.declared.call.Reply.{Reply}
use Rattle.jo_model.specs.declared.call.Reply.TheVariants as reply
use Rattle.jo_model.specs.Objects.{Object, empty_object, property, has_property, value_of, is_full_for, with_value, with_property, without_property, name_place, element_place}
use Rattle.jo_model.specs.Heaps.{Heap, heap_at_start, objects_of, object_of, with_object, with_new_object}
use Rattle.jo_model.specs.One.{one, put_in, is_found_as}
use Rattle.jo_model.proofs.WellFormed.{get_or_all}

-- a list with one element more or less, and the value at a place of a list of properties, or undefined past its end

all_insert : {X : Type 0} (P : X → Type 0) (xs : List X) (i : ℕ) (x : X) → P x → All P xs → All P (insert xs i x)
all_insert P xs i x one_more all = All-append P (take i xs) (x ∷ drop i xs) (All-take P i xs all) (All-cons P x (drop i xs) one_more (All-drop P i xs all))

all_remove : {X : Type 0} (P : X → Type 0) (xs : List X) (i : ℕ) → All P xs → All P (remove xs i)
all_remove P xs i all = All-append P (take i xs) (drop (suc i) xs) (All-take P i xs all) (All-drop P (suc i) xs all)

value_at : {K : Type 0} (Q : Value → Type 0) → Q value.Undefined → (properties : List (K × Value)) (i : ℕ) → All (λ p. Q p.1) properties
    → Q (unwrap_or (option_map (λ p. p.1) (slice_get properties i)) value.Undefined)
value_at {K} Q undefined properties i all = elim (slice_get_cases properties i).1 [
  | inl there ↦
      subst Q (ap (λ found. unwrap_or (option_map (λ (p : K × Value). p.1) found) value.Undefined) (sym there.2))
      (subst Q (ap (λ (p : K × Value). p.1) there.3) (all i there.0 there.1))
  | inr past ↦ subst Q (ap (λ found. unwrap_or (option_map (λ (p : K × Value). p.1) found) value.Undefined) (sym past.1)) undefined
]

module _ (P : Key → Value → Type 0) where
  -- each property of the object is so
  pub record Holds (o : Object) : Type 0 where
    pub names : All (λ p. P (Name p.0) p.1) o.names
    pub elements : All (λ p. P (Index p.0) p.1) o.elements

  abbrev pub HeapHolds : Heap → Type 0
  HeapHolds heap = All (All Holds) heap

  -- the property that a call may put is so
  abbrev pub PutsSuch : Call → Type 0
  PutsSuch (call.Put o key v) = P key v
  PutsSuch (call.Cas o key expected desired) = P key desired
  PutsSuch _ = Unit {0}

  -- ---- objects

  empty_holds : Holds empty_object
  empty_holds = record { names = All-nil (λ p. P (Name p.0) p.1); elements = All-nil (λ p. P (Index p.0) p.1) }

  set_holds : (o : Object) (key : Key) (v : Value) → P key v → Holds o → Holds (with_value o key v)
  set_holds o (Name name) v p h =
      record { names = All-set (λ p. P (Name p.0) p.1) o.names (name_place o name) (name, v) p h.names; elements = h.elements }
  set_holds o (Index index) v p h =
      record { names = h.names; elements = All-set (λ p. P (Index p.0) p.1) o.elements (element_place o index) (index, v) p h.elements }

  more_holds : (o : Object) (key : Key) (v : Value) → P key v → Holds o → Holds (with_property o key v)
  more_holds o (Name name) v p h =
      record { names = All-push (λ p. P (Name p.0) p.1) o.names (name, v) h.names p; elements = h.elements }
  more_holds o (Index index) v p h = record {
    names = h.names;
    elements = all_insert (λ p. P (Index p.0) p.1) o.elements (count_by (λ p. nat_lt p.0 index) o.elements) (index, v) p h.elements;
  }

  less_holds : (o : Object) (key : Key) → Holds o → Holds (without_property o key)
  less_holds o (Name name) h =
      record { names = all_remove (λ p. P (Name p.0) p.1) o.names (name_place o name) h.names; elements = h.elements }
  less_holds o (Index index) h =
      record { names = h.names; elements = all_remove (λ p. P (Index p.0) p.1) o.elements (element_place o index) h.elements }

  put_holds : (o : Object) (key : Key) (v : Value) → P key v → Holds o → Holds (put_in o key v).0
  put_holds o key v p h =
      let Q : Object × Reply → Type 0 = λ edited. Holds edited.0 in
      cond_both (has_property o key) (with_value o key v, reply.Done)
      (if is_full_for o key then (o, reply.TooManyNames) else (with_property o key v, reply.Done)) Q (λ there. set_holds o key v p h)
      (λ lacking. cond_both (is_full_for o key) (o, reply.TooManyNames) (with_property o key v, reply.Done) Q (λ full. h) (λ room. more_holds o key v p h))

  -- what is so of the value of such a property, and of undefined, is so of each value that is read
  pub value_holds : (Q : Value → Type 0) → Q value.Undefined → ((key : Key) (v : Value) → P key v → Q v)
      → (o : Object) (key : Key) → Holds o → Q (value_of o key)
  value_holds Q undefined weaker o (Name name) h =
      value_at Q undefined o.names (name_place o name)
      (All-weaker (λ p. P (Name p.0) p.1) (λ p. Q p.1) (λ p. weaker (Name p.0) p.1) o.names h.names)
  value_holds Q undefined weaker o (Index index) h =
      value_at Q undefined o.elements (element_place o index)
      (All-weaker (λ p. P (Index p.0) p.1) (λ p. Q p.1) (λ p. weaker (Index p.0) p.1) o.elements h.elements)

  -- ---- heaps

  objects_hold : (heap : Heap) (pass : ℕ) → HeapHolds heap → All Holds (objects_of heap pass)
  objects_hold heap pass h = get_or_all (All Holds) heap pass [] (All-nil Holds) h

  pub object_holds : (heap : Heap) (o : ObjId) → HeapHolds heap → Holds (object_of heap o)
  object_holds heap o h = get_or_all Holds (objects_of heap o.pass) o.serial empty_object empty_holds (objects_hold heap o.pass h)

  with_object_holds : (heap : Heap) (o : ObjId) (object : Object) → Holds object → HeapHolds heap → HeapHolds (with_object heap o object)
  with_object_holds heap o object p h =
      All-set (All Holds) heap o.pass _ (All-set Holds (objects_of heap o.pass) o.serial object p (objects_hold heap o.pass h)) h

  pub holds-one : (heap : Heap) (pass : ℕ) (c : Call) → PutsSuch c → HeapHolds heap → HeapHolds (one heap pass c).0
  holds-one heap pass call.New p h =
      cond_both {A = Heap × Reply} (nat_lt (length (objects_of heap pass)) MOST_OBJECTS)
      (with_new_object heap pass, reply.Made (record { pass = pass; serial = length (objects_of heap pass) })) (heap, reply.ObjectsSpent)
      (λ left. HeapHolds left.0)
      (λ few. All-set (All Holds) heap pass _ (All-push Holds (objects_of heap pass) empty_object (objects_hold heap pass h) empty_holds) h) (λ many. h)
  holds-one heap pass (call.Put o key v) p h = with_object_holds heap o _ (put_holds (object_of heap o) key v p (object_holds heap o h)) h
  holds-one heap pass (call.Delete o key) p h = with_object_holds heap o _ (less_holds (object_of heap o) key (object_holds heap o h)) h
  holds-one heap pass (call.Cas o key expected desired) p h =
      let object : Object = object_of heap o in
      with_object_holds heap o _
      (cond_both (is_found_as (property object key) expected) (with_value object key desired) object Holds
      (λ found. set_holds object key desired p (object_holds heap o h)) (λ other. object_holds heap o h)) h
  holds-one heap pass _ p h = h

  pub holds_at_start : (passes : ℕ) → HeapHolds (heap_at_start passes)
  holds_at_start passes =
      All-cons (All Holds) (empty_object ∷ []) (replicate (passes - 1) [])
      (All-cons Holds empty_object [] empty_holds (All-nil Holds)) (All-replicate (All Holds) (passes - 1) [] (All-nil Holds))

-- no call makes a pass more or less
pub as_many_passes : (heap : Heap) (pass : ℕ) (c : Call) → length (one heap pass c).0 ≡ length heap
as_many_passes heap pass call.New =
    cond_both {A = Heap × Reply} (nat_lt (length (objects_of heap pass)) MOST_OBJECTS)
    (with_new_object heap pass, reply.Made (record { pass = pass; serial = length (objects_of heap pass) })) (heap, reply.ObjectsSpent)
    (λ left. length left.0 ≡ length heap) (λ few. length-set heap pass _) (λ many. refl)
as_many_passes heap pass (call.Put o key v) = length-set heap o.pass _
as_many_passes heap pass (call.Delete o key) = length-set heap o.pass _
as_many_passes heap pass (call.Cas o key expected desired) = length-set heap o.pass _
as_many_passes heap pass _ = refl
