-- What valid and well formed heaps hold, and what an edit of an object leaves.
use Rattle.std.proofs.Common.{◌≡◌, ◌<◌, ◌≤◌, ℕ, List, [], ◌∷◌, length, take, drop, sym, ap, subst, inl, inr, arith, All}
use Rattle.std.specs.Prelude.{nat_lt, insert, remove, slice_get, option_map, unwrap_or, count_by, suc}
use Rattle.std.proofs.lemmas.Bool.{cases_lt}
use Rattle.std.proofs.lemmas.List.{get_or_past}
use Rattle.std.proofs.lemmas.List.Elements.{All-nil, All-cons, All-get_or, All-set, All-push, All-append, All-take, All-drop}
use Rattle.std.proofs.lemmas.Option.{slice_get_cases}
use Rattle.jo_value.specs.declared.limits.TheConstants.{MOST_INDEX, MOST_OBJECTS}
use Rattle.jo_value.specs.declared.value.ObjId.{ObjId}
use Rattle.jo_value.specs.declared.value.Key.{Key}
use Rattle.jo_value.specs.declared.value.Key.TheVariants.{Name, Index}
use Rattle.jo_value.specs.declared.value.Value.{Value}
use Rattle.jo_value.specs.declared.value.Value.TheVariants as value
use Rattle.jo_value.specs.Values.{IsInRange}
use Rattle.jo_model.proofs.WellFormed.{get_or_all}
use Rattle.jo_model.specs.Objects.{Object, empty_object, value_of, with_value, with_property, without_property, name_place, element_place}
use Rattle.jo_model.specs.Heaps.{Heap, objects_of, object_of, IsBorn}
use Rattle.jo_model.specs.WellFormed.{AreWellFormed, IsWellFormedHeap}
use Rattle.jo_model.specs.Valid.{IsValidValue, IsValidKey, IsValidObject, IsValidHeap}

-- What a valid heap has.

pub empty_is_valid : (heap : Heap) → IsValidObject heap empty_object
empty_is_valid heap = record {
  names = All-nil (λ p. IsValidValue heap p.1);
  elements = All-nil (λ p. IsValidValue heap p.1);
  indexes = All-nil (λ p. p.0 ≤ MOST_INDEX);
}

-- an element of a list of which each is so, or the default, which is so too
pub objects_valid : (heap : Heap) (pass : ℕ) → IsValidHeap heap → All (IsValidObject heap) (objects_of heap pass)
objects_valid heap pass valid = get_or_all (All (IsValidObject heap)) heap pass [] (All-nil (IsValidObject heap)) valid

pub object_valid : (heap : Heap) (o : ObjId) → IsValidHeap heap → IsValidObject heap (object_of heap o)
object_valid heap o valid = get_or_all (IsValidObject heap) (objects_of heap o.pass) o.serial empty_object (empty_is_valid heap) (objects_valid heap o.pass valid)

-- the value at a place of a list of properties, or undefined past its end
value_at : {K : Type 0} (heap : Heap) (properties : List (K × Value)) (i : ℕ) → All (λ p. IsValidValue heap p.1) properties
    → IsValidValue heap (unwrap_or (option_map (λ p. p.1) (slice_get properties i)) value.Undefined)
value_at {K} heap properties i all =
    let P : Value → Type 0 = IsValidValue heap in
    elim (slice_get_cases properties i).1 [
      | inl there ↦
          subst P (ap (λ found. unwrap_or (option_map (λ p. p.1) found) value.Undefined) (sym there.2))
          (subst P (ap (λ p. p.1) there.3) (all i there.0 there.1))
      | inr past ↦ subst P (ap (λ found. unwrap_or (option_map (λ p. p.1) found) value.Undefined) (sym past.1)) tt
    ]

pub value_valid : (heap : Heap) (o : Object) (key : Key) → IsValidObject heap o → IsValidValue heap (value_of o key)
value_valid heap o (Name name) valid = value_at heap o.names (name_place o name) valid.names
value_valid heap o (Index index) valid = value_at heap o.elements (element_place o index) valid.elements

-- What an edit of an object leaves.

-- a list with one element more, at any place
all_insert : {X : Type 0} (P : X → Type 0) (xs : List X) (i : ℕ) (x : X) → P x → All P xs → All P (insert xs i x)
all_insert P xs i x one_more all = All-append P (take i xs) (x ∷ drop i xs) (All-take P i xs all) (All-cons P x (drop i xs) one_more (All-drop P i xs all))

-- a list with one element less
all_remove : {X : Type 0} (P : X → Type 0) (xs : List X) (i : ℕ) → All P xs → All P (remove xs i)
all_remove P xs i all = All-append P (take i xs) (drop (suc i) xs) (All-take P i xs all) (All-drop P (suc i) xs all)

pub with_value_valid : (heap : Heap) (o : Object) (key : Key) (v : Value) → IsValidKey key → IsValidValue heap v → IsValidObject heap o → IsValidObject heap (with_value o key v)
with_value_valid heap o (Name name) v key_valid v_valid valid = record {
  names = All-set (λ p. IsValidValue heap p.1) o.names (name_place o name) (name, v) v_valid valid.names;
  elements = valid.elements;
  indexes = valid.indexes;
}
with_value_valid heap o (Index index) v key_valid v_valid valid = record {
  names = valid.names;
  elements = All-set (λ p. IsValidValue heap p.1) o.elements (element_place o index) (index, v) v_valid valid.elements;
  indexes = All-set (λ p. p.0 ≤ MOST_INDEX) o.elements (element_place o index) (index, v) key_valid valid.indexes;
}

pub with_property_valid : (heap : Heap) (o : Object) (key : Key) (v : Value) → IsValidKey key → IsValidValue heap v → IsValidObject heap o → IsValidObject heap (with_property o key v)
with_property_valid heap o (Name name) v key_valid v_valid valid = record {
  names = All-push (λ p. IsValidValue heap p.1) o.names (name, v) valid.names v_valid;
  elements = valid.elements;
  indexes = valid.indexes;
}
with_property_valid heap o (Index index) v key_valid v_valid valid =
    let at : ℕ = count_by (λ p. nat_lt p.0 index) o.elements in
    record {
      names = valid.names;
      elements = all_insert (λ p. IsValidValue heap p.1) o.elements at (index, v) v_valid valid.elements;
      indexes = all_insert (λ p. p.0 ≤ MOST_INDEX) o.elements at (index, v) key_valid valid.indexes;
    }

pub without_property_valid : (heap : Heap) (o : Object) (key : Key) → IsValidObject heap o → IsValidObject heap (without_property o key)
without_property_valid heap o (Name name) valid = record {
  names = all_remove (λ p. IsValidValue heap p.1) o.names (name_place o name) valid.names;
  elements = valid.elements;
  indexes = valid.indexes;
}
without_property_valid heap o (Index index) valid = record {
  names = valid.names;
  elements = all_remove (λ p. IsValidValue heap p.1) o.elements (element_place o index) valid.elements;
  indexes = all_remove (λ p. p.0 ≤ MOST_INDEX) o.elements (element_place o index) valid.indexes;
}

-- What is valid for a well formed heap is in range.

pub within_most : (heap : Heap) (o : ObjId) → IsWellFormedHeap heap → IsBorn heap o → o.serial < MOST_OBJECTS
within_most heap o formed born = elim (cases_lt o.pass (length heap)) [
  | inl within ↦ let few : length (objects_of heap o.pass) ≤ MOST_OBJECTS = (All-get_or AreWellFormed heap o.pass [] within formed).few in omega arith
  | inr past ↦ let none_there : objects_of heap o.pass ≡ [] = get_or_past heap o.pass [] past in
      let P : List Object → Type 0 = λ objects. o.serial < length objects in
      let no_born : P [] = subst P none_there born in absurd (omega (arith, no_born))
]

pub in_range : (heap : Heap) (v : Value) → IsWellFormedHeap heap → IsValidValue heap v → IsInRange v
in_range heap value.Undefined formed valid = tt
in_range heap value.Null formed valid = tt
in_range heap (value.Bool b) formed valid = tt
in_range heap (value.Int i) formed valid = valid
in_range heap (value.Text t) formed valid = tt
in_range heap (value.Object o) formed valid = within_most heap o formed valid
