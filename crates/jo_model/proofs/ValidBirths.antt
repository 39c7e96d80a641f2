-- No call loses an object, so what is valid stays valid.
use Rattle.std.proofs.Common.{◌≡◌, ◌<◌, ◌≤◌, ℕ, List, [], ◌∷◌, ◌++◌, length, sym, ap, ◌∙◌, subst, inl, inr, arith, All}
use Rattle.std.specs.Prelude.{nat_lt, slice_set}
use Rattle.std.proofs.lemmas.Bool.{cases_eq, cases_lt, cond_both}
use Rattle.std.proofs.lemmas.List.{get_or-set_same, get_or-set_other, set_past, length-set, length_push}
use Rattle.std.proofs.lemmas.List.Elements.{All-set, All-weaker}
use Rattle.jo_value.specs.declared.limits.TheConstants.{MOST_OBJECTS}
use Rattle.jo_value.specs.declared.value.ObjId.{ObjId}
use Rattle.jo_value.specs.declared.value.Value.{Value}
use Rattle.jo_value.specs.declared.value.Value.TheVariants as value
use Rattle.jo_model.specs.declared.call.Call.{Call}
use Rattle.jo_model.specs.declared.call.Call.TheVariants as call
use Rattle.jo_model.specs.declared.call.Reply.{Reply}
use Rattle.jo_model.specs.declared.call.Reply.TheVariants as reply
use Rattle.jo_model.specs.Objects.{Object, empty_object}
use Rattle.jo_model.specs.Heaps.{Heap, objects_of, object_of, with_object, with_new_object, IsBorn}
use Rattle.jo_model.specs.One.{one, put_in, delete_in, cas_in}
use Rattle.jo_model.specs.Valid.{IsValidValue, IsValidCall, IsValidReply, IsValidObject, IsValidHeap}

-- What is born stays born.

abbrev pub KeepsBorn : Heap → Heap → Type 0
KeepsBorn old new = (o : ObjId) → IsBorn old o → IsBorn new o

-- a pass whose objects become others, and no fewer
born_set : (heap : Heap) (pass : ℕ) (objects : List Object) → length (objects_of heap pass) ≤ length objects → KeepsBorn heap (slice_set heap pass objects)
born_set heap pass objects more o born = elim (cases_eq o.pass pass) [
  | inl same ↦ elim (cases_lt pass (length heap)) [
    | inl within ↦
        let new : objects_of (slice_set heap pass objects) pass ≡ objects = get_or-set_same heap pass objects [] within in
        let there : objects_of (slice_set heap pass objects) o.pass ≡ objects = ap (objects_of (slice_set heap pass objects)) same ∙ new in
        let before : length (objects_of heap o.pass) ≡ length (objects_of heap pass) = ap (λ p. length (objects_of heap p)) same in
        omega (arith, ap (length {A = Object}) there)
    | inr past ↦
        let P : Heap → Type 0 = λ h. IsBorn h o in subst P (sym (set_past heap pass objects past)) born
  ]
  | inr other ↦
      let P : List Object → Type 0 = λ objects'. o.serial < length objects' in
      subst P (sym (get_or-set_other heap pass o.pass objects [] other)) born
]

-- an object becomes another
pub born-with_object : (heap : Heap) (o : ObjId) (object : Object) → KeepsBorn heap (with_object heap o object)
born-with_object heap o object = born_set heap o.pass _ (omega (arith, length-set (objects_of heap o.pass) o.serial object))

-- one more object is made
pub born-with_new_object : (heap : Heap) (pass : ℕ) → KeepsBorn heap (with_new_object heap pass)
born-with_new_object heap pass = born_set heap pass _ (omega (arith, length_push (objects_of heap pass) empty_object))

-- the object that is made is born
pub new_is_born : (heap : Heap) (pass : ℕ) → pass < length heap → IsBorn (with_new_object heap pass) (record { pass = pass; serial = length (objects_of heap pass) })
new_is_born heap pass within =
    let objects : List Object = objects_of heap pass ++ empty_object ∷ [] in
    let new : objects_of (with_new_object heap pass) pass ≡ objects = get_or-set_same heap pass objects [] within in
    omega (arith, ap (length {A = Object}) new, length_push (objects_of heap pass) empty_object)

-- no call loses an object
pub born_after : (heap : Heap) (pass : ℕ) (c : Call) → KeepsBorn heap (one heap pass c).0
born_after heap pass call.New =
    let P : Heap × Reply → Type 0 = λ left. KeepsBorn heap left.0 in
    cond_both (nat_lt (length (objects_of heap pass)) MOST_OBJECTS)
    (with_new_object heap pass, reply.Made (record { pass = pass; serial = length (objects_of heap pass) })) (heap, reply.ObjectsSpent) P
    (λ few. born-with_new_object heap pass) (λ many o born. born)
born_after heap pass (call.Get o key) = λ o born. born
born_after heap pass (call.Has o key) = λ o born. born
born_after heap pass (call.Names o) = λ o born. born
born_after heap pass (call.Put o key v) = born-with_object heap o (put_in (object_of heap o) key v).0
born_after heap pass (call.Delete o key) = born-with_object heap o (delete_in (object_of heap o) key).0
born_after heap pass (call.Cas o key expected desired) = born-with_object heap o (cas_in (object_of heap o) key expected desired).0

-- What is valid stays valid, where no object is lost.

pub value_kept : (old new : Heap) → KeepsBorn old new → (v : Value) → IsValidValue old v → IsValidValue new v
value_kept old new kept value.Undefined valid = tt
value_kept old new kept value.Null valid = tt
value_kept old new kept (value.Bool b) valid = tt
value_kept old new kept (value.Int i) valid = valid
value_kept old new kept (value.Text t) valid = tt
value_kept old new kept (value.Object o) valid = kept o valid

pub object_kept : (old new : Heap) → KeepsBorn old new → (o : Object) → IsValidObject old o → IsValidObject new o
object_kept old new kept o valid = record {
  names = All-weaker (λ p. IsValidValue old p.1) (λ p. IsValidValue new p.1) (λ p. value_kept old new kept p.1) o.names valid.names;
  elements = All-weaker (λ p. IsValidValue old p.1) (λ p. IsValidValue new p.1) (λ p. value_kept old new kept p.1) o.elements valid.elements;
  indexes = valid.indexes;
}

objects_kept : (old new : Heap) → KeepsBorn old new → (objects : List Object) → All (IsValidObject old) objects → All (IsValidObject new) objects
objects_kept old new kept = All-weaker (IsValidObject old) (IsValidObject new) (object_kept old new kept)

-- a pass whose objects become others that are valid
pub heap_set : (heap : Heap) (pass : ℕ) (objects : List Object) → KeepsBorn heap (slice_set heap pass objects) → All (IsValidObject heap) objects
    → IsValidHeap heap → IsValidHeap (slice_set heap pass objects)
heap_set heap pass objects kept new valid =
    let after : Heap = slice_set heap pass objects in
    All-set (All (IsValidObject after)) heap pass objects (objects_kept heap after kept objects new)
    (All-weaker (All (IsValidObject heap)) (All (IsValidObject after)) (objects_kept heap after kept) heap valid)

-- what a call names stays valid
pub call_kept : (old new : Heap) → KeepsBorn old new → (c : Call) → IsValidCall old c → IsValidCall new c
call_kept old new kept call.New valid = record { object = tt; key = tt; values = tt }
call_kept old new kept (call.Get o key) valid = record { object = kept o valid.object; key = valid.key; values = tt }
call_kept old new kept (call.Has o key) valid = record { object = kept o valid.object; key = valid.key; values = tt }
call_kept old new kept (call.Names o) valid = record { object = kept o valid.object; key = tt; values = tt }
call_kept old new kept (call.Put o key v) valid =
    record { object = kept o valid.object; key = valid.key; values = value_kept old new kept v valid.values }
call_kept old new kept (call.Delete o key) valid = record { object = kept o valid.object; key = valid.key; values = tt }
call_kept old new kept (call.Cas o key expected desired) valid = record {
  object = kept o valid.object;
  key = valid.key;
  values = (value_kept old new kept expected valid.values.0, value_kept old new kept desired valid.values.1);
}

-- what a reply names stays valid
pub reply_kept : (old new : Heap) → KeepsBorn old new → (r : Reply) → IsValidReply old r → IsValidReply new r
reply_kept old new kept (reply.Made o) valid = kept o valid
reply_kept old new kept (reply.Found v) valid = value_kept old new kept v valid
reply_kept old new kept (reply.Flag b) valid = tt
reply_kept old new kept (reply.Names names) valid = tt
reply_kept old new kept reply.Done valid = tt
reply_kept old new kept reply.TooManyNames valid = tt
reply_kept old new kept reply.ObjectsSpent valid = tt
reply_kept old new kept (reply.Spent spent) valid = tt
