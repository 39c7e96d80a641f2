-- A valid call of a valid heap leaves a valid heap, and a reply that is valid there and fits the call.
use Rattle.std.proofs.Common.{◌≡◌, ◌-◌, ◌<◌, ℕ, Bool, true, false, List, [], ◌∷◌, length, replicate, sym, subst, arith, if◌then◌else◌, All, Result, Ok, Err, IfOk}
use Rattle.std.specs.Prelude.{nat_lt, slice_set}
use Rattle.std.proofs.lemmas.Bool.{ltb-true, cond_both}
use Rattle.std.proofs.lemmas.List.{length-map}
use Rattle.std.proofs.lemmas.List.Elements.{All-nil, All-cons, All-set, All-push, All-replicate}
use Rattle.jo_value.specs.declared.limits.TheConstants.{MOST_OBJECTS}
use Rattle.jo_value.specs.declared.value.ObjId.{ObjId}
use Rattle.jo_value.specs.declared.value.Key.{Key}
use Rattle.jo_value.specs.declared.value.Key.TheVariants.{Name, Index}
use Rattle.jo_value.specs.declared.value.Value.{Value}
use Rattle.jo_model.specs.declared.call.Call.{Call}
use Rattle.jo_model.specs.declared.call.Call.TheVariants as call
use Rattle.jo_model.specs.declared.call.Reply.{Reply}
use Rattle.jo_model.specs.declared.call.Reply.TheVariants as reply
use Rattle.jo_model.specs.Objects.{Object, empty_object, property, has_property, value_of, is_full_for, with_value, with_property}
use Rattle.jo_model.specs.Heaps.{Heap, heap_at_start, objects_of, object_of, with_object, with_new_object}
use Rattle.jo_model.specs.One.{one, in_heap, put_in, is_found_as}
use Rattle.jo_model.specs.WellFormed.{IsWellFormed, IsWellFormedHeap}
use Rattle.jo_model.specs.Valid.{IsValidValue, IsValidKey, IsValidCall, IsValidReply, IsValidObject, IsValidHeap}
use Rattle.jo_model.specs.declared.call.Spent.{Spent}
use Rattle.jo_model.specs.History.{IsLawfulSpent, MayTakeStorage}
use Rattle.jo_model.specs.Fits.{Fits, LeavesValid}
use Rattle.jo_model.proofs.ValidBirths.{KeepsBorn, born-with_object, born-with_new_object, new_is_born, heap_set, reply_kept}
use Rattle.jo_model.proofs.WellFormed.{object-at}
use Rattle.jo_model.proofs.ValidEdits.{empty_is_valid, objects_valid, object_valid, value_valid, with_value_valid, with_property_valid, without_property_valid, in_range}

-- what becomes of one object, and the reply
record LeavesValidObject (heap : Heap) (call : Call) (edited : Object × Reply) : Type 0 where
  object : IsValidObject heap edited.0
  named : IsValidReply heap edited.1
  fits : Fits call edited.1

edit_leaves : (heap : Heap) (o : ObjId) (c : Call) (edited : Object × Reply) → IsValidHeap heap → LeavesValidObject heap c edited
    → LeavesValid c (in_heap heap o edited).0 (in_heap heap o edited).1
edit_leaves heap o c edited valid leaves =
    let kept : KeepsBorn heap (with_object heap o edited.0) = born-with_object heap o edited.0 in
    record {
      values =
          heap_set heap o.pass (slice_set (objects_of heap o.pass) o.serial edited.0) kept
          (All-set (IsValidObject heap) (objects_of heap o.pass) o.serial edited.0 leaves.object (objects_valid heap o.pass valid)) valid;
      named = reply_kept heap (with_object heap o edited.0) kept edited.1 leaves.named;
      fits = leaves.fits;
    }

-- a choice leaves what both of its parts leave
either : {X : Type 0} (P : X → Type 0) (b : Bool) (x y : X) → P x → P y → P (if b then x else y)
either P true x y p q = p
either P false x y p q = q

put_leaves : (heap : Heap) (o : ObjId) (object : Object) (key : Key) (v : Value) → IsValidKey key → IsValidValue heap v → IsValidObject heap object
    → LeavesValidObject heap (call.Put o key v) (put_in object key v)
put_leaves heap o object (Name name) v key_valid v_valid valid =
    let P : Object × Reply → Type 0 = LeavesValidObject heap (call.Put o (Name name) v) in
    let set : P (with_value object (Name name) v, reply.Done) = record { object = with_value_valid heap object (Name name) v key_valid v_valid valid; named = tt; fits = tt } in
    let refused : P (object, reply.TooManyNames) = record { object = valid; named = tt; fits = tt } in
    let added : P (with_property object (Name name) v, reply.Done) = record { object = with_property_valid heap object (Name name) v key_valid v_valid valid; named = tt; fits = tt } in
    either P (has_property object (Name name)) _ _ set (either P (is_full_for object (Name name)) _ _ refused added)
put_leaves heap o object (Index index) v key_valid v_valid valid =
    let P : Object × Reply → Type 0 = LeavesValidObject heap (call.Put o (Index index) v) in
    let set : P (with_value object (Index index) v, reply.Done) = record { object = with_value_valid heap object (Index index) v key_valid v_valid valid; named = tt; fits = tt } in
    let added : P (with_property object (Index index) v, reply.Done) = record { object = with_property_valid heap object (Index index) v key_valid v_valid valid; named = tt; fits = tt } in
    either P (has_property object (Index index)) _ _ set added

new_leaves : (heap : Heap) (pass : ℕ) → pass < length heap → IsValidHeap heap → LeavesValid call.New (one heap pass call.New).0 (one heap pass call.New).1
new_leaves heap pass within valid =
    let P : Heap × Reply → Type 0 = λ left. LeavesValid call.New left.0 left.1 in
    let made : Reply = reply.Made (record { pass = pass; serial = length (objects_of heap pass) }) in
    let kept : KeepsBorn heap (with_new_object heap pass) = born-with_new_object heap pass in
    cond_both (nat_lt (length (objects_of heap pass)) MOST_OBJECTS) (with_new_object heap pass, made) (heap, reply.ObjectsSpent) P
    (λ few. record {
      values = heap_set heap pass _ kept (All-push (IsValidObject heap) (objects_of heap pass) empty_object (objects_valid heap pass valid) (empty_is_valid heap)) valid;
      named = new_is_born heap pass within;
      fits = ltb-true _ _ few;
    })
    (λ many. record { values = valid; named = tt; fits = tt })

-- the law, for each call
pub leaves_valid : (heap : Heap) (pass : ℕ) (c : Call) → pass < length heap → IsWellFormedHeap heap → IsValidHeap heap → IsValidCall heap c
    → LeavesValid c (one heap pass c).0 (one heap pass c).1
leaves_valid heap pass call.New within formed valid c = new_leaves heap pass within valid
leaves_valid heap pass (call.Get o key) within formed valid c =
    let found : IsValidValue heap (value_of (object_of heap o) key) = value_valid heap (object_of heap o) key (object_valid heap o valid) in
    record { values = valid; named = found; fits = in_range heap _ formed found }
leaves_valid heap pass (call.Has o key) within formed valid c = record { values = valid; named = tt; fits = tt }
leaves_valid heap pass (call.Names o) within formed valid c =
    let object : IsWellFormed (object_of heap o) = object-at heap o formed in
    record { values = valid; named = tt; fits = (object.once, omega (arith, object.few, length-map (object_of heap o).names (λ p. p.0))) }
leaves_valid heap pass (call.Put o key v) within formed valid c =
    edit_leaves heap o (call.Put o key v) _ valid (put_leaves heap o (object_of heap o) key v c.key c.values (object_valid heap o valid))
leaves_valid heap pass (call.Delete o key) within formed valid c =
    edit_leaves heap o (call.Delete o key) _ valid (record {
      object = without_property_valid heap (object_of heap o) key (object_valid heap o valid);
      named = tt;
      fits = tt;
    })
leaves_valid heap pass (call.Cas o key expected desired) within formed valid c =
    let object : Object = object_of heap o in
    let before : IsValidObject heap object = object_valid heap o valid in
    let found : IsValidValue heap (value_of object key) = value_valid heap object key before in
    edit_leaves heap o (call.Cas o key expected desired) _ valid (record {
      object =
          either (IsValidObject heap) (is_found_as (property object key) expected) (with_value object key desired) object
          (with_value_valid heap object key desired c.key c.values.1 before) before;
      named = found;
      fits = in_range heap _ formed found;
    })

-- the same of a new heap and a reply that one thread gives
pub left_valid : (heap new : Heap) (pass : ℕ) (c : Call) (answer : Reply) → one heap pass c ≡ (new, answer)
    → pass < length heap → IsWellFormedHeap heap → IsValidHeap heap → IsValidCall heap c → LeavesValid c new answer
left_valid heap new pass c answer e within formed valid c_valid =
    let P : Heap × Reply → Type 0 = λ left. LeavesValid c left.0 left.1 in
    subst P e (leaves_valid heap pass c within formed valid c_valid)

-- the same of a result that is what one thread gives, where it is `Ok`
pub left_valid_if_ok : {E : Type 0} (heap new : Heap) (pass : ℕ) (c : Call) (result : Result Reply E) → IfOk result (λ answer. one heap pass c ≡ (new, answer))
    → pass < length heap → IsWellFormedHeap heap → IsValidHeap heap → IsValidCall heap c → IfOk result (λ answer. LeavesValid c new answer)
left_valid_if_ok heap new pass c (Ok answer) e within formed valid c_valid = left_valid heap new pass c answer e within formed valid c_valid
left_valid_if_ok heap new pass c (Err error) e within formed valid c_valid = tt

-- a refusal for want of storage fits each call that may be refused so
spent_fits_at : (c : Call) (spent : Spent) → MayTakeStorage c → Fits c (reply.Spent spent)
spent_fits_at call.New spent takes = tt
spent_fits_at (call.Get o key) spent takes = takes
spent_fits_at (call.Has o key) spent takes = takes
spent_fits_at (call.Names o) spent takes = takes
spent_fits_at (call.Put o (Name name) v) spent takes = tt
spent_fits_at (call.Put o (Index index) v) spent takes = tt
spent_fits_at (call.Delete o key) spent takes = tt
spent_fits_at (call.Cas o key expected desired) spent takes = takes

-- a lawful refusal for want of storage fits its call
pub spent_fits : (made : ℕ) (c : Call) (answer : Reply) → IsLawfulSpent made c answer → Fits c answer
spent_fits made c answer lawful = let P : Reply → Type 0 = Fits c in subst P (sym lawful.answered) (spent_fits_at c lawful.spent lawful.takes)

-- the heap at the start is valid
pub valid_at_start : (passes : ℕ) → IsValidHeap (heap_at_start passes)
valid_at_start passes =
    let P : List Object → Type 0 = All (IsValidObject (heap_at_start passes)) in
    All-cons P (empty_object ∷ []) (replicate (passes - 1) [])
    (All-cons (IsValidObject (heap_at_start passes)) empty_object [] (empty_is_valid (heap_at_start passes)) (All-nil (IsValidObject (heap_at_start passes))))
    (All-replicate P (passes - 1) [] (All-nil (IsValidObject (heap_at_start passes))))
