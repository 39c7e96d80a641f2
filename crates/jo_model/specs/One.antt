-- What a call does where there is one thread.
use Rattle.std.specs.Prelude.{ℕ, nat_lt, Bool, true, false, length, map, Option, Some, None, if◌then◌else◌}
use Rattle.jo_value.specs.declared.limits.TheConstants.{MOST_OBJECTS}
use Rattle.jo_value.specs.declared.value.ObjId.{ObjId}
use Rattle.jo_value.specs.declared.value.Key.{Key}
use Rattle.jo_value.specs.declared.value.Value.{Value}
use Rattle.jo_value.specs.Values.{is_strictly_equal}
use Rattle.jo_model.specs.declared.call.Call.{Call}
use Rattle.jo_model.specs.declared.call.Call.TheVariants as call
use Rattle.jo_model.specs.declared.call.Reply.{Reply}
use Rattle.jo_model.specs.declared.call.Reply.TheVariants.{Made, Found, Flag, Names, Done, TooManyNames, ObjectsSpent}
use Rattle.jo_model.specs.Objects.{Object, property, has_property, value_of, is_full_for, with_value, with_property, without_property}
use Rattle.jo_model.specs.Heaps.{Heap, objects_of, object_of, with_object, with_new_object}

-- ---- one object: what becomes of it, and the reply

-- a Put replaces the value of a property that is there, or adds it where there is room
abbrev pub put_in : Object → Key → Value → Object × Reply
put_in o key value =
    if has_property o key then (with_value o key value, Done)
    else (if is_full_for o key then (o, TooManyNames)
    else (with_property o key value, Done))

-- a Delete takes the property out, where it is there
abbrev pub delete_in : Object → Key → Object × Reply
delete_in o key = (without_property o key, Flag true)

-- whether a property is there with a value that is strictly equal to this one
abbrev pub is_found_as : Option Value → Value → Bool
is_found_as None expected = false
is_found_as (Some found) expected = is_strictly_equal found expected

-- a Cas replaces a value that is strictly equal to the expected one; the reply is the value before
abbrev pub cas_in : Object → Key → Value → Value → Object × Reply
cas_in o key expected desired =
    (if is_found_as (property o key) expected then with_value o key desired else o, Found (value_of o key))

-- ---- the heap

-- the heap with what became of an object, and the reply
abbrev pub in_heap : Heap → ObjId → Object × Reply → Heap × Reply
in_heap heap o edited = (with_object heap o edited.0, edited.1)

-- The new heap and the reply of a call by a pass. Nothing is meant by the case of an object that is not there:
-- a script has only objects that are.
abbrev pub one : Heap → ℕ → Call → Heap × Reply
one heap pass call.New =
    if nat_lt (length (objects_of heap pass)) MOST_OBJECTS
    then (with_new_object heap pass, Made (record { pass = pass; serial = length (objects_of heap pass) }))
    else (heap, ObjectsSpent)
one heap pass (call.Get o key) = (heap, Found (value_of (object_of heap o) key))
one heap pass (call.Has o key) = (heap, Flag (has_property (object_of heap o) key))
one heap pass (call.Names o) = (heap, Names (map (λ p. p.0) (object_of heap o).names))
one heap pass (call.Put o key value) = in_heap heap o (put_in (object_of heap o) key value)
one heap pass (call.Delete o key) = in_heap heap o (delete_in (object_of heap o) key)
one heap pass (call.Cas o key expected desired) = in_heap heap o (cas_in (object_of heap o) key expected desired)
