-- Which values, calls, replies and heaps are valid.
use Rattle.std.specs.Prelude.{◌≤◌, All}
use Rattle.jo_value.specs.declared.limits.TheConstants.{MOST_INDEX}
use Rattle.jo_value.specs.declared.value.Key.{Key}
use Rattle.jo_value.specs.declared.value.Key.TheVariants.{Name, Index}
use Rattle.jo_value.specs.declared.value.Value.{Value}
use Rattle.jo_value.specs.declared.value.Value.TheVariants as value
use Rattle.jo_value.specs.Values.{IsInRange}
use Rattle.jo_model.specs.declared.call.Call.{Call}
use Rattle.jo_model.specs.declared.call.Call.TheVariants as call
use Rattle.jo_model.specs.declared.call.Reply.{Reply}
use Rattle.jo_model.specs.declared.call.Reply.TheVariants as reply
use Rattle.jo_model.specs.Objects.{Object}
use Rattle.jo_model.specs.Heaps.{Heap, IsBorn}
use Rattle.jo_model.specs.Calls.{IsOnBornObject}

-- a number is in the range of numbers, and an object is one of this heap
abbrev pub IsValidValue : Heap → Value → Type 0
IsValidValue heap (value.Object o) = IsBorn heap o
IsValidValue heap v = IsInRange v

-- an index is within the limit; a name may be any
abbrev pub IsValidKey : Key → Type 0
IsValidKey (Name name) = Unit {0}
IsValidKey (Index index) = index ≤ MOST_INDEX

-- the key of a call, where it has one, is valid
abbrev pub HasValidKey : Call → Type 0
HasValidKey call.New = Unit {0}
HasValidKey (call.Get o key) = IsValidKey key
HasValidKey (call.Has o key) = IsValidKey key
HasValidKey (call.Names o) = Unit {0}
HasValidKey (call.Put o key value) = IsValidKey key
HasValidKey (call.Delete o key) = IsValidKey key
HasValidKey (call.Cas o key expected desired) = IsValidKey key

-- the values of a call, where it has any, are valid
abbrev pub HasValidValues : Heap → Call → Type 0
HasValidValues heap (call.Put o key value) = IsValidValue heap value
HasValidValues heap (call.Cas o key expected desired) = IsValidValue heap expected × IsValidValue heap desired
HasValidValues heap _ = Unit {0}

-- all that a call names is valid for this heap
pub record IsValidCall (heap : Heap) (call : Call) : Type 0 where
  pub object : IsOnBornObject heap call
  pub key : HasValidKey call
  pub values : HasValidValues heap call

-- all that a reply names is valid for this heap
abbrev pub IsValidReply : Heap → Reply → Type 0
IsValidReply heap (reply.Made o) = IsBorn heap o
IsValidReply heap (reply.Found v) = IsValidValue heap v
IsValidReply heap _ = Unit {0}

-- each value that an object of this heap holds is valid, and its indexes are within the limit
pub record IsValidObject (heap : Heap) (o : Object) : Type 0 where
  pub names : All (λ p. IsValidValue heap p.1) o.names
  pub elements : All (λ p. IsValidValue heap p.1) o.elements
  pub indexes : All (λ p. p.0 ≤ MOST_INDEX) o.elements

-- the objects of each pass hold valid values, under indexes within the limit
abbrev pub IsValidHeap : Heap → Type 0
IsValidHeap heap = All (All (IsValidObject heap)) heap
