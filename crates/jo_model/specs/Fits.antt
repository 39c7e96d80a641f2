-- Which replies fit a valid call: those that one thread can give it, and a refusal for want of storage.
use Rattle.std.specs.Prelude.{◌<◌, ◌≤◌, true, length}
use Rattle.std.specs.List.{IsDistinct}
use Rattle.jo_value.specs.declared.limits.TheConstants.{MOST_NAMES, MOST_OBJECTS}
use Rattle.jo_value.specs.declared.value.Key.{Key}
use Rattle.jo_value.specs.declared.value.Key.TheVariants.{Name}
use Rattle.jo_value.specs.Values.{is_same_name, IsInRange}
use Rattle.jo_model.specs.declared.call.Call.{Call}
use Rattle.jo_model.specs.declared.call.Call.TheVariants as call
use Rattle.jo_model.specs.declared.call.Reply.{Reply}
use Rattle.jo_model.specs.declared.call.Reply.TheVariants.{Made, Found, Flag, Names, Done, TooManyNames, ObjectsSpent, Spent}
use Rattle.jo_model.specs.Heaps.{Heap}
use Rattle.jo_model.specs.Valid.{IsValidHeap, IsValidReply}

-- to a New: an object whose serial is in range, or a refusal
abbrev pub FitsNew : Reply → Type 0
FitsNew (Made o) = o.serial < MOST_OBJECTS
FitsNew ObjectsSpent = Unit {0}
FitsNew (Spent spent) = Unit {0}
FitsNew _ = ⊥

-- to a Get or a Cas: a value in range
abbrev pub FitsRead : Reply → Type 0
FitsRead (Found v) = IsInRange v
FitsRead _ = ⊥

-- to a Has: yes or no
abbrev pub FitsHas : Reply → Type 0
FitsHas (Flag b) = Unit {0}
FitsHas _ = ⊥

-- to a Names: names of which none stands twice, no more than an object may have
abbrev pub FitsNames : Reply → Type 0
FitsNames (Names names) = IsDistinct is_same_name names × (length names ≤ MOST_NAMES)
FitsNames _ = ⊥

-- to a Put: that it is done, or a refusal; an index is never refused for too many names
abbrev pub FitsPut : Key → Reply → Type 0
FitsPut key Done = Unit {0}
FitsPut (Name name) TooManyNames = Unit {0}
FitsPut key (Spent spent) = Unit {0}
FitsPut key _ = ⊥

-- to a Delete: true, or a refusal
abbrev pub FitsDelete : Reply → Type 0
FitsDelete (Flag true) = Unit {0}
FitsDelete (Spent spent) = Unit {0}
FitsDelete _ = ⊥

abbrev pub Fits : Call → Reply → Type 0
Fits call.New reply = FitsNew reply
Fits (call.Get o key) reply = FitsRead reply
Fits (call.Has o key) reply = FitsHas reply
Fits (call.Names o) reply = FitsNames reply
Fits (call.Put o key value) reply = FitsPut key reply
Fits (call.Delete o key) reply = FitsDelete reply
Fits (call.Cas o key expected desired) reply = FitsRead reply

-- what a call leaves: a valid heap, and a reply that is valid there and fits the call
pub record LeavesValid (call : Call) (heap : Heap) (reply : Reply) : Type 0 where
  pub values : IsValidHeap heap
  pub named : IsValidReply heap reply
  pub fits : Fits call reply
