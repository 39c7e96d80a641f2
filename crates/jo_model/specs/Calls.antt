-- What a call asks of the heap that it is made on.
use Rattle.jo_model.specs.declared.call.Call.{Call}
use Rattle.jo_model.specs.declared.call.Call.TheVariants.{New, Get, Has, Names, Put, Delete, Cas}
use Rattle.jo_model.specs.Heaps.{Heap, IsBorn}

-- the object that a call is made on, where it has one, is there
abbrev pub IsOnBornObject : Heap → Call → Type 0
IsOnBornObject heap New = Unit {0}
IsOnBornObject heap (Get o key) = IsBorn heap o
IsOnBornObject heap (Has o key) = IsBorn heap o
IsOnBornObject heap (Names o) = IsBorn heap o
IsOnBornObject heap (Put o key value) = IsBorn heap o
IsOnBornObject heap (Delete o key) = IsBorn heap o
IsOnBornObject heap (Cas o key expected desired) = IsBorn heap o

-- the call may be refused memory in the reference heap: it may make an object or a property more
abbrev pub MayWantMemory : Call → Type 0
MayWantMemory New = Unit {0}
MayWantMemory (Put o key value) = Unit {0}
MayWantMemory _ = ⊥
