-- The objects of all passes.
use Rattle.std.specs.Prelude.{ℕ, ◌-◌, ◌<◌, List, [], ◌∷◌, ◌++◌, length, replicate, slice_index_or, slice_set}
use Rattle.jo_value.specs.declared.value.ObjId.{ObjId}
use Rattle.jo_model.specs.Objects.{Object, empty_object}

-- A heap is, for each pass from 0 on, the list of its objects: the object with serial k of pass p is entry k of list p.
abbrev pub Heap : Type 0
Heap = List (List Object)

-- object 0.0, the one that scripts share
abbrev pub shared : ObjId
shared = record { pass = 0; serial = 0 }

-- at the start pass 0 has one object, which is empty, and no other pass has any
abbrev pub heap_at_start : ℕ → Heap
heap_at_start passes = (empty_object ∷ []) ∷ replicate (passes - 1) []

-- the objects of a pass; none of a pass that is not there
abbrev pub objects_of : Heap → ℕ → List Object
objects_of heap pass = slice_index_or heap pass []

-- an object is there
abbrev pub IsBorn : Heap → ObjId → Type 0
IsBorn heap o = o.serial < length (objects_of heap o.pass)

-- the object of this pass and serial; an empty one where it is not there
abbrev pub object_of : Heap → ObjId → Object
object_of heap o = slice_index_or (objects_of heap o.pass) o.serial empty_object

-- the heap with another content of an object that is there
abbrev pub with_object : Heap → ObjId → Object → Heap
with_object heap o object = slice_set heap o.pass (slice_set (objects_of heap o.pass) o.serial object)

-- the heap with one more, empty object of a pass
abbrev pub with_new_object : Heap → ℕ → Heap
with_new_object heap pass = slice_set heap pass (objects_of heap pass ++ empty_object ∷ [])
