-- An object that is put back as it was leaves the heap as it was.
use Rattle.std.proofs.Common.{◌≡◌, ap, ◌∙◌}
use Rattle.std.specs.Prelude.{slice_set}
use Rattle.std.proofs.lemmas.List.{set-get_or}
use Rattle.jo_value.specs.declared.value.ObjId.{ObjId}
use Rattle.jo_model.specs.Objects.{empty_object}
use Rattle.jo_model.specs.Heaps.{Heap, objects_of, object_of, with_object}

pub same_object : (heap : Heap) (o : ObjId) → with_object heap o (object_of heap o) ≡ heap
same_object heap o = ap (slice_set heap o.pass) (set-get_or (objects_of heap o.pass) o.serial empty_object) ∙ set-get_or heap o.pass _
