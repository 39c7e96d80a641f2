-- Each heap that calls make is well formed.
use Rattle.std.proofs.Common.{◌≡◌, ◌<◌, ◌≤◌, ◌-◌, ℕ, Bool, true, false, List, [], ◌∷◌, ◌++◌, ◌^◌, length, sym, refl, ap, subst, arith, ⊎_elim, get_or, set, nat_lt, fold}
use Rattle.std.specs.Prelude.{All, Result, Ok, Err, IfOk, OnErr}
use Rattle.std.specs.List.{IsDistinct}
use Rattle.std.proofs.lemmas.Bool.{cases_lt, ltb-true}
use Rattle.std.proofs.lemmas.List.{length-set, length_push, get_or_past, set_past}
use Rattle.std.proofs.lemmas.List.Elements.{All-nil, All-cons, All-set, All-push, All-get_or, All-replicate}
use Rattle.jo_value.specs.declared.limits.TheConstants.{MOST_OBJECTS}
use Rattle.jo_value.specs.declared.value.ObjId.{ObjId}
use Rattle.jo_model.specs.declared.call.Call.{Call}
use Rattle.jo_model.specs.declared.call.Call.TheVariants as call
use Rattle.jo_model.specs.declared.call.Reply.{Reply}
use Rattle.jo_model.specs.Objects.{Object, empty_object}
use Rattle.jo_model.specs.Heaps.{Heap, heap_at_start, objects_of, object_of, with_object}
use Rattle.jo_model.specs.Logs.{change, mark, Log, after, after_log_entry}
use Rattle.jo_model.specs.One.{one}
use Rattle.jo_model.specs.WellFormed.{IsWellFormed, AreWellFormed, IsWellFormedHeap}
use Rattle.jo_model.proofs.WellFormedObjects.{well_formed-put, well_formed-delete, well_formed-cas}

pub well_formed-empty : IsWellFormed empty_object
unfolding IsDistinct
well_formed-empty = record { once = tt; few = omega arith; rising = λ k h. absurd (omega arith) }

pub well_formed-none : AreWellFormed []
well_formed-none = record { few = omega arith; each = All-nil IsWellFormed }

-- one more object, and another content of one
pub well_formed-more : (objects : List Object) → length objects < MOST_OBJECTS → AreWellFormed objects → AreWellFormed (objects ++ empty_object ∷ [])
well_formed-more objects room well =
    record { few = omega (arith, length_push objects empty_object); each = All-push IsWellFormed objects empty_object well.each well_formed-empty }

pub well_formed-set : (objects : List Object) (serial : ℕ) (object : Object) → IsWellFormed object → AreWellFormed objects → AreWellFormed (set objects serial object)
well_formed-set objects serial object one well =
    record {
      few = subst (λ n. n ≤ MOST_OBJECTS) (sym (length-set objects serial object)) well.few;
      each = All-set IsWellFormed objects serial object one well.each;
    }

-- another content of one, where it is well formed if the old one is
pub well_formed-edit : (objects : List Object) (serial : ℕ) (old new : Object) → old ≡ get_or objects serial old → (IsWellFormed old → IsWellFormed new) → AreWellFormed objects → AreWellFormed (set objects serial new)
well_formed-edit objects serial old new read kept well =
    ⊎_elim
    (λ lt. well_formed-set objects serial new (kept (subst IsWellFormed (sym read) (well.each serial old lt))) well)
    (λ ge. subst AreWellFormed (sym (set_past objects serial new ge)) well)
    (cases_lt serial (length objects))

pub get_or_all : {X : Type 0} (P : X → Type 0) (xs : List X) (i : ℕ) (d : X) → P d → All P xs → P (get_or xs i d)
get_or_all P xs i d past all =
    ⊎_elim (λ lt. All-get_or P xs i d lt all) (λ ge. subst P (sym (get_or_past xs i d ge)) past) (cases_lt i (length xs))

-- each pass, and each object
pub well_formed-pass : (heap : Heap) (pass : ℕ) → IsWellFormedHeap heap → AreWellFormed (objects_of heap pass)
well_formed-pass heap pass well = get_or_all AreWellFormed heap pass [] well_formed-none well

pub well_formed-object : (objects : List Object) (serial : ℕ) → AreWellFormed objects → IsWellFormed (get_or objects serial empty_object)
well_formed-object objects serial well = get_or_all IsWellFormed objects serial empty_object well_formed-empty well.each

with-object : (heap : Heap) (o : ObjId) (object : Object) → IsWellFormed object → IsWellFormedHeap heap → IsWellFormedHeap (with_object heap o object)
with-object heap o object one well =
    All-set AreWellFormed heap o.pass _ (well_formed-set (objects_of heap o.pass) o.serial object one (well_formed-pass heap o.pass well)) well

pub object-at : (heap : Heap) (o : ObjId) → IsWellFormedHeap heap → IsWellFormed (object_of heap o)
object-at heap o well = well_formed-object (objects_of heap o.pass) o.serial (well_formed-pass heap o.pass well)

new-cases : (heap : Heap) (pass : ℕ) (room : Bool) → nat_lt (length (objects_of heap pass)) MOST_OBJECTS ≡ room → IsWellFormedHeap heap → IsWellFormedHeap (one heap pass call.New).0
new-cases heap pass true e well =
    rw e (All-set AreWellFormed heap pass _ (well_formed-more (objects_of heap pass) (ltb-true _ MOST_OBJECTS e) (well_formed-pass heap pass well)) well)
new-cases heap pass false e well = rw e well

-- a call of one thread leaves a heap that is well formed so
pub well_formed-one : (heap : Heap) (pass : ℕ) (call : Call) → IsWellFormedHeap heap → IsWellFormedHeap (one heap pass call).0
well_formed-one heap pass call.New well = new-cases heap pass _ refl well
well_formed-one heap pass (call.Get o key) well = well
well_formed-one heap pass (call.Has o key) well = well
well_formed-one heap pass (call.Names o) well = well
well_formed-one heap pass (call.Put o key value) well = with-object heap o _ (well_formed-put _ key value (object-at heap o well)) well
well_formed-one heap pass (call.Delete o key) well = with-object heap o _ (well_formed-delete _ key (object-at heap o well)) well
well_formed-one heap pass (call.Cas o key expected desired) well =
    with-object heap o _ (well_formed-cas _ key expected desired (object-at heap o well)) well

-- the heap at the start is well formed
pub well_formed-start : (passes : ℕ) → IsWellFormedHeap (heap_at_start passes)
well_formed-start passes =
    All-cons AreWellFormed (empty_object ∷ []) _ (well_formed-more [] (omega arith) well_formed-none) (All-replicate AreWellFormed (passes - 1) [] well_formed-none)

-- a heap of fewer than 2 ^ 8 passes stays well formed where one pass gets other objects
pub well_formed-passes : (heap : Heap) (pass : ℕ) (objects : List Object) → (length heap < 2 ^ 8) × IsWellFormedHeap heap → AreWellFormed objects
    → (length (set heap pass objects) < 2 ^ 8) × IsWellFormedHeap (set heap pass objects)
well_formed-passes heap pass objects all one =
    (subst (λ n. n < 2 ^ 8) (sym (length-set heap pass objects)) all.0, All-set AreWellFormed heap pass objects one all.1)

-- what is answered by one thread, or changes nothing, leaves the heap well formed
pub well_formed-answer : {E : Type 0} (heap new : Heap) (pass : ℕ) (c : Call) (result : Result Reply E) → IfOk result (λ answer. one heap pass c ≡ (new, answer))
    → OnErr result (new ≡ heap) → IsWellFormedHeap heap → IsWellFormedHeap new
well_formed-answer heap new pass c (Ok answer) ok err well = subst IsWellFormedHeap (ap (λ p. p.0) ok) (well_formed-one heap pass c well)
well_formed-answer heap new pass c (Err error) ok err well = subst IsWellFormedHeap (sym err) well

-- each entry of a log leaves a heap that is well formed so
module _ {M : Type 0} where
  well_formed-entries : (heap : Heap) (log : Log M) → IsWellFormedHeap heap → IsWellFormedHeap (fold after_log_entry heap log)
  well_formed-entries heap [] well = well
  well_formed-entries heap (change pass call ∷ log) well = well_formed-entries (one heap pass call).0 log (well_formed-one heap pass call well)
  well_formed-entries heap (mark pass noted ∷ log) well = well_formed-entries heap log well

  -- so the heap that a log leaves is well formed
  pub well_formed-after : (passes : ℕ) (log : Log M) → IsWellFormedHeap (after passes log)
  well_formed-after passes log = well_formed-entries (heap_at_start passes) log (well_formed-start passes)
