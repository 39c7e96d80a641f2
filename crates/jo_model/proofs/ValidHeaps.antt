-- Heaps of many equal objects, where given values are valid.
use Rattle.std.proofs.Common.{◌≡◌, ◌+◌, ◌<◌, ◌≤◌, ℕ, max, List, [], length, replicate, ap, ◌∙◌, arith, All, lit<}
use Rattle.std.specs.Prelude.{slice_index_or}
use Rattle.std.proofs.lemmas.List.{get_or-replicate, length-replicate}
use Rattle.std.proofs.lemmas.List.Elements.{All-replicate}
use Rattle.jo_value.specs.declared.limits.TheConstants.{MOST_OBJECTS}
use Rattle.jo_value.specs.declared.value.ObjId.{ObjId}
use Rattle.jo_value.specs.declared.value.Value.{Value}
use Rattle.jo_value.specs.declared.value.Value.TheVariants as value
use Rattle.jo_value.specs.Values.{IsInRange}
use Rattle.jo_model.specs.Objects.{Object, empty_object}
use Rattle.jo_model.specs.Heaps.{Heap, objects_of, object_of, IsBorn}
use Rattle.jo_model.specs.WellFormed.{IsWellFormed, AreWellFormed, IsWellFormedHeap}
use Rattle.jo_model.specs.Valid.{IsValidValue, IsValidObject, IsValidHeap}

-- the pass and the serial of a value that is an object; 0 of another
abbrev pass_of : Value → ℕ
pass_of (value.Object o) = o.pass
pass_of _ = 0

abbrev serial_of : Value → ℕ
serial_of (value.Object o) = o.serial
serial_of _ = 0

serial_in_range : (v : Value) → IsInRange v → serial_of v < MOST_OBJECTS
serial_in_range value.Undefined h = lit< tt
serial_in_range value.Null h = lit< tt
serial_in_range (value.Bool b) h = lit< tt
serial_in_range (value.Int i) h = lit< tt
serial_in_range (value.Text t) h = lit< tt
serial_in_range (value.Object o) h = h

-- `passes` passes, each of `objects` objects like x
abbrev pub alike : ℕ → ℕ → Object → Heap
alike passes objects x = replicate passes (replicate objects x)

pub objects-alike : (passes objects : ℕ) (x : Object) (pass : ℕ) → pass < passes → objects_of (alike passes objects x) pass ≡ replicate objects x
objects-alike passes objects x pass lt = get_or-replicate passes pass (replicate objects x) [] lt

born-alike : (passes objects : ℕ) (x : Object) (o : ObjId) → o.pass < passes → o.serial < objects → IsBorn (alike passes objects x) o
born-alike passes objects x o lt below = omega (arith, ap (length {A = Object}) (objects-alike passes objects x o.pass lt), length-replicate objects x)

object-alike : (passes objects : ℕ) (x : Object) (o : ObjId) → o.pass < passes → o.serial < objects → object_of (alike passes objects x) o ≡ x
object-alike passes objects x o lt below =
    let at : List Object → Object = λ l. slice_index_or l o.serial empty_object in
    ap at (objects-alike passes objects x o.pass lt) ∙ get_or-replicate objects o.serial x empty_object below

value-alike : (passes objects : ℕ) (x : Object) (v : Value) → IsInRange v → pass_of v < passes → serial_of v < objects → IsValidValue (alike passes objects x) v
value-alike passes objects x value.Undefined h lt below = tt
value-alike passes objects x value.Null h lt below = tt
value-alike passes objects x (value.Bool b) h lt below = tt
value-alike passes objects x (value.Int i) h lt below = h
value-alike passes objects x (value.Text t) h lt below = tt
value-alike passes objects x (value.Object o) h lt below = born-alike passes objects x o lt below

pub formed-alike : (passes objects : ℕ) (x : Object) → objects ≤ MOST_OBJECTS → IsWellFormed x → IsWellFormedHeap (alike passes objects x)
formed-alike passes objects x few formed =
    All-replicate AreWellFormed passes (replicate objects x)
    (record { few = omega (arith, length-replicate objects x); each = All-replicate IsWellFormed objects x formed })

pub valid-alike : (passes objects : ℕ) (x : Object) → IsValidObject (alike passes objects x) x → IsValidHeap (alike passes objects x)
valid-alike passes objects x valid =
    let P : Object → Type 0 = IsValidObject (alike passes objects x) in
    All-replicate (All P) passes (replicate objects x) (All-replicate P objects x valid)

-- a heap where an object is like this one, and these values are valid
pub record Holds (o : ObjId) (a b c : Value) (x : Object) : Type 0 where
  pub heap : Heap
  pub within : 0 < length heap
  pub formed : IsWellFormedHeap heap
  pub valid : IsValidHeap heap
  pub born : IsBorn heap o
  pub object : object_of heap o ≡ x
  pub a_valid : IsValidValue heap a
  pub b_valid : IsValidValue heap b
  pub c_valid : IsValidValue heap c

holds_in : (passes objects : ℕ) (o : ObjId) (a b c : Value) (x : Object)
    → o.pass < passes → o.serial < objects → objects ≤ MOST_OBJECTS
    → pass_of a < passes → serial_of a < objects → pass_of b < passes → serial_of b < objects → pass_of c < passes → serial_of c < objects
    → IsInRange a → IsInRange b → IsInRange c → IsWellFormed x
    → ((heap : Heap) → IsValidValue heap a → IsValidObject heap x) → Holds o a b c x
holds_in passes objects o a b c x o_pass o_serial few a_pass a_serial b_pass b_serial c_pass c_serial a_in b_in c_in formed valid =
    let a_valid : IsValidValue (alike passes objects x) a = value-alike passes objects x a a_in a_pass a_serial in
    record {
      heap = alike passes objects x;
      within = omega (arith, length-replicate passes (replicate objects x));
      formed = formed-alike passes objects x few formed;
      valid = valid-alike passes objects x (valid (alike passes objects x) a_valid);
      born = born-alike passes objects x o o_pass o_serial;
      object = object-alike passes objects x o o_pass o_serial;
      a_valid = a_valid;
      b_valid = value-alike passes objects x b b_in b_pass b_serial;
      c_valid = value-alike passes objects x c c_in c_pass c_serial;
    }

pub holds : (o : ObjId) (a b c : Value) (x : Object) → o.serial < MOST_OBJECTS → IsInRange a → IsInRange b → IsInRange c → IsWellFormed x
    → ((heap : Heap) → IsValidValue heap a → IsValidObject heap x) → Holds o a b c x
holds o a b c x small a_in b_in c_in formed valid =
    let a_small : serial_of a < MOST_OBJECTS = serial_in_range a a_in in
    let b_small : serial_of b < MOST_OBJECTS = serial_in_range b b_in in
    let c_small : serial_of c < MOST_OBJECTS = serial_in_range c c_in in
    holds_in (max o.pass (max (pass_of a) (max (pass_of b) (pass_of c))) + 1)
    (max o.serial (max (serial_of a) (max (serial_of b) (serial_of c))) + 1) o a b c x
    (omega arith) (omega arith) (omega arith) (omega arith) (omega arith) (omega arith) (omega arith) (omega arith) (omega arith)
    a_in b_in c_in formed valid
