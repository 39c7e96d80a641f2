-- When two values, or two names, are the same; and which values are in range.
use Rattle.std.specs.Prelude.{◌==◌, ◌&&◌, ◌<◌, ◌≤◌, nat_abs, not, Bool, true, false}
use Rattle.std.specs.Ordering.{int_eq}
use Rattle.jo_value.specs.declared.limits.TheConstants.{MOST_NUMBER, MOST_OBJECTS}
use Rattle.jo_value.specs.declared.value.NameId.{NameId}
use Rattle.jo_value.specs.declared.value.ObjId.{ObjId}
use Rattle.jo_value.specs.declared.value.Value.{Value}
use Rattle.jo_value.specs.declared.value.Value.TheVariants as value

abbrev pub is_same_name : NameId → NameId → Bool
is_same_name a b = a.0 == b.0

abbrev pub is_same_object : ObjId → ObjId → Bool
is_same_object a b = a.pass == b.pass && a.serial == b.serial

abbrev pub is_same_bool : Bool → Bool → Bool
is_same_bool true b = b
is_same_bool false b = not b

-- `===` (ECMA-262, IsStrictlyEqual): numbers and texts by value, where a text's id stands for it, and objects by identity
abbrev pub is_strictly_equal : Value → Value → Bool
is_strictly_equal value.Undefined value.Undefined = true
is_strictly_equal value.Null value.Null = true
is_strictly_equal (value.Bool a) (value.Bool b) = is_same_bool a b
is_strictly_equal (value.Int a) (value.Int b) = int_eq a b
is_strictly_equal (value.Text a) (value.Text b) = a.0 == b.0
is_strictly_equal (value.Object a) (value.Object b) = is_same_object a b
is_strictly_equal _ _ = false

-- a number is not too far from 0, and the serial of an object is one that a pass gives
abbrev pub IsInRange : Value → Type 0
IsInRange (value.Int i) = nat_abs i ≤ MOST_NUMBER
IsInRange (value.Object o) = o.serial < MOST_OBJECTS
IsInRange _ = Unit {0}
