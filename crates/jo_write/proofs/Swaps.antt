-- What a swap leaves of an object.
use Rattle.std.proofs.Common.{◌≡◌, Bool, true, false, cond, Option, Some, None, refl, sym, ap, ◌∙◌}
use Rattle.std.specs.Prelude.{is_some, unwrap_or}
use Rattle.jo_value.specs.declared.value.Key.{Key}
use Rattle.jo_value.specs.declared.value.Value.{Value}
use Rattle.jo_value.specs.declared.value.Value.TheVariants as value
use Rattle.jo_value.specs.declared.words.slot.Slot.TheVariants.{Absent, Holds}
use Rattle.jo_value.specs.Values.{is_strictly_equal}
use Rattle.jo_model.specs.declared.call.Reply.{Reply}
use Rattle.jo_model.specs.declared.call.Reply.TheVariants as reply
use Rattle.jo_model.specs.Objects.{Object, has_property, is_full_for, property, value_of, with_property, with_value}
use Rattle.jo_model.specs.One.{cas_in, is_found_as, put_in}
use Rattle.jo_rule.specs.Dictionaries.{slot_in}

there_by : (p : Option Value) (found : Value) → Holds found ≡ slot_in p → p ≡ Some found
there_by None found e = absurd (let no_ : Holds found ≡ Absent = e in cc)
there_by (Some x) found e = ap Some (let is : Holds found ≡ Holds x = e in cc)

cas_by : (z : Object) (key : Key) (expected desired : Value) (p : Option Value) (same : Bool) → property z key ≡ p → is_found_as p expected ≡ same
    → (cas_in z key expected desired).0 ≡ cond {A = Object} same (with_value z key desired) z
cas_by z key expected desired p same e is = ap (λ (b : Bool). cond {A = Object} b (with_value z key desired) z) (ap (λ (q : Option Value). is_found_as q expected) e ∙ is)

put_there : (z : Object) (key : Key) (found desired : Value) → property z key ≡ Some found → (put_in z key desired).0 ≡ with_value z key desired
put_there z key found desired e =
    let there : has_property z key ≡ true = ap (λ (p : Option Value). is_some p) e in
    let rest : Object × Reply = cond {A = Object × Reply} (is_full_for z key) (z, reply.TooManyNames) (with_property z key desired, reply.Done) in
    ap (λ (b : Bool). (cond {A = Object × Reply} b (with_value z key desired, reply.Done) rest).0) there

-- the value is replaced where it is strictly equal to the expected one
pub swapped : (z : Object) (key : Key) (found expected desired : Value) → Holds found ≡ slot_in (property z key) → is_strictly_equal found expected ≡ true
    → (put_in z key desired).0 ≡ (cas_in z key expected desired).0
swapped z key found expected desired e same =
    let is : property z key ≡ Some found = there_by (property z key) found e in put_there z key found desired is ∙ sym (cas_by z key expected desired (Some found) true is same)

-- and stays where it is another one
pub stayed : (z : Object) (key : Key) (found expected desired : Value) → Holds found ≡ slot_in (property z key) → is_strictly_equal found expected ≡ false
    → z ≡ (cas_in z key expected desired).0
stayed z key found expected desired e other =
    let is : property z key ≡ Some found = there_by (property z key) found e in sym (cas_by z key expected desired (Some found) false is other)

-- so it does where nothing is there
pub stayed_absent : (z : Object) (key : Key) (expected desired : Value) → property z key ≡ None → z ≡ (cas_in z key expected desired).0
stayed_absent z key expected desired e = sym (cas_by z key expected desired None false e refl)

none_by : (p : Option Value) → is_some p ≡ false → p ≡ None
none_by None e = refl
none_by (Some x) e = absurd (let no_ : true ≡ false = e in cc)

pub is_absent : (z : Object) (key : Key) → has_property z key ≡ false → property z key ≡ None
is_absent z key e = none_by (property z key) e

-- ---- the value that was found

pub found_value : (z : Object) (key : Key) (found : Value) → Holds found ≡ slot_in (property z key) → value_of z key ≡ found
found_value z key found e = ap (λ (p : Option Value). unwrap_or p value.Undefined) (there_by (property z key) found e)

absent_by : (p : Option Value) → Absent ≡ slot_in p → unwrap_or p value.Undefined ≡ value.Undefined
absent_by None e = refl
absent_by (Some x) e = absurd (let no_ : Absent ≡ Holds x = e in cc)

pub absent_value : (z : Object) (key : Key) → Absent ≡ slot_in (property z key) → value_of z key ≡ value.Undefined
absent_value z key e = absent_by (property z key) e
