-- Worked cases of the definitions, each computed and named by what it shows.
use Rattle.std.proofs.Common.{refl}
use Rattle.std.specs.Prelude.{◌≡◌, ℕ, ℤ, pos, negsuc, true, List, [], ◌∷◌}
use Rattle.jo_value.specs.declared.value.NameId.{NameId}
use Rattle.jo_value.specs.declared.value.Value.{Value}
use Rattle.jo_value.specs.declared.value.Value.TheVariants as value
use Rattle.jo_model.specs.Objects.{Object, empty_object}
use Rattle.jo_model.specs.Heaps.{Heap, shared, heap_at_start}
use Rattle.jo_totals.specs.declared.total.Totals.{Totals}
use Rattle.jo_totals.specs.Totals.{all_objects, number_in, sum_in, totals_of}

-- ---- the words of the cases

-- a number, as a value
abbrev number : ℕ → Value
number n = value.Int (pos n)

-- minus five, as a value
abbrev minus_five : Value
minus_five = value.Int (negsuc 4)

-- a property with a name
abbrev named : ℕ → Value → NameId × Value
named n v = (record { 0 = n }, v)

-- an object with these properties
abbrev object : List (NameId × Value) → List (ℕ × Value) → Object
object names elements = record { names = names; elements = elements }

-- the totals with these numbers of objects, names and elements, and this sum
abbrev has : ℕ → ℕ → ℕ → ℤ → Totals
has objects names elements sum = record { objects = objects; names = names; elements = elements; sum = sum }

-- two names and three indexes
abbrev mixed : Object
mixed = object (named 4 (number 3) ∷ named 2 (value.Text (record { 0 = 9 })) ∷ []) ((0, minus_five) ∷ (3, number 40) ∷ (7, value.Null) ∷ [])

-- one name
abbrev seven : Object
seven = object (named 2 (number 7) ∷ []) []

-- three passes, of which the second has no object
abbrev small : Heap
small = (mixed ∷ []) ∷ [] ∷ (empty_object ∷ seven ∷ []) ∷ []

-- ---- numbers

a_number_is_itself : number_in (number 6) ≡ pos 6
a_number_is_itself = refl

a_number_below_zero_is_itself : number_in minus_five ≡ negsuc 4
a_number_below_zero_is_itself = refl

a_text_counts_as_zero_whatever_its_id : number_in (value.Text (record { 0 = 9 })) ≡ pos 0
a_text_counts_as_zero_whatever_its_id = refl

true_counts_as_zero : number_in (value.Bool true) ≡ pos 0
true_counts_as_zero = refl

an_object_counts_as_zero : number_in (value.Object (record { pass = 2; serial = 1 })) ≡ pos 0
an_object_counts_as_zero = refl

-- ---- an object

names_and_indexes_are_added : sum_in mixed ≡ pos 38
names_and_indexes_are_added = refl

an_empty_object_has_the_sum_zero : sum_in empty_object ≡ pos 0
an_empty_object_has_the_sum_zero = refl

-- ---- a heap

objects_stand_in_order_of_pass_and_serial : all_objects small ≡ mixed ∷ empty_object ∷ seven ∷ []
objects_stand_in_order_of_pass_and_serial = refl

the_totals_of_a_small_heap : totals_of small ≡ has 3 3 3 (pos 45)
the_totals_of_a_small_heap = refl

the_start_has_one_object_and_no_property : totals_of (heap_at_start 8) ≡ has 1 0 0 (pos 0)
the_start_has_one_object_and_no_property = refl

a_heap_without_passes_has_nothing : totals_of [] ≡ has 0 0 0 (pos 0)
a_heap_without_passes_has_nothing = refl

-- a property that refers to an object counts as a name, and the object once
an_object_that_refers_to_itself_is_one :
    totals_of ((object (named 0 (value.Object shared) ∷ []) [] ∷ []) ∷ []) ≡ has 1 1 0 (pos 0)
an_object_that_refers_to_itself_is_one = refl

equal_objects_count_each : totals_of ((seven ∷ seven ∷ []) ∷ (seven ∷ []) ∷ []) ≡ has 3 3 0 (pos 21)
equal_objects_count_each = refl

a_sum_may_be_below_zero : totals_of ((object [] ((0, minus_five) ∷ (1, number 1) ∷ []) ∷ []) ∷ []) ≡ has 1 0 2 (negsuc 3)
a_sum_may_be_below_zero = refl

-- twice the largest number of 64 bits
a_sum_may_have_more_than_64_bits :
    totals_of ((object (named 0 (number 9223372036854775807) ∷ []) ((5, number 9223372036854775807) ∷ []) ∷ []) ∷ [])
    ≡ has 1 1 1 (pos 18446744073709551614)
a_sum_may_have_more_than_64_bits = refl
