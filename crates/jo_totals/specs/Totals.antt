-- What a heap has in all.
use Rattle.std.specs.Prelude.{ℤ, pos, ◌+ℤ◌, List, length, fold, sum_by, flat_map}
use Rattle.jo_value.specs.declared.value.Value.{Value}
use Rattle.jo_value.specs.declared.value.Value.TheVariants.{Int}
use Rattle.jo_model.specs.Objects.{Object}
use Rattle.jo_model.specs.Heaps.{Heap}
use Rattle.jo_totals.specs.declared.total.Totals.{Totals}

-- the objects of all passes, in order of pass and serial
abbrev pub all_objects : Heap → List Object
all_objects heap = flat_map (λ objects. objects) heap

-- the sum of a number for each element of a list
abbrev pub sum_of : {X : Type 0} → (X → ℤ) → List X → ℤ
sum_of f xs = fold (λ sum x. sum +ℤ f x) (pos 0) xs

-- the number that a value is; 0 for any other value
abbrev pub number_in : Value → ℤ
number_in (Int i) = i
number_in _ = pos 0

-- the sum of the numbers that an object holds, under names and indexes
abbrev pub sum_in : Object → ℤ
sum_in o = sum_of (λ p. number_in p.1) o.names +ℤ sum_of (λ p. number_in p.1) o.elements

-- the totals of some objects: how many objects, names and indexes, and the sum of all numbers
abbrev pub totals_in : List Object → Totals
totals_in objects = record {
  objects = length objects;
  names = sum_by (λ o. length o.names) objects;
  elements = sum_by (λ o. length o.elements) objects;
  sum = sum_of sum_in objects;
}

-- the totals of a heap are those of all its objects
abbrev pub totals_of : Heap → Totals
totals_of heap = totals_in (all_objects heap)
