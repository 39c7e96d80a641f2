-- What holds of every object and every heap that calls make.
use Rattle.std.specs.Prelude.{◌≤◌, List, length, map, All}
use Rattle.std.specs.List.{IsDistinct}
use Rattle.std.specs.List.Sorted.{IsStrictlyIncreasing}
use Rattle.jo_value.specs.declared.limits.TheConstants.{MOST_NAMES, MOST_OBJECTS}
use Rattle.jo_value.specs.Values.{is_same_name}
use Rattle.jo_model.specs.Objects.{Object}
use Rattle.jo_model.specs.Heaps.{Heap}

-- each name stands once, there are at most as many as an object may have, and the indexes rise
pub record IsWellFormed (o : Object) : Type 0 where
  pub once : IsDistinct is_same_name (map (λ p. p.0) o.names)
  pub few : length o.names ≤ MOST_NAMES
  pub rising : IsStrictlyIncreasing (map (λ p. p.0) o.elements)

-- the objects of a pass are at most as many as a pass may have, and each is well formed
pub record AreWellFormed (objects : List Object) : Type 0 where
  pub few : length objects ≤ MOST_OBJECTS
  pub each : All IsWellFormed objects

abbrev pub IsWellFormedHeap : Heap → Type 0
IsWellFormedHeap heap = All AreWellFormed heap
