-- An ordinary object (ECMA-262): its properties. Its own keys in order are its indexes, and then its names
-- (OrdinaryOwnPropertyKeys).
use Rattle.std.specs.Prelude.{ℕ, ◌==◌, nat_lt, nat_le, Bool, false, List, [], ◌∷◌, ◌++◌, length, count_by, insert, remove, slice_get, slice_set, Option, is_some, option_map, unwrap_or}
use Rattle.std.specs.List.{position_or_len}
use Rattle.jo_value.specs.declared.limits.TheConstants.{MOST_NAMES}
use Rattle.jo_value.specs.declared.value.NameId.{NameId}
use Rattle.jo_value.specs.declared.value.Key.{Key}
use Rattle.jo_value.specs.declared.value.Key.TheVariants.{Name, Index}
use Rattle.jo_value.specs.declared.value.Value.{Value}
use Rattle.jo_value.specs.declared.value.Value.TheVariants.{Undefined}
use Rattle.jo_value.specs.Values.{is_same_name}

-- Two lists of properties: those with a name, in order of creation, and those with an index.
-- Calls keep a name from standing twice, and the indexes rising.
pub record Object : Type 0 where
  pub names : List (NameId × Value)
  pub elements : List (ℕ × Value)

abbrev pub empty_object : Object
empty_object = record { names = []; elements = [] }

-- where a name stands among the names, or their number where it is not there
abbrev pub name_place : Object → NameId → ℕ
name_place o name = position_or_len (λ p. is_same_name p.0 name) o.names

-- where an index stands among the elements, or their number where it is not there
abbrev pub element_place : Object → ℕ → ℕ
element_place o index = position_or_len (λ p. p.0 == index) o.elements

-- the value of a property, where it is there (OrdinaryGetOwnProperty)
abbrev pub property : Object → Key → Option Value
property o (Name name) = option_map (λ p. p.1) (slice_get o.names (name_place o name))
property o (Index index) = option_map (λ p. p.1) (slice_get o.elements (element_place o index))

-- whether a property is there (OrdinaryHasProperty, without a prototype)
abbrev pub has_property : Object → Key → Bool
has_property o key = is_some (property o key)

-- the value of a property, undefined where it is not there (OrdinaryGet, without a prototype)
abbrev pub value_of : Object → Key → Value
value_of o key = unwrap_or (property o key) Undefined

-- whether the object has no room for one more property with a key of this kind
abbrev pub is_full_for : Object → Key → Bool
is_full_for o (Name name) = nat_le MOST_NAMES (length o.names)
is_full_for o (Index index) = false

-- the object with another value of a property that is there, in its place (OrdinarySet)
abbrev pub with_value : Object → Key → Value → Object
with_value o (Name name) value = record o { names = slice_set o.names (name_place o name) (name, value) }
with_value o (Index index) value = record o { elements = slice_set o.elements (element_place o index) (index, value) }

-- the object with a property that was not there (CreateDataProperty): a name goes last, an index goes after the lower ones
abbrev pub with_property : Object → Key → Value → Object
with_property o (Name name) value = record o { names = o.names ++ (name, value) ∷ [] }
with_property o (Index index) value =
    record o { elements = insert o.elements (count_by (λ p. nat_lt p.0 index) o.elements) (index, value) }

-- the object without a property, and as it was where it is not there (OrdinaryDelete)
abbrev pub without_property : Object → Key → Object
without_property o (Name name) = record o { names = remove o.names (name_place o name) }
without_property o (Index index) = record o { elements = remove o.elements (element_place o index) }
