-- Worked cases: for each shape of a reply that fits, a heap where one thread gives it, and replies that fit no call of their kind.
use Rattle.std.proofs.Common.{refl, arith, lit≤}
use Rattle.std.specs.Prelude.{◌≡◌, ℕ, zero, suc, pos, negsuc, true, false, List, [], ◌∷◌, map, replicate}
use Rattle.std.specs.List.{IsDistinct}
use Rattle.jo_value.specs.declared.value.NameId.{NameId}
use Rattle.jo_value.specs.declared.value.ObjId.{ObjId}
use Rattle.jo_value.specs.declared.value.Key.{Key}
use Rattle.jo_value.specs.declared.value.Key.TheVariants.{Name, Index}
use Rattle.jo_value.specs.declared.value.Value.{Value}
use Rattle.jo_value.specs.declared.value.Value.TheVariants as value
use Rattle.jo_value.specs.Values.{IsInRange}
use Rattle.jo_model.specs.declared.call.Call.{Call}
use Rattle.jo_model.specs.declared.call.Call.TheVariants as call
use Rattle.jo_model.specs.declared.call.Reply.{Reply}
use Rattle.jo_model.specs.declared.call.Reply.TheVariants as reply
use Rattle.jo_model.specs.Objects.{Object, empty_object}
use Rattle.jo_model.specs.Heaps.{shared}
use Rattle.jo_model.specs.One.{one}
use Rattle.jo_model.specs.Valid.{IsValidValue, IsValidKey}
use Rattle.jo_model.specs.Fits.{Fits}

-- The words of the cases.

abbrev id : ℕ → NameId
id n = record { 0 = n }

abbrev name : ℕ → Key
name n = Name (id n)

abbrev text : ℕ → Value
text n = value.Text (record { 0 = n })

-- the largest number, and the least
abbrev largest : Value
largest = value.Int (pos 9007199254740991)

abbrev least : Value
least = value.Int (negsuc 9007199254740990)

-- an object without indexes that has names with these ids and the value null
abbrev object : List ℕ → Object
object ids = record { names = map (λ n. (id n, value.Null)) ids; elements = [] }

-- an object that holds a value under the name 0 and the index 0
abbrev holding : Value → Object
holding v = record { names = (id 0, v) ∷ []; elements = (0, v) ∷ [] }

-- numbers from n - 1 down to 0
abbrev below : ℕ → List ℕ
below zero = []
below (suc n) = n ∷ below n

-- what a call of pass 1 is answered, where the shared object is this one and pass 1 has one object
abbrev answer : Object → Call → Reply
answer o c = (one ((o ∷ []) ∷ (empty_object ∷ []) ∷ []) 1 c).1

-- What one thread gives, call by call.

pub a_new_is_answered_made : answer empty_object call.New ≡ reply.Made (record { pass = 1; serial = 1 })
a_new_is_answered_made = refl

pub a_new_is_answered_objects_spent : (one (replicate 4096 empty_object ∷ []) 0 call.New).1 ≡ reply.ObjectsSpent
a_new_is_answered_objects_spent = refl

pub a_get_finds_undefined : answer empty_object (call.Get shared (name 0)) ≡ reply.Found value.Undefined
a_get_finds_undefined = refl

-- what is found is any value: by name, and by index
pub a_get_finds_any_value : (v : Value) → answer (holding v) (call.Get shared (name 0)) ≡ reply.Found v
a_get_finds_any_value v = refl

pub a_get_of_an_index_finds_any_value : (v : Value) → answer (holding v) (call.Get shared (Index 0)) ≡ reply.Found v
a_get_of_an_index_finds_any_value v = refl

pub a_has_is_answered_true : answer (holding largest) (call.Has shared (Index 0)) ≡ reply.Flag true
a_has_is_answered_true = refl

pub a_has_is_answered_false : answer (holding least) (call.Has shared (Index 1)) ≡ reply.Flag false
a_has_is_answered_false = refl

pub a_names_is_answered_none : answer empty_object (call.Names shared) ≡ reply.Names []
a_names_is_answered_none = refl

-- any list of ids, in its order
pub a_names_is_answered_any_list : (a b c : ℕ) → answer (object (a ∷ b ∷ c ∷ [])) (call.Names shared) ≡ reply.Names (id a ∷ id b ∷ id c ∷ [])
a_names_is_answered_any_list a b c = refl

pub a_names_is_answered_sixty_four : answer (object (below 64)) (call.Names shared) ≡ reply.Names (map id (below 64))
a_names_is_answered_sixty_four = refl

pub a_put_is_answered_done : answer empty_object (call.Put shared (name 0) value.Null) ≡ reply.Done
a_put_is_answered_done = refl

pub a_put_of_an_index_is_answered_done : answer (object (below 64)) (call.Put shared (Index 1023) value.Null) ≡ reply.Done
a_put_of_an_index_is_answered_done = refl

pub a_put_is_answered_too_many_names : answer (object (below 64)) (call.Put shared (name 64) value.Null) ≡ reply.TooManyNames
a_put_is_answered_too_many_names = refl

pub a_delete_is_answered_true : answer (object (below 64)) (call.Delete shared (name 0)) ≡ reply.Flag true
a_delete_is_answered_true = refl

pub a_delete_of_an_index_that_is_not_there_is_answered_true : answer empty_object (call.Delete shared (Index 0)) ≡ reply.Flag true
a_delete_of_an_index_that_is_not_there_is_answered_true = refl

pub a_cas_finds_undefined : answer empty_object (call.Cas shared (name 0) value.Null value.Null) ≡ reply.Found value.Undefined
a_cas_finds_undefined = refl

-- what is found is any value, whatever was expected
pub a_cas_finds_any_value : (v expected desired : Value) → answer (holding v) (call.Cas shared (name 0) expected desired) ≡ reply.Found v
a_cas_finds_any_value v expected desired = refl

-- What fits no call of its kind.

pub a_delete_is_never_answered_false : (o : ObjId) (key : Key) → Fits (call.Delete o key) (reply.Flag false) → ⊥
a_delete_is_never_answered_false o key h = h

pub an_index_is_never_refused_for_too_many_names : (o : ObjId) (n : ℕ) (v : Value) → Fits (call.Put o (Index n) v) reply.TooManyNames → ⊥
an_index_is_never_refused_for_too_many_names o n v h = h

pub a_cas_is_never_answered_done : (o : ObjId) (key : Key) (v w : Value) → Fits (call.Cas o key v w) reply.Done → ⊥
a_cas_is_never_answered_done o key v w h = h

pub no_pass_makes_an_object_past_the_limit : (p : ℕ) → Fits call.New (reply.Made (record { pass = p; serial = 4096 })) → ⊥
no_pass_makes_an_object_past_the_limit p h = omega (arith, h)

pub no_number_past_the_largest_is_found : (o : ObjId) (key : Key) → Fits (call.Get o key) (reply.Found (value.Int (pos 9007199254740992))) → ⊥
no_number_past_the_largest_is_found o key h = omega (arith, h)

pub no_number_below_the_least_is_found : (o : ObjId) (key : Key) → Fits (call.Get o key) (reply.Found (value.Int (negsuc 9007199254740991))) → ⊥
no_number_below_the_least_is_found o key h = omega (arith, h)

pub no_name_stands_twice : (o : ObjId) (n : ℕ) → Fits (call.Names o) (reply.Names (id 5 ∷ id n ∷ id 5 ∷ [])) → ⊥
unfolding IsDistinct
no_name_stands_twice o n h = cc (h.0.0.1.0)

-- The edges of what is valid.

pub the_largest_number_is_in_range : IsInRange largest
the_largest_number_is_in_range = lit≤ tt

pub the_least_number_is_in_range : IsInRange least
the_least_number_is_in_range = lit≤ tt

pub the_largest_index_is_valid : IsValidKey (Index 1023)
the_largest_index_is_valid = lit≤ tt

pub the_next_index_is_not : IsValidKey (Index 1024) → ⊥
the_next_index_is_not h = omega (arith, h)

pub an_object_that_is_not_born_is_no_valid_value :
    IsValidValue ((empty_object ∷ []) ∷ [] ∷ []) (value.Object (record { pass = 1; serial = 0 })) → ⊥
an_object_that_is_not_born_is_no_valid_value h = omega (arith, h)
