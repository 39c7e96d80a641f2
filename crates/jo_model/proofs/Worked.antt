-- Worked cases of the definitions: what they compute at small objects, heaps, scripts and histories, edge by edge.
use Rattle.std.proofs.Common.{refl, inl, inr, arith, subst}
use Rattle.std.specs.Prelude.{◌≡◌, ◌+◌, ◌*◌, ◌<◌, ◌≤◌, ℕ, zero, suc, pos, negsuc, true, false, List, [], ◌∷◌, ◌++◌, codes, replicate, slice_get, Some}
use Rattle.std.specs.Fmt.{digits}
use Rattle.std.proofs.lemmas.List.Elements.{All-nil, All-from_recursion}
use Rattle.jo_value.specs.Texts.{Table, table_of}
use Rattle.jo_value.specs.Values.{is_strictly_equal}
use Rattle.jo_value.specs.declared.limits.TheConstants.{MOST_STORAGE, MOST_NEED}
use Rattle.jo_value.specs.declared.value.NameId.{NameId}
use Rattle.jo_value.specs.declared.value.Key.{Key}
use Rattle.jo_value.specs.declared.value.Key.TheVariants.{Name, Index}
use Rattle.jo_value.specs.declared.value.Value.{Value}
use Rattle.jo_value.specs.declared.value.Value.TheVariants as value
use Rattle.jo_model.specs.declared.call.Call.{Call}
use Rattle.jo_model.specs.declared.call.Call.TheVariants as call
use Rattle.jo_model.specs.declared.call.Reply.{Reply}
use Rattle.jo_model.specs.declared.call.Reply.TheVariants as reply
use Rattle.jo_model.specs.declared.call.Outcome.TheVariants as outcome
use Rattle.jo_model.specs.Objects.{Object, empty_object}
use Rattle.jo_model.specs.Heaps.{Heap, shared}
use Rattle.jo_model.specs.One.{one}
use Rattle.jo_model.specs.History.{Entry, History, IsLegal, IsLawfulSpent, is_change, calls_of}
use Rattle.jo_model.specs.Printed.{line_of}
use Rattle.jo_model.specs.Rendered.{outcome_bytes, run_bytes, object_line, heap_bytes}
use Rattle.jo_model.specs.Logs.{change, mark, Log, changes_of, after, heap_at, IsLawfulLog}
use Rattle.jo_model.specs.Placed.{PlacedCall, IsInOwnOrder, IsPlacedChange, IsPlacedUnchanging, IsLawfulPlaced, weave}
use Rattle.jo_model.specs.Joined.{HasItsChanges, IsPlacedBy, ArePlaced}
use Rattle.jo_model.proofs.Joined.{joined}
use Rattle.jo_model.proofs.Growing.{log-nil, log-change, log-mark}

-- The words of the cases.

-- the name with an id, as a key
abbrev name : ℕ → Key
name n = Name (record { 0 = n })

-- a number, as a value
abbrev number : ℕ → Value
number n = value.Int (pos n)

-- a text, as a value
abbrev text : ℕ → Value
text n = value.Text (record { 0 = n })

-- a property with a name
abbrev named : ℕ → Value → NameId × Value
named n v = (record { 0 = n }, v)

-- an object with these properties
abbrev object : List (NameId × Value) → List (ℕ × Value) → Object
object names elements = record { names = names; elements = elements }

-- the heap of passes 0 and 1 with this object alone, which is the shared one
abbrev heap_of : Object → Heap
heap_of o = (o ∷ []) ∷ [] ∷ []

-- what a call of pass 1 does there
abbrev at : Object → Call → Heap × Reply
at o c = one (heap_of o) 1 c

-- a put of a number on the shared object
abbrev put : Key → ℕ → Call
put key v = call.Put shared key (number v)

-- a heap and a reply
abbrev gives : Object → Reply → Heap × Reply
gives o r = (heap_of o, r)

-- three names
abbrev three : Object
three = object (named 0 (number 1) ∷ named 1 (number 2) ∷ named 2 (number 3) ∷ []) []

-- One call.

-- a put of a name that is there keeps its place
pub a_put_of_a_name_that_is_there_keeps_its_place :
    at three (put (name 1) 9)
    ≡ gives (object (named 0 (number 1) ∷ named 1 (number 9) ∷ named 2 (number 3) ∷ []) []) reply.Done
a_put_of_a_name_that_is_there_keeps_its_place = refl

-- a delete takes the name out, and the others close up
pub a_delete_takes_the_name_out :
    at three (call.Delete shared (name 1))
    ≡ gives (object (named 0 (number 1) ∷ named 2 (number 3) ∷ []) []) (reply.Flag true)
a_delete_takes_the_name_out = refl

-- a delete of a name that is not there answers true too, and changes nothing
pub a_delete_of_a_name_that_is_not_there_answers_true :
    at three (call.Delete shared (name 3)) ≡ gives three (reply.Flag true)
a_delete_of_a_name_that_is_not_there_answers_true = refl

-- a name that is deleted and put again stands last
pub a_name_that_is_deleted_and_put_again_stands_last :
    one (at three (call.Delete shared (name 0))).0 1 (put (name 0) 7)
    ≡ gives (object (named 1 (number 2) ∷ named 2 (number 3) ∷ named 0 (number 7) ∷ []) []) reply.Done
a_name_that_is_deleted_and_put_again_stands_last = refl

-- a name that is not there reads undefined
pub a_name_that_is_not_there_reads_undefined :
    at three (call.Get shared (name 3)) ≡ gives three (reply.Found value.Undefined)
a_name_that_is_not_there_reads_undefined = refl

-- so does an index, which is another key than the name whose id it is
pub an_index_is_no_name_of_the_same_number :
    at three (call.Get shared (Index 0)) ≡ gives three (reply.Found value.Undefined)
an_index_is_no_name_of_the_same_number = refl

-- a key that holds undefined is there, although it reads as one that is not
pub a_key_that_holds_undefined_is_there :
    at (object (named 0 value.Undefined ∷ []) []) (call.Has shared (name 0))
    ≡ gives (object (named 0 value.Undefined ∷ []) []) (reply.Flag true)
a_key_that_holds_undefined_is_there = refl

-- a Has of a name that is there answers true
pub a_name_that_is_there_is_found : at three (call.Has shared (name 2)) ≡ gives three (reply.Flag true)
a_name_that_is_there_is_found = refl

-- a Has of a name that is not there answers false
pub a_name_that_is_not_there_is_not_found : at three (call.Has shared (name 3)) ≡ gives three (reply.Flag false)
a_name_that_is_not_there_is_not_found = refl

-- names come in order of creation, without the indexes
pub names_come_in_order_of_creation :
    at (object (named 5 (number 1) ∷ named 2 (number 1) ∷ named 9 (number 1) ∷ []) ((0, number 1) ∷ [])) (call.Names shared)
    ≡ gives (object (named 5 (number 1) ∷ named 2 (number 1) ∷ named 9 (number 1) ∷ []) ((0, number 1) ∷ []))
    (reply.Names (record { 0 = 5 } ∷ record { 0 = 2 } ∷ record { 0 = 9 } ∷ []))
names_come_in_order_of_creation = refl

-- Calls of Cas.

-- a Cas replaces a value that is strictly equal, in its place, and gives the one found
pub a_swap_replaces_an_equal_value :
    at three (call.Cas shared (name 1) (number 2) (number 8))
    ≡ gives (object (named 0 (number 1) ∷ named 1 (number 8) ∷ named 2 (number 3) ∷ []) []) (reply.Found (number 2))
a_swap_replaces_an_equal_value = refl

-- a Cas at another value gives that value and changes nothing
pub a_swap_at_another_value_changes_nothing :
    at three (call.Cas shared (name 1) (number 3) (number 8)) ≡ gives three (reply.Found (number 2))
a_swap_at_another_value_changes_nothing = refl

-- the text with id 2 is not the number 2
pub a_swap_takes_no_text_for_a_number :
    at three (call.Cas shared (name 1) (text 2) (number 8)) ≡ gives three (reply.Found (number 2))
a_swap_takes_no_text_for_a_number = refl

-- a Cas at a key that is not there gives undefined and changes nothing, also where undefined is expected
pub a_swap_at_a_key_that_is_not_there_changes_nothing :
    at three (call.Cas shared (name 3) value.Undefined (number 8)) ≡ gives three (reply.Found value.Undefined)
a_swap_at_a_key_that_is_not_there_changes_nothing = refl

-- a Cas at a key that holds undefined replaces it
pub a_swap_at_a_key_that_holds_undefined_replaces_it :
    at (object (named 0 value.Undefined ∷ []) []) (call.Cas shared (name 0) value.Undefined (number 8))
    ≡ gives (object (named 0 (number 8) ∷ []) []) (reply.Found value.Undefined)
a_swap_at_a_key_that_holds_undefined_replaces_it = refl

-- equal texts have one id, and are strictly equal
pub equal_texts_are_strictly_equal : is_strictly_equal (text 4) (text 4) ≡ true
equal_texts_are_strictly_equal = refl

-- a text is not strictly equal to the number that its id is
pub a_text_is_no_number : is_strictly_equal (text 4) (number 4) ≡ false
a_text_is_no_number = refl

-- undefined and null are falsy both, and not strictly equal
pub undefined_is_not_null : is_strictly_equal value.Undefined value.Null ≡ false
undefined_is_not_null = refl

-- a number and its negative are not strictly equal
pub one_is_not_minus_one : is_strictly_equal (number 1) (value.Int (negsuc 0)) ≡ false
one_is_not_minus_one = refl

-- objects of two passes differ, whatever their serials
pub objects_of_two_passes_differ :
    is_strictly_equal (value.Object (record { pass = 1; serial = 0 })) (value.Object shared) ≡ false
objects_of_two_passes_differ = refl

-- a delete of an index closes up the elements
pub a_delete_takes_an_index_out :
    at (object [] ((1, number 1) ∷ (3, number 3) ∷ (7, number 7) ∷ [])) (call.Delete shared (Index 3))
    ≡ gives (object [] ((1, number 1) ∷ (7, number 7) ∷ [])) (reply.Flag true)
a_delete_takes_an_index_out = refl

-- Limits.

-- n names, each with its id as its value
abbrev numbered : ℕ → List (NameId × Value)
numbered zero = []
numbered (suc n) = numbered n ++ named n (number n) ∷ []

-- pass 1 puts them
abbrev puts : ℕ → Log (Unit {0})
puts zero = []
puts (suc n) = puts n ++ change 1 (put (name n) n) ∷ []

-- 64 puts make an object of 64 names
pub sixty_four_names_go_in : after 2 (puts 64) ≡ heap_of (object (numbered 64) [])
sixty_four_names_go_in = refl

-- the 64th name goes in
pub the_last_name_goes_in :
    at (object (numbered 63) []) (put (name 63) 63) ≡ gives (object (numbered 64) []) reply.Done
the_last_name_goes_in = refl

-- the 65th is answered TooManyNames and changes nothing
pub one_name_more_is_refused :
    at (object (numbered 64) []) (put (name 64) 64) ≡ gives (object (numbered 64) []) reply.TooManyNames
one_name_more_is_refused = refl

-- a refused put is no change
pub a_refused_put_is_no_change :
    is_change (heap_of (object (numbered 64) [])) (put (name 64) 64) reply.TooManyNames ≡ false
a_refused_put_is_no_change = refl

-- an object with 64 names still takes a value for one of them
pub a_full_object_takes_a_value_for_its_last_name :
    at (object (numbered 63 ++ named 63 (number 0) ∷ []) []) (put (name 63) 63) ≡ gives (object (numbered 64) []) reply.Done
a_full_object_takes_a_value_for_its_last_name = refl

-- an object with 64 names still takes an index
pub a_full_object_takes_an_index :
    at (object (numbered 64) []) (put (Index 1023) 1) ≡ gives (object (numbered 64) ((1023, number 1) ∷ [])) reply.Done
a_full_object_takes_an_index = refl

-- pass 1 puts these indexes, each with itself as its value
abbrev puts_at : List ℕ → Log (Unit {0})
puts_at [] = []
puts_at (i ∷ is) = change 1 (put (Index i) i) ∷ puts_at is

-- indexes stand in rising order however they were put
pub indexes_stand_in_rising_order :
    after 2 (puts_at (5 ∷ 1 ∷ 3 ∷ 0 ∷ 1023 ∷ []))
    ≡ heap_of (object [] ((0, number 0) ∷ (1, number 1) ∷ (3, number 3) ∷ (5, number 5) ∷ (1023, number 1023) ∷ []))
indexes_stand_in_rising_order = refl

-- New gives the next serial of its own pass, and that object is empty
pub new_gives_the_next_number :
    one ((three ∷ []) ∷ (three ∷ three ∷ []) ∷ [] ∷ []) 1 call.New
    ≡ ((three ∷ []) ∷ (three ∷ three ∷ empty_object ∷ []) ∷ [] ∷ [], reply.Made (record { pass = 1; serial = 2 }))
new_gives_the_next_number = refl

-- after 4,095 objects one more is made, with the last serial
pub the_last_object_is_made :
    (one ((three ∷ []) ∷ replicate 4095 empty_object ∷ []) 1 call.New).1
    ≡ reply.Made (record { pass = 1; serial = 4095 })
the_last_object_is_made = refl

-- after 4,096 objects no more is made
pub one_object_more_is_refused :
    one ((three ∷ []) ∷ replicate 4096 empty_object ∷ []) 1 call.New
    ≡ ((three ∷ []) ∷ replicate 4096 empty_object ∷ [], reply.ObjectsSpent)
one_object_more_is_refused = refl

-- Changes.

-- a number as it was found
abbrev found : ℕ → Reply
found n = reply.Found (number n)

-- three changes: an object of pass 1, a name on it, and the object under a name of the shared one
abbrev three_changes : Log (Unit {0})
three_changes =
    change 1 call.New
    ∷ change 1 (call.Put (record { pass = 1; serial = 0 }) (name 4) (number 7))
    ∷ change 2 (call.Put shared (name 5) (value.Object (record { pass = 1; serial = 0 }))) ∷ []

-- the heap after them
pub three_changes_make_an_object_and_share_it :
    after 3 three_changes
    ≡ ((object (named 5 (value.Object (record { pass = 1; serial = 0 })) ∷ []) [] ∷ [])
    ∷ (object (named 4 (number 7) ∷ []) [] ∷ []) ∷ [] ∷ [])
three_changes_make_an_object_and_share_it = refl

-- a put of the value that is there is a change all the same
pub a_put_of_an_equal_value_is_a_change : is_change (heap_of three) (put (name 1) 2) reply.Done ≡ true
a_put_of_an_equal_value_is_a_change = refl

-- a delete of a key that is not there is no change
pub a_delete_of_a_name_that_is_not_there_is_no_change :
    is_change (heap_of three) (call.Delete shared (name 3)) (reply.Flag true) ≡ false
a_delete_of_a_name_that_is_not_there_is_no_change = refl

-- a delete of a key that is there is one
pub a_delete_of_a_name_that_is_there_is_a_change :
    is_change (heap_of three) (call.Delete shared (name 2)) (reply.Flag true) ≡ true
a_delete_of_a_name_that_is_there_is_a_change = refl

-- a New that makes an object is a change
pub a_new_object_is_a_change : is_change (heap_of three) call.New (reply.Made (record { pass = 1; serial = 0 })) ≡ true
a_new_object_is_a_change = refl

-- a New that is refused is none
pub a_refused_new_is_no_change : is_change ((three ∷ []) ∷ replicate 4096 empty_object ∷ []) call.New reply.ObjectsSpent ≡ false
a_refused_new_is_no_change = refl

-- a Cas that finds the expected value is a change, also where the desired one is the same
pub a_swap_that_finds_the_expected_value_is_a_change :
    is_change (heap_of three) (call.Cas shared (name 1) (number 2) (number 2)) (found 2) ≡ true
a_swap_that_finds_the_expected_value_is_a_change = refl

-- a Cas that finds another value is none
pub a_swap_that_finds_another_value_is_no_change :
    is_change (heap_of three) (call.Cas shared (name 1) (number 3) (number 8)) (found 2) ≡ false
a_swap_that_finds_another_value_is_no_change = refl

-- nor is one of a key that is not there, where undefined is expected
pub a_swap_of_a_name_that_is_not_there_is_no_change :
    is_change (heap_of three) (call.Cas shared (name 3) value.Undefined (number 8)) (reply.Found value.Undefined) ≡ false
a_swap_of_a_name_that_is_not_there_is_no_change = refl

-- a call that is refused for want of storage is no change
pub a_call_without_storage_is_no_change :
    is_change (heap_of three) (put (name 1) 9) (reply.Spent (record { used = 1046277; need = 2300 })) ≡ false
a_call_without_storage_is_no_change = refl

-- Weaving.

-- two passes each put a value under one name
abbrev two_puts : Log (Unit {0})
two_puts = change 1 (put (name 0) 1) ∷ change 2 (put (name 0) 2) ∷ []

-- a get of that name
abbrev look : Call
look = call.Get shared (name 0)

-- each reads the name before and after its own put, and pass 2 also asks for the names at the start
abbrev their_calls : List (List PlacedCall)
their_calls =
    []
    ∷ (record { place = 0; call = look; reply = reply.Found value.Undefined }
    ∷ record { place = 0; call = put (name 0) 1; reply = reply.Done }
    ∷ record { place = 1; call = look; reply = found 1 } ∷ [])
    ∷ (record { place = 0; call = call.Names shared; reply = reply.Names [] }
    ∷ record { place = 1; call = look; reply = found 1 }
    ∷ record { place = 1; call = put (name 0) 2; reply = reply.Done }
    ∷ record { place = 2; call = look; reply = found 2 } ∷ [])
    ∷ []

-- an entry of a history
abbrev entry : ℕ → Call → Reply → Entry
entry pass c r = record { pass = pass; call = c; reply = r }

-- the history that they make
abbrev their_history : History
their_history =
    entry 1 look (reply.Found value.Undefined)
    ∷ entry 2 (call.Names shared) (reply.Names [])
    ∷ entry 1 (put (name 0) 1) reply.Done
    ∷ entry 1 look (found 1)
    ∷ entry 2 look (found 1)
    ∷ entry 2 (put (name 0) 2) reply.Done
    ∷ entry 2 look (found 2)
    ∷ []

-- reads stand between the two changes and on both sides of them, at one place by pass
pub a_weave_puts_each_read_at_its_place : weave two_puts their_calls ≡ their_history
a_weave_puts_each_read_at_its_place = refl

-- the woven history is legal
pub the_woven_history_is_legal : IsLegal 3 (weave two_puts their_calls)
the_woven_history_is_legal = (
  record { pass = omega arith; reply = inl refl },
  (
    record { pass = omega arith; reply = inl refl },
    (
      record { pass = omega arith; reply = inl refl },
      (
        record { pass = omega arith; reply = inl refl },
        (
          record { pass = omega arith; reply = inl refl },
          (
            record { pass = omega arith; reply = inl refl },
            (record { pass = omega arith; reply = inl refl }, tt),
          ),
        ),
      ),
    ),
  ),
)

-- the put of pass 2 is a lawful change at its place
pub a_put_at_its_place_is_a_lawful_change :
    IsPlacedChange 3 two_puts 2 (record { place = 1; call = put (name 0) 2; reply = reply.Done })
a_put_at_its_place_is_a_lawful_change = record { entry = refl; reply = refl; changing = refl }

-- the read between the two puts is lawful, and no change
pub a_read_between_two_puts_is_lawful :
    IsPlacedUnchanging 3 two_puts 2 (record { place = 1; call = look; reply = found 1 })
a_read_between_two_puts_is_lawful = record { place = omega arith; same = refl; unchanging = refl }

-- the calls of pass 2 stand in its own order
pub calls_whose_places_rise_stand_in_their_own_order :
    IsInOwnOrder 3 two_puts 0 (record { place = 0; call = call.Names shared; reply = reply.Names [] }
    ∷ record { place = 1; call = put (name 0) 2; reply = reply.Done }
    ∷ record { place = 2; call = look; reply = found 2 } ∷ [])
calls_whose_places_rise_stand_in_their_own_order = (omega arith, (omega arith, (omega arith, tt)))

-- a call at the place of the change before it does not
pub no_call_stands_at_the_place_of_the_change_before_it :
    IsInOwnOrder 3 two_puts 0 (record { place = 1; call = put (name 0) 2; reply = reply.Done }
    ∷ record { place = 1; call = look; reply = found 1 } ∷ []) → ⊥
no_call_stands_at_the_place_of_the_change_before_it h = let late : 2 ≤ 1 = h.1.0 in omega (arith, late)

-- the calls of a pass stand in the history in its own order
pub the_calls_of_a_pass_keep_their_order :
    calls_of 2 (weave two_puts their_calls) ≡ call.Names shared ∷ look ∷ put (name 0) 2 ∷ look ∷ []
the_calls_of_a_pass_keep_their_order = refl

-- a refusal for want of storage stands at its place and leaves the heap as it is, so the next read still finds the old value
pub a_weave_keeps_a_refusal_for_want_of_storage :
    weave {M = Unit {0}} (change 1 (put (Index 0) 1) ∷ [])
    ([] ∷ (record { place = 0; call = put (Index 0) 1; reply = reply.Done }
    ∷ record { place = 1; call = put (Index 9) 2; reply = reply.Spent (record { used = 5; need = 9 }) }
    ∷ record { place = 1; call = call.Get shared (Index 9); reply = reply.Found value.Undefined } ∷ []) ∷ [])
    ≡ (entry 1 (put (Index 0) 1) reply.Done
    ∷ entry 1 (put (Index 9) 2) (reply.Spent (record { used = 5; need = 9 }))
    ∷ entry 1 (call.Get shared (Index 9)) (reply.Found value.Undefined) ∷ [])
a_weave_keeps_a_refusal_for_want_of_storage = refl

-- after 455 changes a call may be refused for want of storage
pub a_call_after_455_changes_may_be_refused :
    IsLawfulSpent 455 (put (name 0) 1) (reply.Spent (record { used = 1046277; need = 2300 }))
a_call_after_455_changes_may_be_refused =
    record {
      spent = record { used = 1046277; need = 2300 };
      answered = refl;
      takes = tt;
      over = omega arith;
      need = omega arith;
      used = omega arith;
    }

-- a New may be refused so too
pub a_new_may_be_refused_for_want_of_storage : IsLawfulSpent 455 call.New (reply.Spent (record { used = 1046277; need = 2300 }))
a_new_may_be_refused_for_want_of_storage =
    record {
      spent = record { used = 1046277; need = 2300 };
      answered = refl;
      takes = tt;
      over = omega arith;
      need = omega arith;
      used = omega arith;
    }

-- a Get takes no storage, and may not
pub no_get_is_refused_for_want_of_storage : (made : ℕ) (r : Reply) → IsLawfulSpent made look r → ⊥
no_get_is_refused_for_want_of_storage made r h = h.takes

-- after 454 changes no call may be
pub no_call_after_454_changes_may_be_refused : (c : Call) (r : Reply) → IsLawfulSpent 454 c r → ⊥
no_call_after_454_changes_may_be_refused c r h =
    let used : h.spent.used ≤ MOST_NEED * 454 = h.used in
    let need : h.spent.need ≤ MOST_NEED = h.need in
    let over : MOST_STORAGE < h.spent.used + h.spent.need = h.over in
    omega (arith, used, need, over)

-- Marks.

-- the two puts with a mark of pass 2 between them
abbrev marked : Log ℕ
marked = change 1 (put (name 0) 1) ∷ mark 2 7 ∷ change 2 (put (name 0) 2) ∷ []

-- the shared object with one value under that name
abbrev holding : ℕ → Heap
holding v = (object (named 0 (number v) ∷ []) [] ∷ []) ∷ [] ∷ [] ∷ []

-- a mark changes nothing
pub a_mark_changes_nothing : after 3 marked ≡ after 3 two_puts
a_mark_changes_nothing = refl

-- the heap is the same before a mark and after it
pub the_heap_before_a_mark_is_the_heap_after_it : (heap_at 3 1 marked ≡ holding 1) × (heap_at 3 2 marked ≡ holding 1) × (heap_at 3 3 marked ≡ holding 2)
the_heap_before_a_mark_is_the_heap_after_it = (refl, refl, refl)

-- a mark is no change of its pass
pub a_mark_is_counted_as_no_change : (changes_of 1 marked ≡ 1) × (changes_of 2 marked ≡ 1) × (changes_of 0 marked ≡ 0)
a_mark_is_counted_as_no_change = (refl, refl, refl)

-- the calls of pass 2: a look before the mark, one at it, one behind it, its put, and a look at the end
abbrev around_a_mark : List PlacedCall
around_a_mark =
    record { place = 0; call = look; reply = reply.Found value.Undefined }
    ∷ record { place = 1; call = look; reply = found 1 }
    ∷ record { place = 2; call = call.Has shared (name 0); reply = reply.Flag true }
    ∷ record { place = 2; call = put (name 0) 2; reply = reply.Done }
    ∷ record { place = 3; call = look; reply = found 2 }
    ∷ []

-- pass 1 makes its put alone
abbrev before_a_mark : List PlacedCall
before_a_mark = record { place = 0; call = put (name 0) 1; reply = reply.Done } ∷ []

-- the calls of all passes
abbrev calls_around_a_mark : List (List PlacedCall)
calls_around_a_mark = [] ∷ before_a_mark ∷ around_a_mark ∷ []

-- the history has no mark, and each look stands after as many changes as the entries before it hold
pub a_weave_leaves_marks_out :
    weave marked calls_around_a_mark
    ≡ (entry 2 look (reply.Found value.Undefined)
    ∷ entry 1 (put (name 0) 1) reply.Done
    ∷ entry 2 look (found 1)
    ∷ entry 2 (call.Has shared (name 0)) (reply.Flag true)
    ∷ entry 2 (put (name 0) 2) reply.Done
    ∷ entry 2 look (found 2) ∷ [])
a_weave_leaves_marks_out = refl

-- a change behind a mark has the mark before it
pub a_mark_raises_the_place_of_a_change : IsPlacedChange 3 marked 2 (record { place = 2; call = put (name 0) 2; reply = reply.Done })
a_mark_raises_the_place_of_a_change = record { entry = refl; reply = refl; changing = refl }

-- the same change is not lawful at the place of the mark
pub no_change_is_lawful_at_the_place_of_another_entry :
    IsLawfulPlaced 3 marked 2 (record { place = 1; call = put (name 0) 2; reply = reply.Done }) → ⊥
no_change_is_lawful_at_the_place_of_another_entry (inl c) = let wrong = c.entry in cc
no_change_is_lawful_at_the_place_of_another_entry (inr (inl u)) = let wrong = u.unchanging in cc
no_change_is_lawful_at_the_place_of_another_entry (inr (inr r)) = let wrong = r.refused.answered in cc

-- the look behind the mark is lawful, and no change
pub a_look_behind_a_mark_is_lawful : IsPlacedUnchanging 3 marked 2 (record { place = 2; call = call.Has shared (name 0); reply = reply.Flag true })
a_look_behind_a_mark_is_lawful = record { place = omega arith; same = refl; unchanging = refl }

-- a pass that has a change in the log has it among its calls
pub a_pass_without_calls_has_no_change : HasItsChanges 3 marked 2 [] → ⊥
a_pass_without_calls_has_no_change h = let wrong : 1 ≡ 0 = h in omega (arith, wrong)

-- the marked log, one entry after another
pub two_puts_and_a_mark_are_a_log : IsLawfulLog 3 marked
two_puts_and_a_mark_are_a_log =
    log-change 3 (change 1 (put (name 0) 1) ∷ mark 2 7 ∷ [])
    (log-mark 3 (change 1 (put (name 0) 1) ∷ []) (log-change 3 [] (log-nil 3) 1 (put (name 0) 1) (omega arith) refl) 2 7 (omega arith))
    2 (put (name 0) 2) (omega arith) refl

of_each_pass : (pass : ℕ) (of_pass : List PlacedCall) → slice_get calls_around_a_mark pass ≡ Some of_pass → IsPlacedBy 3 marked pass of_pass
of_each_pass zero of_pass is =
    let same : [] ≡ of_pass = cc in
    subst (IsPlacedBy 3 marked 0) same (record { lawful = All-nil (IsLawfulPlaced 3 marked 0); ordered = tt; changes = refl })
of_each_pass (suc zero) of_pass is =
    let same : before_a_mark ≡ of_pass = cc in
    subst (IsPlacedBy 3 marked 1) same (record {
      lawful = All-from_recursion (IsLawfulPlaced 3 marked 1) before_a_mark (inl (record { entry = refl; reply = refl; changing = refl }), tt);
      ordered = (omega arith, tt);
      changes = refl;
    })
of_each_pass (suc (suc zero)) of_pass is =
    let same : around_a_mark ≡ of_pass = cc in
    subst (IsPlacedBy 3 marked 2) same (record {
      lawful = All-from_recursion (IsLawfulPlaced 3 marked 2) around_a_mark (
        inr (inl (record { place = omega arith; same = refl; unchanging = refl })),
        (
          inr (inl (record { place = omega arith; same = refl; unchanging = refl })),
          (
            inr (inl (record { place = omega arith; same = refl; unchanging = refl })),
            (
              inl (record { entry = refl; reply = refl; changing = refl }),
              (inr (inl (record { place = omega arith; same = refl; unchanging = refl })), tt),
            ),
          ),
        ),
      );
      ordered = (omega arith, (omega arith, (omega arith, (omega arith, (omega arith, tt)))));
      changes = refl;
    })
of_each_pass (suc (suc (suc pass))) of_pass is = absurd (cc)

-- all that the weave asks of a log and calls holds of these
pub calls_around_a_mark_are_placed : ArePlaced 3 marked calls_around_a_mark
calls_around_a_mark_are_placed = record { all = refl; logged = two_puts_and_a_mark_are_a_log; each = of_each_pass }

-- so their weave is legal
pub the_woven_history_of_a_log_with_a_mark_is_legal : IsLegal 3 (weave marked calls_around_a_mark)
the_woven_history_of_a_log_with_a_mark_is_legal = (joined 3 marked calls_around_a_mark calls_around_a_mark_are_placed).legal

-- a delete of a name that is not there changes nothing, so it is in no log
pub no_log_has_an_entry_that_changes_nothing : IsLawfulLog {M = ℕ} 2 (change 1 (call.Delete shared (name 0)) ∷ []) → ⊥
no_log_has_an_entry_that_changes_nothing h = let wrong = h.changes 0 1 (call.Delete shared (name 0)) refl in cc

-- no pass but the heap's leaves a mark
pub no_log_has_a_mark_of_a_pass_that_is_not_there : IsLawfulLog {M = ℕ} 2 (mark 2 7 ∷ []) → ⊥
no_log_has_a_mark_of_a_pass_that_is_not_there h = let wrong : 2 < 2 = h.made 0 (mark 2 7) refl in omega (arith, wrong)

-- Text.

-- the texts x, y and z
abbrev xyz : Table
xyz = table_of (codes "x" ∷ codes "y" ∷ codes "x" ∷ codes "z" ∷ [])

-- a text that is interned twice stands once
pub a_text_stands_once_in_a_table : xyz ≡ codes "x" ∷ codes "y" ∷ codes "z" ∷ []
a_text_stands_once_in_a_table = refl

-- a line of values of each kind
pub a_line_has_each_value_after_a_blank :
    line_of xyz (value.Undefined ∷ value.Null ∷ value.Bool true ∷ value.Int (negsuc 6) ∷ text 1 ∷ value.Object (record { pass = 2; serial = 30 }) ∷ [])
    ≡ codes "undefined null true -7 y #2.30"
unfolding digits
a_line_has_each_value_after_a_blank = refl

-- a line of two values has one blank
pub a_line_of_two_values_has_one_blank : line_of xyz (number 10 ∷ value.Bool false ∷ []) ≡ codes "10 false"
unfolding digits
a_line_of_two_values_has_one_blank = refl

-- a line of no value is empty
pub a_line_of_no_value_is_empty : line_of xyz [] ≡ []
a_line_of_no_value_is_empty = refl

-- indexes come before names, and a quote and a backslash in a text stand each after a backslash
pub an_object_line_escapes_quotes_and_backslashes :
    object_line (codes "a\"b\\" ∷ []) 1 (3, object (named 0 (text 0) ∷ []) ((0, number 4) ∷ (12, value.Null) ∷ []))
    ≡ codes "#1.3 {0: 4, 12: null, \"a\\\"b\\\\\": \"a\\\"b\\\\\"}\n"
unfolding digits
an_object_line_escapes_quotes_and_backslashes = refl

-- an object without properties has nothing between its braces
pub an_empty_object_has_empty_braces : object_line [] 0 (0, empty_object) ≡ codes "#0.0 {}\n"
unfolding digits
an_empty_object_has_empty_braces = refl

-- a name that the table lacks reads as the empty text
pub a_name_without_a_text_reads_as_the_empty_text :
    object_line [] 0 (0, object (named 7 (number 1) ∷ []) []) ≡ codes "#0.0 {\"\": 1}\n"
unfolding digits
a_name_without_a_text_reads_as_the_empty_text = refl

-- each line of a script stands after its pass, an empty one too
pub lines_stand_after_the_pass : run_bytes 3 (codes "a b\n\nc\n") (outcome_bytes outcome.OutputFull) ≡ codes "3| a b\n3| \n3| c\n3= OutputFull\n"
unfolding digits
lines_stand_after_the_pass = refl

-- a script that printed nothing has the line of its outcome alone
pub no_line_stands_before_the_outcome : run_bytes 1 [] (outcome_bytes outcome.Done) ≡ codes "1= done\n"
unfolding digits
no_line_stands_before_the_outcome = refl

-- objects stand in order of pass and serial
pub objects_stand_in_order : heap_bytes [] ((empty_object ∷ []) ∷ (empty_object ∷ object [] ((0, value.Null) ∷ []) ∷ []) ∷ []) ≡ codes "#0.0 {}\n#1.0 {}\n#1.1 {0: null}\n"
unfolding digits
objects_stand_in_order = refl
