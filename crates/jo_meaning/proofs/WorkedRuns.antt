-- Worked cases of whole scripts over the objects of one thread, each computed and named by what it shows.
use Rattle.std.proofs.Common.{refl}
use Rattle.std.specs.Prelude.{◌≡◌, ℕ, false, List, [], ◌∷◌, codes, Some}
use Rattle.std.specs.Fmt.{digits}
use Rattle.jo_value.specs.declared.value.NameId.{NameId}
use Rattle.jo_value.specs.declared.value.Value.{Value}
use Rattle.jo_value.specs.declared.value.Value.TheVariants as value
use Rattle.jo_parse_tree.specs.declared.operator.BinaryOperator.TheVariants as op
use Rattle.jo_parse_tree.specs.declared.word.Name.TheVariants as word
use Rattle.jo_parse_tree.specs.declared.word.PropKey.TheVariants as prop_key
use Rattle.jo_parse_tree.specs.Trees.{Tree, object, cas, delete, no_props, prop, declares, while, for, print, print_names, evaluate, Items, no_items}
use Rattle.jo_model.specs.declared.call.Outcome.{Outcome}
use Rattle.jo_model.specs.declared.call.Outcome.TheVariants as outcome
use Rattle.jo_model.specs.Objects.{Object, empty_object}
use Rattle.jo_model.specs.Heaps.{Heap}
use Rattle.jo_meaning.specs.Histories.{played_alone}
use Rattle.jo_meaning.proofs.Words.{texts, ident, x, y, natural, text, undefined_word, shared_word, dot, at, shared_x, shared_y, shared_z, two, sum, set, add, show, all, binding, with, integer}

-- a whole run
record End : Type 0 where
  outcome : Outcome
  lines : List ℕ
  heap : Heap

-- what a script with 20 turns leaves
abbrev left : Items → End
left script = record {
  outcome = (played_alone script texts 20).outcome;
  lines = (played_alone script texts 20).lines;
  heap = (played_alone script texts 20).heap;
}

-- it ends so, prints this, and leaves the shared object and those of its own pass
abbrev leaves : Outcome → List ℕ → Object → List Object → End
leaves o lines shared own = record { outcome = o; lines = lines; heap = (shared ∷ []) ∷ own ∷ [] }

-- an object with these properties
abbrev of : List (NameId × Value) → List (ℕ × Value) → Object
of names elements = record { names = names; elements = elements }

abbrev named : ℕ → ℕ → NameId × Value
named name n = (record { 0 = name }, integer n)

-- an object literal without properties
abbrev new : Tree
new = object no_props false

-- shared.x = 1; shared.y = 2; print(shared.x, shared.z);
pub what_is_put_is_read_and_what_is_not_there_reads_undefined :
    left (all (evaluate (set shared_x (natural 1)) ∷ evaluate (set shared_y (natural 2)) ∷ print (shared_x ∷ shared_z ∷ []) ∷ []))
    ≡ leaves outcome.Done (codes "1 undefined\n") (of (named 0 1 ∷ named 1 2 ∷ []) []) []
unfolding digits
what_is_put_is_read_and_what_is_not_there_reads_undefined = refl

-- let x = {}; x.y = 1; x.x = 2; x[3] = 4; x[1] = 5;
pub names_stand_in_order_of_creation_and_indexes_rise :
    left (with 0 new (all (evaluate (set (dot x 1) (natural 1)) ∷ evaluate (set (dot x 0) (natural 2))
    ∷ evaluate (set (at x (natural 3)) (natural 4)) ∷ evaluate (set (at x (natural 1)) (natural 5)) ∷ [])))
    ≡ leaves outcome.Done [] empty_object (of (named 1 1 ∷ named 0 2 ∷ []) ((1, integer 5) ∷ (3, integer 4) ∷ []) ∷ [])
names_stand_in_order_of_creation_and_indexes_rise = refl

-- let x = {}; x["0"] = 1; print(x[0]); x["05"] = 2; print("05" in x, 0 in x, 1 in x);
pub a_text_of_an_index_and_the_number_are_one_key :
    left (with 0 new (all (evaluate (set (at x (text 4)) (natural 1)) ∷ show (at x (natural 0)) ∷ evaluate (set (at x (text 9)) (natural 2))
    ∷ print (two (text 9) op.In x ∷ two (natural 0) op.In x ∷ two (natural 1) op.In x ∷ []) ∷ [])))
    ≡ leaves outcome.Done (codes "1\ntrue true false\n") empty_object (of (named 9 2 ∷ []) ((0, integer 1) ∷ []) ∷ [])
unfolding digits
a_text_of_an_index_and_the_number_are_one_key = refl

-- let x = {x: 1, y: 2}; print(delete x.x, delete x.z); x.x = 3; printNames(x);
pub a_name_that_is_deleted_and_put_again_stands_last :
    left (with 0 (object (prop (prop_key.Name (word.Ident (ident 0))) (natural 1) (prop (prop_key.Name (word.Ident (ident 1))) (natural 2) no_props)) false)
    (all (print (delete (dot x 0) ∷ delete (dot x 2) ∷ []) ∷ evaluate (set (dot x 0) (natural 3)) ∷ print_names x ∷ [])))
    ≡ leaves outcome.Done (codes "true true\ny,x\n") empty_object (of (named 1 2 ∷ named 0 3 ∷ []) [] ∷ [])
a_name_that_is_deleted_and_put_again_stands_last = refl

-- shared["4294967295"] = 1; print("4294967295" in shared); shared["4294967294"] = 2;
pub the_text_after_the_largest_array_index_is_a_name :
    left (all (evaluate (set (at shared_word (text 8)) (natural 1)) ∷ show (two (text 8) op.In shared_word) ∷ evaluate (set (at shared_word (text 7)) (natural 2)) ∷ []))
    ≡ leaves outcome.KeyOutside (codes "true\n") (of (named 8 1 ∷ []) []) []
the_text_after_the_largest_array_index_is_a_name = refl

-- shared.x = 0; print(cas(shared, "x", shared.x, shared.x + 1)); print(cas(shared, "x", 0, 9)); print(shared.x);
pub a_swap_replaces_what_is_expected_and_nothing_else :
    left (all (evaluate (set shared_x (natural 0)) ∷ show (cas shared_word (text 0) shared_x (sum shared_x (natural 1)))
    ∷ show (cas shared_word (text 0) (natural 0) (natural 9)) ∷ show shared_x ∷ []))
    ≡ leaves outcome.Done (codes "0\n1\n1\n") (of (named 0 1 ∷ []) []) []
unfolding digits
a_swap_replaces_what_is_expected_and_nothing_else = refl

-- let y = undefined; print(cas(shared, "x", y, 1)); shared.x = y; print(cas(shared, "x", y, 1), shared.x);
pub a_swap_finds_undefined_without_and_with_the_key_and_replaces_only_what_is_there :
    left (with 1 undefined_word (all (show (cas shared_word (text 0) y (natural 1)) ∷ evaluate (set shared_x y)
    ∷ print (cas shared_word (text 0) y (natural 1) ∷ shared_x ∷ []) ∷ [])))
    ≡ leaves outcome.Done (codes "undefined\nundefined 1\n") (of (named 0 1 ∷ []) []) []
unfolding digits
a_swap_finds_undefined_without_and_with_the_key_and_replaces_only_what_is_there = refl

-- let x = {x: 1, y: 5, x: 2};
pub a_name_that_is_written_twice_in_a_literal_keeps_its_place :
    left (with 0 (object (prop (prop_key.Name (word.Ident (ident 0))) (natural 1) (prop (prop_key.Name (word.Ident (ident 1))) (natural 5)
    (prop (prop_key.Name (word.Ident (ident 0))) (natural 2) no_props))) false) no_items)
    ≡ leaves outcome.Done [] empty_object (of (named 0 2 ∷ named 1 5 ∷ []) [] ∷ [])
a_name_that_is_written_twice_in_a_literal_keeps_its_place = refl

-- for (let y = 0; y < 3; y += 1) { shared[y] = {x: y * 10}; } print(shared[2].x, shared[0] === shared[0], shared[0] === shared[1]);
pub each_literal_makes_an_object_of_its_own :
    left (all (for (declares (binding 1 (natural 0) ∷ [])) (Some (two y op.Less (natural 3))) (Some (add y (natural 1)))
    (evaluate (set (at shared_word y) (object (prop (prop_key.Name (word.Ident (ident 0))) (two y op.Times (natural 10)) no_props) false)))
    ∷ print (dot (at shared_word (natural 2)) 0 ∷ two (at shared_word (natural 0)) op.Same (at shared_word (natural 0))
    ∷ two (at shared_word (natural 0)) op.Same (at shared_word (natural 1)) ∷ []) ∷ []))
    ≡ leaves outcome.Done (codes "20 true false\n")
    (of [] ((0, value.Object (record { pass = 1; serial = 0 })) ∷ (1, value.Object (record { pass = 1; serial = 1 }))
    ∷ (2, value.Object (record { pass = 1; serial = 2 })) ∷ []))
    (of (named 0 0 ∷ []) [] ∷ of (named 0 10 ∷ []) [] ∷ of (named 0 20 ∷ []) [] ∷ [])
unfolding digits
each_literal_makes_an_object_of_its_own = refl

-- let x = 0; while (1) shared.x = x = x + 1;
pub a_loop_without_end_ends_where_the_turns_are_spent :
    left (with 0 (natural 0) (all (while (natural 1) (evaluate (set shared_x (set x (sum x (natural 1))))) ∷ [])))
    ≡ leaves outcome.TurnsSpent [] (of (named 0 20 ∷ []) []) []
a_loop_without_end_ends_where_the_turns_are_spent = refl
