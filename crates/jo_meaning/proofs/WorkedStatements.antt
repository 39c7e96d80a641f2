-- Worked cases of what statements and scripts mean, each computed and named by what it shows.
use Rattle.std.proofs.Common.{refl}
use Rattle.std.specs.Prelude.{◌≡◌, ℕ, false, List, [], ◌∷◌, ◌++◌, codes, replicate, None, Some}
use Rattle.std.specs.Fmt.{digits}
use Rattle.jo_value.specs.declared.value.Value.TheVariants as value
use Rattle.jo_parse_tree.specs.declared.operator.BinaryOperator.TheVariants as op
use Rattle.jo_parse_tree.specs.declared.word.Name.TheVariants as word
use Rattle.jo_parse_tree.specs.declared.word.PropKey.TheVariants as prop_key
use Rattle.jo_parse_tree.specs.Trees.{object, no_props, prop, declares, begins, Statement, empty, block, when, either, while, for, break, continue, print, print_names, evaluate, Items, no_items, declare, perform}
use Rattle.jo_model.specs.declared.call.Call.TheVariants as call
use Rattle.jo_model.specs.declared.call.Outcome.TheVariants as outcome
use Rattle.jo_model.specs.declared.call.Reply.{Reply}
use Rattle.jo_model.specs.declared.call.Reply.TheVariants as reply
use Rattle.jo_model.specs.Heaps.{shared}
use Rattle.jo_meaning.specs.Runs.{Run, follow}
use Rattle.jo_meaning.specs.State.{ends}
use Rattle.jo_meaning.specs.Statements.{executes}
use Rattle.jo_meaning.specs.Scripts.{does}
use Rattle.jo_meaning.proofs.Words.{texts, ident, x, y, natural, text, null_word, undefined_word, true_word, false_word, shared_word, dot, shared_x, shared_y, shared_z, minus, two, sum, set, add, show, all, binding, bare, with, name, integer, get, put, found, after, ended, done, fails}

-- ---- blocks and variables

-- a block of these statements, and of these items
abbrev braces : List Statement → Statement
braces statements = block (all statements)

-- nothing
pub an_empty_script_is_done : after no_items [] ≡ done [] []
an_empty_script_is_done = refl

-- let x = 1; { let x = 2; print(x); x = 3; } print(x);
pub a_name_means_the_innermost_block_that_declares_it :
    after (with 0 (natural 1) (all (block (with 0 (natural 2) (all (show x ∷ evaluate (set x (natural 3)) ∷ []))) ∷ show x ∷ []))) []
    ≡ done [] (codes "2\n1\n")
unfolding digits
a_name_means_the_innermost_block_that_declares_it = refl

-- let x = 1; { x = 2; } print(x);
pub a_block_assigns_to_a_variable_outside :
    after (with 0 (natural 1) (all (braces (evaluate (set x (natural 2)) ∷ []) ∷ show x ∷ []))) [] ≡ done [] (codes "2\n")
unfolding digits
a_block_assigns_to_a_variable_outside = refl

-- let x = 1, y = x + 1; print(x, y);
pub bindings_are_made_from_left_to_right :
    after (declare (binding 0 (natural 1) ∷ binding 1 (sum x (natural 1)) ∷ []) (all (print (x ∷ y ∷ []) ∷ []))) [] ≡ done [] (codes "1 2\n")
unfolding digits
bindings_are_made_from_left_to_right = refl

-- let x = 1; { let y = 5; { let x = 2; } print(x, y); }
pub a_block_inside_leaves_the_variables_of_those_outside :
    after (with 0 (natural 1) (all (block (with 1 (natural 5) (all (block (with 0 (natural 2) no_items) ∷ print (x ∷ y ∷ []) ∷ []))) ∷ []))) []
    ≡ done [] (codes "1 5\n")
unfolding digits
a_block_inside_leaves_the_variables_of_those_outside = refl

-- let y = 2; while (y) { let x; print(x); x = y; y += -1; }
pub a_let_without_a_value_gives_undefined_each_time :
    after (with 1 (natural 2) (all (while y (block (declare (bare 0 ∷ []) (all (show x ∷ evaluate (set x y) ∷ evaluate (add y (minus (natural 1))) ∷ [])))) ∷ []))) []
    ≡ ended outcome.Done [] 3 (codes "undefined\nundefined\n")
a_let_without_a_value_gives_undefined_each_time = refl

-- print(x); where nothing declares x, which no accepted script has
pub what_is_not_declared_reads_as_undefined : after (all (show x ∷ [])) [] ≡ done [] (codes "undefined\n")
what_is_not_declared_reads_as_undefined = refl

-- { print(x); let x = 1; } where a block outside declares x too, which no accepted script has
pub a_name_means_its_block_also_before_the_let :
    after (with 0 (natural 7) (all (block (perform (show x) (with 0 (natural 1) no_items)) ∷ []))) [] ≡ done [] (codes "undefined\n")
a_name_means_its_block_also_before_the_let = refl

-- ---- choices

-- if (0) print(1); else print(2); if ("ab") print(3); else print(4); if (null) print(5);
pub an_if_runs_one_of_two_or_nothing :
    after (all (either (natural 0) (show (natural 1)) (show (natural 2)) ∷ either (text 11) (show (natural 3)) (show (natural 4)) ∷ when null_word (show (natural 5)) ∷ [])) []
    ≡ done [] (codes "2\n3\n")
unfolding digits
an_if_runs_one_of_two_or_nothing = refl

-- ---- loops and turns

-- while (shared.x) print(1);
pub a_turn_is_taken_before_each_test :
    after (all (while shared_x (show (natural 1)) ∷ [])) (found 1 ∷ found 1 ∷ found 0 ∷ [])
    ≡ ended outcome.Done (get (name 0) ∷ get (name 0) ∷ get (name 0) ∷ []) 3 (codes "1\n1\n")
unfolding digits
a_turn_is_taken_before_each_test = refl

-- while (shared.x) ; with no turn
pub without_a_turn_no_test_is_evaluated : does (all (while shared_x empty ∷ [])) texts 0 [] ≡ fails outcome.TurnsSpent []
without_a_turn_no_test_is_evaluated = refl

-- let x = 0; while (true) { x += 1; shared.x = x; }
pub five_turns_are_five_tests :
    after (with 0 (natural 0) (all (while true_word (braces (evaluate (add x (natural 1)) ∷ evaluate (set shared_x x) ∷ [])) ∷ [])))
    (reply.Done ∷ reply.Done ∷ reply.Done ∷ reply.Done ∷ reply.Done ∷ [])
    ≡ ended outcome.TurnsSpent (put (name 0) (integer 1) ∷ put (name 0) (integer 2) ∷ put (name 0) (integer 3) ∷ put (name 0) (integer 4) ∷ put (name 0) (integer 5) ∷ []) 5 []
five_turns_are_five_tests = refl

-- while (true) { print(1); while (false) ; }
pub a_loop_inside_takes_of_the_same_turns :
    after (all (while true_word (braces (show (natural 1) ∷ while false_word empty ∷ [])) ∷ [])) [] ≡ ended outcome.TurnsSpent [] 5 (codes "1\n1\n1\n")
unfolding digits
a_loop_inside_takes_of_the_same_turns = refl

-- while (false) ; five times, and once more
pub turns_are_those_of_the_whole_script :
    after (all (replicate 6 (while false_word empty))) [] ≡ ended outcome.TurnsSpent [] 5 []
turns_are_those_of_the_whole_script = refl

-- for (;;) { break; }
pub an_empty_test_is_true : after (all (for (begins None) None None (braces (break ∷ [])) ∷ show (natural 1) ∷ [])) [] ≡ ended outcome.Done [] 1 (codes "1\n")
unfolding digits
an_empty_test_is_true = refl

-- for (let x = 0; x < 3; x += 1) body
abbrev counts : Statement → Statement
counts body = for (declares (binding 0 (natural 0) ∷ [])) (Some (two x op.Less (natural 3))) (Some (add x (natural 1))) body

-- print(x);
pub a_for_starts_once_and_steps_after_its_body : after (all (counts (show x) ∷ [])) [] ≡ ended outcome.Done [] 4 (codes "0\n1\n2\n")
unfolding digits
a_for_starts_once_and_steps_after_its_body = refl

-- { if (x === 1) continue; print(x); }
pub a_continue_in_a_for_goes_on_with_the_step :
    after (all (counts (braces (when (two x op.Same (natural 1)) continue ∷ show x ∷ [])) ∷ [])) [] ≡ ended outcome.Done [] 4 (codes "0\n2\n")
unfolding digits
a_continue_in_a_for_goes_on_with_the_step = refl

-- let y = 0; for (y = 5; y; y += 1) { break; } print(y);
pub a_break_leaves_a_for_without_its_step :
    after (with 1 (natural 0) (all (for (begins (Some (set y (natural 5)))) (Some y) (Some (add y (natural 1))) (braces (break ∷ [])) ∷ show y ∷ []))) []
    ≡ ended outcome.Done [] 1 (codes "5\n")
unfolding digits
a_break_leaves_a_for_without_its_step = refl

-- let x = 7; for (let x = 0; x < 3; x += 1) ; print(x);
pub the_let_of_a_for_is_declared_in_the_for :
    after (with 0 (natural 7) (all (counts empty ∷ show x ∷ []))) [] ≡ ended outcome.Done [] 4 (codes "7\n")
unfolding digits
the_let_of_a_for_is_declared_in_the_for = refl

-- while (shared.x) { continue; print(1); }
pub a_continue_in_a_while_goes_on_with_the_test :
    after (all (while shared_x (braces (continue ∷ show (natural 1) ∷ [])) ∷ [])) (found 1 ∷ found 0 ∷ [])
    ≡ ended outcome.Done (get (name 0) ∷ get (name 0) ∷ []) 2 []
a_continue_in_a_while_goes_on_with_the_test = refl

-- while (null.x) ;
pub a_fault_of_a_test_has_taken_its_turn : after (all (while (dot null_word 0) empty ∷ [])) [] ≡ ended outcome.TypeFault [] 1 []
a_fault_of_a_test_has_taken_its_turn = refl

-- let y = 2; while (y) { y += -1; while (shared.x) { continue; } print(y); }
pub a_continue_goes_on_with_the_innermost_loop :
    after (with 1 (natural 2) (all (while y (braces (evaluate (add y (minus (natural 1))) ∷ while shared_x (braces (continue ∷ [])) ∷ show y ∷ [])) ∷ [])))
    (found 0 ∷ found 0 ∷ [])
    ≡ ended outcome.Done (get (name 0) ∷ get (name 0) ∷ []) 5 (codes "1\n0\n")
unfolding digits
a_continue_goes_on_with_the_innermost_loop = refl

-- for (let x = 0; x < 2;) { x += 1; continue; }
pub a_continue_in_a_for_without_a_step_goes_on_with_the_test :
    after (all (for (declares (binding 0 (natural 0) ∷ [])) (Some (two x op.Less (natural 2))) None (braces (evaluate (add x (natural 1)) ∷ continue ∷ [])) ∷ [])) []
    ≡ ended outcome.Done [] 3 []
a_continue_in_a_for_without_a_step_goes_on_with_the_test = refl

-- while (true) { while (true) { break; } print(1); break; } print(2);
pub a_break_leaves_the_innermost_loop :
    after (all (while true_word (braces (while true_word (braces (break ∷ [])) ∷ show (natural 1) ∷ break ∷ [])) ∷ show (natural 2) ∷ [])) []
    ≡ ended outcome.Done [] 2 (codes "1\n2\n")
unfolding digits
a_break_leaves_the_innermost_loop = refl

-- let y = 0; for (let x = 1; x <= 10; x += 1) { if (x % 2 === 0) continue; y += x; } print(y);
abbrev odd_numbers : Items
odd_numbers =
    with 1 (natural 0) (all (for (declares (binding 0 (natural 1) ∷ [])) (Some (two x op.LessEqual (natural 10))) (Some (add x (natural 1)))
    (braces (when (two (two x op.Remainder (natural 2)) op.Same (natural 0)) continue ∷ evaluate (add y x) ∷ [])) ∷ show y ∷ []))

pub eleven_tests_add_five_odd_numbers : does odd_numbers texts 11 [] ≡ ended outcome.Done [] 11 (codes "25\n")
unfolding digits
eleven_tests_add_five_odd_numbers = refl

pub ten_tests_are_too_few : does odd_numbers texts 10 [] ≡ ended outcome.TurnsSpent [] 10 []
ten_tests_are_too_few = refl

-- ---- printing

-- print(undefined, null, true, false, -5, "ab", shared);
pub a_line_has_the_texts_of_its_values_with_single_blanks :
    after (all (print (undefined_word ∷ null_word ∷ true_word ∷ false_word ∷ minus (natural 5) ∷ text 11 ∷ shared_word ∷ []) ∷ [])) []
    ≡ done [] (codes "undefined null true false -5 ab #0.0\n")
unfolding digits
a_line_has_the_texts_of_its_values_with_single_blanks = refl

-- print();
pub a_print_of_nothing_is_an_empty_line : after (all (print [] ∷ [])) [] ≡ done [] (codes "\n")
a_print_of_nothing_is_an_empty_line = refl

-- print(1, null.x);
pub all_arguments_are_evaluated_before_the_line : after (all (print (natural 1 ∷ dot null_word 0 ∷ []) ∷ [])) [] ≡ fails outcome.TypeFault []
all_arguments_are_evaluated_before_the_line = refl

-- print(shared.x, shared.y);
pub arguments_are_evaluated_from_left_to_right :
    after (all (print (shared_x ∷ shared_y ∷ []) ∷ [])) (found 1 ∷ found 2 ∷ []) ≡ done (get (name 0) ∷ get (name 1) ∷ []) (codes "1 2\n")
unfolding digits
arguments_are_evaluated_from_left_to_right = refl

-- printNames(shared);
pub names_are_joined_by_commas :
    after (all (print_names shared_word ∷ [])) (reply.Names (record { 0 = 1 } ∷ record { 0 = 9 } ∷ record { 0 = 12 } ∷ []) ∷ [])
    ≡ done (call.Names shared ∷ []) (codes "y,05,\n")
names_are_joined_by_commas = refl

-- the same where there is none
pub no_names_are_an_empty_line : after (all (print_names shared_word ∷ [])) (reply.Names [] ∷ []) ≡ done (call.Names shared ∷ []) (codes "\n")
no_names_are_an_empty_line = refl

-- the same where the reply is of another kind
pub a_reply_of_another_kind_has_no_names :
    after (all (print_names shared_word ∷ [])) (found 1 ∷ []) ≡ done (call.Names shared ∷ []) (codes "\n")
a_reply_of_another_kind_has_no_names = refl

-- printNames(1);
pub names_of_no_object_are_a_type_fault : after (all (print_names (natural 1) ∷ [])) [] ≡ fails outcome.TypeFault []
names_of_no_object_are_a_type_fault = refl

-- what a statement does where n bytes were printed, at these replies
abbrev after_printing : ℕ → Statement → List Reply → Run
after_printing n statement replies =
    follow (executes texts [] statement (ends outcome.Done) (ends outcome.Done) (ends outcome.Done)
    (record { turns = 0; variables = λ x. value.Undefined; lines = replicate n 120 })) replies

-- print("ab");
pub a_line_that_fills_the_room_is_kept : after_printing 262141 (show (text 11)) [] ≡ done [] (replicate 262141 120 ++ codes "ab\n")
a_line_that_fills_the_room_is_kept = refl

pub one_byte_more_is_output_full_and_the_lines_before_are_kept :
    after_printing 262142 (show (text 11)) [] ≡ ended outcome.OutputFull [] 0 (replicate 262142 120)
one_byte_more_is_output_full_and_the_lines_before_are_kept = refl

-- printNames(shared);
pub names_without_room_are_output_full_after_their_call :
    after_printing 262144 (print_names shared_word) (reply.Names [] ∷ []) ≡ ended outcome.OutputFull (call.Names shared ∷ []) 0 (replicate 262144 120)
names_without_room_are_output_full_after_their_call = refl

-- ---- ends

-- let x = shared.x; print(1); x.y = 2; print(3);
pub a_fault_keeps_the_calls_and_the_lines_before :
    after (with 0 shared_x (all (show (natural 1) ∷ evaluate (set (dot x 1) (natural 2)) ∷ show (natural 3) ∷ []))) (reply.Found value.Undefined ∷ [])
    ≡ ended outcome.TypeFault (get (name 0) ∷ []) 0 (codes "1\n")
unfolding digits
a_fault_keeps_the_calls_and_the_lines_before = refl

-- print(1); shared.x = 2; print(3);
abbrev puts : Items
puts = all (show (natural 1) ∷ evaluate (set shared_x (natural 2)) ∷ show (natural 3) ∷ [])

pub a_put_that_is_done_goes_on : after puts (reply.Done ∷ []) ≡ done (put (name 0) (integer 2) ∷ []) (codes "1\n3\n")
unfolding digits
a_put_that_is_done_goes_on = refl

pub too_many_names_end_the_script : after puts (reply.TooManyNames ∷ []) ≡ ended outcome.TooManyNames (put (name 0) (integer 2) ∷ []) 0 (codes "1\n")
unfolding digits
too_many_names_end_the_script = refl

pub spent_storage_ends_the_script :
    after puts (reply.Spent (record { used = 5; need = 9 }) ∷ []) ≡ ended outcome.Spent (put (name 0) (integer 2) ∷ []) 0 (codes "1\n")
unfolding digits
spent_storage_ends_the_script = refl

-- print(1); let x = {y: shared.z}; print(2);
abbrev makes : Items
makes = perform (show (natural 1)) (with 0 (object (prop (prop_key.Name (word.Ident (ident 1))) shared_z no_props) false) (all (show (natural 2) ∷ [])))

pub spent_objects_end_the_script_before_a_property :
    after makes (reply.ObjectsSpent ∷ []) ≡ ended outcome.ObjectsSpent (call.New ∷ []) 0 (codes "1\n")
unfolding digits
spent_objects_end_the_script_before_a_property = refl

-- a New that is answered otherwise gives undefined, so that the Put of the property is a fault
pub a_new_that_makes_nothing_gives_undefined :
    after makes (reply.Done ∷ found 5 ∷ []) ≡ ended outcome.TypeFault (call.New ∷ get (name 2) ∷ []) 0 (codes "1\n")
unfolding digits
a_new_that_makes_nothing_gives_undefined = refl
