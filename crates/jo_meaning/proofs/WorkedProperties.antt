-- Worked cases of keys and properties, each computed and named by what it shows.
use Rattle.std.proofs.Common.{refl}
use Rattle.std.specs.Prelude.{◌≡◌, pos, negsuc, true, false, [], ◌∷◌, codes}
use Rattle.std.specs.Fmt.{digits}
use Rattle.jo_value.specs.declared.value.Key.TheVariants.{Index}
use Rattle.jo_value.specs.declared.value.Value.TheVariants as value
use Rattle.jo_parse_tree.specs.declared.keyword.Keyword.TheVariants as kw
use Rattle.jo_parse_tree.specs.declared.operator.AssignOperator.TheVariants as assign_op
use Rattle.jo_parse_tree.specs.declared.operator.BinaryOperator.TheVariants as op
use Rattle.jo_parse_tree.specs.declared.operator.UnaryOperator.TheVariants as unary_op
use Rattle.jo_parse_tree.specs.declared.word.Name.TheVariants as word
use Rattle.jo_parse_tree.specs.declared.word.PropKey.TheVariants as prop_key
use Rattle.jo_parse_tree.specs.Trees.{Tree, group, object, cas, member, unary, delete, assign, no_props, prop, no_accesses, field, index, evaluate}
use Rattle.jo_model.specs.declared.call.Call.TheVariants as call
use Rattle.jo_model.specs.declared.call.Outcome.TheVariants as outcome
use Rattle.jo_model.specs.declared.call.Reply.TheVariants as reply
use Rattle.jo_model.specs.Heaps.{shared}
use Rattle.jo_meaning.proofs.Words.{ident, x, natural, text, null_word, undefined_word, true_word, shared_word, dot, at, shared_x, shared_y, shared_z, minus, two, sum, set, add, show, all, with, name, integer, get, put, found, after, printing, running, done, fails}

-- an operator of one operand
abbrev not_of : Tree → Tree
not_of e = unary unary_op.Not e

-- ---- keys

abbrev read_at : Tree → Tree
read_at key = at shared_word key

-- shared[0] and shared[1023]
pub a_number_up_to_1023_is_an_index :
    after (all (show (read_at (natural 0)) ∷ show (read_at (natural 1023)) ∷ [])) (found 1 ∷ found 2 ∷ [])
    ≡ done (get (Index 0) ∷ get (Index 1023) ∷ []) (codes "1\n2\n")
unfolding digits
a_number_up_to_1023_is_an_index = refl

-- shared[1024]
pub a_number_above_1023_is_outside : running (read_at (natural 1024)) [] ≡ fails outcome.KeyOutside []
a_number_above_1023_is_outside = refl

-- shared[-1]
pub a_negative_number_is_outside : running (read_at (minus (natural 1))) [] ≡ fails outcome.KeyOutside []
a_negative_number_is_outside = refl

-- shared[true]
pub a_truth_value_is_no_key : running (read_at true_word) [] ≡ fails outcome.KeyOutside []
a_truth_value_is_no_key = refl

-- shared[undefined]
pub undefined_is_no_key : running (read_at undefined_word) [] ≡ fails outcome.KeyOutside []
undefined_is_no_key = refl

-- shared[shared]
pub an_object_is_no_key : running (read_at shared_word) [] ≡ fails outcome.KeyOutside []
an_object_is_no_key = refl

-- shared[-0]
pub minus_zero_is_index_zero : printing (read_at (minus (natural 0))) (found 1 ∷ []) ≡ done (get (Index 0) ∷ []) (codes "1\n")
unfolding digits
minus_zero_is_index_zero = refl

-- shared["0"] and shared["1023"]
pub a_text_of_an_index_is_that_index :
    after (all (show (read_at (text 4)) ∷ show (read_at (text 5)) ∷ [])) (found 1 ∷ found 2 ∷ [])
    ≡ done (get (Index 0) ∷ get (Index 1023) ∷ []) (codes "1\n2\n")
unfolding digits
a_text_of_an_index_is_that_index = refl

-- shared["1024"]
pub a_text_of_a_larger_index_is_outside : running (read_at (text 6)) [] ≡ fails outcome.KeyOutside []
a_text_of_a_larger_index_is_outside = refl

-- shared["4294967294"]
pub the_largest_array_index_is_outside : running (read_at (text 7)) [] ≡ fails outcome.KeyOutside []
the_largest_array_index_is_outside = refl

-- shared["4294967295"], shared["05"] and shared[""]
pub other_texts_are_names :
    after (all (show (read_at (text 8)) ∷ show (read_at (text 9)) ∷ show (read_at (text 3)) ∷ [])) (found 1 ∷ found 2 ∷ found 3 ∷ [])
    ≡ done (get (name 8) ∷ get (name 9) ∷ get (name 3) ∷ []) (codes "1\n2\n3\n")
unfolding digits
other_texts_are_names = refl

-- shared.if
pub a_reserved_word_names_a_property_by_its_text :
    printing (member shared_word (field (word.Keyword kw.If) no_accesses)) (found 1 ∷ []) ≡ done (get (name 10) ∷ []) (codes "1\n")
unfolding digits
a_reserved_word_names_a_property_by_its_text = refl

-- text 12 and `while` are not in the table
pub a_text_that_the_table_lacks_reads_as_empty :
    after (all (show (text 12) ∷ show (not_of (text 12)) ∷ [])) [] ≡ done [] (codes "\ntrue\n")
a_text_that_the_table_lacks_reads_as_empty = refl

pub a_text_that_the_table_lacks_is_no_key : running (read_at (text 12)) [] ≡ fails outcome.KeyOutside []
a_text_that_the_table_lacks_is_no_key = refl

pub a_word_that_the_table_lacks_is_no_key :
    running (member shared_word (field (word.Keyword kw.While) no_accesses)) [] ≡ fails outcome.KeyOutside []
a_word_that_the_table_lacks_is_no_key = refl

-- ---- properties

-- shared.x.y
pub accesses_go_from_left_to_right :
    printing (member shared_word (field (word.Ident (ident 0)) (field (word.Ident (ident 1)) no_accesses)))
    (reply.Found (value.Object (record { pass = 1; serial = 2 })) ∷ found 4 ∷ [])
    ≡ done (get (name 0) ∷ call.Get (record { pass = 1; serial = 2 }) (name 1) ∷ []) (codes "4\n")
unfolding digits
accesses_go_from_left_to_right = refl

-- null[shared.x]
pub the_key_is_evaluated_before_a_type_fault : running (at null_word shared_x) (found 1 ∷ []) ≡ fails outcome.TypeFault (get (name 0) ∷ [])
the_key_is_evaluated_before_a_type_fault = refl

-- null[1024]
pub a_type_fault_comes_before_key_outside : running (at null_word (natural 1024)) [] ≡ fails outcome.TypeFault []
a_type_fault_comes_before_key_outside = refl

-- null.x[shared.y]
pub a_fault_of_the_base_comes_before_the_key :
    running (member null_word (field (word.Ident (ident 0)) (index shared_y no_accesses))) [] ≡ fails outcome.TypeFault []
a_fault_of_the_base_comes_before_the_key = refl

-- {x: shared.y, 7: shared.z}
pub properties_are_evaluated_and_put_one_after_another :
    printing (object (prop (prop_key.Name (word.Ident (ident 0))) shared_y (prop (prop_key.Number (pos 7)) shared_z no_props)) false)
    (reply.Made (record { pass = 1; serial = 0 }) ∷ found 5 ∷ reply.Done ∷ found 6 ∷ reply.Done ∷ [])
    ≡ done (call.New ∷ get (name 1) ∷ call.Put (record { pass = 1; serial = 0 }) (name 0) (integer 5)
    ∷ get (name 2) ∷ call.Put (record { pass = 1; serial = 0 }) (Index 7) (integer 6) ∷ []) (codes "#1.0\n")
unfolding digits
properties_are_evaluated_and_put_one_after_another = refl

-- {"1023": 5, if: 6}
pub a_text_and_a_reserved_word_are_keys_of_a_literal :
    running (object (prop (prop_key.Text (record { text = record { 0 = 5 }; is_proto = false })) (natural 5)
    (prop (prop_key.Name (word.Keyword kw.If)) (natural 6) no_props)) false)
    (reply.Made (record { pass = 1; serial = 0 }) ∷ reply.Done ∷ reply.Done ∷ [])
    ≡ done (call.New ∷ call.Put (record { pass = 1; serial = 0 }) (Index 1023) (integer 5)
    ∷ call.Put (record { pass = 1; serial = 0 }) (name 10) (integer 6) ∷ []) []
a_text_and_a_reserved_word_are_keys_of_a_literal = refl

-- {1024: shared.y}
pub a_bad_key_of_a_literal_comes_after_its_value :
    running (object (prop (prop_key.Number (pos 1024)) shared_y no_props) false) (reply.Made (record { pass = 1; serial = 0 }) ∷ found 5 ∷ [])
    ≡ fails outcome.KeyOutside (call.New ∷ get (name 1) ∷ [])
a_bad_key_of_a_literal_comes_after_its_value = refl

-- shared[shared.x] = shared.y, as an expression
pub an_assignment_evaluates_base_key_and_value_and_gives_the_value :
    printing (set (read_at shared_x) shared_y) (found 8 ∷ found 9 ∷ reply.Done ∷ [])
    ≡ done (get (name 0) ∷ get (name 1) ∷ put (Index 8) (integer 9) ∷ []) (codes "9\n")
unfolding digits
an_assignment_evaluates_base_key_and_value_and_gives_the_value = refl

-- shared.x.y = shared.z
pub an_assignment_reads_all_accesses_but_the_last :
    running (set (member shared_word (field (word.Ident (ident 0)) (field (word.Ident (ident 1)) no_accesses))) shared_z)
    (reply.Found (value.Object (record { pass = 1; serial = 2 })) ∷ found 4 ∷ reply.Done ∷ [])
    ≡ done (get (name 0) ∷ get (name 2) ∷ call.Put (record { pass = 1; serial = 2 }) (name 1) (integer 4) ∷ []) []
an_assignment_reads_all_accesses_but_the_last = refl

-- null.x = shared.y
pub an_assignment_evaluates_its_right_side_before_a_type_fault :
    running (set (dot null_word 0) shared_y) (found 1 ∷ []) ≡ fails outcome.TypeFault (get (name 1) ∷ [])
an_assignment_evaluates_its_right_side_before_a_type_fault = refl

-- shared[1024] = shared.y
pub an_assignment_evaluates_its_right_side_before_key_outside :
    running (set (read_at (natural 1024)) shared_y) (found 1 ∷ []) ≡ fails outcome.KeyOutside (get (name 1) ∷ [])
an_assignment_evaluates_its_right_side_before_key_outside = refl

-- null[1024] = 1
pub an_assignment_has_the_type_fault_before_key_outside : running (set (at null_word (natural 1024)) (natural 1)) [] ≡ fails outcome.TypeFault []
an_assignment_has_the_type_fault_before_key_outside = refl

-- shared.x += shared.y, as an expression
pub a_compound_assignment_gets_then_evaluates_then_puts :
    printing (add shared_x shared_y) (found 3 ∷ found 4 ∷ reply.Done ∷ []) ≡ done (get (name 0) ∷ get (name 1) ∷ put (name 0) (integer 7) ∷ []) (codes "7\n")
unfolding digits
a_compound_assignment_gets_then_evaluates_then_puts = refl

-- shared.x -= 5
pub a_difference_is_assigned_likewise :
    printing (assign assign_op.Subtract shared_x (natural 5)) (found 3 ∷ reply.Done ∷ [])
    ≡ done (get (name 0) ∷ put (name 0) (value.Int (negsuc 1)) ∷ []) (codes "-2\n")
unfolding digits
a_difference_is_assigned_likewise = refl

-- null[shared.x] += shared.y
pub a_compound_assignment_has_the_type_fault_before_its_right_side :
    running (add (at null_word shared_x) shared_y) (found 1 ∷ []) ≡ fails outcome.TypeFault (get (name 0) ∷ [])
a_compound_assignment_has_the_type_fault_before_its_right_side = refl

-- shared[1024] += shared.y
pub a_compound_assignment_has_key_outside_before_its_right_side :
    running (add (read_at (natural 1024)) shared_y) [] ≡ fails outcome.KeyOutside []
a_compound_assignment_has_key_outside_before_its_right_side = refl

-- shared.x += shared.y, where undefined is found first
pub a_fault_of_the_sum_comes_after_its_right_side_and_before_the_put :
    running (add shared_x shared_y) (reply.Found value.Undefined ∷ found 4 ∷ []) ≡ fails outcome.TypeFault (get (name 0) ∷ get (name 1) ∷ [])
a_fault_of_the_sum_comes_after_its_right_side_and_before_the_put = refl

-- shared[shared.x] += 1
pub a_compound_assignment_evaluates_its_key_once :
    running (add (read_at shared_x) (natural 1)) (found 7 ∷ found 3 ∷ reply.Done ∷ []) ≡ done (get (name 0) ∷ get (Index 7) ∷ put (Index 7) (integer 4) ∷ []) []
a_compound_assignment_evaluates_its_key_once = refl

-- let x = 5; x -= 2; print(x);
pub a_variable_is_adjusted_too :
    after (with 0 (natural 5) (all (evaluate (assign assign_op.Subtract x (natural 2)) ∷ show x ∷ []))) [] ≡ done [] (codes "3\n")
unfolding digits
a_variable_is_adjusted_too = refl

-- let x = shared.x; x.y = x = shared; where an object is found
pub a_base_is_evaluated_before_the_right_side :
    after (with 0 shared_x (all (evaluate (set (dot x 1) (set x shared_word)) ∷ []))) (reply.Found (value.Object (record { pass = 1; serial = 2 })) ∷ reply.Done ∷ [])
    ≡ done (get (name 0) ∷ call.Put (record { pass = 1; serial = 2 }) (name 1) (value.Object shared) ∷ []) []
a_base_is_evaluated_before_the_right_side = refl

-- shared.x += 1, where the largest number is found
pub a_sum_that_is_not_safe_is_not_put :
    running (add shared_x (natural 1)) (found 9007199254740991 ∷ []) ≡ fails outcome.NotSafe (get (name 0) ∷ [])
a_sum_that_is_not_safe_is_not_put = refl

-- let x = 1; print(x += (x = 5)); print(x);
pub a_compound_assignment_reads_its_variable_first :
    after (with 0 (natural 1) (all (show (add x (group (set x (natural 5)))) ∷ show x ∷ []))) [] ≡ done [] (codes "6\n6\n")
unfolding digits
a_compound_assignment_reads_its_variable_first = refl

-- let x = 1; shared[x] = (x = 2);
pub a_key_is_evaluated_before_the_right_side :
    after (with 0 (natural 1) (all (show (set (read_at x) (group (set x (natural 2)))) ∷ []))) (reply.Done ∷ []) ≡ done (put (Index 1) (integer 2) ∷ []) (codes "2\n")
unfolding digits
a_key_is_evaluated_before_the_right_side = refl

-- delete shared[shared.x]
pub a_delete_is_true :
    printing (delete (read_at shared_x)) (found 3 ∷ reply.Flag true ∷ []) ≡ done (get (name 0) ∷ call.Delete shared (Index 3) ∷ []) (codes "true\n")
a_delete_is_true = refl

-- delete shared.x.y
pub a_delete_reads_all_accesses_but_the_last :
    printing (delete (member shared_word (field (word.Ident (ident 0)) (field (word.Ident (ident 1)) no_accesses))))
    (reply.Found (value.Object (record { pass = 1; serial = 2 })) ∷ reply.Flag true ∷ [])
    ≡ done (get (name 0) ∷ call.Delete (record { pass = 1; serial = 2 }) (name 1) ∷ []) (codes "true\n")
a_delete_reads_all_accesses_but_the_last = refl

-- the same where undefined is found
pub a_delete_on_what_is_not_there_is_a_type_fault :
    running (delete (member shared_word (field (word.Ident (ident 0)) (field (word.Ident (ident 1)) no_accesses)))) (reply.Found value.Undefined ∷ [])
    ≡ fails outcome.TypeFault (get (name 0) ∷ [])
a_delete_on_what_is_not_there_is_a_type_fault = refl

-- delete null[1024]
pub a_delete_has_the_type_fault_before_key_outside : running (delete (at null_word (natural 1024))) [] ≡ fails outcome.TypeFault []
a_delete_has_the_type_fault_before_key_outside = refl

-- delete shared[1024]
pub a_delete_of_a_bad_key_is_outside : running (delete (read_at (natural 1024))) [] ≡ fails outcome.KeyOutside []
a_delete_of_a_bad_key_is_outside = refl

-- shared.x in shared
pub a_test_evaluates_the_key_and_then_the_object :
    printing (two shared_x op.In shared_word) (found 5 ∷ reply.Flag false ∷ []) ≡ done (get (name 0) ∷ call.Has shared (Index 5) ∷ []) (codes "false\n")
a_test_evaluates_the_key_and_then_the_object = refl

-- 1024 in shared.x
pub a_test_has_the_type_fault_after_both_sides_and_before_key_outside : running (two (natural 1024) op.In shared_x) (found 1 ∷ []) ≡ fails outcome.TypeFault (get (name 0) ∷ [])
a_test_has_the_type_fault_after_both_sides_and_before_key_outside = refl

-- 1024 in shared
pub a_test_of_a_bad_key_is_outside : running (two (natural 1024) op.In shared_word) [] ≡ fails outcome.KeyOutside []
a_test_of_a_bad_key_is_outside = refl

-- cas(shared, "ab", shared.x, shared.y)
pub a_swap_evaluates_its_arguments_and_gives_the_value_found :
    printing (cas shared_word (text 11) shared_x shared_y) (found 1 ∷ found 2 ∷ found 8 ∷ [])
    ≡ done (get (name 0) ∷ get (name 1) ∷ call.Cas shared (name 11) (integer 1) (integer 2) ∷ []) (codes "8\n")
unfolding digits
a_swap_evaluates_its_arguments_and_gives_the_value_found = refl

-- cas(null, 1024, shared.x, shared.y)
pub a_swap_has_the_type_fault_after_its_arguments :
    running (cas null_word (natural 1024) shared_x shared_y) (found 1 ∷ found 2 ∷ []) ≡ fails outcome.TypeFault (get (name 0) ∷ get (name 1) ∷ [])
a_swap_has_the_type_fault_after_its_arguments = refl

-- cas(shared, 1024, shared.x, shared.y)
pub a_swap_of_a_bad_key_is_outside_after_its_arguments :
    running (cas shared_word (natural 1024) shared_x shared_y) (found 1 ∷ found 2 ∷ []) ≡ fails outcome.KeyOutside (get (name 0) ∷ get (name 1) ∷ [])
a_swap_of_a_bad_key_is_outside_after_its_arguments = refl

-- ---- replies of another kind

-- shared.x, 0 in shared
pub a_reply_of_another_kind_reads_as_undefined :
    after (all (show shared_x ∷ show (two (natural 0) op.In shared_word) ∷ [])) (reply.Done ∷ found 1 ∷ [])
    ≡ done (get (name 0) ∷ call.Has shared (Index 0) ∷ []) (codes "undefined\nundefined\n")
a_reply_of_another_kind_reads_as_undefined = refl

-- shared.x + shared.y, where the first is refused
pub a_refusal_of_any_call_ends_the_script :
    running (sum shared_x shared_y) (reply.Spent (record { used = 5; need = 9 }) ∷ []) ≡ fails outcome.Spent (get (name 0) ∷ [])
a_refusal_of_any_call_ends_the_script = refl
