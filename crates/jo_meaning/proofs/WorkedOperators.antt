-- Worked cases of operators, numbers and truth values, each computed and named by what it shows.
use Rattle.std.proofs.Common.{refl}
use Rattle.std.specs.Prelude.{◌≡◌, [], ◌∷◌, codes}
use Rattle.std.specs.Fmt.{digits}
use Rattle.jo_parse_tree.specs.declared.operator.BinaryOperator.TheVariants as op
use Rattle.jo_parse_tree.specs.declared.operator.UnaryOperator.TheVariants as unary_op
use Rattle.jo_parse_tree.specs.Trees.{Tree, unary, choose, group}
use Rattle.jo_model.specs.declared.call.Outcome.TheVariants as outcome
use Rattle.jo_meaning.proofs.Words.{natural, text, null_word, undefined_word, true_word, false_word, shared_word, shared_x, shared_y, minus, two, three, sum, show, all, name, get, found, after, printing, running, done, fails, waits, x, set, with}

-- ---- operands and operators

-- shared.x + shared.y
pub operands_are_evaluated_from_left_to_right :
    printing (sum shared_x shared_y) (found 3 ∷ found 4 ∷ []) ≡ done (get (name 0) ∷ get (name 1) ∷ []) (codes "7\n")
unfolding digits
operands_are_evaluated_from_left_to_right = refl

-- the same before the second reply
pub a_run_stands_at_the_call_that_waits :
    printing (sum shared_x shared_y) (found 3 ∷ []) ≡ waits (get (name 1)) (get (name 0) ∷ []) []
a_run_stands_at_the_call_that_waits = refl

-- null + shared.x
pub both_operands_are_evaluated_before_a_type_fault :
    running (sum null_word shared_x) (found 1 ∷ []) ≡ fails outcome.TypeFault (get (name 0) ∷ [])
both_operands_are_evaluated_before_a_type_fault = refl

-- null + 1 + shared.x
pub a_fault_comes_before_the_next_operand :
    running (three null_word op.Plus (natural 1) op.Plus shared_x) [] ≡ fails outcome.TypeFault []
a_fault_comes_before_the_next_operand = refl

-- let x = 1; print(x + (x = 2));
pub a_left_operand_keeps_its_value_when_the_right_one_assigns :
    after (with 0 (natural 1) (all (show (sum x (group (set x (natural 2)))) ∷ []))) [] ≡ done [] (codes "3\n")
unfolding digits
a_left_operand_keeps_its_value_when_the_right_one_assigns = refl

-- 10 - 3 - 2
pub operators_of_one_level_go_from_left_to_right :
    printing (three (natural 10) op.Minus (natural 3) op.Minus (natural 2)) [] ≡ done [] (codes "5\n")
unfolding digits
operators_of_one_level_go_from_left_to_right = refl

-- null % 0
pub a_type_fault_comes_before_not_safe : running (two null_word op.Remainder (natural 0)) [] ≡ fails outcome.TypeFault []
a_type_fault_comes_before_not_safe = refl

-- 1 < 2 < 3
pub a_truth_value_is_no_number :
    running (three (natural 1) op.Less (natural 2) op.Less (natural 3)) [] ≡ fails outcome.TypeFault []
a_truth_value_is_no_number = refl

-- "ab" < "ab"
pub texts_have_no_order : running (two (text 11) op.Less (text 11)) [] ≡ fails outcome.TypeFault []
texts_have_no_order = refl

-- "ab" + "ab"
pub texts_have_no_sum : running (sum (text 11) (text 11)) [] ≡ fails outcome.TypeFault []
texts_have_no_sum = refl

-- -null
pub a_negation_of_no_number_is_a_type_fault : running (minus null_word) [] ≡ fails outcome.TypeFault []
a_negation_of_no_number_is_a_type_fault = refl

-- 1 < 1, 1 <= 1, 2 > 1, -2 >= -1
pub numbers_are_compared :
    after (all (show (two (natural 1) op.Less (natural 1)) ∷ show (two (natural 1) op.LessEqual (natural 1)) ∷ show (two (natural 2) op.Greater (natural 1))
    ∷ show (two (minus (natural 2)) op.GreaterEqual (minus (natural 1))) ∷ [])) []
    ≡ done [] (codes "false\ntrue\ntrue\nfalse\n")
numbers_are_compared = refl

-- ---- numbers

-- 9007199254740991 + 0
pub the_largest_number_is_safe : printing (sum (natural 9007199254740991) (natural 0)) [] ≡ done [] (codes "9007199254740991\n")
unfolding digits
the_largest_number_is_safe = refl

-- 9007199254740991 + 1
pub a_sum_above_it_is_not_safe : running (sum (natural 9007199254740991) (natural 1)) [] ≡ fails outcome.NotSafe []
a_sum_above_it_is_not_safe = refl

-- -9007199254740991 - 0
pub the_least_number_is_safe :
    printing (two (minus (natural 9007199254740991)) op.Minus (natural 0)) [] ≡ done [] (codes "-9007199254740991\n")
unfolding digits
the_least_number_is_safe = refl

-- -9007199254740991 - 1
pub a_difference_below_it_is_not_safe : running (two (minus (natural 9007199254740991)) op.Minus (natural 1)) [] ≡ fails outcome.NotSafe []
a_difference_below_it_is_not_safe = refl

-- 94906267 * 94906267
pub a_product_above_it_is_not_safe : running (two (natural 94906267) op.Times (natural 94906267)) [] ≡ fails outcome.NotSafe []
a_product_above_it_is_not_safe = refl

-- -0, 0 * -1 and -7 % 7
pub minus_zero_is_zero :
    after (all (show (minus (natural 0)) ∷ show (two (natural 0) op.Times (minus (natural 1))) ∷ show (two (minus (natural 7)) op.Remainder (natural 7)) ∷ [])) []
    ≡ done [] (codes "0\n0\n0\n")
unfolding digits
minus_zero_is_zero = refl

-- -7 % 3, 7 % -3 and 0 % 5
pub a_remainder_has_the_sign_of_the_dividend :
    after (all (show (two (minus (natural 7)) op.Remainder (natural 3)) ∷ show (two (natural 7) op.Remainder (minus (natural 3)))
    ∷ show (two (natural 0) op.Remainder (natural 5)) ∷ [])) []
    ≡ done [] (codes "-1\n1\n0\n")
unfolding digits
a_remainder_has_the_sign_of_the_dividend = refl

-- 5 % 0
pub a_remainder_by_zero_is_not_safe : running (two (natural 5) op.Remainder (natural 0)) [] ≡ fails outcome.NotSafe []
a_remainder_by_zero_is_not_safe = refl

-- ---- truth and equality

abbrev not_of : Tree → Tree
not_of e = unary unary_op.Not e

-- !undefined, !null, !false, !0 and !""
pub undefined_null_false_zero_and_the_empty_text_are_falsy :
    after (all (show (not_of undefined_word) ∷ show (not_of null_word) ∷ show (not_of false_word) ∷ show (not_of (natural 0)) ∷ show (not_of (text 3)) ∷ [])) []
    ≡ done [] (codes "true\ntrue\ntrue\ntrue\ntrue\n")
undefined_null_false_zero_and_the_empty_text_are_falsy = refl

-- !true, !-1, !"0" and !shared
pub other_values_are_not_falsy :
    after (all (show (not_of true_word) ∷ show (not_of (minus (natural 1))) ∷ show (not_of (text 4)) ∷ show (not_of shared_word) ∷ [])) []
    ≡ done [] (codes "false\nfalse\nfalse\nfalse\n")
other_values_are_not_falsy = refl

-- null && shared.x
pub and_gives_a_falsy_left_operand : printing (two null_word op.And shared_x) [] ≡ done [] (codes "null\n")
and_gives_a_falsy_left_operand = refl

-- 2 && shared.x
pub and_gives_the_right_operand_otherwise : printing (two (natural 2) op.And shared_x) (found 0 ∷ []) ≡ done (get (name 0) ∷ []) (codes "0\n")
unfolding digits
and_gives_the_right_operand_otherwise = refl

-- 1 && 0 && shared.x
pub and_gives_the_first_falsy_operand_of_three : printing (three (natural 1) op.And (natural 0) op.And shared_x) [] ≡ done [] (codes "0\n")
unfolding digits
and_gives_the_first_falsy_operand_of_three = refl

-- 2 || shared.x
pub or_gives_a_left_operand_that_is_not_falsy : printing (two (natural 2) op.Or shared_x) [] ≡ done [] (codes "2\n")
unfolding digits
or_gives_a_left_operand_that_is_not_falsy = refl

-- 0 || shared.x || shared.y
pub or_gives_the_right_operand_otherwise :
    printing (three (natural 0) op.Or shared_x op.Or shared_y) (found 7 ∷ []) ≡ done (get (name 0) ∷ []) (codes "7\n")
unfolding digits
or_gives_the_right_operand_otherwise = refl

-- 0 ? shared.x : shared.y, and 1 ? shared.x : shared.y
pub a_choice_evaluates_one_of_two :
    after (all (show (choose (natural 0) shared_x shared_y) ∷ show (choose (natural 1) shared_x shared_y) ∷ [])) (found 5 ∷ found 6 ∷ [])
    ≡ done (get (name 1) ∷ get (name 0) ∷ []) (codes "5\n6\n")
unfolding digits
a_choice_evaluates_one_of_two = refl

-- 0 === "0", undefined === null, shared === shared and "ab" !== "ab"
pub equality_is_strict_and_takes_any_values :
    after (all (show (two (natural 0) op.Same (text 4)) ∷ show (two undefined_word op.Same null_word) ∷ show (two shared_word op.Same shared_word)
    ∷ show (two (text 11) op.NotSame (text 11)) ∷ [])) []
    ≡ done [] (codes "false\nfalse\ntrue\nfalse\n")
equality_is_strict_and_takes_any_values = refl
