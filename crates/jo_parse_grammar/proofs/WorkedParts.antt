-- Worked cases of the parts of a tree: each with one flaw, and so not sound for the table, and some without any. The line
-- above a case is what it is the tree of; places of identifiers are not judged here, and some are 0.
use Rattle.std.proofs.Common.{refl, lit<, lit≤, arith}
use Rattle.std.specs.Prelude.{◌≡◌, ◌≤◌, ◌<◌, pos, false, [], ◌∷◌, Some, None}
use Rattle.jo_parse_tree.specs.declared.keyword.Keyword.TheVariants as keyword
use Rattle.jo_parse_tree.specs.declared.operator.AssignOperator.TheVariants as assign_op
use Rattle.jo_parse_tree.specs.declared.operator.BinaryOperator.TheVariants as op
use Rattle.jo_parse_tree.specs.declared.operator.UnaryOperator.TheVariants as unary_op
use Rattle.jo_parse_tree.specs.declared.word.Name.TheVariants as word
use Rattle.jo_parse_tree.specs.declared.word.PropKey.{PropKey}
use Rattle.jo_parse_tree.specs.declared.word.PropKey.TheVariants as prop_key
use Rattle.jo_parse_tree.specs.Trees.{Tree, number, constant, variable, group, object, cas, member, unary, delete, chain, choose, assign, no_props, prop, no_accesses, field, index, no_links, link, declares, begins, empty, block, when, either, while, for, break, continue, print, print_names, evaluate, no_items, declare}
use Rattle.jo_parse_grammar.specs.Sound.{count_of_props, count_of_accesses, count_of_links, count_of_items, IsNamed, IsKeyed, Suits, SuitsStatement, SuitItems, IsSound}
use Rattle.jo_parse_grammar.proofs.WorkedNames.{a, b, d, one, set, bare, with, with_bare, all, then, alone, dot, for_let}
use Rattle.jo_parse_grammar.proofs.WorkedSound.{texts}

-- the variable d, whose text is not in the table
abbrev wrong : Tree
wrong = variable (d 0)

-- the key a
abbrev key : PropKey
key = prop_key.Name (word.Ident (a 0))

too_far : 3 < 3 → ⊥
too_far less = omega (arith, less)

wrong_is_not : Suits texts wrong → ⊥
wrong_is_not h = too_far h

-- ---- the entries of lists

-- {a: 1, b: 1}
pub each_property_is_counted : count_of_props (prop (prop_key.Name (word.Ident (a 1))) one (prop (prop_key.Name (word.Ident (b 7))) one no_props)) ≡ 2
each_property_is_counted = refl

-- .a[1]
pub each_access_is_counted_with_a_name_or_in_square_brackets : count_of_accesses (field (word.Ident (a 1)) (index one no_accesses)) ≡ 2
each_access_is_counted_with_a_name_or_in_square_brackets = refl

-- [1].a
pub they_are_counted_in_the_other_order_too : count_of_accesses (index one (field (word.Ident (a 4)) no_accesses)) ≡ 2
they_are_counted_in_the_other_order_too = refl

-- + 1 + 1
pub each_link_is_counted : count_of_links (link op.Plus one (link op.Plus one no_links)) ≡ 2
each_link_is_counted = refl

-- let a; 1; let b;
pub each_item_is_counted : count_of_items (with_bare (a 4) (then (evaluate one) (with_bare (b 14) no_items))) ≡ 3
each_item_is_counted = refl

-- ---- words

-- a reserved word that the grammar does not name
pub a_reserved_name_past_the_table_is_not_named : IsNamed texts (word.Reserved (record { 0 = 3 })) → ⊥
a_reserved_name_past_the_table_is_not_named h = too_far h

-- the last text of the table as such a word
pub a_reserved_name_in_the_table_is : IsNamed texts (word.Reserved (record { 0 = 2 }))
a_reserved_name_in_the_table_is = lit< tt

-- an identifier as a key
pub a_key_by_name_past_the_table_is_not_keyed : IsKeyed texts (prop_key.Name (word.Ident (d 0))) → ⊥
a_key_by_name_past_the_table_is_not_keyed h = too_far h

-- a reserved word as a key
pub a_key_by_a_word_that_the_table_lacks_is_not : IsKeyed texts (prop_key.Name (word.Keyword keyword.While)) → ⊥
a_key_by_a_word_that_the_table_lacks_is_not h = too_far h

-- the same, of a word that the table has
pub a_key_by_a_word_of_the_table_is : IsKeyed texts (prop_key.Name (word.Keyword keyword.If))
a_key_by_a_word_of_the_table_is = lit< tt

-- ---- expressions with one flaw

-- 9007199254740992
pub a_number_too_large_is_not_sound : Suits texts (number (pos 9007199254740992)) → ⊥
a_number_too_large_is_not_sound h = let most : 9007199254740992 ≤ 9007199254740991 = h in omega (arith, most)

-- (d)
pub brackets_do_not_hide_it : Suits texts (group wrong) → ⊥
brackets_do_not_hide_it h = wrong_is_not h

-- {a: d}
pub the_value_of_a_property_is_judged : Suits texts (object (prop key wrong no_props) false) → ⊥
the_value_of_a_property_is_judged h = wrong_is_not h.1.1

-- {d: 1}
pub the_key_of_a_property_is_judged : Suits texts (object (prop (prop_key.Name (word.Ident (d 1))) one no_props) false) → ⊥
the_key_of_a_property_is_judged h = too_far h.1.0

-- {a: 1, a: d}
pub the_second_property_is_judged : Suits texts (object (prop key one (prop key wrong no_props)) false) → ⊥
the_second_property_is_judged h = wrong_is_not h.1.2.1

-- cas(d, 1, 1, 1)
pub the_first_argument_of_cas_is_judged : Suits texts (cas wrong one one one) → ⊥
the_first_argument_of_cas_is_judged h = wrong_is_not h.0

-- cas(1, d, 1, 1)
pub the_second_argument_of_cas_is_judged : Suits texts (cas one wrong one one) → ⊥
the_second_argument_of_cas_is_judged h = wrong_is_not h.1

-- cas(1, 1, d, 1)
pub the_third_argument_of_cas_is_judged : Suits texts (cas one one wrong one) → ⊥
the_third_argument_of_cas_is_judged h = wrong_is_not h.2

-- cas(1, 1, 1, d)
pub the_last_argument_of_cas_is_judged : Suits texts (cas one one one wrong) → ⊥
the_last_argument_of_cas_is_judged h = wrong_is_not h.3

-- d.a
pub what_a_property_is_read_from_is_judged : Suits texts (dot wrong (a 2)) → ⊥
what_a_property_is_read_from_is_judged h = wrong_is_not h.0

-- 1[d]
pub what_stands_in_square_brackets_is_judged : Suits texts (member one (index wrong no_accesses)) → ⊥
what_stands_in_square_brackets_is_judged h = wrong_is_not h.2.0

-- a.a[d]
pub an_access_after_a_name_is_judged : Suits texts (member (variable (a 0)) (field (word.Ident (a 2)) (index wrong no_accesses))) → ⊥
an_access_after_a_name_is_judged h = wrong_is_not h.2.1.0

-- 1[1][d]
pub an_access_after_square_brackets_is_judged : Suits texts (member one (index one (index wrong no_accesses))) → ⊥
an_access_after_square_brackets_is_judged h = wrong_is_not h.2.1.0

-- -d
pub the_operand_of_a_sign_is_judged : Suits texts (unary unary_op.Minus wrong) → ⊥
the_operand_of_a_sign_is_judged h = wrong_is_not h

-- delete d
pub the_operand_of_delete_is_judged : Suits texts (delete wrong) → ⊥
the_operand_of_delete_is_judged h = wrong_is_not h

-- d + 1
pub the_first_operand_of_a_chain_is_judged : Suits texts (chain 7 wrong (link op.Plus one no_links)) → ⊥
the_first_operand_of_a_chain_is_judged h = wrong_is_not h.0

-- 1 + d
pub the_operand_of_a_link_is_judged : Suits texts (chain 7 one (link op.Plus wrong no_links)) → ⊥
the_operand_of_a_link_is_judged h = wrong_is_not h.2.0

-- 1 + 1 + d
pub the_operand_of_a_second_link_is_judged : Suits texts (chain 7 one (link op.Plus one (link op.Plus wrong no_links))) → ⊥
the_operand_of_a_second_link_is_judged h = wrong_is_not h.2.1.0

-- d ? 1 : 1
pub the_condition_of_a_choice_is_judged : Suits texts (choose wrong one one) → ⊥
the_condition_of_a_choice_is_judged h = wrong_is_not h.0

-- 1 ? d : 1
pub the_first_branch_of_a_choice_is_judged : Suits texts (choose one wrong one) → ⊥
the_first_branch_of_a_choice_is_judged h = wrong_is_not h.1

-- 1 ? 1 : d
pub the_second_branch_of_a_choice_is_judged : Suits texts (choose one one wrong) → ⊥
the_second_branch_of_a_choice_is_judged h = wrong_is_not h.2

-- d = 1
pub the_target_of_an_assignment_is_judged : Suits texts (assign assign_op.Set wrong one) → ⊥
the_target_of_an_assignment_is_judged h = wrong_is_not h.0

-- a = d
pub the_value_of_an_assignment_is_judged : Suits texts (assign assign_op.Set (variable (a 0)) wrong) → ⊥
the_value_of_an_assignment_is_judged h = wrong_is_not h.1

-- ---- expressions without a flaw

-- -(a) + 1
pub brackets_signs_and_chains_suit : Suits texts (chain 7 (unary unary_op.Minus (group (variable (a 2)))) (link op.Plus one no_links))
brackets_signs_and_chains_suit = (lit< tt, lit≤ tt, (lit≤ tt, tt))

-- a = 1 ? cas(1, 1, 1, 1) : delete 1
pub assignments_choices_cas_and_delete_suit : Suits texts (assign assign_op.Set (variable (a 0)) (choose one (cas one one one one) (delete one)))
assignments_choices_cas_and_delete_suit = (lit< tt, (lit≤ tt, (lit≤ tt, lit≤ tt, lit≤ tt, lit≤ tt), lit≤ tt))

-- {a: true}.a
pub constants_literals_and_properties_suit : Suits texts (dot (object (prop key (constant keyword.True) no_props) false) (a 10))
constants_literals_and_properties_suit = ((lit≤ tt, (lit< tt, tt, tt)), lit≤ tt, (lit< tt, tt))

-- ---- statements with one flaw

-- let d;
pub the_name_of_a_binding_is_judged : SuitItems texts (with_bare (d 4) no_items) → ⊥
the_name_of_a_binding_is_judged h = too_far h.0.1.0

-- let a = d;
pub the_value_of_a_binding_is_judged : SuitItems texts (with (a 4) wrong no_items) → ⊥
the_value_of_a_binding_is_judged h = wrong_is_not h.0.1.1

-- let a, b = d;
pub the_second_binding_of_a_let_is_judged : SuitItems texts (declare (bare (a 4) ∷ set (b 7) wrong ∷ []) no_items) → ⊥
the_second_binding_of_a_let_is_judged h = wrong_is_not h.0.1.2.1

-- let a; d;
pub an_item_after_a_let_is_judged : SuitItems texts (with_bare (a 4) (alone wrong)) → ⊥
an_item_after_a_let_is_judged h = wrong_is_not h.1.0

-- 1; d;
pub an_item_after_a_statement_is_judged : SuitItems texts (all (evaluate one ∷ evaluate wrong ∷ [])) → ⊥
an_item_after_a_statement_is_judged h = wrong_is_not h.1.0

-- d;
pub an_expression_statement_is_judged : SuitsStatement texts (evaluate wrong) → ⊥
an_expression_statement_is_judged h = wrong_is_not h

-- { d; }
pub the_items_of_a_block_are_judged : SuitsStatement texts (block (alone wrong)) → ⊥
the_items_of_a_block_are_judged h = wrong_is_not h.1.0

-- if (d) ;
pub the_condition_of_an_if_is_judged : SuitsStatement texts (when wrong empty) → ⊥
the_condition_of_an_if_is_judged h = wrong_is_not h.0

-- if (1) d;
pub the_branch_of_an_if_is_judged : SuitsStatement texts (when one (evaluate wrong)) → ⊥
the_branch_of_an_if_is_judged h = wrong_is_not h.1

-- if (d) ; else ;
pub the_condition_of_an_if_with_an_else_is_judged : SuitsStatement texts (either wrong empty empty) → ⊥
the_condition_of_an_if_with_an_else_is_judged h = wrong_is_not h.0

-- if (1) d; else ;
pub its_first_branch_is_judged : SuitsStatement texts (either one (evaluate wrong) empty) → ⊥
its_first_branch_is_judged h = wrong_is_not h.1

-- if (1) ; else d;
pub its_second_branch_is_judged : SuitsStatement texts (either one empty (evaluate wrong)) → ⊥
its_second_branch_is_judged h = wrong_is_not h.2

-- while (d) ;
pub the_condition_of_a_while_is_judged : SuitsStatement texts (while wrong empty) → ⊥
the_condition_of_a_while_is_judged h = wrong_is_not h.0

-- while (1) d;
pub the_body_of_a_while_is_judged : SuitsStatement texts (while one (evaluate wrong)) → ⊥
the_body_of_a_while_is_judged h = wrong_is_not h.1

-- for (let a = d; ; ) ;
pub the_let_in_the_head_of_a_for_is_judged : SuitsStatement texts (for_let (set (a 9) wrong ∷ []) empty) → ⊥
the_let_in_the_head_of_a_for_is_judged h = wrong_is_not h.0.1.1

-- for (d; ; ) ;
pub an_expression_in_the_head_of_a_for_is_judged : SuitsStatement texts (for (begins (Some wrong)) None None empty) → ⊥
an_expression_in_the_head_of_a_for_is_judged h = wrong_is_not h.0

-- for (; d; ) ;
pub the_condition_of_a_for_is_judged : SuitsStatement texts (for (begins None) (Some wrong) None empty) → ⊥
the_condition_of_a_for_is_judged h = wrong_is_not h.1

-- for (; ; d) ;
pub the_step_of_a_for_is_judged : SuitsStatement texts (for (begins None) None (Some wrong) empty) → ⊥
the_step_of_a_for_is_judged h = wrong_is_not h.2

-- for (; ; ) d;
pub the_body_of_a_for_is_judged : SuitsStatement texts (for (begins None) None None (evaluate wrong)) → ⊥
the_body_of_a_for_is_judged h = wrong_is_not h.3

-- print(d);
pub the_first_argument_of_print_is_judged : SuitsStatement texts (print (wrong ∷ [])) → ⊥
the_first_argument_of_print_is_judged h = wrong_is_not h.1.0

-- print(1, d);
pub the_second_argument_of_print_is_judged : SuitsStatement texts (print (one ∷ wrong ∷ [])) → ⊥
the_second_argument_of_print_is_judged h = wrong_is_not h.1.1.0

-- printNames(d);
pub the_argument_of_print_names_is_judged : SuitsStatement texts (print_names wrong) → ⊥
the_argument_of_print_names_is_judged h = wrong_is_not h

-- d; as a whole script
pub a_script_with_a_part_that_is_not_sound_is_not : IsSound texts (alone wrong) → ⊥
a_script_with_a_part_that_is_not_sound_is_not h = wrong_is_not h.parts.0

-- ---- statements without a flaw

-- if (1) break; else { 1; }
pub an_if_and_a_block_suit : SuitsStatement texts (either one break (block (alone one)))
an_if_and_a_block_suit = (lit≤ tt, tt, (lit≤ tt, (lit≤ tt, tt)))

-- while (1) if (1) continue;
pub loops_suit : SuitsStatement texts (while one (when one continue))
loops_suit = (lit≤ tt, (lit≤ tt, tt))

-- for (1; 1; ) printNames(1);
pub a_for_suits : SuitsStatement texts (for (begins (Some one)) (Some one) None (print_names one))
a_for_suits = (lit≤ tt, lit≤ tt, tt, lit≤ tt)

-- for (let a; ; 1) ;
pub a_for_with_a_let_suits : SuitsStatement texts (for (declares (bare (a 9) ∷ [])) None (Some one) empty)
a_for_with_a_let_suits = ((lit≤ tt, (lit< tt, tt, tt)), tt, lit≤ tt, tt)
