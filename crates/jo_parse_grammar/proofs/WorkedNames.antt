-- Worked cases of uses and declarations, each computed and named by what it shows. The line above a case is the script,
-- and each place in the case is the number of bytes before the identifier in that line.
use Rattle.std.proofs.Common.{refl}
use Rattle.std.specs.Prelude.{◌≡◌, ℕ, pos, false, List, [], ◌∷◌, Some, None}
use Rattle.jo_parse_tree.specs.declared.keyword.Keyword.TheVariants as keyword
use Rattle.jo_parse_tree.specs.declared.operator.AssignOperator.TheVariants as assign_op
use Rattle.jo_parse_tree.specs.declared.operator.BinaryOperator.TheVariants as op
use Rattle.jo_parse_tree.specs.declared.operator.UnaryOperator.TheVariants as unary_op
use Rattle.jo_parse_tree.specs.declared.word.Ident.{Ident}
use Rattle.jo_parse_tree.specs.declared.word.Name.TheVariants as word
use Rattle.jo_parse_tree.specs.declared.word.PropKey.TheVariants as prop_key
use Rattle.jo_parse_tree.specs.Trees.{Tree, number, constant, variable, group, object, cas, member, unary, delete, chain, choose, assign, no_props, prop, no_accesses, field, index, no_links, link, Binding, declares, begins, Statement, empty, block, when, either, while, for, print, print_names, evaluate, Items, no_items, declare, perform}
use Rattle.jo_parse_grammar.specs.Declarations.{undeclared, twice, faults, first_fault}

-- ---- the words of the cases

-- four identifiers, each at its place
abbrev pub ident : ℕ → ℕ → Ident
ident n place = record { text = record { 0 = n }; place = place; is_proto = false }

abbrev pub a : ℕ → Ident
a place = ident 0 place

abbrev pub b : ℕ → Ident
b place = ident 1 place

abbrev pub c : ℕ → Ident
c place = ident 2 place

abbrev pub d : ℕ → Ident
d place = ident 3 place

-- 1
abbrev pub one : Tree
one = number (pos 1)

-- a binding with an initial value, and one without
abbrev pub set : Ident → Tree → Binding
set x e = (x, Some e)

abbrev pub bare : Ident → Binding
bare x = (x, None)

-- `let` of one variable, and what follows it
abbrev pub with : Ident → Tree → Items → Items
with x e items = declare (set x e ∷ []) items

abbrev pub with_bare : Ident → Items → Items
with_bare x items = declare (bare x ∷ []) items

-- `print` of an identifier
abbrev pub show : Ident → Statement
show x = print (variable x ∷ [])

-- these statements alone
abbrev pub all : List Statement → Items
all [] = no_items
all (s ∷ statements) = perform s (all statements)

-- one statement, and what follows it
abbrev pub then : Statement → Items → Items
then s items = perform s items

-- an expression as a statement and the whole script
abbrev pub alone : Tree → Items
alone e = all (evaluate e ∷ [])

-- a property by its name
abbrev pub dot : Tree → Ident → Tree
dot e x = member e (field (word.Ident x) no_accesses)

-- `for` with a `let` in its head, and nothing else there
abbrev pub for_let : List Binding → Statement → Statement
for_let bindings s = for (declares bindings) None None s

-- ---- a use and its binding

-- print(a);
pub what_no_block_declares_is_undeclared : faults (all (show (a 6) ∷ [])) ≡ (undeclared, 6) ∷ []
what_no_block_declares_is_undeclared = refl

-- let a = 1; print(a);
pub a_use_after_its_binding_is_no_fault : faults (with (a 4) one (all (show (a 17) ∷ []))) ≡ []
a_use_after_its_binding_is_no_fault = refl

-- let a; print(a);
pub a_binding_without_a_value_binds_too : faults (with_bare (a 4) (all (show (a 13) ∷ []))) ≡ []
a_binding_without_a_value_binds_too = refl

-- print(a); let a = 1;
pub a_use_before_the_let_of_its_block_is_undeclared : faults (then (show (a 6)) (with (a 14) one no_items)) ≡ (undeclared, 6) ∷ []
a_use_before_the_let_of_its_block_is_undeclared = refl

-- let a = a;
pub a_name_in_its_own_initial_value_is_undeclared : faults (with (a 4) (variable (a 8)) no_items) ≡ (undeclared, 8) ∷ []
a_name_in_its_own_initial_value_is_undeclared = refl

-- let a = 1, b = a;
pub a_binding_has_ended_where_the_next_one_begins : faults (declare (set (a 4) one ∷ set (b 11) (variable (a 15)) ∷ []) no_items) ≡ []
a_binding_has_ended_where_the_next_one_begins = refl

-- let a = b, b = 1;
pub a_later_binding_of_the_same_let_has_not_ended : faults (declare (set (a 4) (variable (b 8)) ∷ set (b 11) one ∷ []) no_items) ≡ (undeclared, 8) ∷ []
a_later_binding_of_the_same_let_has_not_ended = refl

-- let a, b; print(b);
pub each_binding_of_a_let_declares_its_name : faults (declare (bare (a 4) ∷ bare (b 7) ∷ []) (all (show (b 16) ∷ []))) ≡ []
each_binding_of_a_let_declares_its_name = refl

-- let a; let b; print(a);
pub a_binding_that_has_ended_stays_so_after_another : faults (with_bare (a 4) (with_bare (b 11) (all (show (a 20) ∷ [])))) ≡ []
a_binding_that_has_ended_stays_so_after_another = refl

-- print(a); let a; print(a);
pub uses_on_both_sides_of_the_let_are_told_apart : faults (then (show (a 6)) (with_bare (a 14) (all (show (a 23) ∷ [])))) ≡ (undeclared, 6) ∷ []
uses_on_both_sides_of_the_let_are_told_apart = refl

-- ---- blocks

-- { let a; } print(a);
pub a_name_is_not_declared_after_its_block : faults (all (block (with_bare (a 6) no_items) ∷ show (a 17) ∷ [])) ≡ (undeclared, 17) ∷ []
a_name_is_not_declared_after_its_block = refl

-- let a; { { print(a); } }
pub blocks_inside_see_a_name_of_a_block_outside : faults (with_bare (a 4) (all (block (all (block (all (show (a 17) ∷ [])) ∷ [])) ∷ []))) ≡ []
blocks_inside_see_a_name_of_a_block_outside = refl

-- { print(a); } let a;
pub a_block_inside_does_not_see_a_later_let_outside : faults (then (block (all (show (a 8) ∷ []))) (with_bare (a 18) no_items)) ≡ (undeclared, 8) ∷ []
a_block_inside_does_not_see_a_later_let_outside = refl

-- let a = 1; { let a = 2; print(a); } print(a);
pub a_block_may_declare_a_name_of_a_block_outside : faults (with (a 4) one (all (block (with (a 17) (number (pos 2)) (all (show (a 30) ∷ []))) ∷ show (a 42) ∷ []))) ≡ []
a_block_may_declare_a_name_of_a_block_outside = refl

-- let a = 1; { print(a); let a = 2; }
pub the_inner_binding_is_meant_before_it_too : faults (with (a 4) one (all (block (then (show (a 19)) (with (a 27) (number (pos 2)) no_items)) ∷ []))) ≡ (undeclared, 19) ∷ []
the_inner_binding_is_meant_before_it_too = refl

-- let a = 1; { let a = a; }
pub the_inner_binding_is_meant_in_its_own_initial_value : faults (with (a 4) one (all (block (with (a 17) (variable (a 21)) no_items) ∷ []))) ≡ (undeclared, 21) ∷ []
the_inner_binding_is_meant_in_its_own_initial_value = refl

-- let a; { let b = a; let a; }
pub the_inner_binding_is_meant_in_a_value_of_another : faults (with_bare (a 4) (all (block (with (b 13) (variable (a 17)) (with_bare (a 24) no_items)) ∷ []))) ≡ (undeclared, 17) ∷ []
the_inner_binding_is_meant_in_a_value_of_another = refl

-- let a; { a = 1; let a; }
pub the_inner_binding_is_meant_by_a_target : faults (with_bare (a 4) (all (block (then (evaluate (assign assign_op.Set (variable (a 9)) one)) (with_bare (a 20) no_items)) ∷ []))) ≡ (undeclared, 9) ∷ []
the_inner_binding_is_meant_by_a_target = refl

-- let a; { { print(a); } let a; }
pub the_inner_binding_is_meant_in_blocks_inside_it : faults (with_bare (a 4) (all (block (then (block (all (show (a 17) ∷ []))) (with_bare (a 27) no_items)) ∷ []))) ≡ (undeclared, 17) ∷ []
the_inner_binding_is_meant_in_blocks_inside_it = refl

-- let a; { print(a); { let a; } }
pub a_block_inside_declares_nothing_for_the_one_around_it : faults (with_bare (a 4) (all (block (all (show (a 15) ∷ block (with_bare (a 25) no_items) ∷ [])) ∷ []))) ≡ []
a_block_inside_declares_nothing_for_the_one_around_it = refl

-- let a; { let a; { let a; print(a); } print(a); } print(a);
pub three_blocks_may_declare_one_name : faults (with_bare (a 4) (all (block (with_bare (a 13) (all (block (with_bare (a 22) (all (show (a 31) ∷ []))) ∷ show (a 43) ∷ []))) ∷ show (a 55) ∷ []))) ≡ []
three_blocks_may_declare_one_name = refl

-- ---- second declarations

-- let a = 1; let a = 2;
pub two_lets_of_a_block_declare_it_twice : faults (with (a 4) one (with (a 15) (number (pos 2)) no_items)) ≡ (twice, 15) ∷ []
two_lets_of_a_block_declare_it_twice = refl

-- let a, a;
pub one_let_declares_it_twice : faults (declare (bare (a 4) ∷ bare (a 7) ∷ []) no_items) ≡ (twice, 7) ∷ []
one_let_declares_it_twice = refl

-- let a, b, a;
pub another_binding_between_does_not_part_two : faults (declare (bare (a 4) ∷ bare (b 7) ∷ bare (a 10) ∷ []) no_items) ≡ (twice, 10) ∷ []
another_binding_between_does_not_part_two = refl

-- let a, a, a;
pub each_further_declaration_is_a_fault : faults (declare (bare (a 4) ∷ bare (a 7) ∷ bare (a 10) ∷ []) no_items) ≡ (twice, 7) ∷ (twice, 10) ∷ []
each_further_declaration_is_a_fault = refl

-- let a; print(a); let a;
pub the_first_binding_counts_for_a_use_between_two : faults (with_bare (a 4) (then (show (a 13)) (with_bare (a 21) no_items))) ≡ (twice, 21) ∷ []
the_first_binding_counts_for_a_use_between_two = refl

-- let a = 1; let a = a;
pub the_first_binding_counts_in_the_value_of_the_second : faults (with (a 4) one (with (a 15) (variable (a 19)) no_items)) ≡ (twice, 15) ∷ []
the_first_binding_counts_in_the_value_of_the_second = refl

-- let a; { let a; } let a;
pub statements_between_do_not_part_two_declarations : faults (with_bare (a 4) (then (block (with_bare (a 13) no_items)) (with_bare (a 22) no_items))) ≡ (twice, 22) ∷ []
statements_between_do_not_part_two_declarations = refl

-- { let a; } { let a; }
pub blocks_side_by_side_may_declare_one_name : faults (all (block (with_bare (a 6) no_items) ∷ block (with_bare (a 17) no_items) ∷ [])) ≡ []
blocks_side_by_side_may_declare_one_name = refl

-- { let a; let a; }
pub two_declarations_in_a_block_inside_are_a_fault : faults (all (block (with_bare (a 6) (with_bare (a 13) no_items)) ∷ [])) ≡ (twice, 13) ∷ []
two_declarations_in_a_block_inside_are_a_fault = refl

-- ---- two faults in order of place

-- let a = a; let a;
pub a_use_in_its_own_value_before_a_second_declaration : faults (with (a 4) (variable (a 8)) (with_bare (a 15) no_items)) ≡ (undeclared, 8) ∷ (twice, 15) ∷ []
a_use_in_its_own_value_before_a_second_declaration = refl

pub a_use_in_its_own_value_before_a_second_declaration_first : first_fault (with (a 4) (variable (a 8)) (with_bare (a 15) no_items)) ≡ Some (undeclared, 8)
a_use_in_its_own_value_before_a_second_declaration_first = refl

-- let a; let a; print(b);
pub a_second_declaration_before_a_use : faults (with_bare (a 4) (with_bare (a 11) (all (show (b 20) ∷ [])))) ≡ (twice, 11) ∷ (undeclared, 20) ∷ []
a_second_declaration_before_a_use = refl

pub a_second_declaration_before_a_use_first : first_fault (with_bare (a 4) (with_bare (a 11) (all (show (b 20) ∷ [])))) ≡ Some (twice, 11)
a_second_declaration_before_a_use_first = refl

-- print(b); let a, a;
pub a_use_before_a_second_declaration : faults (then (show (b 6)) (declare (bare (a 14) ∷ bare (a 17) ∷ []) no_items)) ≡ (undeclared, 6) ∷ (twice, 17) ∷ []
a_use_before_a_second_declaration = refl

pub a_use_before_a_second_declaration_first : first_fault (then (show (b 6)) (declare (bare (a 14) ∷ bare (a 17) ∷ []) no_items)) ≡ Some (undeclared, 6)
a_use_before_a_second_declaration_first = refl

-- let a, a = b;
pub a_second_declaration_before_its_own_value : faults (declare (bare (a 4) ∷ set (a 7) (variable (b 11)) ∷ []) no_items) ≡ (twice, 7) ∷ (undeclared, 11) ∷ []
a_second_declaration_before_its_own_value = refl

pub a_second_declaration_before_its_own_value_first : first_fault (declare (bare (a 4) ∷ set (a 7) (variable (b 11)) ∷ []) no_items) ≡ Some (twice, 7)
a_second_declaration_before_its_own_value_first = refl

-- { let a, a; } print(b);
pub a_fault_in_a_block_before_one_after_it : faults (all (block (declare (bare (a 6) ∷ bare (a 9) ∷ []) no_items) ∷ show (b 20) ∷ [])) ≡ (twice, 9) ∷ (undeclared, 20) ∷ []
a_fault_in_a_block_before_one_after_it = refl

-- ---- `for`

-- for (let a = 0; a; a += 1) print(a);
pub all_parts_of_a_for_see_what_its_head_declares : faults (all (for (declares (set (a 9) (number (pos 0)) ∷ [])) (Some (variable (a 16))) (Some (assign assign_op.Add (variable (a 19)) one)) (show (a 33)) ∷ [])) ≡ []
all_parts_of_a_for_see_what_its_head_declares = refl

-- for (let a = a; ; ) ;
pub a_name_in_its_own_value_in_a_head_is_undeclared : faults (all (for_let (set (a 9) (variable (a 13)) ∷ []) empty ∷ [])) ≡ (undeclared, 13) ∷ []
a_name_in_its_own_value_in_a_head_is_undeclared = refl

-- for (let a = 1, b = a; ; ) ;
pub a_binding_of_a_head_has_ended_where_the_next_one_begins : faults (all (for_let (set (a 9) one ∷ set (b 16) (variable (a 20)) ∷ []) empty ∷ [])) ≡ []
a_binding_of_a_head_has_ended_where_the_next_one_begins = refl

-- for (let a, a; ; ) ;
pub a_head_declares_a_name_twice : faults (all (for_let (bare (a 9) ∷ bare (a 12) ∷ []) empty ∷ [])) ≡ (twice, 12) ∷ []
a_head_declares_a_name_twice = refl

-- let a; for (let a; a; ) ;
pub a_head_may_declare_a_name_of_a_block_outside : faults (with_bare (a 4) (all (for (declares (bare (a 16) ∷ [])) (Some (variable (a 19))) None empty ∷ []))) ≡ []
a_head_may_declare_a_name_of_a_block_outside = refl

-- let a = 1; for (let a = a; ; ) ;
pub a_head_means_its_own_name_in_its_value : faults (with (a 4) one (all (for_let (set (a 20) (variable (a 24)) ∷ []) empty ∷ []))) ≡ (undeclared, 24) ∷ []
a_head_means_its_own_name_in_its_value = refl

-- for (let a; ; ) { let a; print(a); }
pub a_block_as_body_may_declare_a_name_of_the_head : faults (all (for_let (bare (a 9) ∷ []) (block (with_bare (a 22) (all (show (a 31) ∷ [])))) ∷ [])) ≡ []
a_block_as_body_may_declare_a_name_of_the_head = refl

-- for (let a; ; ) { print(a); let a; }
pub the_name_of_the_body_is_meant_before_its_let : faults (all (for_let (bare (a 9) ∷ []) (block (then (show (a 24)) (with_bare (a 32) no_items))) ∷ [])) ≡ (undeclared, 24) ∷ []
the_name_of_the_body_is_meant_before_its_let = refl

-- for ( ; a; b) { let a, b; }
pub the_body_declares_nothing_for_the_other_parts : faults (all (for (begins None) (Some (variable (a 8))) (Some (variable (b 11))) (block (declare (bare (a 20) ∷ bare (b 23) ∷ []) no_items)) ∷ [])) ≡ (undeclared, 8) ∷ (undeclared, 11) ∷ []
the_body_declares_nothing_for_the_other_parts = refl

-- for (let a; ; ) ; print(a);
pub a_name_of_a_head_is_not_declared_after_the_for : faults (all (for_let (bare (a 9) ∷ []) empty ∷ show (a 24) ∷ [])) ≡ (undeclared, 24) ∷ []
a_name_of_a_head_is_not_declared_after_the_for = refl

-- for (let a; ; ) ; for (let a; ; ) ;
pub two_heads_may_declare_one_name : faults (all (for_let (bare (a 9) ∷ []) empty ∷ for_let (bare (a 27) ∷ []) empty ∷ [])) ≡ []
two_heads_may_declare_one_name = refl

-- for (let a; ; ) for (let a; a; ) ;
pub a_head_inside_may_declare_the_name_of_the_head_outside : faults (all (for_let (bare (a 9) ∷ []) (for (declares (bare (a 25) ∷ [])) (Some (variable (a 28))) None empty) ∷ [])) ≡ []
a_head_inside_may_declare_the_name_of_the_head_outside = refl

-- for (a = 1; b; c) print(d);
pub the_parts_of_a_for_come_in_their_order : faults (all (for (begins (Some (assign assign_op.Set (variable (a 5)) one))) (Some (variable (b 12))) (Some (variable (c 15))) (show (d 24)) ∷ [])) ≡ (undeclared, 5) ∷ (undeclared, 12) ∷ (undeclared, 15) ∷ (undeclared, 24) ∷ []
the_parts_of_a_for_come_in_their_order = refl

-- ---- other statements

-- let a; while (a) { print(b); let b; }
pub a_turn_before_binds_nothing : faults (with_bare (a 4) (all (while (variable (a 14)) (block (then (show (b 25)) (with_bare (b 33) no_items))) ∷ []))) ≡ (undeclared, 25) ∷ []
a_turn_before_binds_nothing = refl

-- while (a) { let a; }
pub the_condition_of_a_loop_sees_nothing_of_its_body : faults (all (while (variable (a 7)) (block (with_bare (a 16) no_items)) ∷ [])) ≡ (undeclared, 7) ∷ []
the_condition_of_a_loop_sees_nothing_of_its_body = refl

-- let a; while (a) { let b = a; print(b); }
pub a_block_in_a_loop_sees_the_blocks_around : faults (with_bare (a 4) (all (while (variable (a 14)) (block (with (b 23) (variable (a 27)) (all (show (b 36) ∷ [])))) ∷ []))) ≡ []
a_block_in_a_loop_sees_the_blocks_around = refl

-- let a; if (a) { let b; } else { let b; }
pub the_branches_of_an_if_are_blocks_of_their_own : faults (with_bare (a 4) (all (either (variable (a 11)) (block (with_bare (b 20) no_items)) (block (with_bare (b 36) no_items)) ∷ []))) ≡ []
the_branches_of_an_if_are_blocks_of_their_own = refl

-- let a; if (a) { let b; } else { print(b); }
pub an_else_sees_nothing_of_the_branch_before_it : faults (with_bare (a 4) (all (either (variable (a 11)) (block (with_bare (b 20) no_items)) (block (all (show (b 38) ∷ []))) ∷ []))) ≡ (undeclared, 38) ∷ []
an_else_sees_nothing_of_the_branch_before_it = refl

-- if (a) print(b); else print(c);
pub the_parts_of_an_if_come_in_their_order : faults (all (either (variable (a 4)) (show (b 13)) (show (c 28)) ∷ [])) ≡ (undeclared, 4) ∷ (undeclared, 13) ∷ (undeclared, 28) ∷ []
the_parts_of_an_if_come_in_their_order = refl

-- if (a) print(b);
pub a_branch_alone_is_judged_with_its_condition : faults (all (when (variable (a 4)) (show (b 13)) ∷ [])) ≡ (undeclared, 4) ∷ (undeclared, 13) ∷ []
a_branch_alone_is_judged_with_its_condition = refl

-- print(a, b);
pub each_argument_of_print_is_judged : faults (all (print (variable (a 6) ∷ variable (b 9) ∷ []) ∷ [])) ≡ (undeclared, 6) ∷ (undeclared, 9) ∷ []
each_argument_of_print_is_judged = refl

-- printNames(a);
pub printing_names_uses_the_object : faults (all (print_names (variable (a 11)) ∷ [])) ≡ (undeclared, 11) ∷ []
printing_names_uses_the_object = refl

-- ---- what is a use

-- a = 1;
pub a_target_is_a_use : faults (alone (assign assign_op.Set (variable (a 0)) one)) ≡ (undeclared, 0) ∷ []
a_target_is_a_use = refl

-- a += b;
pub a_target_comes_before_its_value : faults (alone (assign assign_op.Add (variable (a 0)) (variable (b 5)))) ≡ (undeclared, 0) ∷ (undeclared, 5) ∷ []
a_target_comes_before_its_value = refl

-- a = 1; print(a);
pub an_assignment_declares_nothing : faults (all (evaluate (assign assign_op.Set (variable (a 0)) one) ∷ show (a 13) ∷ [])) ≡ (undeclared, 0) ∷ (undeclared, 13) ∷ []
an_assignment_declares_nothing = refl

-- a.b = 1;
pub the_object_of_a_target_is_a_use_and_its_property_none : faults (alone (assign assign_op.Set (dot (variable (a 0)) (b 2)) one)) ≡ (undeclared, 0) ∷ []
the_object_of_a_target_is_a_use_and_its_property_none = refl

-- let a; a.b;
pub the_name_of_a_property_is_no_use : faults (with_bare (a 4) (alone (dot (variable (a 7)) (b 9)))) ≡ []
the_name_of_a_property_is_no_use = refl

-- let a; a[b].c;
pub a_key_in_square_brackets_is_a_use : faults (with_bare (a 4) (alone (member (variable (a 7)) (index (variable (b 9)) (field (word.Ident (c 12)) no_accesses))))) ≡ (undeclared, 9) ∷ []
a_key_in_square_brackets_is_a_use = refl

-- a.b[c][d];
pub a_key_after_another_access_is_a_use : faults (alone (member (variable (a 0)) (field (word.Ident (b 2)) (index (variable (c 4)) (index (variable (d 7)) no_accesses))))) ≡ (undeclared, 0) ∷ (undeclared, 4) ∷ (undeclared, 7) ∷ []
a_key_after_another_access_is_a_use = refl

-- shared.a;
pub the_shared_object_is_no_use : faults (alone (dot (constant keyword.Shared) (a 7))) ≡ []
the_shared_object_is_no_use = refl

-- print({a: b, c: d});
pub the_key_of_a_literal_is_no_use_and_its_value_is_one : faults (all (print (object (prop (prop_key.Name (word.Ident (a 7))) (variable (b 10)) (prop (prop_key.Name (word.Ident (c 13))) (variable (d 16)) no_props)) false ∷ []) ∷ [])) ≡ (undeclared, 10) ∷ (undeclared, 16) ∷ []
the_key_of_a_literal_is_no_use_and_its_value_is_one = refl

-- delete a.b;
pub a_deletion_uses_the_object : faults (alone (delete (dot (variable (a 7)) (b 9)))) ≡ (undeclared, 7) ∷ []
a_deletion_uses_the_object = refl

-- delete a[b];
pub a_deletion_uses_a_key_in_square_brackets : faults (alone (delete (member (variable (a 7)) (index (variable (b 9)) no_accesses)))) ≡ (undeclared, 7) ∷ (undeclared, 9) ∷ []
a_deletion_uses_a_key_in_square_brackets = refl

-- cas(a, b, c, d);
pub each_argument_of_cas_is_judged : faults (alone (cas (variable (a 4)) (variable (b 7)) (variable (c 10)) (variable (d 13)))) ≡ (undeclared, 4) ∷ (undeclared, 7) ∷ (undeclared, 10) ∷ (undeclared, 13) ∷ []
each_argument_of_cas_is_judged = refl

-- a ? b : c;
pub the_operands_of_a_choice_come_in_their_order : faults (alone (choose (variable (a 0)) (variable (b 4)) (variable (c 8)))) ≡ (undeclared, 0) ∷ (undeclared, 4) ∷ (undeclared, 8) ∷ []
the_operands_of_a_choice_come_in_their_order = refl

-- a + b - c;
pub the_operands_of_a_chain_come_in_their_order : faults (alone (chain 7 (variable (a 0)) (link op.Plus (variable (b 4)) (link op.Minus (variable (c 8)) no_links)))) ≡ (undeclared, 0) ∷ (undeclared, 4) ∷ (undeclared, 8) ∷ []
the_operands_of_a_chain_come_in_their_order = refl

-- false && a;
pub what_is_not_evaluated_is_judged_too : faults (alone (chain 4 (constant keyword.False) (link op.And (variable (a 9)) no_links))) ≡ (undeclared, 9) ∷ []
what_is_not_evaluated_is_judged_too = refl

-- -(a);
pub a_unary_operator_and_brackets_change_nothing : faults (alone (unary unary_op.Minus (group (variable (a 2))))) ≡ (undeclared, 2) ∷ []
a_unary_operator_and_brackets_change_nothing = refl

-- nothing
pub an_empty_script_has_no_fault : faults (no_items) ≡ []
an_empty_script_has_no_fault = refl
