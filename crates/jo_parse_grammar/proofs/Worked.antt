-- Worked cases of the grammar: which trees some terminals parse as, what each terminal counts, and which trees none
-- parse as.
use Rattle.std.proofs.Common.{refl, sym, true≢false, arith}
use Rattle.std.specs.Prelude.{◌≡◌, ℕ, zero, suc, ◌+◌, ◌≤◌, pos, true, false, List, [], ◌∷◌, ◌++◌, None, Some, replicate}
use Rattle.jo_lex.specs.declared.punct.Punct.{Punct}
use Rattle.jo_lex.specs.declared.punct.Punct.TheVariants as p
use Rattle.jo_parse_tree.specs.declared.keyword.Keyword.{Keyword}
use Rattle.jo_parse_tree.specs.declared.keyword.Keyword.TheVariants as kw
use Rattle.jo_parse_tree.specs.declared.operator.AssignOperator.TheVariants as set
use Rattle.jo_parse_tree.specs.declared.operator.BinaryOperator.TheVariants as bin
use Rattle.jo_parse_tree.specs.declared.operator.UnaryOperator.TheVariants as un
use Rattle.jo_parse_grammar.specs.declared.terminal.Terminal.TheVariants as t
use Rattle.jo_parse_tree.specs.declared.word.Ident.{Ident}
use Rattle.jo_parse_tree.specs.declared.word.Name.TheVariants as name
use Rattle.jo_parse_tree.specs.declared.word.PropKey.TheVariants as key
use Rattle.jo_parse_tree.specs.Trees.{Tree, number, constant, variable, group, object, cas, member, unary, delete, chain, choose, assign, no_props, prop, Accesses, no_accesses, field, index, no_links, link, declares, begins, Statement, empty, block, when, either, while, for, break, continue, print, print_names, evaluate, Items, no_items, declare, perform}
use Rattle.jo_parse_grammar.specs.Expressions.{Symbol, plain, punct, word, MayStand, IsExpression, spelling}
use Rattle.jo_parse_grammar.specs.Statements.{FitStatement, FitItems, FitHead, IsScript, statement}
use Rattle.jo_parse_grammar.specs.Refusals.{terms, Within, OpensTooMany}

-- The words of the cases.

-- the word with an id
abbrev pub ident : ℕ → Ident
ident n = record { text = record { 0 = n }; place = n; is_proto = false }

-- `__proto__`
abbrev proto : Ident
proto = record { text = record { 0 = 9 }; place = 9; is_proto = true }

-- five variables
abbrev pub a : Tree
a = variable (ident 0)

abbrev b : Tree
b = variable (ident 1)

abbrev c : Tree
c = variable (ident 2)

abbrev d : Tree
d = variable (ident 3)

abbrev e : Tree
e = variable (ident 4)

-- the word with an id, as a terminal
abbrev pub word_ : ℕ → Symbol
word_ n = plain (t.Ident (ident n))

-- a terminal that makes n constructs open
abbrev opening : Punct → ℕ → Symbol
opening c n = (t.Punct c, n)

-- a reserved word that makes n constructs open
abbrev opening_word : Keyword → ℕ → Symbol
opening_word w n = (t.Keyword w, n)

-- terminals that open nothing
abbrev pub round : Symbol
round = punct p.CloseParen

abbrev square : Symbol
square = punct p.CloseBracket

abbrev brace : Symbol
brace = punct p.CloseBrace

abbrev pub semicolon : Symbol
semicolon = punct p.Semicolon

abbrev colon : Symbol
colon = punct p.Colon

abbrev comma : Symbol
comma = punct p.Comma

-- the name of a variable, after a dot
abbrev dot : ℕ → Accesses → Accesses
dot n xs = field (name.Ident (ident n)) xs

-- a property of a variable
abbrev a_dot_b : Tree
a_dot_b = member a (dot 1 no_accesses)

-- `a in b`
abbrev a_in_b : Tree
a_in_b = chain 6 a (link bin.In b no_links)

-- a script of one statement
abbrev pub alone : Statement → Items
alone s = perform s no_items

-- Levels of operators.

-- `a || b && c` joins `a` with `b && c`
pub and_binds_more_tightly_than_or :
    IsExpression true 0 (chain 3 a (link bin.Or (chain 4 b (link bin.And c no_links)) no_links))
    (word_ 0 ∷ opening p.OrOr 1 ∷ word_ 1 ∷ opening p.AndAnd 2 ∷ word_ 2 ∷ [])
and_binds_more_tightly_than_or = ((omega arith, tt, (refl, λ h. refl, (omega arith, tt, (refl, λ h. refl, tt, refl)), refl)), refl)

-- `a + b * c` joins `a` with `b * c`
pub times_binds_more_tightly_than_plus :
    IsExpression true 0 (chain 7 a (link bin.Plus (chain 8 b (link bin.Times c no_links)) no_links))
    (word_ 0 ∷ opening p.Plus 1 ∷ word_ 1 ∷ opening p.Star 2 ∷ word_ 2 ∷ [])
times_binds_more_tightly_than_plus = ((omega arith, tt, (refl, λ h. refl, (omega arith, tt, (refl, λ h. refl, tt, refl)), refl)), refl)

-- `a === b < c` joins `a` with `b < c`
pub less_binds_more_tightly_than_same :
    IsExpression true 0 (chain 5 a (link bin.Same (chain 6 b (link bin.Less c no_links)) no_links))
    (word_ 0 ∷ opening p.Same 1 ∷ word_ 1 ∷ opening p.Less 2 ∷ word_ 2 ∷ [])
less_binds_more_tightly_than_same = ((omega arith, tt, (refl, λ h. refl, (omega arith, tt, (refl, λ h. refl, tt, refl)), refl)), refl)

-- in `a * b - c` the product has ended where the `-` stands
pub a_product_ends_before_a_minus :
    IsExpression true 0 (chain 7 (chain 8 a (link bin.Times b no_links)) (link bin.Minus c no_links))
    (word_ 0 ∷ opening p.Star 1 ∷ word_ 1 ∷ opening p.Minus 1 ∷ word_ 2 ∷ [])
a_product_ends_before_a_minus = ((omega arith, (omega arith, tt, (refl, λ h. refl, tt, refl)), (refl, λ h. refl, tt, refl)), refl)

-- `a - b - c` is one chain of three operands, and no more than one operator of it is open at once
pub differences_are_one_chain :
    IsExpression true 0 (chain 7 a (link bin.Minus b (link bin.Minus c no_links)))
    (word_ 0 ∷ opening p.Minus 1 ∷ word_ 1 ∷ opening p.Minus 1 ∷ word_ 2 ∷ [])
differences_are_one_chain = ((omega arith, tt, (refl, λ h. refl, tt, (refl, λ h. refl, tt, refl))), refl)

-- no chain begins with a chain of its own level
pub no_chain_begins_with_one_of_its_level :
    MayStand true 1 (chain 7 (chain 7 a (link bin.Minus b no_links)) (link bin.Minus c no_links)) → ⊥
no_chain_begins_with_one_of_its_level h = let tight : 8 ≤ 7 = h.1.0 in omega (arith, tight)

-- nor is one its right operand
pub no_right_operand_is_a_chain_of_the_level :
    MayStand true 1 (chain 7 a (link bin.Minus (chain 7 b (link bin.Minus c no_links)) no_links)) → ⊥
no_right_operand_is_a_chain_of_the_level h = let tight : 8 ≤ 7 = h.2.2.0 in omega (arith, tight)

-- no chain has one operand alone
pub no_chain_is_empty : MayStand true 1 (chain 7 a no_links) → ⊥
no_chain_is_empty h = true≢false h.2

-- no chain has an operator of another level
pub no_chain_mixes_levels : MayStand true 1 (chain 7 a (link bin.Times b no_links)) → ⊥
no_chain_mixes_levels h = let same : 8 ≡ 7 = h.2.0 in omega (arith, same)

-- `-a - b` is a difference, and the first `-` has ended where the second stands
pub a_unary_minus_ends_before_a_binary_one :
    IsExpression true 0 (chain 7 (unary un.Minus a) (link bin.Minus b no_links))
    (opening p.Minus 1 ∷ word_ 0 ∷ opening p.Minus 1 ∷ word_ 1 ∷ [])
a_unary_minus_ends_before_a_binary_one = ((omega arith, (omega arith, tt), (refl, λ h. refl, tt, refl)), refl)

-- `!-a` counts both operators
pub unary_operators_nest :
    IsExpression true 0 (unary un.Not (unary un.Minus a)) (opening p.Bang 1 ∷ opening p.Minus 2 ∷ word_ 0 ∷ [])
unary_operators_nest = ((omega arith, (omega arith, tt)), refl)

-- `!a.b` negates the property
pub a_unary_operator_takes_the_whole_property :
    IsExpression true 0 (unary un.Not a_dot_b) (opening p.Bang 1 ∷ word_ 0 ∷ punct p.Dot ∷ word_ 1 ∷ [])
a_unary_operator_takes_the_whole_property = ((omega arith, (omega arith, tt, refl)), refl)

-- Assignments and choices.

-- `a = b = c` gives `a` the value of `b = c`
pub assignments_group_to_the_right :
    IsExpression true 0 (assign set.Set a (assign set.Set b c))
    (word_ 0 ∷ opening p.Assign 1 ∷ word_ 1 ∷ opening p.Assign 2 ∷ word_ 2 ∷ [])
assignments_group_to_the_right = ((omega arith, tt, tt, (omega arith, tt, tt, tt)), refl)

-- no assignment is a target
pub no_assignment_is_a_target : MayStand true 1 (assign set.Set (assign set.Set a b) c) → ⊥
no_assignment_is_a_target h = h.1

-- `a ? b : c ? d : e` has a choice for its last operand
pub choices_group_to_the_right :
    IsExpression true 0 (choose a b (choose c d e))
    (word_ 0 ∷ opening p.Question 1 ∷ word_ 1 ∷ colon ∷ word_ 2 ∷ opening p.Question 2 ∷ word_ 3 ∷ colon ∷ word_ 4 ∷ [])
choices_group_to_the_right = ((omega arith, tt, tt, (omega arith, tt, tt, tt)), refl)

-- no choice is the condition of one
pub no_choice_is_a_condition : MayStand true 1 (choose (choose a b c) d e) → ⊥
no_choice_is_a_condition h = let tight : 3 ≤ 2 = h.1.0 in omega (arith, tight)

-- in `a ? (b) : (c)` the `?` is open in both operands
pub a_choice_is_open_in_both_operands :
    IsExpression true 0 (choose a (group b) (group c))
    (word_ 0 ∷ opening p.Question 1 ∷ opening p.OpenParen 2 ∷ word_ 1 ∷ round ∷ colon ∷ opening p.OpenParen 2 ∷ word_ 2 ∷ round ∷ [])
a_choice_is_open_in_both_operands = ((omega arith, tt, tt, tt), refl)

-- `a ? b : c = d` has an assignment for its last operand
pub an_assignment_stands_last_in_a_choice :
    IsExpression true 0 (choose a b (assign set.Set c d))
    (word_ 0 ∷ opening p.Question 1 ∷ word_ 1 ∷ colon ∷ word_ 2 ∷ opening p.Assign 2 ∷ word_ 3 ∷ [])
an_assignment_stands_last_in_a_choice = ((omega arith, tt, tt, (omega arith, tt, tt, tt)), refl)

-- `(a) = b` has no tree
pub no_group_is_a_target : MayStand true 1 (assign set.Set (group a) b) → ⊥
no_group_is_a_target h = h.1

-- `(a).b += c` has one
pub a_property_of_a_group_is_a_target :
    IsExpression true 0 (assign set.Add (member (group a) (dot 1 no_accesses)) c)
    (opening p.OpenParen 1 ∷ word_ 0 ∷ round ∷ punct p.Dot ∷ word_ 1 ∷ opening p.PlusAssign 1 ∷ word_ 2 ∷ [])
a_property_of_a_group_is_a_target = ((omega arith, tt, (omega arith, tt, refl), tt), refl)

-- Accesses.

-- `delete a.b.c` takes all of it
pub delete_takes_all_accesses :
    IsExpression true 0 (delete (member a (dot 1 (dot 2 no_accesses))))
    (opening_word kw.Delete 1 ∷ word_ 0 ∷ punct p.Dot ∷ word_ 1 ∷ punct p.Dot ∷ word_ 2 ∷ [])
delete_takes_all_accesses = ((omega arith, tt, (omega arith, tt, refl)), refl)

-- in `delete a[b = c]` all three are open at the `=`
pub a_delete_is_open_in_its_operand :
    IsExpression true 0 (delete (member a (index (assign set.Set b c) no_accesses)))
    (opening_word kw.Delete 1 ∷ word_ 0 ∷ opening p.OpenBracket 2 ∷ word_ 1 ∷ opening p.Assign 3 ∷ word_ 2 ∷ square ∷ [])
a_delete_is_open_in_its_operand = ((omega arith, tt, (omega arith, tt, ((omega arith, tt, tt, tt), refl))), refl)

-- `delete (a.b)` has no tree
pub no_delete_takes_a_group : MayStand true 1 (delete (group a_dot_b)) → ⊥
no_delete_takes_a_group h = h.1

-- nor has `delete a`
pub no_delete_takes_a_variable : MayStand true 1 (delete a) → ⊥
no_delete_takes_a_variable h = h.1

-- in `a[(b)][c]` a bracket is open until its own is closed
pub brackets_are_open_until_they_are_closed :
    IsExpression true 0 (member a (index (group b) (index c no_accesses)))
    (word_ 0 ∷ opening p.OpenBracket 1 ∷ opening p.OpenParen 2 ∷ word_ 1 ∷ round ∷ square ∷ opening p.OpenBracket 1 ∷ word_ 2 ∷ square ∷ [])
brackets_are_open_until_they_are_closed = ((omega arith, tt, (tt, (tt, refl))), refl)

-- no property is the base of one, so that accesses are one list
pub no_property_is_a_base : MayStand true 1 (member a_dot_b (dot 2 no_accesses)) → ⊥
no_property_is_a_base h = let tight : 11 ≤ 10 = h.1.0 in omega (arith, tight)

-- nor is there one without an access
pub no_property_lacks_an_access : MayStand true 1 (member a no_accesses) → ⊥
no_property_lacks_an_access h = true≢false h.2

-- `a.if` names a property by a reserved word
pub a_reserved_word_names_a_property :
    IsExpression true 0 (member a (field (name.Keyword kw.If) no_accesses)) (word_ 0 ∷ punct p.Dot ∷ word kw.If ∷ [])
a_reserved_word_names_a_property = ((omega arith, tt, refl), refl)

-- `cas(a, b, c, d).e` is a property of what the swap gives
pub a_swap_has_properties :
    IsExpression true 0 (member (cas a b c d) (dot 4 no_accesses))
    (word kw.Cas ∷ opening p.OpenParen 1 ∷ word_ 0 ∷ comma ∷ word_ 1 ∷ comma ∷ word_ 2 ∷ comma ∷ word_ 3 ∷ round ∷ punct p.Dot ∷ word_ 4 ∷ [])
a_swap_has_properties = ((omega arith, (tt, tt, tt, tt), refl), refl)

-- in `cas((shared), -a, (b), c + d)` the bracket is open in all four
pub a_swap_is_open_in_its_operands :
    IsExpression true 0 (cas (group (constant kw.Shared)) (unary un.Minus a) (group b) (chain 7 c (link bin.Plus d no_links)))
    (word kw.Cas ∷ opening p.OpenParen 1 ∷ opening p.OpenParen 2 ∷ word kw.Shared ∷ round ∷ comma ∷ opening p.Minus 2 ∷ word_ 0 ∷ comma ∷ opening p.OpenParen 2 ∷ word_ 1
    ∷ round ∷ comma ∷ word_ 2 ∷ opening p.Plus 2 ∷ word_ 3 ∷ round ∷ [])
a_swap_is_open_in_its_operands = ((refl, (omega arith, tt), tt, (omega arith, tt, (refl, λ h. refl, tt, refl))), refl)

-- Object literals.

-- `{b: a,}` ends with a comma
pub a_comma_may_stand_at_the_end :
    IsExpression true 0 (object (prop (key.Name (name.Ident (ident 1))) a no_props) true)
    (opening p.OpenBrace 1 ∷ word_ 1 ∷ colon ∷ word_ 0 ∷ comma ∷ brace ∷ [])
a_comma_may_stand_at_the_end = ((refl, tt, tt), refl)

-- in `{b: -a, c: !d}` the brace is open in both values
pub an_object_is_open_in_its_values :
    IsExpression true 0 (object (prop (key.Name (name.Ident (ident 1))) (unary un.Minus a) (prop (key.Name (name.Ident (ident 2))) (unary un.Not d) no_props)) false)
    (opening p.OpenBrace 1 ∷ word_ 1 ∷ colon ∷ opening p.Minus 2 ∷ word_ 0 ∷ comma ∷ word_ 2 ∷ colon ∷ opening p.Bang 2 ∷ word_ 3 ∷ brace ∷ [])
an_object_is_open_in_its_values = ((refl, (omega arith, tt), (refl, (omega arith, tt), tt)), refl)

-- `{,}` has no tree
pub no_comma_stands_alone : MayStand true 1 (object no_props true) → ⊥
no_comma_stands_alone h = true≢false h

-- `{if: a}` has a reserved word for its key
pub a_reserved_word_is_a_key :
    IsExpression true 0 (object (prop (key.Name (name.Keyword kw.If)) a no_props) false)
    (opening p.OpenBrace 1 ∷ word kw.If ∷ colon ∷ word_ 0 ∷ brace ∷ [])
a_reserved_word_is_a_key = ((refl, tt, tt), refl)

-- `{__proto__: a}` has no tree
pub proto_is_no_key : MayStand true 1 (object (prop (key.Name (name.Ident proto)) a no_props) false) → ⊥
proto_is_no_key h = true≢false h.0

-- nor has `{"__proto__": a}`, also after another property
pub proto_is_no_key_as_a_text :
    MayStand true 1 (object (prop (key.Number (pos 1)) a (prop (key.Text (record { text = record { 0 = 9 }; is_proto = true })) a no_props)) false) → ⊥
proto_is_no_key_as_a_text h = true≢false h.2.0

-- `a.__proto__` has one
pub proto_is_a_name_after_a_dot :
    IsExpression true 0 (member a (field (name.Ident proto) no_accesses)) (word_ 0 ∷ punct p.Dot ∷ plain (t.Ident proto) ∷ [])
proto_is_a_name_after_a_dot = ((omega arith, tt, refl), refl)

-- `else`.

-- `if (a)` with an `if (b)` that has no `else`, and the other way round
abbrev else_inside : Statement
else_inside = when a (either b empty empty)

abbrev else_outside : Statement
else_outside = either a (when b empty) empty

-- `if (a) if (b) ; else ;` gives the `else` to the inner `if`
pub an_else_belongs_to_the_nearest_if :
    IsScript (alone else_inside)
    (opening_word kw.If 1 ∷ opening p.OpenParen 2 ∷ word_ 0 ∷ round ∷ opening_word kw.If 2 ∷ opening p.OpenParen 3 ∷ word_ 1 ∷ round ∷ semicolon ∷ word kw.Else ∷ semicolon ∷ [])
an_else_belongs_to_the_nearest_if = (((tt, (tt, tt, tt, tt)), tt), refl)

-- and not to the outer one
pub no_else_belongs_to_an_outer_if : FitStatement false else_outside → ⊥
no_else_belongs_to_an_outer_if h = h.2

-- although both trees have the same symbols
pub both_trees_are_spelled_alike : statement 0 else_outside ≡ statement 0 else_inside
both_trees_are_spelled_alike = refl

-- `if (a) while (b) if (c) ; else ;` gives the `else` to the `if` inside the loop
pub an_else_goes_into_a_loop :
    IsScript (alone (when a (while b (either c empty empty))))
    (opening_word kw.If 1 ∷ opening p.OpenParen 2 ∷ word_ 0 ∷ round ∷ opening_word kw.While 2 ∷ opening p.OpenParen 3 ∷ word_ 1 ∷ round
    ∷ opening_word kw.If 3 ∷ opening p.OpenParen 4 ∷ word_ 2 ∷ round ∷ semicolon ∷ word kw.Else ∷ semicolon ∷ [])
an_else_goes_into_a_loop = (((tt, (tt, (tt, tt, tt, tt))), tt), refl)

-- and not to the one before the loop
pub no_else_passes_a_loop : FitStatement false (either a (while b (when c empty)) empty) → ⊥
no_else_passes_a_loop h = h.2

-- nor to one before another loop
pub no_else_passes_a_for : FitStatement false (either a (for (begins None) None None (when c empty)) empty) → ⊥
no_else_passes_a_for h = h.2

-- nor past the `else` of another `if`
pub no_else_passes_an_else : FitStatement false (either a (either b empty (when c empty)) empty) → ⊥
no_else_passes_an_else h = h.2

-- in `if (a) { if (b) ; } else ;` the `else` belongs to the outer one
pub braces_keep_an_else_outside :
    IsScript (alone (either a (block (alone (when b empty))) empty))
    (opening_word kw.If 1 ∷ opening p.OpenParen 2 ∷ word_ 0 ∷ round ∷ opening p.OpenBrace 2 ∷ opening_word kw.If 3 ∷ opening p.OpenParen 4 ∷ word_ 1 ∷ round ∷ semicolon ∷ brace
    ∷ word kw.Else ∷ semicolon ∷ [])
braces_keep_an_else_outside = (((tt, ((tt, tt), tt), tt, tt), tt), refl)

-- in `if (a) ; else if (b) ;` the second `if` stands in the first
pub an_else_if_is_open_twice :
    IsScript (alone (either a empty (when b empty)))
    (opening_word kw.If 1 ∷ opening p.OpenParen 2 ∷ word_ 0 ∷ round ∷ semicolon ∷ word kw.Else ∷ opening_word kw.If 2 ∷ opening p.OpenParen 3 ∷ word_ 1 ∷ round ∷ semicolon ∷ [])
an_else_if_is_open_twice = (((tt, tt, tt, (tt, tt)), tt), refl)

-- in `if (a) ; {}` the `if` has ended where the brace stands
pub an_if_ends_before_the_next_statement :
    IsScript (perform (when a empty) (perform (block no_items) no_items))
    (opening_word kw.If 1 ∷ opening p.OpenParen 2 ∷ word_ 0 ∷ round ∷ semicolon ∷ opening p.OpenBrace 1 ∷ brace ∷ [])
an_if_ends_before_the_next_statement = (((tt, tt), (tt, tt)), refl)

-- Declarations and the heads of loops.

-- the `=` in `let a = (b), c;` is open up to the comma, and `let` opens nothing
pub a_declaration_opens_a_construct_at_its_sign :
    IsScript (declare ((ident 0, Some (group b)) ∷ (ident 2, None) ∷ []) no_items)
    (word kw.Let ∷ word_ 0 ∷ opening p.Assign 1 ∷ opening p.OpenParen 2 ∷ word_ 1 ∷ round ∷ comma ∷ word_ 2 ∷ semicolon ∷ [])
a_declaration_opens_a_construct_at_its_sign = (((tt, (tt, refl)), tt), refl)

-- `let c = a in b;` has an `in` outside brackets
pub a_declaration_may_have_an_in :
    IsScript (declare ((ident 2, Some a_in_b) ∷ []) no_items)
    (word kw.Let ∷ word_ 2 ∷ opening p.Assign 1 ∷ word_ 0 ∷ opening_word kw.In 2 ∷ word_ 1 ∷ semicolon ∷ [])
a_declaration_may_have_an_in = ((((omega arith, tt, (refl, λ h. refl, tt, refl)), refl), tt), refl)

-- `let;` has no tree
pub no_declaration_is_empty : FitItems false (declare [] no_items) → ⊥
no_declaration_is_empty h = true≢false h.0

-- nor has `for (let; ; ) ;`
pub no_head_declares_nothing : FitHead (declares []) → ⊥
no_head_declares_nothing h = true≢false h

-- `for (let a = b; a < c; a += d) ;` has all three parts
pub a_loop_has_a_head_of_three_parts :
    IsScript (alone (for (declares ((ident 0, Some b) ∷ [])) (Some (chain 6 a (link bin.Less c no_links))) (Some (assign set.Add a d)) empty))
    (opening_word kw.For 1 ∷ opening p.OpenParen 2 ∷ word kw.Let ∷ word_ 0 ∷ opening p.Assign 3 ∷ word_ 1 ∷ semicolon ∷ word_ 0 ∷ opening p.Less 3 ∷ word_ 2 ∷ semicolon
    ∷ word_ 0 ∷ opening p.PlusAssign 3 ∷ word_ 3 ∷ round ∷ semicolon ∷ [])
a_loop_has_a_head_of_three_parts = ((((tt, refl), (omega arith, tt, (refl, λ h. refl, tt, refl)), (omega arith, tt, tt, tt), tt), tt), refl)

-- `for (;;) break;` has none of them
pub a_head_may_be_empty :
    IsScript (alone (for (begins None) None None break))
    (opening_word kw.For 1 ∷ opening p.OpenParen 2 ∷ semicolon ∷ semicolon ∷ round ∷ word kw.Break ∷ semicolon ∷ [])
a_head_may_be_empty = (((tt, tt, tt, refl), tt), refl)

-- `for ({}; a; ) ;` may begin with a brace
pub a_head_may_begin_with_a_brace :
    IsScript (alone (for (begins (Some (object no_props false))) (Some a) None empty))
    (opening_word kw.For 1 ∷ opening p.OpenParen 2 ∷ opening p.OpenBrace 3 ∷ brace ∷ semicolon ∷ word_ 0 ∷ semicolon ∷ round ∷ semicolon ∷ [])
a_head_may_begin_with_a_brace = (((refl, tt, tt, tt), tt), refl)

-- `for (let c = a in b; ; ) ;` has no tree
pub no_in_stands_in_the_first_part : FitHead (declares ((ident 2, Some a_in_b) ∷ [])) → ⊥
no_in_stands_in_the_first_part h = true≢false (sym (h.0.2.1 refl))

-- nor has `for (c ? a in b : d; ; ) ;`
pub no_in_stands_in_a_choice_there : FitHead (begins (Some (choose c a_in_b d))) → ⊥
no_in_stands_in_a_choice_there h = true≢false (sym (h.2.2.1 refl))

-- `for (let c = (a in b); ; ) ;` has one
pub an_in_may_stand_in_brackets_there :
    IsScript (alone (for (declares ((ident 2, Some (group a_in_b)) ∷ [])) None None empty))
    (opening_word kw.For 1 ∷ opening p.OpenParen 2 ∷ word kw.Let ∷ word_ 2 ∷ opening p.Assign 3 ∷ opening p.OpenParen 4 ∷ word_ 0 ∷ opening_word kw.In 5 ∷ word_ 1 ∷ round ∷ semicolon
    ∷ semicolon ∷ round ∷ semicolon ∷ [])
an_in_may_stand_in_brackets_there = (((((omega arith, tt, (refl, λ h. refl, tt, refl)), refl), tt, tt, tt), tt), refl)

-- so has `for ({c: a in b}[d]; a in b; a in b) ;`
pub an_in_may_stand_in_the_other_parts :
    FitStatement false (for (begins (Some (member (object (prop (key.Name (name.Ident (ident 2))) a_in_b no_props) false) (index d no_accesses)))) (Some a_in_b) (Some a_in_b) empty)
an_in_may_stand_in_the_other_parts =
    let free : MayStand true 1 a_in_b = (omega arith, tt, (refl, λ h. refl, tt, refl)) in ((omega arith, (refl, free, tt), (tt, refl)), free, free, tt)

-- so may it in all four operands of a swap in the first part
pub an_in_may_stand_in_a_swap_there : FitHead (begins (Some (cas a_in_b a_in_b a_in_b a_in_b)))
an_in_may_stand_in_a_swap_there =
    let free : MayStand true 1 a_in_b = (omega arith, tt, (refl, λ h. refl, tt, refl)) in (free, free, free, free)

-- Loops and what leaves them.

-- in `while (!a) if (!b) printNames((c)); else if (!d) ;` a statement and its bracket are open in the condition, and the statement alone after it
pub a_condition_is_two_constructs_deep :
    IsScript (alone (while (unary un.Not a) (either (unary un.Not b) (print_names (group c)) (when (unary un.Not d) empty))))
    (opening_word kw.While 1 ∷ opening p.OpenParen 2 ∷ opening p.Bang 3 ∷ word_ 0 ∷ round ∷ opening_word kw.If 2 ∷ opening p.OpenParen 3 ∷ opening p.Bang 4 ∷ word_ 1 ∷ round
    ∷ word kw.PrintNames ∷ opening p.OpenParen 3 ∷ opening p.OpenParen 4 ∷ word_ 2 ∷ round ∷ round ∷ semicolon
    ∷ word kw.Else ∷ opening_word kw.If 3 ∷ opening p.OpenParen 4 ∷ opening p.Bang 5 ∷ word_ 3 ∷ round ∷ semicolon ∷ [])
a_condition_is_two_constructs_deep = ((((omega arith, tt), ((omega arith, tt), tt, tt, ((omega arith, tt), tt))), tt), refl)

-- `while (a) { break; }` leaves the loop out of a block
pub a_block_in_a_loop_may_have_a_break :
    IsScript (alone (while a (block (alone break))))
    (opening_word kw.While 1 ∷ opening p.OpenParen 2 ∷ word_ 0 ∷ round ∷ opening p.OpenBrace 2 ∷ word kw.Break ∷ semicolon ∷ brace ∷ [])
a_block_in_a_loop_may_have_a_break = (((tt, (refl, tt)), tt), refl)

-- `break;` alone has no tree
pub no_break_stands_outside_a_loop : FitItems false (alone break) → ⊥
no_break_stands_outside_a_loop h = true≢false (sym h.0)

-- nor has `if (a) continue;`
pub no_if_is_a_loop : FitItems false (alone (when a continue)) → ⊥
no_if_is_a_loop h = true≢false (sym h.0.1)

-- nor `while (a) ; break;`
pub no_break_stands_after_a_loop : FitItems false (perform (while a empty) (perform break no_items)) → ⊥
no_break_stands_after_a_loop h = true≢false (sym h.1.0)

-- Statements that are expressions.

-- `{};` is a block and an empty statement
pub braces_at_the_start_are_a_block :
    IsScript (perform (block no_items) (perform empty no_items)) (opening p.OpenBrace 1 ∷ brace ∷ semicolon ∷ [])
braces_at_the_start_are_a_block = ((tt, (tt, tt)), refl)

-- and no object
pub no_statement_is_an_object : FitStatement false (evaluate (object no_props false)) → ⊥
no_statement_is_an_object h = h.1 refl

-- `{}.a = b;` has no tree
pub no_statement_begins_with_an_object :
    FitStatement false (evaluate (assign set.Set (member (object no_props false) (dot 0 no_accesses)) b)) → ⊥
no_statement_begins_with_an_object h = h.1 refl

-- `({});` is an object
pub an_object_in_brackets_is_a_statement :
    IsScript (alone (evaluate (group (object no_props false)))) (opening p.OpenParen 1 ∷ opening p.OpenBrace 2 ∷ brace ∷ round ∷ semicolon ∷ [])
an_object_in_brackets_is_a_statement = (((refl, λ h. cc), tt), refl)

-- so is the one in `print({}, a);`
pub an_argument_may_begin_with_a_brace :
    IsScript (alone (print (object no_props false ∷ a ∷ [])))
    (word kw.Print ∷ opening p.OpenParen 1 ∷ opening p.OpenBrace 2 ∷ brace ∷ comma ∷ word_ 0 ∷ round ∷ semicolon ∷ [])
an_argument_may_begin_with_a_brace = (((refl, (tt, tt)), tt), refl)

-- The limit of open constructs.

-- a variable in n pairs of brackets
abbrev pub deep : ℕ → Tree
deep zero = a
deep (suc n) = group (deep n)

-- n brackets, of which each counts one more
abbrev pub opened : ℕ → ℕ → List Symbol
opened from zero = []
opened from (suc n) = opening p.OpenParen (from + 1) ∷ opened (from + 1) n

-- n conditions before an empty statement
abbrev ifs : ℕ → Statement
ifs zero = empty
ifs (suc n) = when (number (pos 1)) (ifs n)

-- the terminals of the conditions
abbrev conditions : ℕ → ℕ → List Symbol
conditions from zero = []
conditions from (suc n) =
    opening_word kw.If (from + 1) ∷ opening p.OpenParen (from + 1 + 1) ∷ plain (t.Number (pos 1)) ∷ round ∷ conditions (from + 1) n

-- what keeps within the limit does so with what keeps within it after
within_both : (limit : ℕ) (m n : List Symbol) → Within limit m → Within limit n → Within limit (m ++ n)
within_both limit [] n f g = g
within_both limit (x ∷ m) n f g = (f.0, within_both limit m n f.1 g)

deep_within : (limit from n : ℕ) → from + n ≤ limit → Within limit (spelling from (deep n))
deep_within limit from zero h = (omega arith, tt)
deep_within limit from (suc n) h =
    (omega (arith, h), within_both limit (spelling (from + 1) (deep n)) (round ∷ []) (deep_within limit (from + 1) n (omega (arith, h))) (omega arith, tt))

-- what keeps within the limit does so up to each of its terminals
within_front : (limit : ℕ) (m n : List Symbol) → Within limit (m ++ n) → Within limit m
within_front limit [] n h = tt
within_front limit (x ∷ m) n h = (h.0, within_front limit m n h.1)

deep_past : (limit from n : ℕ) → from ≤ limit → limit + 1 ≤ from + n → Within limit (spelling from (deep n)) → ⊥
deep_past limit from zero low high h = omega (arith, low, high)
deep_past limit from (suc n) low high h =
    deep_past limit (from + 1) n h.0 (omega (arith, high)) (within_front limit (spelling (from + 1) (deep n)) (round ∷ []) h.1)

pub opened_within : (limit from n : ℕ) → from + n ≤ limit → Within limit (opened from n)
opened_within limit from zero h = tt
opened_within limit from (suc n) h = (omega (arith, h), opened_within limit (from + 1) n (omega (arith, h)))

ifs_within : (limit from n : ℕ) → from + n + 1 ≤ limit → Within limit (statement from (ifs n))
ifs_within limit from zero h = (omega arith, tt)
ifs_within limit from (suc n) h =
    (omega (arith, h), (omega (arith, h), (omega arith, (omega arith, ifs_within limit (from + 1) n (omega (arith, h))))))

conditions_within : (limit from n : ℕ) → from + n + 1 ≤ limit → Within limit (conditions from n)
conditions_within limit from zero h = tt
conditions_within limit from (suc n) h =
    (omega (arith, h), (omega (arith, h), (omega arith, (omega arith, conditions_within limit (from + 1) n (omega (arith, h))))))

pub deep_fits : (n : ℕ) → MayStand true 1 (deep n)
deep_fits zero = tt
deep_fits (suc n) = deep_fits n

ifs_fit : (n : ℕ) → FitStatement false (ifs n)
ifs_fit zero = tt
ifs_fit (suc n) = (tt, ifs_fit n)

-- 64 brackets are within the limit
pub sixty_four_brackets_are_within_the_limit : Within 64 (spelling 0 (deep 64))
sixty_four_brackets_are_within_the_limit = deep_within 64 0 64 (omega arith)

-- 65 are not
pub sixty_five_brackets_are_past_the_limit : Within 64 (spelling 0 (deep 65)) → ⊥
sixty_five_brackets_are_past_the_limit = deep_past 64 0 65 (omega arith) (omega arith)

-- and the 65th of them is the one too many
pub the_65th_bracket_is_too_many :
    OpensTooMany (IsExpression true 0) 64 (replicate 64 (t.Punct p.OpenParen)) (t.Punct p.OpenParen ∷ [])
the_65th_bracket_is_too_many =
    (deep 65, opened 0 64, 65, word_ 0 ∷ replicate 65 round, (deep_fits 65, refl), refl, opened_within 64 0 64 (omega arith), omega arith)

-- 63 times `if (1)` is within the limit
pub sixty_three_conditions_are_within_the_limit : Within 64 (statement 0 (ifs 63))
sixty_three_conditions_are_within_the_limit = ifs_within 64 0 63 (omega arith)

-- so is the 64th `if`, and its bracket is too many
pub the_bracket_of_the_64th_if_is_too_many :
    OpensTooMany IsScript 64 (terms (conditions 0 63) ++ t.Keyword kw.If ∷ []) (t.Punct p.OpenParen ∷ [])
the_bracket_of_the_64th_if_is_too_many = (
  alone (ifs 64),
  conditions 0 63 ++ opening_word kw.If 64 ∷ [],
  65,
  plain (t.Number (pos 1)) ∷ round ∷ semicolon ∷ [],
  ((ifs_fit 64, tt), refl),
  refl,
  within_both 64 (conditions 0 63) (opening_word kw.If 64 ∷ []) (conditions_within 64 0 63 (omega arith)) (omega arith, tt),
  omega arith,
)
