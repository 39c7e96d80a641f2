-- Worked cases of soundness for a table: each part of it alone, and whole scripts.
use Rattle.std.proofs.Common.{refl, sym, true≢false, lit<, lit≤, arith}
use Rattle.std.specs.Prelude.{◌≡◌, ℕ, zero, suc, ◌+◌, ◌≤◌, ◌<◌, pos, negsuc, false, List, [], ◌∷◌, length, codes}
use Rattle.jo_value.specs.Texts.{Table}
use Rattle.jo_parse_tree.specs.declared.keyword.Keyword.TheVariants as keyword
use Rattle.jo_parse_tree.specs.declared.word.Literal.{Literal}
use Rattle.jo_parse_tree.specs.declared.word.Name.TheVariants as word
use Rattle.jo_parse_tree.specs.declared.word.PropKey.TheVariants as prop_key
use Rattle.jo_parse_tree.specs.declared.operator.UnaryOperator.TheVariants.{Minus}
use Rattle.jo_parse_tree.specs.Trees.{Tree, literal, variable, object, member, unary, chain, Props, no_props, prop, Accesses, no_accesses, field, index, Links, Binding, empty, block, break, print, Items, no_items, declare}
use Rattle.jo_parse_grammar.specs.Statements.{items}
use Rattle.jo_parse_grammar.specs.Refusals.{Within}
use Rattle.jo_parse_grammar.specs.Declarations.{Found, undeclared}
use Rattle.jo_value.specs.declared.limits.TheConstants.{MOST_INPUT, MOST_OPEN}
use Rattle.jo_parse_grammar.specs.Sound.{IsInRange, count_of_props, count_of_accesses, count_of_links, count_of_items, IsInTable, IsNamed, IsKeyed, Suits, SuitsStatement, SuitItems, IsSound}
use Rattle.jo_parse_grammar.proofs.WorkedNames.{ident, a, one, with, show, all, alone, dot, for_let}

-- the table of the cases
abbrev pub texts : Table
texts = codes "a" ∷ codes "b" ∷ codes "if" ∷ []

-- ---- numbers

pub zero_is_in_range : IsInRange (pos 0)
zero_is_in_range = lit≤ tt

pub the_largest_number_is_in_range : IsInRange (pos 9007199254740991)
the_largest_number_is_in_range = lit≤ tt

pub one_more_is_not : IsInRange (pos 9007199254740992) → ⊥
one_more_is_not h = let most : 9007199254740992 ≤ 9007199254740991 = h in omega (arith, most)

pub no_negative_number_is : IsInRange (negsuc 0) → ⊥
no_negative_number_is h = h

pub a_key_is_in_range_too : IsKeyed texts (prop_key.Number (pos 9007199254740992)) → ⊥
a_key_is_in_range_too h = one_more_is_not h

-- ---- texts and names

-- a variable and a text with the id after the last
abbrev pub past : Literal
past = record { text = record { 0 = 3 }; is_proto = false }

pub the_last_text_is_in_the_table : IsInTable texts (record { 0 = 2 })
the_last_text_is_in_the_table = lit< tt

pub a_variable_past_the_table_is_not : Suits texts (variable (ident 3 0)) → ⊥
a_variable_past_the_table_is_not h = let less : 3 < 3 = h in omega (arith, less)

pub a_text_past_the_table_is_not : Suits texts (literal past) → ⊥
a_text_past_the_table_is_not h = let less : 3 < 3 = h in omega (arith, less)

pub a_property_past_the_table_is_not : Suits texts (dot (variable (a 0)) (ident 3 2)) → ⊥
a_property_past_the_table_is_not h = let less : 3 < 3 = h.2.0 in omega (arith, less)

pub a_key_past_the_table_is_not : Suits texts (object (prop (prop_key.Text past) one no_props) false) → ⊥
a_key_past_the_table_is_not h = let less : 3 < 3 = h.1.0 in omega (arith, less)

pub a_reserved_word_is_in_the_table_as_its_text : IsNamed texts (word.Keyword keyword.If)
a_reserved_word_is_in_the_table_as_its_text = lit< tt

pub another_one_is_not : IsNamed texts (word.Keyword keyword.While) → ⊥
another_one_is_not h = let less : 3 < 3 = h in omega (arith, less)

-- ---- whole scripts

-- nothing, for a table without texts
pub an_empty_script_is_sound : IsSound [] no_items
an_empty_script_is_sound = record { grammar = tt; depth = tt; entries = lit≤ tt; parts = tt; names = refl }

-- let a = 1; print(a.if, a["b"]);
abbrev script : Items
script =
    with (a 4) one (all (
    print (
    member (variable (a 17)) (field (word.Keyword keyword.If) no_accesses)
    ∷ member (variable (a 23)) (index (literal (record { text = record { 0 = 1 }; is_proto = false })) no_accesses)
    ∷ []
    )
    ∷ []
    ))

pub a_script_is_sound_for_a_table_with_its_texts : IsSound texts script
a_script_is_sound_for_a_table_with_its_texts = record {
  grammar = ((tt, refl), (((lit≤ tt, tt, refl), ((lit≤ tt, tt, (tt, refl)), tt)), tt));
  depth = (lit≤ tt, (lit≤ tt, (lit≤ tt, (lit≤ tt, (lit≤ tt, (lit≤ tt, (lit≤ tt, (lit≤ tt, (lit≤ tt, (lit≤ tt, (lit≤ tt, (lit≤ tt, (lit≤ tt, (lit≤ tt, (lit≤ tt, (lit≤ tt, (lit≤ tt, tt)))))))))))))))));
  entries = lit≤ tt;
  parts = ((lit≤ tt, (lit< tt, lit≤ tt, tt)), ((lit≤ tt, ((lit< tt, lit≤ tt, (lit< tt, tt)), ((lit< tt, lit≤ tt, (lit< tt, tt)), tt))), tt));
  names = refl;
}

pub it_is_not_for_a_table_without_them : IsSound (codes "a" ∷ codes "b" ∷ []) script → ⊥
it_is_not_for_a_table_without_them h = let less : 2 < 2 = h.parts.1.0.1.0.2.0 in omega (arith, less)

one_fault_is_not_none : (found : Found) (more : List Found) → found ∷ more ≡ [] → ⊥
one_fault_is_not_none found more same = cc

-- print(a);
pub a_script_with_a_fault_of_names_is_not_sound : IsSound texts (all (show (a 6) ∷ [])) → ⊥
a_script_with_a_fault_of_names_is_not_sound h = one_fault_is_not_none (undeclared, 6) [] h.names

-- break;
pub a_break_outside_loops_is_not_sound : IsSound texts (all (break ∷ [])) → ⊥
a_break_outside_loops_is_not_sound h = true≢false (sym h.grammar.0)

-- ---- open constructs

-- n minus signs before 1
abbrev minuses : ℕ → Tree
minuses zero = one
minuses (suc n) = unary Minus (minuses n)

few : (from n : ℕ) → from + n ≤ 64 → Within MOST_OPEN (items from (alone (minuses n)))
few from zero h = (lit≤ tt, (lit≤ tt, tt))
few from (suc n) h = (omega (arith, h), few (from + 1) n (omega (arith, h)))

many : (from n : ℕ) → from ≤ 64 → 64 < from + n → Within MOST_OPEN (items from (alone (minuses n))) → ⊥
many from zero h k w = omega (arith, h, k)
many from (suc n) h k w = let here : from + 1 ≤ 64 = w.0 in many (from + 1) n here (omega (arith, k)) w.1

pub sixty_four_open_constructs_are_few_enough : Within MOST_OPEN (items 0 (alone (minuses 64)))
sixty_four_open_constructs_are_few_enough = few 0 64 (omega arith)

pub sixty_five_are_not : (table : Table) → IsSound table (alone (minuses 65)) → ⊥
sixty_five_are_not table h = many 0 65 (omega arith) (omega arith) h.depth

-- ---- long lists, for any table

too_long : (n : ℕ) → 1048576 < n → n ≤ MOST_INPUT → ⊥
too_long n more most = let few_enough : n ≤ 1048576 = most in omega (arith, more, few_enough)

pub a_list_of_the_MOST_INPUT_is_short_enough : 1048576 ≤ MOST_INPUT
a_list_of_the_MOST_INPUT_is_short_enough = lit≤ tt

pub a_script_has_too_many_items : (table : Table) (whole : Items) → 1048576 < count_of_items whole → IsSound table whole → ⊥
a_script_has_too_many_items table whole more h = too_long _ more h.entries

pub a_block_has_too_many_items : (table : Table) (within : Items) → 1048576 < count_of_items within → SuitsStatement table (block within) → ⊥
a_block_has_too_many_items table within more h = too_long _ more h.0

pub a_let_has_too_many_bindings : (table : Table) (bindings : List Binding) → 1048576 < length bindings → SuitItems table (declare bindings no_items) → ⊥
a_let_has_too_many_bindings table bindings more h = too_long _ more h.0.0

pub a_head_has_too_many_bindings : (table : Table) (bindings : List Binding) → 1048576 < length bindings → SuitsStatement table (for_let bindings empty) → ⊥
a_head_has_too_many_bindings table bindings more h = too_long _ more h.0.0

pub a_print_has_too_many_arguments : (table : Table) (es : List Tree) → 1048576 < length es → SuitsStatement table (print es) → ⊥
a_print_has_too_many_arguments table es more h = too_long _ more h.0

pub a_literal_has_too_many_properties : (table : Table) (props : Props) → 1048576 < count_of_props props → Suits table (object props false) → ⊥
a_literal_has_too_many_properties table props more h = too_long _ more h.0

pub an_expression_has_too_many_accesses : (table : Table) (reached : Accesses) → 1048576 < count_of_accesses reached → Suits table (member one reached) → ⊥
an_expression_has_too_many_accesses table reached more h = too_long _ more h.1

pub a_chain_has_too_many_operands : (table : Table) (links : Links) → 1048576 < count_of_links links → Suits table (chain 7 one links) → ⊥
a_chain_has_too_many_operands table links more h = too_long _ more h.1
