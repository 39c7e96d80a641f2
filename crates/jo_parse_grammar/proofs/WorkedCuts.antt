-- Worked cases of the cutting, each shown by computing.
use Rattle.std.proofs.Common.{◌≡◌, ℕ, List, [], ◌∷◌, refl}
use Rattle.std.specs.Prelude.{codes}
use Rattle.jo_parse_grammar.specs.Cuts.{Section, lines_of, sections_from, sections_of}

abbrev at : ℕ → List ℕ → Section
at start input = record { start = start; input = input }

an_empty_text_is_one_script : sections_of [] ≡ at 0 [] ∷ []
unfolding lines_of sections_from
an_empty_text_is_one_script = refl

a_separator_alone_is_two : sections_of (codes "%%") ≡ at 0 [] ∷ at 2 [] ∷ []
unfolding lines_of sections_from
a_separator_alone_is_two = refl

its_line_feed_belongs_to_it : sections_of (codes "%%\n") ≡ at 0 [] ∷ at 3 [] ∷ []
unfolding lines_of sections_from
its_line_feed_belongs_to_it = refl

its_carriage_return_belongs_to_it : sections_of (codes "%%\r\na") ≡ at 0 [] ∷ at 4 (codes "a") ∷ []
unfolding lines_of sections_from
its_carriage_return_belongs_to_it = refl

a_carriage_return_ends_the_text : sections_of (codes "%%\r") ≡ at 0 [] ∷ at 3 [] ∷ []
unfolding lines_of sections_from
a_carriage_return_ends_the_text = refl

with_a_blank_after_it_is_none : sections_of (codes "%% ") ≡ at 0 (codes "%% ") ∷ []
unfolding lines_of sections_from
with_a_blank_after_it_is_none = refl

with_a_blank_before_it_is_none : sections_of (codes " %%") ≡ at 0 (codes " %%") ∷ []
unfolding lines_of sections_from
with_a_blank_before_it_is_none = refl

three_signs_are_none : sections_of (codes "%%%") ≡ at 0 (codes "%%%") ∷ []
unfolding lines_of sections_from
three_signs_are_none = refl

one_line_each : sections_of (codes "a\n%%\nb") ≡ at 0 (codes "a\n") ∷ at 5 (codes "b") ∷ []
unfolding lines_of sections_from
one_line_each = refl

a_comment_hides_none : sections_of (codes "/*\n%%\n*/") ≡ at 0 (codes "/*\n") ∷ at 6 (codes "*/") ∷ []
unfolding lines_of sections_from
a_comment_hides_none = refl

a_carriage_return_begins_no_line : sections_of (codes "a\r%%\nb") ≡ at 0 (codes "a\r%%\nb") ∷ []
unfolding lines_of sections_from
a_carriage_return_begins_no_line = refl
