use Rattle.std.proofs.Common.{◌==◌, List, ℕ, length, filter, sym, ap, arith}
use Rattle.std.proofs.lemmas.Bool.Decides.{nat_tests}
use Rattle.jo_parse_tree.specs.Words.{keyword_of}
use Rattle.jo_lex.specs.Words.{reserved_words}
use Rattle.jo_lex.specs.inner.Views.{ReservedRow, reserved_rows}
use Rattle.jo_lex.proofs.Lengths.{of_length-other}
use Rattle.jo_lex.proofs.reserved.of_length.Goals as goal

abbrev of_length : ℕ → List ReservedRow
of_length n = filter (λ row. length row.0 == n) reserved_rows

pub returns-in-2 : goal.returns-in-2
unfolding reserved_rows reserved_words keyword_of
returns-in-2 c = ap of_length (sym c.in-2.is)

pub returns-in-3 : goal.returns-in-3
unfolding reserved_rows reserved_words keyword_of
returns-in-3 c = ap of_length (sym c.in-3.is)

pub returns-in-4 : goal.returns-in-4
unfolding reserved_rows reserved_words keyword_of
returns-in-4 c = ap of_length (sym c.in-4.is)

pub returns-in-5 : goal.returns-in-5
unfolding reserved_rows reserved_words keyword_of
returns-in-5 c = ap of_length (sym c.in-5.is)

pub returns-in-6 : goal.returns-in-6
unfolding reserved_rows reserved_words keyword_of
returns-in-6 c = ap of_length (sym c.in-6.is)

pub returns-in-7 : goal.returns-in-7
unfolding reserved_rows reserved_words keyword_of
returns-in-7 c = ap of_length (sym c.in-7.is)

pub returns-in-8 : goal.returns-in-8
unfolding reserved_rows reserved_words keyword_of
returns-in-8 c = ap of_length (sym c.in-8.is)

pub returns-in-9 : goal.returns-in-9
unfolding reserved_rows reserved_words keyword_of
returns-in-9 c = ap of_length (sym c.in-9.is)

pub returns-in-10 : goal.returns-in-10
unfolding reserved_rows reserved_words keyword_of
returns-in-10 c = ap of_length (sym c.in-10.is)

pub returns-in_default : goal.returns-in_default
returns-in_default c = of_length-other c.args.bytes (grind (arith, nat_tests))
