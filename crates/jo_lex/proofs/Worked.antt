-- Worked cases of the lexical grammar, each shown by computing.
use Rattle.std.proofs.Common.{◌≡◌, [], ◌∷◌, length, Some, None, false, refl}
use Rattle.std.specs.Prelude.{codes, pos}
use Rattle.jo_lex.specs.declared.punct.Punct.TheVariants.{Question, Same}
use Rattle.jo_lex.specs.declared.refusal.RefusalKind.TheVariants.{BadToken, NumberTooLarge}
use Rattle.jo_lex.specs.Punctuators.{table, punctuator_of}
use Rattle.jo_lex.specs.Words.{reserved_words}
use Rattle.jo_lex.specs.Pieces.{lexeme, number, gap, fault, comment, literal_rest, decimal, judged, piece}
use Rattle.jo_lex.specs.Tokens.{IsRead, start, end_token, reached}

-- the punctuators and the reserved words are 57 each
table_has_57 : length table ≡ 57
unfolding table
table_has_57 = refl

reserved_words_are_57 : length reserved_words ≡ 57
unfolding reserved_words
reserved_words_are_57 = refl

-- the longest is taken, accepted or not
longest_of_four : punctuator_of (codes ">>>=1") ≡ Some (codes ">>>=", None)
unfolding punctuator_of table
longest_of_four = refl

three_signs : punctuator_of (codes "===") ≡ Some (codes "===", Some Same)
unfolding punctuator_of table
three_signs = refl

-- `?.` is none before a digit
before_a_digit : punctuator_of (codes "?.5") ≡ Some (codes "?", Some Question)
unfolding punctuator_of table
before_a_digit = refl

before_a_name : punctuator_of (codes "?.x") ≡ Some (codes "?.", None)
unfolding punctuator_of table
before_a_name = refl

-- after a `/`: to before the end of the line, to the first `*/`, and the star of the opening does not close it
to_the_line_end : comment (47 ∷ 97 ∷ 10 ∷ 98 ∷ []) ≡ Some (gap (10 ∷ 98 ∷ []))
to_the_line_end = refl

to_the_close : comment (codes "* **/x*/") ≡ Some (gap (codes "x*/"))
to_the_close = refl

one_star : comment (codes "*/") ≡ Some (fault BadToken)
one_star = refl

a_quotient : comment (codes "2") ≡ None
a_quotient = refl

-- what stands after a `'`: the other quote stands for itself, and so does an escaped one
quotes : literal_rest false 39 (codes "a\\'\"b'c") ≡ Some (codes "a'\"b", codes "c")
unfolding lib.Utf8.encode
quotes = refl

other_escape : literal_rest false 39 (codes "\\n'") ≡ None
other_escape = refl

over_two_lines : literal_rest false 39 (10 ∷ 39 ∷ []) ≡ None
over_two_lines = refl

line_separator : literal_rest false 39 (0x2028 ∷ 39 ∷ []) ≡ Some (0xE2 ∷ 0x80 ∷ 0xA8 ∷ [], [])
unfolding lib.Utf8.encode
line_separator = refl

-- the largest number and the next
digits : decimal 0 (codes "9007199254740992") ≡ 9007199254740992
digits = refl

the_largest : judged 9007199254740991 [] ≡ lexeme (number (pos 9007199254740991)) []
the_largest = refl

too_large : judged 9007199254740992 [] ≡ fault NumberTooLarge
too_large = refl

-- blanks and comments alone: the last token stands at their end
blanks_alone : IsRead (start 5 [] (codes " /**/ //x")) (end_token 14 ∷ []) []
unfolding reached piece lib.Utf8.encode
blanks_alone = record { ends = refl; tokens_are = refl; table_is = refl }
