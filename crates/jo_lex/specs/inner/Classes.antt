-- The classes of characters that the code names, as tests.
use Rattle.std.specs.Prelude.{ℕ, Bool}
use Rattle.jo_lex.specs.declared.character.Class.{Class}
use Rattle.jo_lex.specs.declared.character.Class.TheVariants as class
use Rattle.jo_lex.specs.Characters.{is_blank, is_in_line, is_word_start, is_word_part, is_spoiler}
use Rattle.jo_value.specs.Texts.{is_digit}

-- the test that the characters of a class pass
abbrev pub test_of : Class → ℕ → Bool
test_of class.Blank = is_blank
test_of class.InLine = is_in_line
test_of class.Digit = is_digit
test_of class.WordStart = is_word_start
test_of class.WordPart = is_word_part
test_of class.Spoiler = is_spoiler
