-- The characters of a script (ECMA-262, Source Text, White Space, Line Terminators and Names).
use Rattle.std.specs.Prelude.{◌≡◌, ℕ, Bool, false, not, ◌&&◌, ◌||◌, ◌==◌, nat_le, List, [], ◌∷◌, ◌++◌, length, if◌then◌else◌}
use Rattle.std.specs.Str.{encode_utf8_all}
use Rattle.jo_value.specs.Texts.{is_digit}
use Rattle.unicode_ident.specs.Ident.{is_xid_start, is_xid_continue}

-- a script, or what is left of it, as its characters
abbrev pub Characters : Type 0
Characters = List ℕ

-- how many bytes the characters take
abbrev pub size : Characters → ℕ
size cs = length (encode_utf8_all cs)

-- the line feed, the carriage return, and the separators of lines and of paragraphs
abbrev pub is_line_end : ℕ → Bool
is_line_end c = c == 0x0A || c == 0x0D || c == 0x2028 || c == 0x2029

-- the tab, the vertical tab, the form feed, the spaces, and the byte order mark
abbrev pub is_space : ℕ → Bool
is_space c = c == 0x20 || c == 0x09 || c == 0x0B || c == 0x0C || c == 0xA0 || c == 0x1680 || nat_le 0x2000 c && nat_le c 0x200A || c == 0x202F || c == 0x205F || c == 0x3000 || c == 0xFEFF

-- what stands between two tokens
abbrev pub is_blank : ℕ → Bool
is_blank c = is_space c || is_line_end c

-- what does not end a line
abbrev pub is_in_line : ℕ → Bool
is_in_line c = not (is_line_end c)

-- the two joiners, which are in no word whatever Unicode says of them
abbrev pub is_joiner : ℕ → Bool
is_joiner c = c == 0x200C || c == 0x200D

-- what begins a word: a character with XID_Start, `_` or `$`
abbrev pub is_word_start : ℕ → Bool
is_word_start c = is_xid_start c || c == 95 || c == 36

-- what goes on with a word: a character with XID_Continue that is no joiner, or `$`
abbrev pub is_word_part : ℕ → Bool
is_word_part c = is_xid_continue c && not (is_joiner c) || c == 36

-- what spoils a number that stands directly before it: a digit, a word start, `.` or `\`
abbrev pub is_spoiler : ℕ → Bool
is_spoiler c = is_digit c || is_word_start c || c == 46 || c == 92

-- whether there is a first character, and it passes
abbrev pub begins_with : (ℕ → Bool) → Characters → Bool
begins_with p [] = false
begins_with p (c ∷ cs) = p c

-- what is left after the characters at the front that pass
abbrev pub drop_while : (ℕ → Bool) → Characters → Characters
drop_while p [] = []
drop_while p (c ∷ cs) = if p c then drop_while p cs else c ∷ cs

-- the bytes end so
abbrev pub EndsWith : List ℕ → List ℕ → Type 0
EndsWith bytes end = (front : List ℕ) × (bytes ≡ front ++ end)
