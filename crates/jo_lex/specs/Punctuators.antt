-- The punctuators: the longest that a script begins with (ECMA-262, Punctuators).
use Prim.Native.String.{String}
use Rattle.std.specs.Prelude.{ℕ, Bool, not, ◌&&◌, nat_eq, nat_lt, List, [], ◌∷◌, ◌++◌, length, map, drop, Option, Some, None, if◌then◌else◌, codes}
use Rattle.std.specs.List.{starts_with}
use Rattle.std.specs.Str.{bytes_eq}
use Rattle.jo_lex.specs.declared.punct.Punct.{Punct}
use Rattle.jo_lex.specs.declared.punct.Punct.TheVariants.{OpenBrace, CloseBrace, OpenParen, CloseParen, OpenBracket, CloseBracket, Dot, Semicolon, Comma, Less, Greater, LessEqual, GreaterEqual, Same, NotSame, Plus, Minus, Star, Percent, Bang, AndAnd, OrOr, Question, Colon, Assign, PlusAssign, MinusAssign}
use Rattle.jo_lex.specs.Characters.{Characters, begins_with}
use Rattle.jo_value.specs.Texts.{is_digit}

-- a punctuator's characters, which are ASCII, and its value where it is accepted
abbrev pub Row : Type 0
Row = List ℕ × Option Punct

-- the punctuators that are accepted, with their values
abbrev pub accepted_ones : List (String × Punct)
accepted_ones =
    ("{", OpenBrace) ∷ ("}", CloseBrace) ∷ ("(", OpenParen) ∷ (")", CloseParen) ∷ ("[", OpenBracket) ∷ ("]", CloseBracket)
    ∷ (".", Dot) ∷ (";", Semicolon) ∷ (",", Comma) ∷ ("<", Less) ∷ (">", Greater) ∷ ("<=", LessEqual) ∷ (">=", GreaterEqual)
    ∷ ("===", Same) ∷ ("!==", NotSame) ∷ ("+", Plus) ∷ ("-", Minus) ∷ ("*", Star) ∷ ("%", Percent) ∷ ("!", Bang)
    ∷ ("&&", AndAnd) ∷ ("||", OrOr) ∷ ("?", Question) ∷ (":", Colon) ∷ ("=", Assign) ∷ ("+=", PlusAssign) ∷ ("-=", MinusAssign) ∷ []

-- the other punctuators of ECMA-262
abbrev pub other_ones : List String
other_ones =
    "..." ∷ "==" ∷ "!=" ∷ "**" ∷ "++" ∷ "--" ∷ "<<" ∷ ">>" ∷ ">>>" ∷ "&" ∷ "|" ∷ "^" ∷ "~" ∷ "??" ∷ "?." ∷ "*=" ∷ "%="
    ∷ "**=" ∷ "<<=" ∷ ">>=" ∷ ">>>=" ∷ "&=" ∷ "|=" ∷ "^=" ∷ "&&=" ∷ "||=" ∷ "??=" ∷ "=>" ∷ "/" ∷ "/=" ∷ []

-- the punctuators of ECMA-262
unfoldable pub table : List Row
table = map (λ p. (codes p.0, Some p.1)) accepted_ones ++ map (λ p. (codes p, None)) other_ones

-- the script begins with the punctuator; `?.` is none before a digit
abbrev pub fits : List ℕ → Characters → Bool
fits p cs = starts_with nat_eq cs p && not (bytes_eq p (codes "?.") && begins_with is_digit (drop (length p) cs))

-- the entry, unless the other is longer
abbrev pub longer : Row → Option Row → Row
longer p None = p
longer p (Some q) = if nat_lt (length p.0) (length q.0) then q else p

-- the longest entry that the script begins with
abbrev pub longest : List Row → Characters → Option Row
longest [] cs = None
longest (p ∷ ps) cs = if fits p.0 cs then Some (longer p (longest ps cs)) else longest ps cs

-- the punctuator at the front, accepted or not
unfoldable pub punctuator_of : Characters → Option Row
punctuator_of cs = longest table cs
