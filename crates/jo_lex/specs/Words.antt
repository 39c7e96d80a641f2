-- The reserved words.
use Prim.Native.String.{String}
use Rattle.std.specs.Prelude.{ℕ, Bool, List, [], ◌∷◌, ◌++◌, map, codes, Option, Some, None, if◌then◌else◌}
use Rattle.std.specs.List.{list_any}
use Rattle.std.specs.Str.{bytes_eq}
use Rattle.jo_parse_tree.specs.declared.keyword.Keyword.{Keyword}
use Rattle.jo_parse_tree.specs.Words.{keyword_of}

-- those of ECMA-262 (Keywords and Reserved Words, ReservedWord)
abbrev pub reserved_anywhere : List String
reserved_anywhere =
    "await" ∷ "break" ∷ "case" ∷ "catch" ∷ "class" ∷ "const" ∷ "continue" ∷ "debugger" ∷ "default" ∷ "delete" ∷ "do" ∷ "else"
    ∷ "enum" ∷ "export" ∷ "extends" ∷ "false" ∷ "finally" ∷ "for" ∷ "function" ∷ "if" ∷ "import" ∷ "in" ∷ "instanceof" ∷ "new"
    ∷ "null" ∷ "return" ∷ "super" ∷ "switch" ∷ "this" ∷ "throw" ∷ "true" ∷ "try" ∷ "typeof" ∷ "var" ∷ "void" ∷ "while" ∷ "with"
    ∷ "yield" ∷ []

-- those that strict code of ECMA-262 may not have as names besides, and the name `undefined`
abbrev pub reserved_in_strict_code : List String
reserved_in_strict_code =
    "let" ∷ "static" ∷ "implements" ∷ "interface" ∷ "package" ∷ "private" ∷ "protected" ∷ "public" ∷ "arguments" ∷ "eval" ∷ "undefined" ∷ []

-- those of this language
abbrev pub reserved_here : List String
reserved_here = "cas" ∷ "create" ∷ "freeze" ∷ "print" ∷ "printNames" ∷ "recv" ∷ "send" ∷ "shared" ∷ []

-- the reserved words, by their bytes
unfoldable pub reserved_words : List (List ℕ)
reserved_words = map codes (reserved_anywhere ++ reserved_in_strict_code ++ reserved_here)

-- the word, by its bytes, is one of them
unfoldable pub is_reserved : List ℕ → Bool
is_reserved word = list_any (λ reserved. bytes_eq reserved word) reserved_words

-- of a reserved word its keyword, where the grammar names it; none of another word
abbrev pub reserved_as : List ℕ → Option (Option Keyword)
reserved_as word = if is_reserved word then Some (keyword_of word) else None
