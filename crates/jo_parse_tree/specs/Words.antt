-- The texts of words.
use Rattle.std.specs.Prelude.{ℕ, List, Option, codes}
use Rattle.std.specs.List.{find}
use Rattle.std.specs.Str.{bytes_eq}
use Rattle.jo_parse_tree.specs.declared.keyword.TheConstants.{KEYWORDS}
use Rattle.jo_parse_tree.specs.declared.keyword.Keyword.{Keyword}
use Rattle.jo_parse_tree.specs.declared.keyword.Keyword.TheVariants as keyword

-- the text of a reserved word that the grammar names
abbrev pub keyword_text : Keyword → List ℕ
keyword_text keyword.Break = codes "break"
keyword_text keyword.Cas = codes "cas"
keyword_text keyword.Continue = codes "continue"
keyword_text keyword.Delete = codes "delete"
keyword_text keyword.Else = codes "else"
keyword_text keyword.False = codes "false"
keyword_text keyword.For = codes "for"
keyword_text keyword.If = codes "if"
keyword_text keyword.In = codes "in"
keyword_text keyword.Let = codes "let"
keyword_text keyword.Null = codes "null"
keyword_text keyword.Print = codes "print"
keyword_text keyword.PrintNames = codes "printNames"
keyword_text keyword.Shared = codes "shared"
keyword_text keyword.True = codes "true"
keyword_text keyword.Undefined = codes "undefined"
keyword_text keyword.While = codes "while"

-- the keyword with this text
unfoldable pub keyword_of : List ℕ → Option Keyword
keyword_of word = find (λ keyword. bytes_eq (keyword_text keyword) word) KEYWORDS
