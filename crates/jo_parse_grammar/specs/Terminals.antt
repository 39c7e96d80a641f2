-- The terminals of a script's tokens.
use Rattle.std.specs.Prelude.{ℕ, Bool, true, false, not, List, map, codes}
use Rattle.std.specs.List.{take_while}
use Rattle.std.specs.Str.{bytes_eq}
use Rattle.jo_value.specs.declared.value.TextId.{TextId}
use Rattle.jo_value.specs.Texts.{Table, text_in}
use Rattle.jo_lex.specs.declared.token.Token.{Token}
use Rattle.jo_lex.specs.declared.token.TokenKind.{TokenKind}
use Rattle.jo_lex.specs.declared.token.TokenKind.TheVariants as kind
use Rattle.jo_parse_grammar.specs.declared.terminal.Terminal.{Terminal}
use Rattle.jo_parse_grammar.specs.declared.terminal.Terminal.TheVariants as t

abbrev pub is_proto : Table → TextId → Bool
is_proto table id = bytes_eq (text_in table id.0) (codes "__proto__")

-- a token of the kind at the place
abbrev pub kind_terminal : Table → ℕ → TokenKind → Terminal
kind_terminal table place (kind.Word id) = t.Ident record { text = id; place = place; is_proto = is_proto table id }
kind_terminal table place (kind.Keyword w) = t.Keyword w
kind_terminal table place (kind.Reserved id) = t.Reserved id
kind_terminal table place (kind.Number n) = t.Number n
kind_terminal table place (kind.Text id) = t.Text record { text = id; is_proto = is_proto table id }
kind_terminal table place (kind.Punct c) = t.Punct c
kind_terminal table place kind.End = t.End

abbrev pub terminal_of : Table → Token → Terminal
terminal_of table token = kind_terminal table token.start token.kind

abbrev pub is_end_kind : TokenKind → Bool
is_end_kind kind.End = true
is_end_kind _ = false

abbrev pub is_end : Token → Bool
is_end token = is_end_kind token.kind

-- the terminals of the tokens before the end
abbrev pub terminals_of : Table → List Token → List Terminal
terminals_of table tokens = map (terminal_of table) (take_while (λ token. not (is_end token)) tokens)
