-- The terminals of operators, names and keys, and how tightly operators bind.
use Rattle.std.specs.Prelude.{ℕ, Bool, true, false}
use Rattle.jo_lex.specs.declared.punct.Punct.TheVariants as p
use Rattle.jo_parse_tree.specs.declared.keyword.Keyword.{Keyword}
use Rattle.jo_parse_tree.specs.declared.keyword.Keyword.TheVariants as kw
use Rattle.jo_parse_tree.specs.declared.operator.AssignOperator.{AssignOperator}
use Rattle.jo_parse_tree.specs.declared.operator.AssignOperator.TheVariants as a
use Rattle.jo_parse_tree.specs.declared.operator.BinaryOperator.{BinaryOperator}
use Rattle.jo_parse_tree.specs.declared.operator.BinaryOperator.TheVariants as b
use Rattle.jo_parse_tree.specs.declared.operator.UnaryOperator.{UnaryOperator}
use Rattle.jo_parse_tree.specs.declared.operator.UnaryOperator.TheVariants as u
use Rattle.jo_parse_grammar.specs.declared.terminal.Terminal.{Terminal}
use Rattle.jo_parse_grammar.specs.declared.terminal.Terminal.TheVariants as t
use Rattle.jo_parse_tree.specs.declared.word.Name.{Name}
use Rattle.jo_parse_tree.specs.declared.word.Name.TheVariants as n
use Rattle.jo_parse_tree.specs.declared.word.PropKey.{PropKey}
use Rattle.jo_parse_tree.specs.declared.word.PropKey.TheVariants as q

abbrev pub unary_token : UnaryOperator → Terminal
unary_token u.Minus = t.Punct p.Minus
unary_token u.Not = t.Punct p.Bang

abbrev pub binary_token : BinaryOperator → Terminal
binary_token b.Or = t.Punct p.OrOr
binary_token b.And = t.Punct p.AndAnd
binary_token b.Same = t.Punct p.Same
binary_token b.NotSame = t.Punct p.NotSame
binary_token b.Less = t.Punct p.Less
binary_token b.Greater = t.Punct p.Greater
binary_token b.LessEqual = t.Punct p.LessEqual
binary_token b.GreaterEqual = t.Punct p.GreaterEqual
binary_token b.In = t.Keyword kw.In
binary_token b.Plus = t.Punct p.Plus
binary_token b.Minus = t.Punct p.Minus
binary_token b.Times = t.Punct p.Star
binary_token b.Remainder = t.Punct p.Percent

-- how tightly it binds
abbrev pub level_of : BinaryOperator → ℕ
level_of b.Or = 3
level_of b.And = 4
level_of b.Same = 5
level_of b.NotSame = 5
level_of b.Less = 6
level_of b.Greater = 6
level_of b.LessEqual = 6
level_of b.GreaterEqual = 6
level_of b.In = 6
level_of b.Plus = 7
level_of b.Minus = 7
level_of b.Times = 8
level_of b.Remainder = 8

abbrev pub assign_token : AssignOperator → Terminal
assign_token a.Set = t.Punct p.Assign
assign_token a.Add = t.Punct p.PlusAssign
assign_token a.Subtract = t.Punct p.MinusAssign

abbrev pub name_token : Name → Terminal
name_token (n.Ident x) = t.Ident x
name_token (n.Keyword w) = t.Keyword w
name_token (n.Reserved x) = t.Reserved x

abbrev pub key_token : PropKey → Terminal
key_token (q.Name x) = name_token x
key_token (q.Text s) = t.Text s
key_token (q.Number i) = t.Number i

-- the word or text reads `__proto__`
abbrev pub reads_proto : Terminal → Bool
reads_proto (t.Ident x) = x.is_proto
reads_proto (t.Text s) = s.is_proto
reads_proto _ = false

-- a reserved word that is an expression of its own
abbrev pub is_constant : Keyword → Bool
is_constant kw.True = true
is_constant kw.False = true
is_constant kw.Null = true
is_constant kw.Undefined = true
is_constant kw.Shared = true
is_constant _ = false
