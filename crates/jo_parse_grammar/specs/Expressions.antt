-- The grammar of expressions: which trees there are, and the terminals of each.
use Rattle.std.specs.Prelude.{◌≡◌, ℕ, ◌+◌, ◌≤◌, Bool, true, false, List, [], ◌∷◌, ◌++◌}
use Rattle.jo_lex.specs.declared.punct.Punct.{Punct}
use Rattle.jo_lex.specs.declared.punct.Punct.TheVariants as p
use Rattle.jo_parse_tree.specs.declared.keyword.Keyword.{Keyword}
use Rattle.jo_parse_tree.specs.declared.keyword.Keyword.TheVariants as kw
use Rattle.jo_parse_tree.specs.declared.operator.BinaryOperator.TheVariants as bin
use Rattle.jo_parse_grammar.specs.declared.terminal.Terminal.{Terminal}
use Rattle.jo_parse_grammar.specs.declared.terminal.Terminal.TheVariants as t
use Rattle.jo_parse_tree.specs.Trees.{Tree, number, literal, constant, variable, group, object, cas, member, unary, delete, chain, choose, assign, Props, no_props, prop, Accesses, no_accesses, field, index, Links, no_links, link}
use Rattle.jo_parse_grammar.specs.Operators.{unary_token, binary_token, level_of, assign_token, name_token, key_token, reads_proto, is_constant}

-- A terminal, and how many constructs are open once it has opened one, or 0 where it opens none.
abbrev pub Symbol : Type 0
Symbol = Terminal × ℕ

-- ---- which trees there are

-- a variable or a property, without brackets round it
abbrev pub IsTarget : Tree → Type 0
IsTarget (variable x) = Unit {0}
IsTarget (member e xs) = Unit {0}
IsTarget _ = ⊥

-- a property, without brackets round it
abbrev pub IsMember : Tree → Type 0
IsMember (member e xs) = Unit {0}
IsMember _ = ⊥

-- The tree is an expression of this level or of a higher one. Levels: 1 any expression, 2 a choice, 3 `||`, 4 `&&`, 5 `===`, 6 `<` and `in`, 7 `+`, 8 `*`, 9 a unary operator, 10 a postfix expression, 11 a primary one.
-- The flag says whether `in` may stand outside brackets.
abbrev mutual
  pub MayStand : Bool → ℕ → Tree → Type 0
  MayStand ins l (number i) = Unit {0}
  MayStand ins l (literal s) = Unit {0}
  MayStand ins l (constant w) = is_constant w ≡ true
  MayStand ins l (variable x) = Unit {0}
  MayStand ins l (group e) = MayStand true 1 e
  MayStand ins l (object ps comma) = FitProps ps comma
  MayStand ins l (cas o k a b) = MayStand true 1 o × MayStand true 1 k × MayStand true 1 a × MayStand true 1 b
  MayStand ins l (member e xs) = (l ≤ 10) × MayStand ins 11 e × FitAccesses true xs
  MayStand ins l (unary o e) = (l ≤ 9) × MayStand ins 9 e
  MayStand ins l (delete e) = (l ≤ 9) × IsMember e × MayStand ins 10 e
  MayStand ins l (chain k e ls) = (l ≤ k) × MayStand ins (k + 1) e × FitLinks ins true k ls
  MayStand ins l (choose a b c) = (l ≤ 2) × MayStand ins 3 a × MayStand ins 1 b × MayStand ins 1 c
  MayStand ins l (assign o a b) = (l ≤ 1) × IsTarget a × MayStand ins 10 a × MayStand ins 1 b

  -- a comma before the closing brace stands after a property, and `__proto__` is no key
  pub FitProps : Props → Bool → Type 0
  FitProps no_props comma = comma ≡ false
  FitProps (prop k e ps) comma = (reads_proto (key_token k) ≡ false) × MayStand true 1 e × FitMore ps

  pub FitMore : Props → Type 0
  FitMore no_props = Unit {0}
  FitMore (prop k e ps) = (reads_proto (key_token k) ≡ false) × MayStand true 1 e × FitMore ps

  -- the flag says whether there has to be one
  pub FitAccesses : Bool → Accesses → Type 0
  FitAccesses some no_accesses = some ≡ false
  FitAccesses some (field n xs) = FitAccesses false xs
  FitAccesses some (index e xs) = MayStand true 1 e × FitAccesses false xs

  -- operators of the level, each with a right operand that binds more tightly
  pub FitLinks : Bool → Bool → ℕ → Links → Type 0
  FitLinks ins some k no_links = some ≡ false
  FitLinks ins some k (link o e ls) = (level_of o ≡ k) × (o ≡ bin.In → ins ≡ true) × MayStand ins (k + 1) e × FitLinks ins false k ls

-- ---- the terminals of a tree

abbrev pub plain : Terminal → Symbol
plain c = (c, 0)

abbrev pub punct : Punct → Symbol
punct c = plain (t.Punct c)

abbrev pub word : Keyword → Symbol
word w = plain (t.Keyword w)

abbrev pub comma_at_end : Bool → List Symbol
comma_at_end true = punct p.Comma ∷ []
comma_at_end false = []

-- The terminals of a tree, where d constructs are open already. A bracket is open up to its closing bracket, an operator up to the end of its last operand.
abbrev mutual
  pub spelling : ℕ → Tree → List Symbol
  spelling d (number i) = plain (t.Number i) ∷ []
  spelling d (literal s) = plain (t.Text s) ∷ []
  spelling d (constant w) = word w ∷ []
  spelling d (variable x) = plain (t.Ident x) ∷ []
  spelling d (group e) = (t.Punct p.OpenParen, d + 1) ∷ (spelling (d + 1) e ++ punct p.CloseParen ∷ [])
  spelling d (object ps comma) = (t.Punct p.OpenBrace, d + 1) ∷ (props (d + 1) ps ++ (comma_at_end comma ++ punct p.CloseBrace ∷ []))
  spelling d (cas o k a b) =
      word kw.Cas ∷ ((t.Punct p.OpenParen, d + 1) ∷ (spelling (d + 1) o ++ punct p.Comma ∷ (spelling (d + 1) k ++ punct p.Comma ∷ (spelling (d + 1) a ++ punct p.Comma ∷ (spelling (d + 1) b ++ punct p.CloseParen ∷ [])))))
  spelling d (member e xs) = spelling d e ++ accesses d xs
  spelling d (unary o e) = (unary_token o, d + 1) ∷ spelling (d + 1) e
  spelling d (delete e) = (t.Keyword kw.Delete, d + 1) ∷ spelling (d + 1) e
  spelling d (chain k e ls) = spelling d e ++ links d ls
  spelling d (choose a b c) = spelling d a ++ (t.Punct p.Question, d + 1) ∷ (spelling (d + 1) b ++ punct p.Colon ∷ spelling (d + 1) c)
  spelling d (assign o a b) = spelling d a ++ (assign_token o, d + 1) ∷ spelling (d + 1) b

  pub props : ℕ → Props → List Symbol
  props d no_props = []
  props d (prop k e ps) = plain (key_token k) ∷ (punct p.Colon ∷ (spelling d e ++ more_props d ps))

  pub more_props : ℕ → Props → List Symbol
  more_props d no_props = []
  more_props d (prop k e ps) = punct p.Comma ∷ (plain (key_token k) ∷ (punct p.Colon ∷ (spelling d e ++ more_props d ps)))

  pub accesses : ℕ → Accesses → List Symbol
  accesses d no_accesses = []
  accesses d (field n xs) = punct p.Dot ∷ (plain (name_token n) ∷ accesses d xs)
  accesses d (index e xs) = (t.Punct p.OpenBracket, d + 1) ∷ (spelling (d + 1) e ++ punct p.CloseBracket ∷ accesses d xs)

  pub links : ℕ → Links → List Symbol
  links d no_links = []
  links d (link o e ls) = (binary_token o, d + 1) ∷ (spelling (d + 1) e ++ links d ls)

-- ---- expressions

-- the expression may stand there, and these are its symbols, where d constructs are open already
abbrev pub IsExpression : Bool → ℕ → Tree → List Symbol → Type 0
IsExpression ins d e m = MayStand ins 1 e × (m ≡ spelling d e)

-- the terminal that an expression begins with
abbrev pub first : Tree → Terminal
first (number i) = t.Number i
first (literal s) = t.Text s
first (constant w) = t.Keyword w
first (variable x) = t.Ident x
first (group e) = t.Punct p.OpenParen
first (object ps comma) = t.Punct p.OpenBrace
first (cas o k a b) = t.Keyword kw.Cas
first (member e xs) = first e
first (unary o e) = unary_token o
first (delete e) = t.Keyword kw.Delete
first (chain k e ls) = first e
first (choose a b c) = first a
first (assign o a b) = first a
