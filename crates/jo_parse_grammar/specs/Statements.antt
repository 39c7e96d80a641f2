-- The grammar of statements and scripts.
use Rattle.std.specs.Prelude.{◌≡◌, ◌≢◌, ℕ, ◌+◌, Bool, true, false, List, [], ◌∷◌, ◌++◌, Option, None, Some}
use Rattle.jo_lex.specs.declared.punct.Punct.TheVariants as p
use Rattle.jo_parse_tree.specs.declared.keyword.Keyword.TheVariants as kw
use Rattle.jo_parse_grammar.specs.declared.terminal.Terminal.TheVariants as t
use Rattle.jo_parse_tree.specs.Trees.{Tree, Binding, Head, declares, begins, Statement, empty, block, when, either, while, for, break, continue, print, print_names, evaluate, Items, no_items, declare, perform}
use Rattle.jo_parse_grammar.specs.Expressions.{Symbol, punct, word, plain, MayStand, spelling, first}

-- ---- which statements there are

abbrev pub FitOptional : Bool → Option Tree → Type 0
FitOptional ins None = Unit {0}
FitOptional ins (Some e) = MayStand ins 1 e

abbrev pub FitAll : List Tree → Type 0
FitAll [] = Unit {0}
FitAll (e ∷ es) = MayStand true 1 e × FitAll es

-- the first flag says whether there has to be one
abbrev pub FitBindings : Bool → Bool → List Binding → Type 0
FitBindings ins some [] = some ≡ false
FitBindings ins some (b ∷ bs) = FitOptional ins b.1 × FitBindings ins false bs

-- in the first part of a head no `in` stands outside brackets
abbrev pub FitHead : Head → Type 0
FitHead (declares bs) = FitBindings false true bs
FitHead (begins e) = FitOptional false e

-- no `if` at its end lacks an `else`, so that an `else` after it is not its own
abbrev pub IsClosed : Statement → Type 0
IsClosed (when c s) = ⊥
IsClosed (either c a b) = IsClosed b
IsClosed (while c s) = IsClosed s
IsClosed (for h c u s) = IsClosed s
IsClosed _ = Unit {0}

-- the flag says whether the statement is inside the body of a loop
abbrev mutual
  pub FitStatement : Bool → Statement → Type 0
  FitStatement loops empty = Unit {0}
  FitStatement loops (block ss) = FitItems loops ss
  FitStatement loops (when c s) = MayStand true 1 c × FitStatement loops s
  FitStatement loops (either c a b) = MayStand true 1 c × FitStatement loops a × IsClosed a × FitStatement loops b
  FitStatement loops (while c s) = MayStand true 1 c × FitStatement true s
  FitStatement loops (for h c u s) = FitHead h × FitOptional true c × FitOptional true u × FitStatement true s
  FitStatement loops break = loops ≡ true
  FitStatement loops continue = loops ≡ true
  FitStatement loops (print es) = FitAll es
  FitStatement loops (print_names e) = MayStand true 1 e
  FitStatement loops (evaluate e) = MayStand true 1 e × (first e ≢ t.Punct p.OpenBrace)

  pub FitItems : Bool → Items → Type 0
  FitItems loops no_items = Unit {0}
  FitItems loops (declare bs is) = FitBindings true true bs × FitItems loops is
  FitItems loops (perform s is) = FitStatement loops s × FitItems loops is

-- ---- the terminals of a statement, where d constructs are open already

abbrev pub optional : ℕ → Option Tree → List Symbol
optional d None = []
optional d (Some e) = spelling d e

abbrev pub initial : ℕ → Option Tree → List Symbol
initial d None = []
initial d (Some e) = (t.Punct p.Assign, d + 1) ∷ spelling (d + 1) e

abbrev pub binding : ℕ → Binding → List Symbol
binding d b = plain (t.Ident b.0) ∷ initial d b.1

abbrev pub more_bindings : ℕ → List Binding → List Symbol
more_bindings d [] = []
more_bindings d (b ∷ bs) = punct p.Comma ∷ (binding d b ++ more_bindings d bs)

abbrev pub bindings : ℕ → List Binding → List Symbol
bindings d [] = []
bindings d (b ∷ bs) = binding d b ++ more_bindings d bs

abbrev pub declaration : ℕ → List Binding → List Symbol
declaration d bs = word kw.Let ∷ (bindings d bs ++ punct p.Semicolon ∷ [])

abbrev pub head : ℕ → Head → List Symbol
head d (declares bs) = declaration d bs
head d (begins e) = optional d e ++ punct p.Semicolon ∷ []

abbrev pub more_arguments : ℕ → List Tree → List Symbol
more_arguments d [] = []
more_arguments d (e ∷ es) = punct p.Comma ∷ (spelling d e ++ more_arguments d es)

abbrev pub arguments : ℕ → List Tree → List Symbol
arguments d [] = []
arguments d (e ∷ es) = spelling d e ++ more_arguments d es

-- an expression in round brackets
abbrev pub bracketed : ℕ → List Symbol → List Symbol
bracketed d m = (t.Punct p.OpenParen, d + 1) ∷ (m ++ punct p.CloseParen ∷ [])

-- `if`, `while` and `for` are open up to the end of their last statement
abbrev mutual
  pub statement : ℕ → Statement → List Symbol
  statement d empty = punct p.Semicolon ∷ []
  statement d (block ss) = (t.Punct p.OpenBrace, d + 1) ∷ (items (d + 1) ss ++ punct p.CloseBrace ∷ [])
  statement d (when c s) = (t.Keyword kw.If, d + 1) ∷ (bracketed (d + 1) (spelling (d + 1 + 1) c) ++ statement (d + 1) s)
  statement d (either c a b) =
      (t.Keyword kw.If, d + 1) ∷ (bracketed (d + 1) (spelling (d + 1 + 1) c) ++ (statement (d + 1) a ++ word kw.Else ∷ statement (d + 1) b))
  statement d (while c s) = (t.Keyword kw.While, d + 1) ∷ (bracketed (d + 1) (spelling (d + 1 + 1) c) ++ statement (d + 1) s)
  statement d (for h c u s) =
      (t.Keyword kw.For, d + 1) ∷ (bracketed (d + 1) (head (d + 1 + 1) h ++ (optional (d + 1 + 1) c ++ punct p.Semicolon ∷ optional (d + 1 + 1) u)) ++ statement (d + 1) s)
  statement d break = word kw.Break ∷ (punct p.Semicolon ∷ [])
  statement d continue = word kw.Continue ∷ (punct p.Semicolon ∷ [])
  statement d (print es) = word kw.Print ∷ (bracketed d (arguments (d + 1) es) ++ punct p.Semicolon ∷ [])
  statement d (print_names e) = word kw.PrintNames ∷ (bracketed d (spelling (d + 1) e) ++ punct p.Semicolon ∷ [])
  statement d (evaluate e) = spelling d e ++ punct p.Semicolon ∷ []

  pub items : ℕ → Items → List Symbol
  items d no_items = []
  items d (declare bs is) = declaration d bs ++ items d is
  items d (perform s is) = statement d s ++ items d is

-- ---- scripts

-- the items fit, and these are the symbols of the script
abbrev pub IsScript : Items → List Symbol → Type 0
IsScript s m = FitItems false s × (m ≡ items 0 s)
