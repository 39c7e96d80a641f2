-- When a script is sound for a table of texts: what an accepted script is, with its table, and what it takes to run one.
use Rattle.std.specs.Prelude.{ℕ, ◌+◌, ◌≤◌, ◌<◌, ℤ, pos, false, List, [], ◌∷◌, length, Option, Some, None}
use Rattle.jo_value.specs.declared.limits.TheConstants.{MOST_INPUT, MOST_NUMBER, MOST_OPEN}
use Rattle.jo_value.specs.declared.value.TextId.{TextId}
use Rattle.jo_value.specs.Texts.{Table, id_in}
use Rattle.jo_parse_tree.specs.declared.word.Name.{Name}
use Rattle.jo_parse_tree.specs.declared.word.Name.TheVariants as word
use Rattle.jo_parse_tree.specs.declared.word.PropKey.{PropKey}
use Rattle.jo_parse_tree.specs.declared.word.PropKey.TheVariants as prop_key
use Rattle.jo_parse_tree.specs.Words.{keyword_text}
use Rattle.jo_parse_tree.specs.Trees.{Tree, number, literal, constant, variable, group, object, cas, member, unary, delete, chain, choose, assign, Props, no_props, prop, Accesses, no_accesses, field, index, Links, no_links, link, Binding, Head, declares, begins, Statement, empty, block, when, either, while, for, break, continue, print, print_names, evaluate, Items, no_items, declare, perform}
use Rattle.jo_parse_grammar.specs.Statements.{FitItems, items}
use Rattle.jo_parse_grammar.specs.Refusals.{Within}
use Rattle.jo_parse_grammar.specs.Declarations.{IsDeclared}

-- ---- limits

-- the number of a literal, which has no sign
abbrev pub IsInRange : ℤ → Type 0
IsInRange (pos n) = n ≤ MOST_NUMBER
IsInRange _ = ⊥

-- ---- the entries of lists

abbrev pub count_of_props : Props → ℕ
count_of_props no_props = 0
count_of_props (prop key e props) = count_of_props props + 1

abbrev pub count_of_accesses : Accesses → ℕ
count_of_accesses no_accesses = 0
count_of_accesses (field name accesses) = count_of_accesses accesses + 1
count_of_accesses (index e accesses) = count_of_accesses accesses + 1

abbrev pub count_of_links : Links → ℕ
count_of_links no_links = 0
count_of_links (link operator e links) = count_of_links links + 1

abbrev pub count_of_items : Items → ℕ
count_of_items no_items = 0
count_of_items (declare bindings items) = count_of_items items + 1
count_of_items (perform statement items) = count_of_items items + 1

module _ (texts : Table) where
  -- the table has a text with this id
  abbrev pub IsInTable : TextId → Type 0
  IsInTable t = t.0 < length texts

  -- the table has the text of the word
  abbrev pub IsNamed : Name → Type 0
  IsNamed (word.Ident x) = IsInTable x.text
  IsNamed (word.Keyword w) = id_in texts (keyword_text w) < length texts
  IsNamed (word.Reserved t) = IsInTable t

  abbrev pub IsKeyed : PropKey → Type 0
  IsKeyed (prop_key.Name name) = IsNamed name
  IsKeyed (prop_key.Text t) = IsInTable t.text
  IsKeyed (prop_key.Number i) = IsInRange i

  -- ---- numbers, texts, names and lists of a tree

  abbrev mutual
    -- Each number in an expression is in range, each text and name in it is in the table, and no list in it is too long.
    pub Suits : Tree → Type 0
    Suits (number i) = IsInRange i
    Suits (literal t) = IsInTable t.text
    Suits (constant w) = Unit {0}
    Suits (variable x) = IsInTable x.text
    Suits (group e) = Suits e
    Suits (object props comma) = (count_of_props props ≤ MOST_INPUT) × SuitProps props
    Suits (cas o k a b) = Suits o × Suits k × Suits a × Suits b
    Suits (member e accesses) = Suits e × (count_of_accesses accesses ≤ MOST_INPUT) × SuitAccesses accesses
    Suits (unary operator e) = Suits e
    Suits (delete e) = Suits e
    Suits (chain level e links) = Suits e × (count_of_links links ≤ MOST_INPUT) × SuitLinks links
    Suits (choose c a b) = Suits c × Suits a × Suits b
    Suits (assign operator target e) = Suits target × Suits e

    pub SuitProps : Props → Type 0
    SuitProps no_props = Unit {0}
    SuitProps (prop key e props) = IsKeyed key × Suits e × SuitProps props

    pub SuitAccesses : Accesses → Type 0
    SuitAccesses no_accesses = Unit {0}
    SuitAccesses (field name accesses) = IsNamed name × SuitAccesses accesses
    SuitAccesses (index e accesses) = Suits e × SuitAccesses accesses

    pub SuitLinks : Links → Type 0
    SuitLinks no_links = Unit {0}
    SuitLinks (link operator e links) = Suits e × SuitLinks links

  abbrev pub SuitsOptional : Option Tree → Type 0
  SuitsOptional None = Unit {0}
  SuitsOptional (Some e) = Suits e

  abbrev pub SuitAll : List Tree → Type 0
  SuitAll [] = Unit {0}
  SuitAll (e ∷ es) = Suits e × SuitAll es

  abbrev pub SuitBindings : List Binding → Type 0
  SuitBindings [] = Unit {0}
  SuitBindings (b ∷ bindings) = IsInTable b.0.text × SuitsOptional b.1 × SuitBindings bindings

  -- a `let`
  abbrev pub SuitsDeclaration : List Binding → Type 0
  SuitsDeclaration bindings = (length bindings ≤ MOST_INPUT) × SuitBindings bindings

  abbrev pub SuitsHead : Head → Type 0
  SuitsHead (declares bindings) = SuitsDeclaration bindings
  SuitsHead (begins e) = SuitsOptional e

  abbrev mutual
    -- the same of a statement
    pub SuitsStatement : Statement → Type 0
    SuitsStatement empty = Unit {0}
    SuitsStatement (block items) = (count_of_items items ≤ MOST_INPUT) × SuitItems items
    SuitsStatement (when c a) = Suits c × SuitsStatement a
    SuitsStatement (either c a b) = Suits c × SuitsStatement a × SuitsStatement b
    SuitsStatement (while c a) = Suits c × SuitsStatement a
    SuitsStatement (for head c step a) = SuitsHead head × SuitsOptional c × SuitsOptional step × SuitsStatement a
    SuitsStatement break = Unit {0}
    SuitsStatement continue = Unit {0}
    SuitsStatement (print es) = (length es ≤ MOST_INPUT) × SuitAll es
    SuitsStatement (print_names e) = Suits e
    SuitsStatement (evaluate e) = Suits e

    pub SuitItems : Items → Type 0
    SuitItems no_items = Unit {0}
    SuitItems (declare bindings items) = SuitsDeclaration bindings × SuitItems items
    SuitItems (perform statement items) = SuitsStatement statement × SuitItems items

  -- ---- scripts

  -- the script is sound for the table
  pub record IsSound (script : Items) : Type 0 where
    -- by the grammar it is a script, and so `break` and `continue` stand in loops
    pub grammar : FitItems false script
    -- nowhere in it are too many constructs open
    pub depth : Within MOST_OPEN (items 0 script)
    -- its items are not too many
    pub entries : count_of_items script ≤ MOST_INPUT
    -- its numbers are in range, its texts and names are in the table, and its other lists are not too long
    pub parts : SuitItems script
    -- each use of a name means a binding that has ended, and no block declares a name twice
    pub names : IsDeclared script
