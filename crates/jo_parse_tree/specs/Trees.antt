-- Syntax trees. They keep all that is written, brackets and a comma before a closing brace too.
use Rattle.std.specs.Prelude.{ℕ, ℤ, Bool, List, Option}
use Rattle.jo_parse_tree.specs.declared.keyword.Keyword.{Keyword}
use Rattle.jo_parse_tree.specs.declared.operator.AssignOperator.{AssignOperator}
use Rattle.jo_parse_tree.specs.declared.operator.BinaryOperator.{BinaryOperator}
use Rattle.jo_parse_tree.specs.declared.operator.UnaryOperator.{UnaryOperator}
use Rattle.jo_parse_tree.specs.declared.word.Ident.{Ident}
use Rattle.jo_parse_tree.specs.declared.word.Literal.{Literal}
use Rattle.jo_parse_tree.specs.declared.word.Name.{Name}
use Rattle.jo_parse_tree.specs.declared.word.PropKey.{PropKey}

mutual
  -- an expression
  pub data Tree : Type 0 where
    number : ℤ → Tree
    literal : Literal → Tree
    -- `true`, `false`, `null`, `undefined` or `shared`
    constant : Keyword → Tree
    variable : Ident → Tree
    -- in round brackets
    group : Tree → Tree
    -- an object literal, and whether a comma stands before its closing brace
    object : Props → Bool → Tree
    cas : Tree → Tree → Tree → Tree → Tree
    member : Tree → Accesses → Tree
    unary : UnaryOperator → Tree → Tree
    delete : Tree → Tree
    -- operands that binary operators of one level join: the level, the first operand, and the others
    chain : ℕ → Tree → Links → Tree
    choose : Tree → Tree → Tree → Tree
    assign : AssignOperator → Tree → Tree → Tree

  -- the properties of an object literal
  pub data Props : Type 0 where
    no_props : Props
    prop : PropKey → Tree → Props → Props

  -- how a property is reached from an expression
  pub data Accesses : Type 0 where
    no_accesses : Accesses
    field : Name → Accesses → Accesses
    index : Tree → Accesses → Accesses

  -- binary operators with their right operands
  pub data Links : Type 0 where
    no_links : Links
    link : BinaryOperator → Tree → Links → Links

-- a declared variable and its initial value, where it has one
abbrev pub Binding : Type 0
Binding = Ident × Option Tree

-- the first part of the head of a `for`
pub data Head : Type 0 where
  declares : List Binding → Head
  begins : Option Tree → Head

mutual
  pub data Statement : Type 0 where
    empty : Statement
    block : Items → Statement
    -- `if` without an `else`
    when : Tree → Statement → Statement
    -- `if` with an `else`
    either : Tree → Statement → Statement → Statement
    while : Tree → Statement → Statement
    -- head, condition, step and body
    for : Head → Option Tree → Option Tree → Statement → Statement
    break : Statement
    continue : Statement
    print : List Tree → Statement
    print_names : Tree → Statement
    evaluate : Tree → Statement

  -- the items of a block or of a whole script
  pub data Items : Type 0 where
    no_items : Items
    declare : List Binding → Items → Items
    perform : Statement → Items → Items
