-- What a method of the parser ensures.
use Rattle.std.specs.Prelude.{◌≡◌, ℕ, Bool, List, Result, Ok, Err}
use Rattle.jo_lex.specs.declared.punct.Punct.TheVariants as p
use Rattle.jo_parse_tree.specs.declared.expr.Expr.{Expr}
use Rattle.jo_parse_tree.specs.declared.expr.Prop.{Prop}
use Rattle.jo_parse_tree.specs.declared.word.PropKey.{PropKey}
use Rattle.jo_parse_tree.specs.Trees.{Tree, assign}
use Rattle.jo_parse_tree.specs.Views.{expr_tree}
use Rattle.jo_parse_grammar.specs.declared.terminal.Terminal.{Terminal}
use Rattle.jo_parse_grammar.specs.declared.terminal.Terminal.TheVariants as t
use Rattle.jo_parse_grammar.specs.Refusals.{unexpected, too_deep}
use Rattle.jo_parse_grammar.specs.inner.Read.{Reading, Reader, Below, and_then, expect, open_at, peek, assign_of}
use Rattle.jo_parse_script.specs.declared.stop.Stop.{Stop}
use Rattle.jo_parse_script.specs.declared.stop.Stop.TheVariants as s

-- nothing is said where memory fails
abbrev pub Fails : {A : Type 0} → Reading A → Stop → List Terminal → Type 0
Fails outcome s.Memory new = Unit {0}
Fails outcome s.Unexpected new = outcome ≡ Err (unexpected, new)
Fails outcome s.NestedTooDeep new = outcome ≡ Err (too_deep, new)

-- the outcome, and the terminals from which to go on, which after a refusal begin with the offending one
abbrev pub Reads : {X A : Type 0} → (X → A) → Reading A → Result X Stop → List Terminal → Type 0
Reads view outcome (Ok x) new = outcome ≡ Ok (view x, new)
Reads view outcome (Err f) new = Fails outcome f new

-- the tree is made, unless memory fails
abbrev pub Makes : {X : Type 0} → (X → Tree) → Tree → Result X Stop → Type 0
Makes view tree (Ok x) = view x ≡ tree
Makes view tree (Err f) = f ≡ s.Memory

-- a property of an object literal
abbrev pub prop_tree : Prop → PropKey × Tree
prop_tree x = (x.key, expr_tree x.value)

-- the rest of an assignment to the target, from its operator on
abbrev pub assigned : ℕ → Below → Bool → Tree → Reader Tree
assigned room below ins x ts = and_then (open_at room ts) (λ _ r. and_then (below ins 1 r) (λ y r. Ok (assign (assign_of (peek ts)) x y, r)))

-- the two expressions of a choice, from its question symbol on
abbrev pub choices : ℕ → Below → Bool → Reader (Tree × Tree)
choices room below ins ts =
    and_then (open_at room ts) (λ _ r. and_then (below ins 1 r) (λ y r. and_then (expect (t.Punct p.Colon) r) (λ _ r. and_then (below ins 1 r) (λ z r. Ok ((y, z), r)))))

abbrev pub choice_trees : Expr × Expr → Tree × Tree
choice_trees x = (expr_tree x.0, expr_tree x.1)
