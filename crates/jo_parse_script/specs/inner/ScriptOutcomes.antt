-- What the methods that read statements and scripts ensure.
use Rattle.std.specs.Prelude.{◌≡◌, ℕ, zero, suc, Bool, if◌then◌else◌, List, Option, None, Some, Result, Ok, Err}
use Rattle.jo_parse_grammar.specs.declared.terminal.Terminal.{Terminal}
use Rattle.jo_parse_grammar.specs.declared.terminal.Terminal.TheVariants as t
use Rattle.jo_parse_grammar.specs.inner.Read.{Reader, and_then, next, sees}
use Rattle.jo_parse_tree.specs.declared.script.Item.{Item}
use Rattle.jo_parse_tree.specs.declared.script.Item.TheVariants as i
use Rattle.jo_parse_tree.specs.declared.keyword.Keyword.{Keyword}
use Rattle.jo_parse_tree.specs.declared.keyword.Keyword.TheVariants as kw
use Rattle.jo_parse_tree.specs.Trees.{Items, Statement, break, continue}
use Rattle.jo_parse_tree.specs.ScriptViews.{let_list, statement_tree}
use Rattle.jo_parse_grammar.specs.Refusals.{unexpected, too_deep}
use Rattle.jo_parse_grammar.specs.inner.ReadStatements as read
use Rattle.jo_parse_grammar.specs.inner.ReadStatements.{Within, nothing_within, read_statement, a_declaration, a_statement, Answer}
use Rattle.jo_parse_script.specs.declared.stop.Stop.{Stop}
use Rattle.jo_parse_script.specs.declared.stop.Stop.TheVariants as s

-- what reads a statement within one construct more
abbrev pub within : ℕ → Within
within zero = nothing_within
within (suc n) = read_statement n

abbrev pub item_view : Item → read.Item
item_view (i.Let l) = a_declaration (let_list l)
item_view (i.Statement x) = a_statement (statement_tree x)

-- what an `else` has, where one is there
abbrev pub else_at : Within → Bool → Reader (Option Statement)
else_at within loops ts = if sees (t.Keyword kw.Else) ts then and_then (within loops (next ts)) (λ y r. Ok (Some y, r)) else Ok (None, ts)

-- the statement that leaves a loop or its turn
abbrev pub leaving : Keyword → Statement
leaving kw.Break = break
leaving _ = continue

-- nothing is said where memory fails
abbrev pub FailsAll : Answer → Stop → List Terminal → Type 0
FailsAll outcome s.Memory new = Unit {0}
FailsAll outcome s.Unexpected new = outcome ≡ Err (unexpected, new)
FailsAll outcome s.NestedTooDeep new = outcome ≡ Err (too_deep, new)

-- the outcome of reading all terminals, and those that begin with the offending one after a refusal
abbrev pub ReadsAll : {X : Type 0} → (X → Items) → Answer → Result X Stop → List Terminal → Type 0
ReadsAll view outcome (Ok x) new = outcome ≡ Ok (view x)
ReadsAll view outcome (Err f) new = FailsAll outcome f new
