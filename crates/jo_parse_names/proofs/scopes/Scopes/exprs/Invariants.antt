use Rattle.std.proofs.Common.{◌≡◌, drop}
use Rattle.jo_parse_grammar.specs.Declarations.{faults_of_uses, uses_of_all}
use Rattle.jo_parse_tree.specs.ScriptViews.{trees_list}
use Rattle.jo_parse_names.specs.inner.Blocks.{all_of, answer_to}
use Rattle.jo_parse_names.proofs.scopes.Scopes.exprs.Given as goal

abbrev pub invariant-loop-expr : goal.invariant-loop-expr
invariant-loop-expr l =
    answer_to (faults_of_uses (all_of l.self) (uses_of_all (trees_list l.exprs)))
    ≡ answer_to (faults_of_uses (all_of l.self) (uses_of_all (trees_list (drop l.expr-index l.exprs))))
