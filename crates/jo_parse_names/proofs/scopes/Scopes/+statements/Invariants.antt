use Rattle.std.proofs.Common.{◌≡◌, drop}
use Rattle.jo_parse_grammar.specs.Declarations.{faults_of_items}
use Rattle.jo_parse_tree.specs.ScriptViews.{items_list}
use Rattle.jo_parse_names.specs.inner.Blocks.{answer_to}
use Rattle.jo_parse_names.proofs.scopes.Scopes.+statements.Given as goal

abbrev pub invariant-items-loop-item : goal.invariant-items-loop-item
invariant-items-loop-item l =
    (answer_to (faults_of_items l.fn.self.0 l.fn.self.1 (items_list l.items)) ≡ answer_to (faults_of_items l.self.0 l.self.1 (items_list (drop l.item-index l.items))))
    × (l.self.1 ≡ l.fn.self.1)
