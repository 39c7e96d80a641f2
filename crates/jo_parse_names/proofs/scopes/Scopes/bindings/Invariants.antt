use Rattle.std.proofs.Common.{◌≡◌, drop}
use Rattle.jo_parse_grammar.specs.Declarations.{scope_after_all, faults_of_bindings}
use Rattle.jo_parse_tree.specs.ScriptViews.{bindings_list}
use Rattle.jo_parse_names.specs.inner.Blocks.{IsAlike, answer_to}
use Rattle.jo_parse_names.proofs.scopes.Scopes.bindings.Given as goal

abbrev pub invariant-loop-binding : goal.invariant-loop-binding
invariant-loop-binding l =
    (answer_to (faults_of_bindings l.fn.self.0 l.fn.self.1 (bindings_list l.bindings)) ≡ answer_to (faults_of_bindings l.self.0 l.self.1 (bindings_list (drop l.binding-index l.bindings))))
    × IsAlike (scope_after_all l.self.0 (bindings_list (drop l.binding-index l.bindings))) (scope_after_all l.fn.self.0 (bindings_list l.bindings))
    × (l.self.1 ≡ l.fn.self.1)
