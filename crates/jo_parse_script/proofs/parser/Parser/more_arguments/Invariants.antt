use Rattle.std.proofs.Common.{length, ◌≡◌, ◌-◌}
use Rattle.jo_parse_grammar.specs.inner.ReadStatements as spec
use Rattle.jo_parse_tree.specs.ScriptViews.{trees_list}
use Rattle.jo_parse_script.proofs.parser.Parser.more_arguments.Given as goal

abbrev pub invariant-loop-turn : goal.invariant-loop-turn
invariant-loop-turn l =
    spec.arguments_from l.room (length l.fn.self.tokens) (trees_list l.fn.found) l.fn.self.tokens
    ≡ spec.arguments_from l.room (l._turn-end - l._turn) (trees_list l.found) l.self.tokens
