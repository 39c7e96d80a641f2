use Rattle.std.proofs.Common.{length, ◌≡◌, ◌-◌}
use Rattle.jo_parse_grammar.specs.inner.ReadStatements as spec
use Rattle.jo_parse_tree.specs.ScriptViews.{bindings_list}
use Rattle.jo_parse_script.proofs.parser.Parser.bindings.Given as goal

abbrev pub invariant-loop-turn : goal.invariant-loop-turn
invariant-loop-turn l =
    spec.bindings_from l.room l.ins (length l.fn.self.tokens) (bindings_list l.fn.found) l.fn.self.tokens
    ≡ spec.bindings_from l.room l.ins (l._turn-end - l._turn) (bindings_list l.found) l.self.tokens
