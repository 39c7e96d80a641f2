use Rattle.std.proofs.Common.{length, ◌≡◌, ◌-◌}
use Rattle.jo_parse_grammar.specs.inner.ReadStatements as spec
use Rattle.jo_parse_tree.specs.Trees.{no_items}
use Rattle.jo_parse_tree.specs.ScriptViews.{items_list}
use Rattle.jo_parse_script.proofs.parser.Parser.script.Given as goal

abbrev pub invariant-loop-turn : goal.invariant-loop-turn
invariant-loop-turn l =
    spec.script_from l.limit (length l.fn.self.tokens) no_items l.fn.self.tokens
    ≡ spec.script_from l.limit (l._turn-end - l._turn) (items_list l.items) l.self.tokens
