use Rattle.std.proofs.Common.{length, ◌≡◌, ◌-◌, ◌+◌, ◌*◌}
use Rattle.jo_parse_grammar.specs.inner.ReadStatements as spec
use Rattle.jo_parse_grammar.specs.inner.ReadStatements.{read_statement}
use Rattle.jo_parse_tree.specs.Trees.{no_items}
use Rattle.jo_parse_tree.specs.ScriptViews.{items_list}
use Rattle.jo_parse_script.proofs.parser.Parser.+statement.Given as goal

abbrev pub decreases-statement : goal.decreases-statement
decreases-statement l = l.room * 16 + 9

abbrev pub decreases-keyword_statement : goal.decreases-keyword_statement
decreases-keyword_statement l = l.room * 16 + 8

abbrev pub decreases-punct_statement : goal.decreases-punct_statement
decreases-punct_statement l = l.room * 16 + 8

abbrev pub decreases-branch : goal.decreases-branch
decreases-branch l = l.room * 16 + 11

abbrev pub decreases-otherwise : goal.decreases-otherwise
decreases-otherwise l = l.room * 16 + 10

abbrev pub decreases-while_loop : goal.decreases-while_loop
decreases-while_loop l = l.room * 16 + 10

abbrev pub decreases-for_loop : goal.decreases-for_loop
decreases-for_loop l = l.room * 16 + 10

abbrev pub decreases-item : goal.decreases-item
decreases-item l = l.room * 16 + 10

abbrev pub decreases-items : goal.decreases-items
decreases-items l = l.room * 16 + 11

abbrev pub decreases-block : goal.decreases-block
decreases-block l = l.room * 16 + 12

abbrev pub invariant-items-loop-turn : goal.invariant-items-loop-turn
invariant-items-loop-turn l =
    spec.block_from l.room (read_statement l.room l.loops) (length l.fn.self.tokens) no_items l.fn.self.tokens
    ≡ spec.block_from l.room (read_statement l.room l.loops) (l._turn-end - l._turn) (items_list l.items) l.self.tokens
