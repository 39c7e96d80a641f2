use Rattle.std.proofs.Common.{◌≡◌, ◌-◌, length, ◌+◌, ◌*◌}
use Rattle.jo_parse_tree.specs.Trees.{no_accesses, no_links}
use Rattle.jo_parse_tree.specs.Views.{accesses_list, links_list, props_list}
use Rattle.jo_parse_grammar.specs.inner.Read as spec
use Rattle.jo_parse_grammar.specs.inner.Read.{under}
use Rattle.jo_parse_script.proofs.parser.Parser.+parser.Given as goal

abbrev pub decreases-expression : goal.decreases-expression
decreases-expression l = l.room * 32 + 17

abbrev pub decreases-assignment : goal.decreases-assignment
decreases-assignment l = l.room * 32

abbrev pub decreases-choices : goal.decreases-choices
decreases-choices l = l.room * 32

abbrev pub decreases-operand : goal.decreases-operand
decreases-operand l = l.inner * 32 + (16 - l.level)

abbrev pub decreases-arguments : goal.decreases-arguments
decreases-arguments l = l.inner * 32 + 20

abbrev pub decreases-condition : goal.decreases-condition
decreases-condition l = l.room * 32 + 16

abbrev pub decreases-chain : goal.decreases-chain
decreases-chain l = l.room * 32 + (15 - l.level)

abbrev pub decreases-links : goal.decreases-links
decreases-links l = l.room * 32

abbrev pub decreases-unary : goal.decreases-unary
decreases-unary l = l.room * 32 + 5

abbrev pub decreases-member : goal.decreases-member
decreases-member l = l.room * 32 + 5

abbrev pub decreases-postfix : goal.decreases-postfix
decreases-postfix l = l.room * 32 + 4

abbrev pub decreases-accesses : goal.decreases-accesses
decreases-accesses l = l.room * 32 + 1

abbrev pub decreases-index : goal.decreases-index
decreases-index l = l.room * 32

abbrev pub decreases-primary : goal.decreases-primary
decreases-primary l = l.room * 32 + 3

abbrev pub decreases-keyword : goal.decreases-keyword
decreases-keyword l = l.room * 32 + 2

abbrev pub decreases-cas : goal.decreases-cas
decreases-cas l = l.room * 32 + 1

abbrev pub decreases-bracket : goal.decreases-bracket
decreases-bracket l = l.room * 32 + 2

abbrev pub decreases-object : goal.decreases-object
decreases-object l = l.inner * 32 + 21

abbrev pub decreases-properties : goal.decreases-properties
decreases-properties l = l.inner * 32 + 20

abbrev pub decreases-property : goal.decreases-property
decreases-property l = l.inner * 32 + 19

abbrev pub decreases-ended : goal.decreases-ended
decreases-ended l = l.inner * 32 + 19

abbrev pub invariant-links-loop-turn : goal.invariant-links-loop-turn
invariant-links-loop-turn l =
    spec.links_from l.room (under l.room) l.ins l.level (length l.fn.self.tokens) no_links l.fn.self.tokens
    ≡ spec.links_from l.room (under l.room) l.ins l.level (l._turn-end - l._turn) (links_list l.links) l.self.tokens

abbrev pub invariant-accesses-loop-turn : goal.invariant-accesses-loop-turn
invariant-accesses-loop-turn l =
    spec.accesses_from l.room (under l.room) (length l.fn.self.tokens) no_accesses l.fn.self.tokens
    ≡ spec.accesses_from l.room (under l.room) (l._turn-end - l._turn) (accesses_list l.accesses) l.self.tokens

abbrev pub invariant-properties-loop-turn : goal.invariant-properties-loop-turn
invariant-properties-loop-turn l =
    spec.props_from (spec.read l.inner) (length l.fn.self.tokens) (props_list l.fn.props) l.fn.self.tokens
    ≡ spec.props_from (spec.read l.inner) (l._turn-end - l._turn) (props_list l.props) l.self.tokens

abbrev pub decreases-nested : goal.decreases-nested
decreases-nested l = l.inner * 32 + 18
