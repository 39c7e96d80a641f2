use Rattle.std.proofs.Common.{drop, map}
use Rattle.jo_parse_tree.specs.ScriptViews.{script_tree}
use Rattle.jo_parse.specs.inner.Stages.{lists_of}
use Rattle.jo_parse.proofs.Turns.{Spells}
use Rattle.jo_parse.proofs.trees.parse_scripts.Given as goal

abbrev pub invariant-loop-tokens : goal.invariant-loop-tokens
invariant-loop-tokens l = Spells l.texts (lists_of l.lists) (lists_of (drop l.tokens-index l.lists)) (map script_tree l.scripts.items)
