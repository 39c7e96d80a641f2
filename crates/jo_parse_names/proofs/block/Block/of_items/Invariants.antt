use Rattle.std.proofs.Common.{drop}
use Rattle.jo_parse_names.specs.inner.Blocks.{IsAlike, with_names}
use Rattle.jo_parse_grammar.specs.Declarations.{at_beginning}
use Rattle.jo_parse_tree.specs.Blocks.{declared_in}
use Rattle.jo_parse_tree.specs.ScriptViews.{items_list}
use Rattle.jo_parse_names.proofs.block.Block.of_items.Given as goal

abbrev pub invariant-loop-item : goal.invariant-loop-item
invariant-loop-item l =
    IsAlike (with_names l.block (declared_in (items_list (drop l.item-index l.items)))) (at_beginning (declared_in (items_list l.items)))
