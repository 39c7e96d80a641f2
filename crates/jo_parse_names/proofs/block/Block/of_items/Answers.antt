use Rattle.jo_parse_tree.specs.Blocks.{declared_in}
use Rattle.jo_parse_tree.specs.ScriptViews.{items_list}
use Rattle.jo_parse_grammar.specs.Declarations.{at_beginning}
use Rattle.jo_parse_names.proofs.Counted.{items-declare-turn, begun}
use Rattle.jo_parse_names.proofs.block.Block.of_items.Goals as goal

pub loop-item-init : goal.loop-item-init
loop-item-init c =
    let names = declared_in (items_list c.args.items.now) in
    rw (c.new-block.ensures) (begun names)

pub loop-item-preserved : goal.loop-item-preserved
loop-item-preserved c =
    items-declare-turn _ (at_beginning (declared_in (items_list c.args.items.now))) _ c.args.items.now c.loop-item.item-index c.item-item.result c.loop-item-test.true c.item-item.is c.loop-item.invariant c.in_ok-declare_item.ensures
