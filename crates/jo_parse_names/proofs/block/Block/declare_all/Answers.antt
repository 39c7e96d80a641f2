use Rattle.jo_parse_names.proofs.Counted.{declares-turn}
use Rattle.jo_parse_names.proofs.block.Block.declare_all.Goals as goal

pub loop-binding-preserved : goal.loop-binding-preserved
loop-binding-preserved c =
    declares-turn _ _ _ c.args.bindings.now c.loop-binding.binding-index c.binding-item.result c.loop-binding-test.true c.binding-item.is c.loop-binding.invariant c.in_ok-declare.ensures
