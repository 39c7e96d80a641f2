use Rattle.jo_dict.proofs.Views.{blocks_then, counts_block, same_block}
use Rattle.jo_heap_tests.proofs.held.remove.Goals as goal

pub returns-clause-block : goal.returns-clause-block
returns-clause-block c z b =
    c.take_out.ensures.block z c.args.key (same_block c.args.pass.now.view c.locate-place.new.pass.view z c.locate-place.ensures.only b) c.locate-place.ensures.place

pub returns-clause-only : goal.returns-clause-only
returns-clause-only c =
    let v = c.args.pass.now.view in
    let u = c.locate-place.new.pass.view in
    blocks_then v u c.take_out.new.pass.view (counts_block c.requires.held.lock u c.locate-place.ensures.only) c.take_out.ensures.only
