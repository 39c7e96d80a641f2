use Rattle.jo_dict.proofs.Views.{blocks_then, counts_block, same_block}
use Rattle.std.proofs.Common.{subst}
use Rattle.jo_dict.specs.Locating.{IsLocated}
use Rattle.jo_heap_tests.proofs.held.place.Goals as goal

pub add-requires-clause-place : goal.add-requires-clause-place
add-requires-clause-place g c = (c.args.key, subst (IsLocated c.locate.new.pass.view c.args.key) c.in-At.is c.locate.ensures.place)

pub returns-clause-block : goal.returns-clause-block
returns-clause-block g c z b =
    let u = c.locate.new.pass.view in
    c.add.ensures.block z c.args.key (same_block c.args.pass.now.view u z c.locate.ensures.only b) (subst (IsLocated u c.args.key) c.in-At.is c.locate.ensures.place)

pub returns-clause-only : goal.returns-clause-only
returns-clause-only g c =
    let v = c.args.pass.now.view in
    let u = c.locate.new.pass.view in
    blocks_then v u c.add.new.pass.view (counts_block c.requires.held.lock u c.locate.ensures.only) c.add.ensures.only
