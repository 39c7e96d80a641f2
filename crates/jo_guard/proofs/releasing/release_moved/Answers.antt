use Rattle.jo_rule.specs.Dictionaries.{block_size}
use Rattle.jo_rule.specs.Steps.{with_named}
use Rattle.jo_guard.proofs.Releases.{release_told}
use Rattle.jo_guard.proofs.releasing.release_moved.Goals as goal

pub returns-clause-view : goal.returns-clause-view
returns-clause-view c k room here filled =
    let v = c.args.pass.now.view in
    release_told c.args.heap.now.passes c.args.event (with_named v.storage k (block_size room)) v c.release.new.pass.view c.requires.event.on (c.release.ensures.view.moved k room (record { moved = cc; filled = filled }))
