use Rattle.jo_guard.proofs.Releases.{release_told}
use Rattle.jo_guard.proofs.releasing.release.Goals as goal

pub returns-clause-view : goal.returns-clause-view
returns-clause-view c =
    let v = c.args.pass.now.view in
    release_told c.args.heap.now.passes c.args.event v.storage v c.release.new.pass.view c.requires.event.on (c.release.ensures.view.here (record { same = c.cell-cell.ensures; properties = c.requires.block.properties }))
