use Rattle.jo_rule.specs.declared.event.Event.TheVariants.{Nothing}
use Rattle.jo_steps.specs.Effects.{ReleasesInPlace}
use Rattle.jo_steps_tests.proofs.Shared.{let_go_may}
use Rattle.jo_steps_tests.proofs.locks.leave_shared.Goals as goal

pub returns-clause-may : goal.returns-clause-may
returns-clause-may c =
    let leaves : ReleasesInPlace c.args.pass.now.view c.args.held c.cell-next.result Nothing = record { same = c.cell-next.ensures; properties = c.requires.held.properties } in
    let_go_may (c.release.ensures.view.here leaves) c.requires.held.born
