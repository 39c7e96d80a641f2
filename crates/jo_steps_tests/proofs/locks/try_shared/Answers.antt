use Rattle.jo_steps_tests.proofs.Shared.{looked_may, lost_may, locked_shared}
use Rattle.jo_steps_tests.proofs.locks.try_shared.Goals as goal

pub returns-then-seen-clause-lost : goal.returns-then-seen-clause-lost
returns-then-seen-clause-lost c = λ e. looked_may c.load_cell-seen.ensures.view c.requires.may

pub lock_cell-requires-clause-born : goal.lock_cell-requires-clause-born
lock_cell-requires-clause-born c = (looked_may c.load_cell-seen.ensures.view c.requires.may).born

pub returns-in-Ok-clause-taken : goal.returns-in-Ok-clause-taken
returns-in-Ok-clause-taken c =
    let held = c.in-Ok.ensures.held in
    locked_shared held.0 held.2 (looked_may c.load_cell-seen.ensures.view c.requires.may)

pub returns-in-Err-clause-lost : goal.returns-in-Err-clause-lost
returns-in-Err-clause-lost c =
    let lost = c.in-Err.ensures.lost in
    λ e. lost_may c.load_cell-seen.new.pass.view c.lock_cell.new.pass.view _ _ _ lost.2 (looked_may c.load_cell-seen.ensures.view c.requires.may)
