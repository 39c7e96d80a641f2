use Rattle.std.proofs.Common.{ap}
use Rattle.jo_rule.specs.Views.{View}
use Rattle.jo_guard.specs.Locking.{HasLocked}
use Rattle.jo_guard.proofs.Waiting.{kept_longer, waited_born, waited_locked, waited_looked, waited_none}
use Rattle.jo_heap_tests.proofs.Keeping.{holds_taken, may_again}
use Rattle.jo_heap_tests.proofs.held.try_held.Goals as goal

pub try_lock-requires-clause-born : goal.try_lock-requires-clause-born
try_lock-requires-clause-born g c =
    let P = c.args.heap.now.passes in
    let v = c.args.pass.now.view in
    let u = c.load_cell-seen.new.pass.view in
    waited_born P v u c.args.o (waited_looked P v v u (waited_none P v) c.load_cell-seen.ensures.view) c.requires.may.born

pub returns-clause-may : goal.returns-clause-may
returns-clause-may g c =
    let P = c.args.heap.now.passes in
    let v = c.args.pass.now.view in
    let u = c.load_cell-seen.new.pass.view in
    let w = c.try_lock.new.pass.view in
    let held = c.in-Ok.ensures.held in
    let taken : HasLocked P c.args.o c.in-Ok.held v w = waited_locked P v u w c.args.o c.in-Ok.held (waited_looked P v v u (waited_none P v) c.load_cell-seen.ensures.view) held.0 held.3 in
    let h = holds_taken taken in
    may_again c.requires.may c.release.ensures.pass h.holding h.used c.release.ensures.view
