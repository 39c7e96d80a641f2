use Rattle.std.proofs.Common.{refl, ap}
use Rattle.jo_steps.specs.Counting.{one_lock}
use Rattle.jo_steps.specs.Views.{PassView}
use Rattle.jo_guard.proofs.Waiting.{waited_none, waited_looked, waited_tried, waited_born, waited_free, waited_locked}
use Rattle.jo_guard.proofs.locking.wait_for_lock.Goals as goal

pub loop-init : goal.loop-init
loop-init g c = (c.requires.pass, waited_none c.args.heap.now.passes c.args.pass.now.view)

pub load_cell-seen-requires-clause-born : goal.load_cell-seen-requires-clause-born
load_cell-seen-requires-clause-born g c = waited_born c.args.heap.now.passes c.args.pass.now.view c.loop.pass.view c.args.o c.loop.invariant.1 c.requires.born

pub try_lock-requires-clause-born : goal.try_lock-requires-clause-born
try_lock-requires-clause-born g c =
    let v = c.args.pass.now.view in
    let u = c.load_cell-seen.new.pass.view in
    waited_born c.args.heap.now.passes v u c.args.o (waited_looked c.args.heap.now.passes v c.loop.pass.view u c.loop.invariant.1 c.load_cell-seen.ensures.view) c.requires.born

pub try_lock-requires-clause-free : goal.try_lock-requires-clause-free
try_lock-requires-clause-free g c =
    let v = c.args.pass.now.view in
    let u = c.load_cell-seen.new.pass.view in
    waited_free c.args.heap.now.passes v u (waited_looked c.args.heap.now.passes v c.loop.pass.view u c.loop.invariant.1 c.load_cell-seen.ensures.view) c.requires.free

pub returns-in-Ok-clause-taken : goal.returns-in-Ok-clause-taken
returns-in-Ok-clause-taken g c =
    let v = c.args.pass.now.view in
    let u = c.load_cell-seen.new.pass.view in
    let held = c.in-Ok.ensures.held in
    waited_locked c.args.heap.now.passes v u c.try_lock.new.pass.view c.args.o c.in-Ok.held
    (waited_looked c.args.heap.now.passes v c.loop.pass.view u c.loop.invariant.1 c.load_cell-seen.ensures.view) held.0 held.3

pub loop-preserved : goal.loop-preserved
loop-preserved g c =
    let v = c.args.pass.now.view in
    let u = c.load_cell-seen.new.pass.view in
    let seen = c.load_cell-seen.result in
    let lost = c.in_default.ensures.lost in
    let locked = c.in_default.ensures.locked in (
      c.try_lock.ensures.pass,
      waited_tried c.args.heap.now.passes v u c.try_lock.new.pass.view c.args.o seen (one_lock u.counts) seen.locked
          (waited_looked c.args.heap.now.passes v c.loop.pass.view u c.loop.invariant.1 c.load_cell-seen.ensures.view)
          c.load_cell-seen.ensures.cell.kind refl (λ e. ap (λ (p : PassView). p.view) (locked e).1) (λ e. (lost e).2),
    )
