use Rattle.std.proofs.Common.{rules, pos}
use Rattle.jo_value.specs.declared.value.Key.TheVariants.{Name}
use Rattle.jo_value.specs.declared.value.Value.TheVariants.{Int}
use Rattle.jo_model.specs.Heaps.{shared}
use Rattle.jo_model.specs.declared.call.Call.TheVariants.{Put}
use Rattle.jo_rule.specs.declared.event.Event.TheVariants.{Place}
use Rattle.jo_steps.specs.Effects.{ReleasesInPlace}
use Rattle.jo_steps_tests.proofs.Shared.{let_go_stays, let_go_unlocked, stays_then, stays_written}
use Rattle.jo_steps_tests.proofs.locks.put_five.Goals as goal

pub returns-clause-stays : goal.returns-clause-stays
returns-clause-stays c =
    let v = c.args.pass.now.view in
    let v1 = c.store_held.new.pass.view in
    let v2 = c.store_held-2.new.pass.view in
    let v3 = c.store_held-3.new.pass.view in
    let leaves : ReleasesInPlace v3 c.args.held c.cell-next.result (Place (Put shared (Name (record { 0 = 7 })) (Int (pos 5)))) = search rules in
    stays_then (stays_written v v1 _ _ _ c.store_held.ensures.view) (stays_then (stays_written v1 v2 _ _ _ c.store_held-2.ensures.view) (stays_then (stays_written v2 v3 _ _ _ c.store_held-3.ensures.view) (let_go_stays (c.release.ensures.view.here leaves))))

pub returns-clause-unlocked : goal.returns-clause-unlocked
returns-clause-unlocked c =
    let leaves : ReleasesInPlace c.store_held-3.new.pass.view c.args.held c.cell-next.result (Place (Put shared (Name (record { 0 = 7 })) (Int (pos 5)))) = search rules in
    let_go_unlocked (c.release.ensures.view.here leaves)
