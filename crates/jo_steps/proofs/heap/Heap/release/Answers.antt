use Rattle.std.proofs.Common.{◌≡◌, ◌≤◌, ℕ, true, refl, sym, ap, ◌∙◌, subst}
use Rattle.jo_value.specs.declared.limits.TheConstants.{MOST_OBJECTS}
use Rattle.jo_rule.specs.Names.{cell, is_object}
use Rattle.jo_rule.specs.Views.{View}
use Rattle.jo_rule.specs.Steps.{MayRelease}
use Rattle.jo_steps.specs.Counting.{one_store}
use Rattle.jo_steps.specs.Holding.{HoldsLock, lock_of}
use Rattle.jo_steps.specs.Effects.{ReleasesTo, MayReleaseTo}
use Rattle.jo_value.specs.declared.capacities.TheConstants.{MOST_PASSES}
use Rattle.jo_steps.specs.Views.{HeapView, PassView, HeldView}
use Rattle.jo_steps.specs.inner.Tables.{Keeps}
use Rattle.jo_steps.specs.inner.Locking.{HasReleased, token}
use Rattle.jo_steps.proofs.Going.{goes_pass, goes_of, store_counted}
use Rattle.jo_steps.proofs.Locking.{lets_go, left_address}
use Rattle.jo_steps.specs.declared.heap.Heap.TheInside.{Inside}
use Rattle.jo_steps.specs.contracts.heap.Heap.{the_view}
use Rattle.jo_steps.proofs.heap.Heap.release.Goals as goal

few : (inside : Inside) (h : HeapView) → the_view inside ≡ h → inside.passes ≤ MOST_PASSES → h.passes ≤ MOST_PASSES
few inside h e most = subst (λ (h : HeapView). h.passes ≤ MOST_PASSES) e most

pub cell_word-requires-clause-address : goal.cell_word-requires-clause-address
cell_word-requires-clause-address c = left_address c.args.self.now.passes c.args.self.now c.args.pass.now c.args.held c.args.next c.args.event (few c.self.inside c.args.self.now c.self.view_is c.self.invariant.2) refl c.requires.pass c.requires.held c.requires.next

pub store_by-requires-clause-place : goal.store_by-requires-clause-place
store_by-requires-clause-place c = (c.at_cell-at.ensures, subst (λ (h : HeldView). is_object c.args.self.now.passes h.object ≡ true) (sym c.held.view_is) c.requires.held.there)

pub store_by-requires-clause-keeps : goal.store_by-requires-clause-keeps
store_by-requires-clause-keeps c =
    let P = c.args.self.now.passes in
    let seat = c.pass.inside.seat in
    let v = seat.me.0.view in
    let held = token c.held.inside.object c.held.inside.cell in
    let same : c.args.pass.now.view ≡ v = ap (λ (q : PassView). q.view) (sym c.pass.view_is) in
    let both : (c.args.pass.now.view, c.args.held) ≡ (v, held) = λ i. (same i, sym c.held.view_is i) in
    subst (λ (x : ℕ). Keeps P (cell held.object) (λ n. x) seat.id v (λ n u. HasReleased P held c.args.next c.args.event v u)) (sym c.cell_word.ensures)
    (lets_go P seat.id v held c.args.next c.args.event (few c.self.inside c.args.self.now c.self.view_is c.self.invariant.2) c.pass.invariant.1.live (subst (λ (x : View). x.births.objects ≤ MOST_OBJECTS) same c.requires.pass.objects) (subst (λ (x : View × HeldView). HoldsLock P x.0 x.1) both c.requires.held)
    (subst (λ (x : View). MayRelease P x (lock_of x) c.args.event) same c.requires.event) (subst (λ (x : View × HeldView). MayReleaseTo x.0 x.1 c.args.next c.args.event) both c.requires.next))

pub invariant_of-pass : goal.invariant_of-pass
invariant_of-pass c =
    let told = c.store_by.ensures.told in
    let is = c.pass.invariant.1 in
    let v = c.pass.inside.seat.me.0.view in (
      c.store_by.ensures.same.same_slots ∙ c.pass.invariant.0,
      goes_pass v c.store_by.new.seat.me.0.view c.pass.inside.number c.pass.inside.used c.pass.inside.nodes c.pass.inside.objects v.storage.used v.births.objects c.pass.inside.used c.pass.inside.objects c.pass.inside.counts (one_store v.counts)
          (record c.pass.inside.counts { stores = c.saturating_add-pass-inside.result }) c.pass.inside.stamps.items is told.live told.number told.told.goes is.same_used is.same_objects (store_counted c.pass.inside.counts v.counts c.saturating_add-pass-inside.result c.saturating_add-pass-inside.ensures is.same_counts),
    )

pub returns-clause-pass : goal.returns-clause-pass
returns-clause-pass c =
    let told = c.store_by.ensures.told in
    let v = c.pass.inside.seat.me.0.view in
    goes_of c.args.self.now c.args.pass.now (record { table = c.store_by.new.seat.table_id; seat = c.store_by.new.seat.id; view = c.store_by.new.seat.me.0.view }) v v.storage.used v.births.objects (one_store v.counts) c.requires.pass
    (c.store_by.ensures.same.same_table ∙ ap (λ (q : PassView). q.table) c.pass.view_is) (told.number ∙ ap (λ (q : PassView). q.view.number) c.pass.view_is) (told.placed c.pass.invariant.1.live) told.told.goes

pub returns-clause-view : goal.returns-clause-view
returns-clause-view c =
    let same : c.pass.inside.seat.me.0.view ≡ c.args.pass.now.view = ap (λ (q : PassView). q.view) c.pass.view_is in
    subst (λ (x : View × HeldView). ReleasesTo c.args.self.now.passes x.0 x.1 c.args.next c.args.event c.store_by.new.seat.me.0.view) (λ i. (same i, c.held.view_is i)) c.store_by.ensures.told.told.released
