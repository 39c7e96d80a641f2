use Rattle.std.proofs.Common.{◌≡◌, ◌+◌, ◌<◌, ◌≤◌, ℕ, Bool, true, false, refl, sym, ap, ◌∙◌, subst}
use mir.Val.{bool_byte}
use Rattle.std.specs.Prelude.{nat_lt, if◌then◌else◌}
use Rattle.jo_value.specs.declared.limits.TheConstants.{MOST_OBJECTS}
use Rattle.jo_rule.specs.Names.{storage_at}
use Rattle.jo_rule.specs.Views.{View}
use Rattle.jo_steps.specs.Counting.{one_store}
use Rattle.jo_steps.specs.Holding.{MayStoreOwn}
use Rattle.jo_steps.specs.Effects.{StoredOwn}
use Rattle.jo_steps.specs.Views.{PassView}
use Rattle.jo_steps.specs.inner.Storing.{used_after, objects_after}
use Rattle.jo_steps.proofs.Going.{goes_pass, goes_of, store_counted}
use Rattle.jo_steps.proofs.Storing.{stores_own}
use Rattle.jo_steps.proofs.heap.Heap.store_own.Goals as goal

bit_is : (b : Bool) → bool_byte b ≡ (if b then 1 else 0)
bit_is true = refl
bit_is false = refl

pub store_by-requires-clause-place : goal.store_by-requires-clause-place
store_by-requires-clause-place c =
    let v = c.pass.inside.seat.me.0.view in
    let same : c.args.pass.now.view ≡ v = ap (λ (q : PassView). q.view) (sym c.pass.view_is) in
    let own = stores_own c.args.self.now.passes c.pass.inside.seat.id v c.args.at c.args.word c.layout.ensures.few c.pass.invariant.1.live (subst (λ (x : View). x.births.objects ≤ MOST_OBJECTS) same c.requires.pass.objects) (subst (λ (x : View). x.number < c.args.self.now.passes) same c.requires.pass.number) (subst (λ (x : View). MayStoreOwn c.args.self.now.passes x c.args.at c.args.word) same c.requires.own) in
    (own.number, own.is)

pub store_by-requires-clause-keeps : goal.store_by-requires-clause-keeps
store_by-requires-clause-keeps c =
    let v = c.pass.inside.seat.me.0.view in
    let same : c.args.pass.now.view ≡ v = ap (λ (q : PassView). q.view) (sym c.pass.view_is) in
    (stores_own c.args.self.now.passes c.pass.inside.seat.id v c.args.at c.args.word c.layout.ensures.few c.pass.invariant.1.live (subst (λ (x : View). x.births.objects ≤ MOST_OBJECTS) same c.requires.pass.objects) (subst (λ (x : View). x.number < c.args.self.now.passes) same c.requires.pass.number) (subst (λ (x : View). MayStoreOwn c.args.self.now.passes x c.args.at c.args.word) same c.requires.own)).keeps

pub invariant_of-pass : goal.invariant_of-pass
invariant_of-pass c =
    let told = c.store_by.ensures.told in
    let is = c.pass.invariant.1 in
    let v = c.pass.inside.seat.me.0.view in
    let P = c.args.self.now.passes in
    let i = c.args.at in
    let at = c.storage_at-storage.ensures ∙ ap storage_at c.layout.ensures.at in
    let objects : c.pass.inside.objects + c.from.result ≡ objects_after P v.births.objects i =
    ap (λ (n : ℕ). c.pass.inside.objects + n) (c.from.ensures ∙ bit_is (nat_lt i c.storage_at-storage.result)) ∙ (λ j. is.same_objects j + (if nat_lt i (at j) then 1 else 0)) in (
      c.store_by.ensures.same.same_slots ∙ c.pass.invariant.0,
      goes_pass v c.store_by.new.seat.me.0.view c.pass.inside.number c.pass.inside.used c.pass.inside.nodes c.pass.inside.objects (used_after P v.number v.storage.used i) (objects_after P v.births.objects i) c.used_after-pass-inside.result (c.pass.inside.objects + c.from.result) c.pass.inside.counts (one_store v.counts)
          (record c.pass.inside.counts { stores = c.saturating_add-pass-inside.result }) c.pass.inside.stamps.items is told.live told.number told.told.goes (c.used_after-pass-inside.ensures ∙ (λ j. used_after P (is.same_number j) (is.same_used j) i)) objects
          (store_counted c.pass.inside.counts v.counts c.saturating_add-pass-inside.result c.saturating_add-pass-inside.ensures is.same_counts),
    )

pub returns-clause-pass : goal.returns-clause-pass
returns-clause-pass c =
    let told = c.store_by.ensures.told in
    let v = c.pass.inside.seat.me.0.view in
    let P = c.args.self.now.passes in
    goes_of c.args.self.now c.args.pass.now (record { table = c.store_by.new.seat.table_id; seat = c.store_by.new.seat.id; view = c.store_by.new.seat.me.0.view }) v (used_after P v.number v.storage.used c.args.at) (objects_after P v.births.objects c.args.at) (one_store v.counts) c.requires.pass
    (c.store_by.ensures.same.same_table ∙ ap (λ (q : PassView). q.table) c.pass.view_is) (told.number ∙ ap (λ (q : PassView). q.view.number) c.pass.view_is) (told.placed c.pass.invariant.1.live) told.told.goes

pub returns-clause-view : goal.returns-clause-view
returns-clause-view c =
    let same : c.pass.inside.seat.me.0.view ≡ c.args.pass.now.view = ap (λ (q : PassView). q.view) c.pass.view_is in
    subst (λ (x : View). StoredOwn c.args.self.now.passes x c.args.at c.args.word c.store_by.new.seat.me.0.view) same c.store_by.ensures.told.told.told
