use Rattle.std.proofs.Common.{sym, ap, ◌∙◌, arith}
use Rattle.atomic_table.specs.Table.{Me}
use Rattle.jo_rule.specs.Names.{epoch}
use Rattle.jo_rule.specs.Steps.{joined}
use Rattle.jo_rule.specs.Views.{View}
use Rattle.jo_steps.specs.Views.{HeapView, PassView}
use Rattle.jo_steps.specs.declared.known.Known.{Known}
use Rattle.jo_steps.proofs.Loading.{keeps_still}
use Rattle.jo_steps.proofs.Seating.{glues, joined_of}
use Rattle.jo_steps.proofs.heap.Heap.join_pass.Goals as goal

pub join_seat-requires : goal.join_seat-requires
join_seat-requires c =
    let r = c.requires in
    let p = c.into.inside.seat in
    let q = c.from.inside.seat in
    let all = c.self.invariant.0 in
    let table = sym (ap (λ (x : HeapView). x.table) c.self.view_is) in (
      ap (λ (x : PassView). x.table) c.into.view_is ∙ (r.passes.0.table ∙ table),
      ap (λ (x : PassView). x.table) c.from.view_is ∙ (r.passes.1.table ∙ table),
      c.from.invariant.0,
      omega arith,
      glues c.self.inside.table.shared.key p.id q.id p.me.0 q.me.0 c.into.invariant.1.live c.from.invariant.1.live c.from.invariant.1.dictionaries (ap (λ (x : PassView). x.view.lock) c.from.view_is ∙ r.free),
    )

pub load_by-requires-clause-keeps : goal.load_by-requires-clause-keeps
load_by-requires-clause-keeps c =
    let seat = c.join_seat.new.seat in
    keeps_still c.args.self.now.passes seat.id epoch seat.me.0.view (ap (λ (m : Me (Unit {0}) Known). m.0.view.live) c.join_seat.ensures.2 ∙ c.into.invariant.1.live)

pub returns : goal.returns
returns c =
    let e = c.join_seat.ensures in
    let told = c.load_by.ensures.told in
    let into = c.into.view_is in
    let known = ap (λ (m : Me (Unit {0}) Known). m.0.view) e.2 in
    let view = told.told ∙ (known ∙ (λ i. joined (into i).view (c.from.view_is i).view)) in
    record {
      pass = joined_of c.args.self.now c.args.into.now _ c.args.from.view c.requires.passes.0 (c.load_by.ensures.same.same_table ∙ (e.0 ∙ ap (λ (x : PassView). x.table) into)) view (told.placed (ap (λ (v : View). v.live) known ∙ c.into.invariant.1.live));
      view = view;
    }
