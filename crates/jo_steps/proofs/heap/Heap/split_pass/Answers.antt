use Rattle.std.proofs.Common.{sym, ap, ◌∙◌, arith}
use Rattle.atomic_table.specs.Table.{Me}
use Rattle.jo_rule.specs.Steps.{split_left, split_right}
use Rattle.jo_steps.specs.declared.known.Known.{Known}
use Rattle.jo_steps.specs.Views.{HeapView, PassView}
use Rattle.jo_steps.proofs.Seating.{cuts, cut_of, made_of}
use Rattle.jo_steps.proofs.heap.Heap.split_pass.Goals as goal

pub split_seat-seat-requires : goal.split_seat-seat-requires
split_seat-seat-requires c =
    let r = c.requires in
    let s = c.self.invariant in
    let p = c.pass.inside.seat in
    let of = c.pass.view_is in
    let all = s.0 in
    let made = ap (λ (x : PassView). x.view.made) of in
    let passes = s.1 ∙ ap (λ (x : HeapView). x.passes) c.self.view_is in
    let next = r.number.0 in
    let few = r.number.1 in (
      ap (λ (x : PassView). x.table) of ∙ (r.pass.table ∙ sym (ap (λ (x : HeapView). x.table) c.self.view_is)),
      omega arith,
      cuts c.self.inside.table.shared.key p.id p.me.0 c.pass.invariant.1.live (ap (λ (x : PassView). x.view.number) of ∙ r.first) (omega arith),
    )

pub returns : goal.returns
returns c =
    let r = c.requires in
    let e = c.split_seat-seat.ensures in
    let was = ap (λ (x : PassView). x.view) c.pass.view_is in
    let table = ap (λ (x : PassView). x.table) c.pass.view_is in
    let left = ap (λ (m : Me (Unit {0}) Known). m.0.view) e.2 ∙ ap split_left was in
    let right = ap (λ (m : Me (Unit {0}) Known). m.0.view) e.4 ∙ ap split_right was in
    let next = r.number.0 in
    let few = r.number.1 in
    record { left = (cut_of c.args.self.now c.args.pass.now _ r.pass (e.0 ∙ table) left, left); right = (made_of c.args.self.now _ c.args.pass.now.view (omega (arith, next)) r.pass.few (e.3 ∙ (table ∙ r.pass.table)) right, right) }
