use Rattle.std.proofs.Common.{ap, ◌∙◌, sym, eqb}
use mathlib.Core.Option.{none}
use prog.Atomic.{either}
use Rattle.atomic_table.specs.Table.{step}
use Rattle.jo_rule.specs.Names.{words_in_all}
use Rattle.jo_steps.specs.Views.{HeapView}
use Rattle.jo_steps.proofs.Turning.{turned, inside}
use Rattle.jo_steps.proofs.access.exchange_by.Goals as goal

pub compare_exchange-requires : goal.compare_exchange-requires
compare_exchange-requires g c =
    let h = c.requires in
    let s = c.heap.invariant in
    let is = c.heap.view_is in
    let p = c.args.seat.now in
    let P = g.E.StepKind.passes in
    let key = s.1 ∙ (ap (λ (x : HeapView). x.passes) is ∙ sym h.passes) in
    let all = s.0 ∙ (ap (λ (x : HeapView). words_in_all x.passes) is ∙ ap words_in_all (sym h.passes)) in (
      h.table ∙ sym (ap (λ (x : HeapView). x.table) is),
      inside P _ _ g.E.StepKind.name h.place.0 h.place.1 all,
      turned P _ c.args.at _ p.id p.me g.E.StepKind.name (λ n. either (eqb n c.args.expected) c.args.next n) g.E.StepKind.told (step c.heap.inside.table.shared.table_id.slots c.args.at c.args.expected c.args.next none) key h.place.0 h.place.1 h.keeps,
    )

pub returns : goal.returns
returns g c =
    let e = c.compare_exchange.ensures in
    record { same = record { same_table = e.0; same_id = e.1; same_slots = e.2.0 }; told = e.2.1 }
