use Rattle.std.proofs.Common.{refl, sym, ap, ◌∙◌, subst}
use Rattle.jo_rule.specs.Views.{View}
use Rattle.jo_steps.specs.Counting.{one_load}
use Rattle.jo_steps.specs.Views.{PassView, IsPassOf}
use Rattle.jo_steps.specs.Holding.{MayLoadOwn}
use Rattle.jo_steps.specs.Effects.{LoadedOwn}
use Rattle.jo_steps.proofs.Loading.{own_there, keeps_own}
use Rattle.jo_steps.proofs.Staying.{stays_of, stays_pass, counted_stays, load_counted}
use Rattle.jo_steps.proofs.heap.Heap.load_own.Goals as goal

pub load_by-word-requires : goal.load_by-word-requires
load_by-word-requires c =
    let P = c.args.self.now.passes in
    let p = c.pass.inside.seat in
    let is = subst (IsPassOf c.args.self.now) (sym c.pass.view_is) c.requires.pass in
    let may = subst (λ (q : PassView). MayLoadOwn P q.view c.args.at) (sym c.pass.view_is) c.requires.own in
    record {
      table = is.table;
      passes = refl;
      place = own_there P p.me.0.view c.args.at is.number may;
      keeps = keeps_own P p.id c.args.at p.me.0.view c.pass.invariant.1.live is.number;
    }

pub invariant_of-pass : goal.invariant_of-pass
invariant_of-pass c =
    let v = c.pass.inside.seat.me.0.view in
    let u = c.load_by-word.new.seat.me.0.view in
    let i = c.pass.invariant in
    let after = c.load_by-word.ensures in
    let is = after.told.told.1 in
    let counted = load_counted c.pass.inside.counts v.counts _ c.saturating_add-pass-inside.ensures i.1.same_counts in (
      after.same.same_slots ∙ i.0,
      stays_pass v u _ _ _ _ c.pass.inside.counts _ _ i.1 (counted_stays v u _ is) (counted ∙ sym (ap (λ (x : View). x.counts) is)),
    )

pub returns : goal.returns
returns c =
    let v = c.pass.inside.seat.me.0.view in
    let u = c.load_by-word.new.seat.me.0.view in
    let after = c.load_by-word.ensures in
    let of = subst (IsPassOf c.args.self.now) (sym c.pass.view_is) c.requires.pass in
    record {
      pass = stays_of c.args.self.now _ _ of after.same.same_table (counted_stays v u _ after.told.told.1) (after.told.placed c.pass.invariant.1.live);
      word = subst (λ (q : PassView). LoadedOwn c.args.self.now.passes q.view c.args.at c.load_by-word.result) c.pass.view_is after.told.told.0;
      view = after.told.told.1 ∙ ap (λ (q : PassView). record q.view { counts = one_load q.view.counts }) c.pass.view_is;
    }
