use Rattle.std.proofs.Common.{refl, sym, ap, ◌∙◌, subst, arith}
use Rattle.jo_model.specs.Heaps.{IsBorn}
use Rattle.jo_model.specs.Logs.{after}
use Rattle.jo_rule.specs.Views.{View}
use Rattle.jo_steps.specs.Views.{PassView, IsPassOf}
use Rattle.jo_steps.specs.Effects.{IsCellOf, Looked, MayPlaceByLoad}
use Rattle.jo_steps.proofs.Loading.{born_there, keeps_look}
use Rattle.jo_steps.proofs.Staying.{stays_of, stays_pass, placing_stays, load_counted}
use Rattle.jo_steps.proofs.heap.Heap.load_cell.Goals as goal

pub load_by-word-requires : goal.load_by-word-requires
load_by-word-requires c =
    let P = c.args.self.now.passes in
    let p = c.pass.inside.seat in
    let is = subst (IsPassOf c.args.self.now) (sym c.pass.view_is) c.requires.pass in
    let below = is.number in
    let born = subst (λ (q : PassView). IsBorn (after P q.view.past.seen) c.args.o) (sym c.pass.view_is) c.requires.born in
    let may = subst (λ (q : PassView). MayPlaceByLoad P q.view c.args.event) (sym c.pass.view_is) c.requires.event in
    record {
      table = is.table;
      passes = refl;
      place = (c.at_cell-at.ensures, born_there P p.me.0.view.past.seen c.args.o (omega arith) born);
      keeps = keeps_look P p.id c.args.o c.args.event p.me.0.view c.pass.invariant.1.live c.pass.invariant.1.dictionaries born may;
    }

pub found_cell-requires : goal.found_cell-requires
found_cell-requires c = let is = c.load_by-word.ensures.told.told.1 in (is.cell, is.is.is_cell, is.is_word)

pub invariant_of-pass : goal.invariant_of-pass
invariant_of-pass c =
    let v = c.pass.inside.seat.me.0.view in
    let u = c.load_by-word.new.seat.me.0.view in
    let i = c.pass.invariant in
    let after = c.load_by-word.ensures in
    let look = after.told.told.0 in
    let counted = load_counted c.pass.inside.counts v.counts _ c.saturating_add-pass-inside.ensures i.1.same_counts in (
      after.same.same_slots ∙ i.0,
      stays_pass v u _ _ _ _ c.pass.inside.counts _ _ i.1 (placing_stays _ v u _ _ _ look.view) (counted ∙ sym (ap (λ (x : View). x.counts) look.view)),
    )

pub returns : goal.returns
returns c =
    let P = c.args.self.now.passes in
    let v = c.pass.inside.seat.me.0.view in
    let u = c.load_by-word.new.seat.me.0.view in
    let after = c.load_by-word.ensures in
    let look = after.told.told.0 in
    let found = after.told.told.1 in
    let of = subst (IsPassOf c.args.self.now) (sym c.pass.view_is) c.requires.pass in
    record {
      pass = stays_of c.args.self.now _ _ of after.same.same_table (placing_stays _ v u _ _ _ look.view) (after.told.placed c.pass.invariant.1.live);
      view = subst (λ (q : PassView). Looked P c.args.event q.view u) c.pass.view_is look;
      cell = subst (IsCellOf c.args.o) (sym (c.found_cell.ensures found.cell found.is.is_cell found.is_word)) found.is;
    }
