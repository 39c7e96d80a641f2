use Rattle.std.proofs.Common.{◌≡◌, ◌≢◌, ◌≤◌, ℕ, eqb, refl, sym, ap, ◌∙◌, subst, arith}
use prog.Atomic.{either}
use Rattle.std.specs.Prelude.{IfErr, IfOk, Result}
use Rattle.jo_value.specs.declared.limits.TheConstants.{MOST_OBJECTS}
use Rattle.jo_value.specs.declared.words.cell.Cell.{Cell}
use Rattle.jo_value.specs.Words.{cell_bits}
use Rattle.jo_model.specs.Heaps.{IsBorn}
use Rattle.jo_model.specs.Logs.{after}
use Rattle.jo_rule.specs.Names.{cell}
use Rattle.jo_rule.specs.Views.{View}
use Rattle.jo_rule.specs.Steps.{MayTry, with_lost_try}
use Rattle.jo_steps.specs.Counting.{one_lock}
use Rattle.jo_steps.specs.Effects.{IsCellOf, Locked}
use Rattle.jo_steps.specs.Views.{PassView, HeldView}
use Rattle.jo_steps.specs.inner.Tables.{Keeps}
use Rattle.jo_steps.specs.inner.Locking.{HasTried, token}
use Rattle.jo_steps.proofs.Loading.{born_there}
use Rattle.jo_steps.proofs.Going.{goes_pass, goes_of, lock_counted}
use Rattle.jo_steps.proofs.Locking.{tries}
use Rattle.jo_steps.proofs.heap.Heap.lock_cell.Goals.{then-found-expected, else-found-expected}
use Rattle.jo_steps.proofs.heap.Heap.lock_cell.Goals as goal

pub exchange_by-found-requires-clause-place : goal.exchange_by-found-requires-clause-place
exchange_by-found-requires-clause-place c =
    let below = c.requires.pass.number in (c.at_cell-at.ensures, born_there c.args.self.now.passes c.args.pass.now.view.past.seen c.args.o (omega arith) c.requires.born)

pub exchange_by-found-requires-clause-keeps : goal.exchange_by-found-requires-clause-keeps
exchange_by-found-requires-clause-keeps c =
    let P = c.args.self.now.passes in
    let seat = c.pass.inside.seat in
    let v = seat.me.0.view in
    let same : c.args.pass.now.view ≡ v = ap (λ (q : PassView). q.view) (sym c.pass.view_is) in
    subst (λ (z : ℕ × ℕ). Keeps P (cell c.args.o) (λ n. either (eqb n z.0) z.1 n) seat.id v (HasTried P c.args.o c.args.seen v)) (λ i. (sym c.cell_word-expected.ensures i, sym c.cell_word.ensures i))
    (tries P seat.id v c.args.o c.args.seen c.pass.invariant.1.live c.pass.invariant.1.dictionaries (subst (λ (x : View). x.births.objects ≤ MOST_OBJECTS) same c.requires.pass.objects) (subst (λ (x : View). IsBorn (after P x.past.seen) c.args.o) same c.requires.born) (subst (λ (x : View). MayTry x c.args.seen) same c.requires.may))

pub found_cell-requires : goal.found_cell-requires
found_cell-requires c = let is = c.exchange_by-found.ensures.told.told.cell in (is.cell, is.is.is_cell, is.is_word)

pub invariant_of-pass : goal.invariant_of-pass
invariant_of-pass c =
    let told = c.exchange_by-found.ensures.told in
    let is = c.pass.invariant.1 in
    let v = c.pass.inside.seat.me.0.view in (
      c.exchange_by-found.ensures.same.same_slots ∙ c.pass.invariant.0,
      goes_pass v c.exchange_by-found.new.seat.me.0.view c.pass.inside.number c.pass.inside.used c.pass.inside.nodes c.pass.inside.objects v.storage.used v.births.objects c.pass.inside.used c.pass.inside.objects c.pass.inside.counts (one_lock v.counts)
          (record c.pass.inside.counts { locks = c.saturating_add-pass-inside.result }) c.pass.inside.stamps.items is told.live told.number told.told.goes is.same_used is.same_objects (lock_counted c.pass.inside.counts v.counts c.saturating_add-pass-inside.result c.saturating_add-pass-inside.ensures is.same_counts),
    )

pub returns-clause-pass : goal.returns-clause-pass
returns-clause-pass c =
    let told = c.exchange_by-found.ensures.told in
    let v = c.pass.inside.seat.me.0.view in
    goes_of c.args.self.now c.args.pass.now (record { table = c.exchange_by-found.new.seat.table_id; seat = c.exchange_by-found.new.seat.id; view = c.exchange_by-found.new.seat.me.0.view }) v v.storage.used v.births.objects (one_lock v.counts) c.requires.pass
    (c.exchange_by-found.ensures.same.same_table ∙ ap (λ (q : PassView). q.table) c.pass.view_is) (told.number ∙ ap (λ (q : PassView). q.view.number) c.pass.view_is) (told.placed c.pass.invariant.1.live) told.told.goes

pub returns-clause-held : goal.returns-clause-held
returns-clause-held c =
    let same : c.pass.inside.seat.me.0.view ≡ c.args.pass.now.view = ap (λ (q : PassView). q.view) c.pass.view_is in
    let u = c.exchange_by-found.new.seat.me.0.view in
    elim c.if-found-expected.branch [
      | then-found-expected w ↦ subst (λ (x : Result HeldView Cell). IfOk x (λ held. (held.object ≡ c.args.o) × (held.cell ≡ c.args.seen) × Locked c.args.self.now.passes held c.args.pass.now.view u)) (sym w.result-is)
          (refl, refl, subst (λ (v : View). Locked c.args.self.now.passes (token c.args.o c.args.seen) v u) same (c.exchange_by-found.ensures.told.told.taken (w.if-found-expected.true ∙ c.cell_word-expected.ensures)))
      | else-found-expected w ↦ subst (λ (x : Result HeldView Cell). IfOk x (λ held. (held.object ≡ c.args.o) × (held.cell ≡ c.args.seen) × Locked c.args.self.now.passes held c.args.pass.now.view u)) (sym w.result-is) tt
    ]

pub returns-clause-lost : goal.returns-clause-lost
returns-clause-lost c =
    let same : c.pass.inside.seat.me.0.view ≡ c.args.pass.now.view = ap (λ (q : PassView). q.view) c.pass.view_is in
    let u = c.exchange_by-found.new.seat.me.0.view in
    let lost : Cell → Type 0 = λ found. IsCellOf c.args.o found × (found ≢ c.args.seen) × (u ≡ with_lost_try c.args.pass.now.view c.args.o c.args.seen (one_lock c.args.pass.now.view.counts)) in
    elim c.if-found-expected.branch [
      | then-found-expected w ↦ subst (λ (x : Result HeldView Cell). IfErr x lost) (sym w.result-is) tt
      | else-found-expected w ↦
          let is = c.exchange_by-found.ensures.told.told.cell in
          let one : w.found_cell.result ≡ is.cell = w.found_cell.ensures is.cell is.is.is_cell is.is_word in
          let view = c.exchange_by-found.ensures.told.told.lost (λ e. w.if-found-expected.false (e ∙ sym c.cell_word-expected.ensures)) in
          subst (λ (x : Result HeldView Cell). IfErr x lost) (sym w.result-is)
          (subst (IsCellOf c.args.o) (sym one) is.is, (λ e. w.if-found-expected.false (is.is_word ∙ (ap cell_bits (sym one ∙ e) ∙ sym c.cell_word-expected.ensures))), view ∙ ap (λ (x : View). with_lost_try x c.args.o c.args.seen (one_lock x.counts)) same)
    ]
