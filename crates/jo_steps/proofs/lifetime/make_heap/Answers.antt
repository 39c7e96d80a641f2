use Rattle.std.proofs.Common.{refl, sym, ap, subst}
use Rattle.jo_rule.specs.Opening.{AreOpening}
use Rattle.atomic_table.specs.Table.{Me}
use Rattle.jo_steps.specs.declared.known.Known.{Known}
use Rattle.jo_steps.proofs.Seating.{begins, first_of}
use Rattle.jo_steps.proofs.lifetime.make_heap.Goals as goal

pub of_words-requires : goal.of_words-requires
of_words-requires c =
    let r = c.requires in
    begins c.args.passes c.as_slice.result.now r.passes.0 r.passes.1 (subst (AreOpening c.args.passes) (sym c.as_slice.ensures.value) r.words)

pub returns : goal.returns
returns c =
    let is = c.in_ok-table.ensures in
    let view = ap (λ (m : Me (Unit {0}) Known). m.0.view) is.4 in
    record { heap = refl; pass = (first_of _ _ c.requires.passes.0 c.requires.passes.1 is.2 view, view) }
