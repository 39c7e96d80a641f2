use Rattle.std.proofs.Common.{ℕ, List, sym, ap, ◌∙◌, subst}
use Rattle.jo_rule.specs.Areas.{words_of}
use Rattle.jo_rule.specs.Ending.{HasEnded, HasJoinedAll}
use Rattle.jo_rule.specs.Views.{View}
use Rattle.jo_steps.specs.Views.{PassView}
use Rattle.jo_steps.proofs.Seating.{finishes}
use Rattle.jo_steps.proofs.lifetime.close_heap.Goals as goal

pub returns-clause-ended : goal.returns-clause-ended
returns-clause-ended c =
    let key = c.heap.invariant.1 in
    let last = c.close_with-words.ensures.values.2 in
    let p = c.pass.inside.seat in
    let was = ap (λ (x : PassView). x.view) c.pass.view_is in
    let same = was ∙ ap (λ (x : PassView). x.view) (sym c.of-past.ensures) in
    subst (λ (x : (ℕ × List ℕ) × View). HasEnded x.0.0 (words_of x.0.0 x.0.1) x.1) (λ i. ((key i, last.2 i), same i))
    (finishes c.heap.inside.table.shared.key p.id p.me.0 last.0 last.1 c.pass.invariant.1.live (subst HasJoinedAll (sym was) c.requires.joined))
