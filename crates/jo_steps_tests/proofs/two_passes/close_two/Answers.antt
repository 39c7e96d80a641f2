use Rattle.std.proofs.Common.{◌≡◌, sym, ap, ◌∙◌, subst, arith, List, ◌∷◌, ◌++◌}
use lib.ListN.{get_elem?}
use Rattle.jo_rule.specs.Ending.{HasJoinedAll}
use Rattle.jo_rule.specs.Steps.{joined, kept_of}
use Rattle.jo_rule.specs.Views.{Kept}
use Rattle.jo_steps_tests.proofs.two_passes.close_two.Goals as goal

pub close_heap-requires-clause-joined : goal.close_heap-requires-clause-joined
close_heap-requires-clause-joined c =
    let v = c.args.first.view in
    let u = c.args.second.view in
    let first = c.requires.first in
    let made = first.1 in
    let both : (joined v u).kept ≡ kept_of u ∷ u.kept = ap (λ (l : List Kept). l ++ kept_of u ∷ u.kept) first.2 in
    subst HasJoinedAll (sym c.join_pass.ensures.view) record {
      first = first.0;
      others = λ t lo hi. let one : 1 ≡ t = omega arith in (0, kept_of u, ap (λ (l : List Kept). get_elem? l 0) both, c.requires.second.0 ∙ one);
      unlocked = first.3;
    }
