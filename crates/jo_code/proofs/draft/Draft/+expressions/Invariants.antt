use Rattle.std.proofs.Common.{◌≡◌, ◌≤◌, drop, length}
use Rattle.jo_parse_tree.specs.Views.{accesses_list, links_list, props_list}
use Rattle.jo_code.specs.inner.Code.{Giver, fills_code, fused_code, links_code, reaches_code}
use Rattle.jo_code.specs.inner.Emitted.{left_at, nothing}
use Rattle.jo_code.proofs.Chained.{use_before}
use Rattle.jo_code.proofs.draft.Draft.+expressions.Given as goal

abbrev pub invariant-fused-loop-at : goal.invariant-fused-loop-at
invariant-fused-loop-at l = record {
  within : l.at ≤ length l.links;
  done : (e : Giver) → fused_code l.scope l.decided l.when l.skip e (links_list (drop l.at l.links)) l.initial.self ≡ e l.to l.self;
}

abbrev pub decreases-fused-loop-at : goal.decreases-fused-loop-at
decreases-fused-loop-at l = l.at

abbrev pub invariant-links-loop-at : goal.invariant-links-loop-at
invariant-links-loop-at l = record {
  within : l.at ≤ length l.links;
  given : l.to ≡ use_before (links_list (drop l.at l.links)) l.initial.to;
  done : l.self ≡ links_code l.scope (left_at l.at l.first) (links_list (drop l.at l.links)) l.initial.to l.initial.self;
}

abbrev pub decreases-links-loop-at : goal.decreases-links-loop-at
decreases-links-loop-at l = l.at

abbrev pub invariant-fills-loop-at : goal.invariant-fills-loop-at
invariant-fills-loop-at l = record {
  within : l.at ≤ length l.props;
  done : l.self ≡ fills_code l.scope (props_list (drop l.at l.props)) l.initial.self;
}

abbrev pub decreases-fills-loop-at : goal.decreases-fills-loop-at
decreases-fills-loop-at l = l.at

abbrev pub invariant-accesses-loop-at : goal.invariant-accesses-loop-at
invariant-accesses-loop-at l = record {
  within : l.at ≤ length l.accesses;
  done : l.self ≡ reaches_code l.scope l.late (left_at l.at l.base) (accesses_list (drop l.at l.accesses)) nothing l.initial.self;
}

abbrev pub decreases-accesses-loop-at : goal.decreases-accesses-loop-at
decreases-accesses-loop-at l = l.at
