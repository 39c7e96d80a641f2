use Rattle.std.proofs.Common.{◌≡◌, ◌≤◌, length, drop}
use Rattle.jo_parse_tree.specs.ScriptViews.{trees_list}
use Rattle.jo_code.specs.inner.Code.{pushes_code}
use Rattle.jo_code.proofs.draft.Draft.pushes.Given as goal

abbrev pub invariant-loop-at : goal.invariant-loop-at
invariant-loop-at l = record {
  within : l.at ≤ length l.exprs;
  done : l.self ≡ pushes_code l.scope (trees_list (drop l.at l.exprs)) l.initial.self;
}

abbrev pub decreases-loop-at : goal.decreases-loop-at
decreases-loop-at l = l.at
