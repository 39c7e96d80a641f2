use Rattle.std.proofs.Common.{◌≡◌, ◌≤◌, length, drop}
use Rattle.jo_parse_tree.specs.ScriptViews.{items_list}
use Rattle.jo_code.specs.inner.StatementCode.{items_code}
use Rattle.jo_code.proofs.draft.Draft.+statements.Given as goal

abbrev pub invariant-all-loop-at : goal.invariant-all-loop-at
invariant-all-loop-at l = record {
  within : l.at ≤ length l.items;
  done : l.self ≡ items_code l.scope (items_list (drop l.at l.items)) l.broken l.continued l.initial.self;
  same : l.scope ≡ l.initial.scope;
  rest : l.rest ≡ length l.initial.self;
}

abbrev pub decreases-all-loop-at : goal.decreases-all-loop-at
decreases-all-loop-at l = l.at
