use Rattle.std.proofs.Common.{◌≡◌, ◌≤◌, ◌++◌, length, drop}
use Rattle.jo_parse_tree.specs.Blocks.{declared_in}
use Rattle.jo_parse_tree.specs.ScriptViews.{items_list}
use Rattle.jo_code.proofs.scope.Scope.enter_items.Given as goal

abbrev pub invariant-loop-at : goal.invariant-loop-at
invariant-loop-at l = record {
  within : l.at ≤ length l.items;
  done : l.self ≡ declared_in (items_list (drop l.at l.items)) ++ l.initial.self;
}

abbrev pub decreases-loop-at : goal.decreases-loop-at
decreases-loop-at l = l.at
