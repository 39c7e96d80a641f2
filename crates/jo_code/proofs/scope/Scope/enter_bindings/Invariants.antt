use Rattle.std.proofs.Common.{◌≡◌, ◌≤◌, ◌++◌, length, drop}
use Rattle.jo_parse_tree.specs.Blocks.{names_of}
use Rattle.jo_parse_tree.specs.ScriptViews.{bindings_list}
use Rattle.jo_code.proofs.scope.Scope.enter_bindings.Given as goal

abbrev pub invariant-loop-at : goal.invariant-loop-at
invariant-loop-at l = record {
  within : l.at ≤ length l.bindings;
  done : l.self ≡ names_of (bindings_list (drop l.at l.bindings)) ++ l.initial.self;
}

abbrev pub decreases-loop-at : goal.decreases-loop-at
decreases-loop-at l = l.at
