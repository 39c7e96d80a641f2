use Rattle.std.proofs.Common.{◌≡◌, ◌<◌, ◌++◌, ◌+◌, ◌-◌, ◌≤◌}
use Rattle.std.specs.Prelude.{◌%◌}
use Rattle.jo_made.specs.Made.{made, more_scripts}
use Rattle.jo_made.proofs.made_set.Given as goal

abbrev pub invariant-loop-script : goal.invariant-loop-script
invariant-loop-script l = record {
  within : (2 ≤ l.script) × (l.script ≤ 3 + l.fn.number % 7);
  below : l.last < 1009;
  rest : l.set.items ++ more_scripts (3 + l.fn.number % 7 - l.script) l.script l.last ≡ made l.fn.number;
}
