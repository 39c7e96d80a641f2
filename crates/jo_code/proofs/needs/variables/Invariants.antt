use Rattle.std.proofs.Common.{◌≡◌, ◌≤◌, ◌^◌, length, drop}
use Rattle.jo_code.specs.Needs.{variables_of}
use Rattle.jo_code.proofs.needs.variables.Given as goal

abbrev pub invariant-loop-at : goal.invariant-loop-at
invariant-loop-at l = record {
  within : l.at ≤ length l.code;
  most : l.most ≡ variables_of (drop l.at l.code);
  near : l.most ≤ 2 ^ 32;
}

abbrev pub decreases-loop-at : goal.decreases-loop-at
decreases-loop-at l = l.at
