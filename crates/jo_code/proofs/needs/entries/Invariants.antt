use Rattle.std.proofs.Common.{◌≡◌, ◌≤◌, length, drop}
use Rattle.jo_code.specs.Needs.{needs, entries_of}
use Rattle.jo_code.proofs.needs.entries.Given as goal

abbrev pub invariant-loop-at : goal.invariant-loop-at
invariant-loop-at l = record {
  within : l.at ≤ length l.code;
  all : l.needs ≡ needs (drop l.at l.code);
  most : l.greatest ≡ entries_of (drop l.at l.code);
}

abbrev pub decreases-loop-at : goal.decreases-loop-at
decreases-loop-at l = l.at
