use Rattle.std.proofs.Common.{◌≢◌, ℕ, ◌+◌, ◌*◌, ◌<◌}
use Rattle.jo_steps.specs.Holding.{HasLock}
use Rattle.jo_dict.specs.Blocks.{OnlyCounts}
use Rattle.jo_dict.specs.inner.Stored.{held_words}
use Rattle.jo_dict.proofs.finding.pair_of.Given as goal

abbrev pub invariant-loop-at : goal.invariant-loop-at
invariant-loop-at l = record {
  held : HasLock l.heap l.pass l.held;
  only : OnlyCounts l.fn.pass.view l.pass.view;
  before : (j : ℕ) → j < l.at → held_words l.fn.pass.view (2 + 2 * j) ≢ l.name.0;
}
