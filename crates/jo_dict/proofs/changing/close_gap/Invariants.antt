use Rattle.std.proofs.Common.{◌+◌, ◌*◌}
use Rattle.jo_steps.specs.Holding.{HasLock}
use Rattle.jo_dict.specs.Blocks.{OnlyBlock}
use Rattle.jo_dict.specs.inner.Stored.{held_words}
use Rattle.jo_dict.specs.inner.Places.{IsClosed}
use Rattle.jo_dict.proofs.changing.close_gap.Given as goal

abbrev pub invariant-loop-k : goal.invariant-loop-k
invariant-loop-k l = record {
  held : HasLock l.heap l.pass l.held;
  closed : IsClosed (held_words l.fn.pass.view) (2 + 2 * l.place) l.k (held_words l.pass.view);
  only : OnlyBlock l.fn.pass.view l.pass.view;
}
