use Rattle.std.proofs.Common.{◌≡◌, length}
use Rattle.jo_steps.specs.Holding.{HasLock}
use Rattle.jo_dict.specs.Blocks.{OnlyCounts}
use Rattle.jo_dict.specs.inner.Stored.{held_words}
use Rattle.jo_dict.specs.inner.Places.{names_in}
use Rattle.jo_dict.proofs.listing.list_of.Given as goal

abbrev pub invariant-loop-place : goal.invariant-loop-place
invariant-loop-place l = record {
  held : HasLock l.heap l.pass l.held;
  only : OnlyCounts l.fn.pass.view l.pass.view;
  list : l.list ≡ names_in (held_words l.fn.pass.view) l.place;
  long : length l.list ≡ l.place;
}
