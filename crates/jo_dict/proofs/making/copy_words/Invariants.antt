use Rattle.std.proofs.Common.{◌≡◌}
use Rattle.jo_steps.specs.Holding.{HasLock}
use Rattle.jo_dict.specs.Blocks.{OnlyStorage}
use Rattle.jo_dict.specs.inner.Stored.{Copies, held_words, fresh_words}
use Rattle.jo_dict.proofs.making.copy_words.Given as goal

abbrev pub invariant-loop-k : goal.invariant-loop-k
invariant-loop-k l = record {
  held : HasLock l.heap l.pass l.held;
  copies : Copies (held_words l.fn.pass.view) l.first l.k (fresh_words l.fn.pass.view) (fresh_words l.pass.view);
  used : l.pass.view.storage.used ≡ l.fn.pass.view.storage.used;
  named : l.pass.view.storage.named ≡ l.fn.pass.view.storage.named;
  only : OnlyStorage l.fn.pass.view l.pass.view;
}
