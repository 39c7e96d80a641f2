use Rattle.std.proofs.Common.{ap}
use Rattle.jo_rule.specs.Views.{View}
use Rattle.jo_steps_tests.proofs.Shared.{same_lock}
use Rattle.jo_steps_tests.proofs.block_words.load_held.Goals as goal

pub returns-clause-held : goal.returns-clause-held
returns-clause-held c = same_lock (ap (λ (x : View). x.lock) c.load_own.ensures.view) c.requires.held
