use Rattle.jo_steps_tests.proofs.Shared.{still_held}
use Rattle.jo_steps_tests.proofs.block_words.store_held.Goals as goal

pub returns-clause-held : goal.returns-clause-held
returns-clause-held c =
    let is = c.store_own.ensures.view.held c.args.k c.requires.within.0 c.at_held-at.ensures in
    still_held c.args.pass.now.view c.store_own.new.pass.view c.args.k c.args.word _ c.requires.within.0 is c.requires.held
