use Rattle.jo_dict.proofs.Views.{still_held, stores_held, writes_only}
use Rattle.jo_dict.proofs.words.store_held.Goals as goal

pub returns-clause-held : goal.returns-clause-held
returns-clause-held c =
    let is = c.store_own.ensures.view.held c.args.k c.requires.within.0 c.at_held-at.ensures in
    record { pass = c.store_own.ensures.pass; lock = still_held c.requires.held.lock c.args.k c.args.word _ c.store_own.new.pass.view c.requires.within.0 is }

pub returns-clause-words : goal.returns-clause-words
returns-clause-words c =
    let is = c.store_own.ensures.view.held c.args.k c.requires.within.0 c.at_held-at.ensures in
    stores_held c.requires.held.lock c.args.k c.args.word _ c.store_own.new.pass.view c.requires.within.1 is

pub returns-clause-only : goal.returns-clause-only
returns-clause-only c =
    let is = c.store_own.ensures.view.held c.args.k c.requires.within.0 c.at_held-at.ensures in
    writes_only c.args.pass.now.view c.store_own.new.pass.view c.args.k c.args.word _ is
