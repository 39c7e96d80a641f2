use Rattle.std.proofs.Common.{rules}
use Rattle.jo_dict.proofs.Views.{fills}
use Rattle.jo_dict.proofs.words.store_fresh.Goals as goal

pub returns-clause-fills : goal.returns-clause-fills
returns-clause-fills c = fills c.args.pass.now.view c.store_own.new.pass.view c.args.k c.args.word _ (c.store_own.ensures.view.fresh c.args.k (search rules))
