use Rattle.std.proofs.Common.{subst}
use Rattle.jo_dict.specs.Locating.{IsLocated}
use Rattle.jo_dict.proofs.Changed.{none_taken}
use Rattle.jo_dict.proofs.Locating.{none_beyond, none_in_full}
use Rattle.jo_dict.proofs.changing.take_out.Goals as goal

pub returns-in-NoMoreNames-clause-block : goal.returns-in-NoMoreNames-clause-block
returns-in-NoMoreNames-clause-block c z key b is =
    none_taken key b (none_in_full b.properties key (subst (IsLocated c.args.pass.now.view key) c.in-NoMoreNames.is is))

pub returns-in-Beyond-clause-block : goal.returns-in-Beyond-clause-block
returns-in-Beyond-clause-block c z key b is =
    none_taken key b (none_beyond b.properties key _ (subst (IsLocated c.args.pass.now.view key) c.in-Beyond.is is))
