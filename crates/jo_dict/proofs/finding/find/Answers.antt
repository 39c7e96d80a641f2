use Rattle.std.proofs.Common.{sym, ap, subst}
use Rattle.jo_rule.specs.Dictionaries.{slot_in}
use Rattle.jo_dict.specs.Locating.{IsLocated}
use Rattle.jo_dict.proofs.Locating.{none_in_full}
use Rattle.jo_dict.proofs.finding.find.Goals as goal

pub returns-in-NoMoreNames-clause-found : goal.returns-in-NoMoreNames-clause-found
returns-in-NoMoreNames-clause-found c z key b is =
    sym (ap slot_in (none_in_full b.properties key (subst (IsLocated c.args.pass.now.view key) c.in-NoMoreNames.is is)))
