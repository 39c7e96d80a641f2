use Rattle.std.proofs.Common.{sym, ap, ◌∙◌}
use Rattle.jo_rule.specs.Views.{View}
use Rattle.jo_dict.specs.Blocks.{OnlyCounts}
use Rattle.jo_dict.proofs.Views.{held_after}
use Rattle.jo_dict.proofs.words.load_held.Goals as goal

pub returns-clause-held : goal.returns-clause-held
returns-clause-held c =
    let v = c.args.pass.now.view in
    let u = c.load_own.new.pass.view in
    let is = c.load_own.ensures.view in
    let only : OnlyCounts v u = is ∙ sym (ap (λ (x : View). record v { counts = x.counts }) is) in
    record { pass = c.load_own.ensures.pass; lock = held_after c.requires.held.lock u only }
