use Rattle.std.proofs.Common.{◌≡◌, [], ◌∷◌, ◌++◌, arith}
use Rattle.std.proofs.lemmas.Grind.{common_steps}
use Rattle.jo_parse.specs.inner.CutScripts.{sections_in}
use Rattle.jo_parse.proofs.Turns.{read_turn, read_end}
use Rattle.jo_parse.proofs.lex.token_lists.Goals as goal

pub loop-section-preserved : goal.loop-section-preserved
loop-section-preserved c =
    let pushed : c.push.new.self.items ≡ c.loop-section.lists.items ++ c.in_ok-found.found ∷ [] = grind (arith, common_steps) in
    read_turn c.args.texts.now (sections_in c.args.sections.now) c.loop-section.texts c.args.sections.now c.loop-section.section-index c.loop-section.lists.items
    c.loop-section.invariant c.loop-section-test.true _ c.in_ok-found.found c.tokens.new.texts c.in_ok-found.ensures.ok c.push.new.self.items pushed

pub returns-clause-ok : goal.returns-clause-ok
returns-clause-ok c =
    read_end c.args.texts.now (sections_in c.args.sections.now) c.loop-section.texts c.args.sections.now c.loop-section.section-index c.loop-section.lists.items
    c.loop-section.invariant c.loop-section-test.false
