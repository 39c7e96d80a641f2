use Rattle.std.proofs.Common.{sym, subst, ◌<◌, length, arith, rules}
use Rattle.std.proofs.lemmas.Grind.{common_steps}
use Rattle.jo_parse_tree.specs.ScriptViews.{script_tree}
use Rattle.jo_parse_grammar.specs.Sound.{IsSound}
use Rattle.jo_parse.proofs.Scripts.{sound_at}
use Rattle.jo_parse.proofs.set.ScriptSet.script.Goals as goal

pub returns-clause-sound : goal.returns-clause-sound
returns-clause-sound c =
    let set = c.self.inside in
    let script = c.index.result.now in
    let within : c.from.result < length set.scripts.items = grind (arith, common_steps) in
    let sound = sound_at set.texts set.scripts.items c.from.result script (search rules) within in
    subst (λ v. IsSound v.1 (script_tree script)) c.self.view_is
    (subst (λ v. IsSound set.texts (script_tree v)) (sym c.index.ensures) sound)
