use Rattle.std.proofs.Common.{◌≡◌, ◌∙◌, ap, subst, [], ◌∷◌, ◌++◌, arith, rules}
use Rattle.std.proofs.lemmas.Grind.{common_steps}
use Rattle.jo_value.specs.declared.limits.TheConstants.{MOST_OPEN}
use Rattle.jo_parse_tree.specs.ScriptViews.{script_tree}
use Rattle.jo_parse_grammar.specs.Statements.{IsScript}
use Rattle.jo_parse_grammar.specs.Refusals.{IsAccepted}
use Rattle.jo_parse_grammar.specs.TokenRefusals.{IsFault}
use Rattle.jo_parse_grammar.specs.Terminals.{terminals_of}
use Rattle.jo_parse.specs.inner.Stages.{IsTreeFault, lists_of}
use Rattle.jo_parse.proofs.Turns.{spell_turn, spell_fault, spell_end}
use Rattle.jo_parse.proofs.trees.parse_scripts.Goals as goal

pub loop-tokens-preserved : goal.loop-tokens-preserved
loop-tokens-preserved c =
    let texts = c.args.texts.now in
    let script = c.in_ok-script.script in
    let pushed : c.push.new.self.items ≡ c.loop-tokens.scripts.items ++ script ∷ [] = grind (arith, common_steps) in
    let tokens = c.as_slice.ensures.value ∙ ap (λ v. v.items) c.tokens-item.is in
    let is = subst (λ v. IsAccepted IsScript MOST_OPEN (terminals_of texts v) (script_tree script)) tokens c.in_ok-script.ensures.ok in
    spell_turn texts c.args.lists.now c.args.lists.now c.loop-tokens.tokens-index c.loop-tokens.scripts.items
    c.loop-tokens.invariant c.loop-tokens-test.true c.tokens-item.result script is c.push.new.self.items pushed

pub returns-clause-ok : goal.returns-clause-ok
returns-clause-ok c =
    spell_end c.args.texts.now c.args.lists.now c.args.lists.now c.loop-tokens.tokens-index c.loop-tokens.scripts.items
    c.loop-tokens.invariant c.loop-tokens-test.false

pub returns-in_err-script-clause-refused : goal.returns-in_err-script-clause-refused
returns-in_err-script-clause-refused c =
    let texts = c.args.texts.now in
    let fault = c.in_err-script.field-0.0 in
    let tokens = c.as_slice.ensures.value ∙ ap (λ v. v.items) c.tokens-item.is in
    let is = subst (λ v. IsFault IsScript v (terminals_of texts v) fault) tokens c.in_err-script.ensures.refused in
    let refused : IsTreeFault texts (lists_of c.args.lists.now) fault =
    spell_fault texts c.args.lists.now c.args.lists.now c.loop-tokens.tokens-index c.loop-tokens.scripts.items
    c.loop-tokens.invariant c.loop-tokens-test.true c.tokens-item.result fault is in
    search rules
