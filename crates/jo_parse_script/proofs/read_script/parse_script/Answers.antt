use Rattle.std.proofs.Common.{subst, ◌∙◌}
use Rattle.jo_parse_tree.specs.ScriptViews.{script_tree}
use Rattle.jo_parse_grammar.specs.inner.ReadStatements.{whole_script}
use Rattle.jo_parse_grammar.specs.Statements.{IsScript}
use Rattle.jo_parse_grammar.proofs.ScriptExact.{script-answers, accepted-script, refused-script}
use Rattle.jo_parse_script.specs.inner.Answered.{Answered}
use Rattle.jo_parse_grammar.specs.Terminals.{terminals_of}
use Rattle.jo_value.specs.declared.limits.TheConstants.{MOST_OPEN}
use Rattle.jo_parse_script.proofs.Exactly.{exactly-ok, exactly-refused, exactly-complete, exactly-first}
use Rattle.jo_parse_script.proofs.read_script.parse_script.Goals as goal

pub returns-clause-ok : goal.returns-clause-ok
returns-clause-ok c =
    let tokens = c.args.tokens.now in
    let ts = terminals_of c.args.texts.now tokens in
    exactly-ok script_tree IsScript tokens ts (whole_script MOST_OPEN ts) (script-answers MOST_OPEN ts) c.read.result
    (subst (λ v. Answered script_tree tokens v (whole_script MOST_OPEN v) c.read.result) (c.deref.ensures.value ∙ c.in_ok-terminals.ensures) c.read.ensures)

pub returns-clause-refused : goal.returns-clause-refused
returns-clause-refused c =
    let tokens = c.args.tokens.now in
    let ts = terminals_of c.args.texts.now tokens in
    exactly-refused script_tree IsScript tokens ts (whole_script MOST_OPEN ts) (script-answers MOST_OPEN ts) c.read.result
    (subst (λ v. Answered script_tree tokens v (whole_script MOST_OPEN v) c.read.result) (c.deref.ensures.value ∙ c.in_ok-terminals.ensures) c.read.ensures)

pub returns-clause-complete : goal.returns-clause-complete
returns-clause-complete c =
    let tokens = c.args.tokens.now in
    let ts = terminals_of c.args.texts.now tokens in
    λ s h. exactly-complete script_tree IsScript tokens ts (whole_script MOST_OPEN ts) c.read.result
    (subst (λ v. Answered script_tree tokens v (whole_script MOST_OPEN v) c.read.result) (c.deref.ensures.value ∙ c.in_ok-terminals.ensures) c.read.ensures)
    s (accepted-script MOST_OPEN ts s h)

pub returns-clause-first : goal.returns-clause-first
returns-clause-first c =
    let tokens = c.args.tokens.now in
    let ts = terminals_of c.args.texts.now tokens in
    λ f rest h. exactly-first script_tree IsScript tokens ts (whole_script MOST_OPEN ts) c.read.result
    (subst (λ v. Answered script_tree tokens v (whole_script MOST_OPEN v) c.read.result) (c.deref.ensures.value ∙ c.in_ok-terminals.ensures) c.read.ensures)
    f rest (refused-script MOST_OPEN ts f rest h)
