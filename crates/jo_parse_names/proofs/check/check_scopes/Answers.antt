use Rattle.std.proofs.Common.{subst}
use Rattle.jo_parse_tree.specs.ScriptViews.{items_list, script_tree}
use Rattle.jo_parse_grammar.specs.Declarations.{faults}
use Rattle.jo_parse_names.specs.inner.Blocks.{Judges}
use Rattle.jo_parse_names.proofs.Scripts.{script-judged, declared_ok, declared_err}
use Rattle.jo_parse_names.proofs.check.check_scopes.Goals as goal

pub returns-clause-ok : goal.returns-clause-ok
returns-clause-ok c =
    let block = c.in_ok-of_items in
    let j = script-judged c.new-scopes.result block.field-0 c.as_slice-items.result.now c.items.result c.new-scopes.ensures block.ensures c.items.ensures.judged in
    declared_ok (script_tree c.args.script.now) c.items.result (subst (λ v. Judges (faults (items_list v)) c.items.result) c.as_slice-items.ensures j)

pub returns-clause-refused : goal.returns-clause-refused
returns-clause-refused c =
    let block = c.in_ok-of_items in
    let j = script-judged c.new-scopes.result block.field-0 c.as_slice-items.result.now c.items.result c.new-scopes.ensures block.ensures c.items.ensures.judged in
    declared_err (script_tree c.args.script.now) c.items.result (subst (λ v. Judges (faults (items_list v)) c.items.result) c.as_slice-items.ensures j)
