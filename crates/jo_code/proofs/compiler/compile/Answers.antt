use Rattle.std.proofs.Common.{sym, subst}
use Rattle.jo_parse_tree.specs.ScriptViews.{script_tree}
use Rattle.jo_code.specs.Behaves.{Behaves}
use Rattle.jo_code.proofs.Scripts.{behaves}
use Rattle.jo_code.proofs.Stating.{if_ok}
use Rattle.jo_code.proofs.compiler.compile.Goals as goal

pub returns : goal.returns
returns c =
    let script = script_tree c.args.script.now in
    if_ok c.code.result (λ code is. subst (λ v. Behaves script v) (sym is) (behaves script)) c.code.ensures
