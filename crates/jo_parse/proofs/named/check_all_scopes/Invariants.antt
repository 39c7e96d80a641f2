use Rattle.std.proofs.Common.{◌≡◌, drop, map}
use Rattle.jo_parse_grammar.specs.Sets.{faults_of_all}
use Rattle.jo_parse_tree.specs.ScriptViews.{script_tree}
use Rattle.jo_parse.proofs.named.check_all_scopes.Given as goal

abbrev pub invariant-loop-script : goal.invariant-loop-script
invariant-loop-script l = faults_of_all (map script_tree l.scripts) ≡ faults_of_all (map script_tree (drop l.script-index l.scripts))
