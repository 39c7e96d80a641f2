use Rattle.std.proofs.Common.{ap}
use Rattle.jo_parse_tree.specs.Blocks.{names_of}
use Rattle.jo_parse_tree.specs.ScriptViews.{bindings_list}
use Rattle.jo_parse_grammar.specs.Declarations.{at_beginning, faults_of_bindings}
use Rattle.jo_parse_names.specs.inner.Blocks.{all_of, answer_to}
use Rattle.jo_parse_names.proofs.Judging.{judged_same}
use Rattle.jo_parse_names.proofs.Stated.{enters, bindings-entered, head-ended, on_ok}
use Rattle.jo_parse_names.proofs.scopes.Scopes.declarations.Goals as goal

pub returns-clause-judged : goal.returns-clause-judged
returns-clause-judged c =
    let bindings = bindings_list c.args.bindings.now in
    let scope = at_beginning (names_of bindings) in
    let h = enters c.args.self.now c.enter.new.self _ scope c.in_ok-enter.ensures c.in_ok-of_bindings.ensures in
    judged_same (faults_of_bindings scope (all_of c.args.self.now) bindings) _ c.bindings.result
    (ap answer_to (bindings-entered c.args.self.now c.enter.new.self scope bindings h)) c.bindings.ensures.judged

pub returns-clause-entered : goal.returns-clause-entered
returns-clause-entered c =
    let bindings = bindings_list c.args.bindings.now in
    let scope = at_beginning (names_of bindings) in
    let h = enters c.args.self.now c.enter.new.self _ scope c.in_ok-enter.ensures c.in_ok-of_bindings.ensures in
    on_ok c.bindings.result (head-ended c.args.self.now c.enter.new.self c.bindings.new.self bindings h) c.bindings.ensures.moved
