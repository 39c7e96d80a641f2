use Rattle.std.proofs.Common.{◌≡◌, ◌∙◌, ap}
use Rattle.jo_parse_tree.specs.ScriptViews.{script_tree}
use Rattle.jo_meaning.specs.Scripts.{interaction_of}
use Rattle.jo_vm.specs.Machines.{Free, stands}
use Rattle.jo_testing.proofs.Scripts.{begun_goes_on, begun_is_alone, begun_outcome}
use Rattle.jo_testing.proofs.alone.run_alone.Goals as goal

pub drive-requires-clause-calls : goal.drive-requires-clause-calls
drive-requires-clause-calls c =
    let script = script_tree c.args.script.now in
    let texts = c.args.texts.now in
    let begins : stands c.in_ok-vm.vm ≡ Free (interaction_of script texts c.args.turns) =
    c.in_ok-vm.ensures.stands ∙ ap Free (c.in_ok-code.ensures.same texts c.args.turns) in
    begun_goes_on script texts c.args.turns (stands c.in_ok-vm.vm) c.in_ok-heap.heap c.requires begins c.in_ok-heap.ensures

pub returns : goal.returns
returns c =
    let script = script_tree c.args.script.now in
    let texts = c.args.texts.now in
    let begins : stands c.in_ok-vm.vm ≡ Free (interaction_of script texts c.args.turns) =
    c.in_ok-vm.ensures.stands ∙ ap Free (c.in_ok-code.ensures.same texts c.args.turns) in
    let leaves = rw (← c.into_lines-lines.ensures) at c.in_ok-outcome.ensures in
    record {
      run = begun_is_alone script texts c.args.turns (stands c.in_ok-vm.vm) c.in_ok-heap.heap c.drive.new.heap c.into_lines-lines.result.items c.in_ok-outcome.outcome
          begins c.in_ok-heap.ensures leaves;
      outcome = begun_outcome script texts c.args.turns (stands c.in_ok-vm.vm) c.in_ok-heap.heap c.drive.new.heap c.into_lines-lines.result.items c.in_ok-outcome.outcome
          begins c.in_ok-heap.ensures leaves;
    }
