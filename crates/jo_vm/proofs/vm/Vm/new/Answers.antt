use Rattle.std.proofs.Common.{◌∙◌, ap}
use Rattle.jo_code.specs.Machine.{interaction_by}
use Rattle.jo_vm.specs.Machines.{Free}
use Rattle.jo_vm.proofs.Stages.{at_start}
use Rattle.jo_vm.proofs.vm.Vm.new.Goals as goal

pub returns-clause-stands : goal.returns-clause-stands
returns-clause-stands c =
    at_start c.instructions-code.result.now c.args.texts.now c.args.turns c.entries.result c.variables.result
    c.in_ok-stack.ensures c.in_ok-variables.ensures c.in_ok-lines.ensures
    ∙ ap (λ code. Free (interaction_by c.entries.result code c.args.texts.now c.args.turns)) c.instructions-code.ensures
    ∙ ap (λ room. Free (interaction_by room c.args.code.now c.args.texts.now c.args.turns)) c.entries.ensures
