use Rattle.jo_vm.proofs.Stages.{called_on}
use Rattle.jo_vm.proofs.vm.Vm.ask.Goals as goal

pub returns-in-Call : goal.returns-in-Call
returns-in-Call c =
    let v = c.self.inside in
    called_on v.stage v.execution c.ask.new.self c.args.self.now c.self.view_is c.requires.going c.in-Call.call c.in-Call.due c.in-Call.ensures.sent
