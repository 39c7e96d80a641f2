use Rattle.jo_model.specs.declared.call.Call.TheVariants as call
use Rattle.jo_vm.specs.declared.frame.Due.TheVariants as due
use Rattle.jo_vm.proofs.Stages.{turned, called, asked_after}
use Rattle.jo_vm.proofs.vm.Vm.next.Goals as goal

pub returns-in-Turn : goal.returns-in-Turn
returns-in-Turn c =
    let v = c.self.inside in
    turned v.stage v.execution c.run.new.self c.args.self.now c.self.view_is c.requires c.in_default.not-Ended c.in-Turn.ensures.paused

pub returns-in-Get : goal.returns-in-Get
returns-in-Get c =
    let v = c.self.inside in
    called v.stage v.execution c.run.new.self c.args.self.now c.self.view_is c.requires c.in_default.not-Ended (call.Get c.in-Get.object c.in-Get.key) (due.Found c.in-Get.to) c.in-Get.ensures.paused

pub returns-in-Asks : goal.returns-in-Asks
returns-in-Asks c =
    let v = c.self.inside in
    asked_after v.stage v.execution c.run.new.self c.args.self.now c.self.view_is c.requires c.in_default.not-Ended c.in-Asks.ensures.paused.0 c.ask.result c.ask.new.self c.ask.ensures
