use Rattle.std.proofs.Common.{subst}
use Rattle.jo_model.specs.WellFormed.{IsWellFormedHeap}
use Rattle.jo_model.proofs.Valid.{left_valid_if_ok}
use Rattle.jo_model.proofs.WellFormed.{well_formed-answer}
use Rattle.jo_model.proofs.plain.PlainHeap.call.Goals as goal

pub returns-clause-well_formed : goal.returns-clause-well_formed
returns-clause-well_formed c =
    well_formed-answer c.args.self.now c.answer.new.self c.args.pass c.args.call c.answer.result c.answer.ensures.ok c.answer.ensures.err
    (subst IsWellFormedHeap c.self.view_is c.self.invariant.1)

pub returns-clause-valid : goal.returns-clause-valid
returns-clause-valid c =
    left_valid_if_ok c.args.self.now c.answer.new.self c.args.pass c.args.call c.answer.result c.answer.ensures.ok c.requires.pass
    (subst IsWellFormedHeap c.self.view_is c.self.invariant.1)
