use Rattle.embedding_example.proofs.Keeping.{may_placed}
use Rattle.embedding_example.proofs.worker.Worker.make.Goals as goal

pub returns-in-Ok-clause-may : goal.returns-in-Ok-clause-may
returns-in-Ok-clause-may c = record {
  own = record { ready = c.new_object.ensures.ready; born = c.in-Ok.ensures.placed.valid };
  all = may_placed c.requires.may.all c.new_object.ensures.ready c.new_object.ensures.placed;
}

pub returns-in-Err-clause-may : goal.returns-in-Err-clause-may
returns-in-Err-clause-may c = record {
  own = may_placed c.requires.may.own c.new_object.ensures.ready c.new_object.ensures.placed;
  all = may_placed c.requires.may.all c.new_object.ensures.ready c.new_object.ensures.placed;
}
