use Rattle.embedding_example.proofs.Keeping.{may_placed}
use Rattle.embedding_example.proofs.worker.Worker.count_names.Goals as goal

pub returns-clause-may : goal.returns-clause-may
returns-clause-may g c = record {
  own = may_placed c.requires.may.own c.names.ensures.ready c.names.ensures.placed;
  all = may_placed c.requires.may.all c.names.ensures.ready c.names.ensures.placed;
}
