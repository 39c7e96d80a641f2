use Rattle.embedding_example.proofs.Keeping.{may_placed}
use Rattle.embedding_example.proofs.worker.start_counter.Goals as goal

pub returns-clause-may : goal.returns-clause-may
returns-clause-may g c = record {
  own = may_placed c.requires.may.own c.put.ensures.ready c.put.ensures.placed;
  all = may_placed c.requires.may.all c.put.ensures.ready c.put.ensures.placed;
}
