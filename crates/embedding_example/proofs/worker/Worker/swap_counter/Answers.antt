use Rattle.embedding_example.proofs.Keeping.{may_placed}
use Rattle.embedding_example.proofs.worker.Worker.swap_counter.Goals as goal

pub returns-clause-may : goal.returns-clause-may
returns-clause-may g c = record {
  own = may_placed c.requires.may.own c.cas.ensures.ready c.cas.ensures.placed;
  all = may_placed c.requires.may.all c.cas.ensures.ready c.cas.ensures.placed;
}
