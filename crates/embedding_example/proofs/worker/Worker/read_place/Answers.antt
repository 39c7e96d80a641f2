use Rattle.embedding_example.proofs.Keeping.{may_placed}
use Rattle.embedding_example.proofs.worker.Worker.read_place.Goals as goal

pub returns-clause-may : goal.returns-clause-may
returns-clause-may g c = record {
  own = may_placed c.requires.may.own c.has-self.ensures.ready c.has-self.ensures.placed;
  all = may_placed c.requires.may.all c.has-self.ensures.ready c.has-self.ensures.placed;
}
