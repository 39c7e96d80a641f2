use Rattle.embedding_example.proofs.Keeping.{may_placed}
use Rattle.embedding_example.proofs.worker.Worker.read_size.Goals as goal

pub returns-clause-may : goal.returns-clause-may
returns-clause-may g c = record {
  own = may_placed c.requires.may.own c.get-self.ensures.ready c.get-self.ensures.placed;
  all = may_placed c.requires.may.all c.get-self.ensures.ready c.get-self.ensures.placed;
}
