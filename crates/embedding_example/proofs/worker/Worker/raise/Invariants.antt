use Rattle.embedding_example.specs.Working.{MayWork, Stays}
use Rattle.embedding_example.proofs.worker.Worker.raise.Given as goal

abbrev pub invariant-loop : goal.invariant-loop
invariant-loop g l = MayWork l.heap l.self × Stays l.initial.self.pass.view l.self.pass.view
