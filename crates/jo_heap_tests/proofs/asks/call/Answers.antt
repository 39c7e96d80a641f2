use Rattle.jo_heap_tests.proofs.Keeping.{may_placed}
use Rattle.jo_heap_tests.proofs.asks.call.Goals as goal

pub returns-clause-may : goal.returns-clause-may
returns-clause-may g c = may_placed c.requires.may c.make_call.ensures.ready c.make_call.ensures.placed
