use Rattle.jo_model.proofs.Joined.{joined}
use Rattle.jo_rule.specs.Ending.{all_calls}
use Rattle.jo_heap.proofs.closed.close.Goals as goal

-- the calls are placed, so that they make a legal history
pub returns-clause-history : goal.returns-clause-history
returns-clause-history c = joined c.of.result.passes c.of.result.view.past.seen (all_calls c.of.result.passes c.of.result.view) c.of.ensures.ended.placed
