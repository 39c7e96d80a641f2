use Rattle.std.proofs.Common.{[], ◌∷◌}
use Rattle.jo_model.specs.Objects.{empty_object}
use Rattle.jo_model.proofs.Passes.{one_more}
use Rattle.jo_model.proofs.plain.PlainHeap.new.Goals as goal

pub loop-preserved : goal.loop-preserved
loop-preserved c = cc (c.in_ok-push-2.ensures.items, one_more (empty_object ∷ []) [] c.loop.counter c.loop.auto.counter)
