use Rattle.std.proofs.Common.{◌≡◌, ◌-◌, [], ◌∷◌, replicate}
use Rattle.jo_model.specs.Objects.{empty_object}
use Rattle.jo_model.proofs.plain.PlainHeap.new.Given as goal

abbrev pub invariant-loop : goal.invariant-loop
invariant-loop l = l.list.items ≡ (empty_object ∷ []) ∷ replicate (l.counter - 1) []
