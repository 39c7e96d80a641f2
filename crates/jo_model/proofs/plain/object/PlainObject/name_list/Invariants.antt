use Rattle.std.proofs.Common.{◌≡◌, map, take}
use Rattle.jo_model.proofs.plain.object.PlainObject.name_list.Given as goal

abbrev pub invariant-loop-pair : goal.invariant-loop-pair
invariant-loop-pair l = l.list ≡ map (λ p. p.0) (take l.pair-index l.pair-items)
