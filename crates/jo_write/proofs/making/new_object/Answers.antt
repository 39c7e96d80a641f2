use Rattle.std.proofs.Common.{arith}
use Rattle.jo_write.proofs.Looks.{objects_spent}
use Rattle.jo_write.proofs.making.new_object.Goals as goal

pub returns-then-from-eq-MOST_OBJECTS-clause-placed : goal.returns-then-from-eq-MOST_OBJECTS-clause-placed
returns-then-from-eq-MOST_OBJECTS-clause-placed c = objects_spent c.args.heap.now.passes c.args.pass.now.view c.place.new.pass.view (omega (arith, c.objects.ensures, c.from.ensures, c.if-from-eq-MOST_OBJECTS.true)) c.place.ensures.looked
