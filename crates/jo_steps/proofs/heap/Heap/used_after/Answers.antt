use Rattle.std.proofs.Common.{arith}
use Rattle.jo_steps.proofs.heap.Heap.used_after.Goals as goal

pub overflow_add-first : goal.overflow_add-first
overflow_add-first c = let most = c.requires in omega (arith, c.storage_of-first.ensures, c.layout.ensures.at, c.layout.ensures.few)

pub overflow_add-first-then-first-used : goal.overflow_add-first-then-first-used
overflow_add-first-then-first-used c = omega (arith, c.storage_of-first.ensures, c.layout.ensures.at, c.layout.ensures.few)
