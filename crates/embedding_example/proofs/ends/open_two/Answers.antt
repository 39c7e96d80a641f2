use Rattle.std.proofs.Common.{◌≡◌, ◌∙◌, slice_index_or, arith}
use Rattle.embedding_example.proofs.Passes.{opened_at, starts}
use Rattle.embedding_example.proofs.ends.open_two.Goals as goal

pub returns-clause-first : goal.returns-clause-first
returns-clause-first c =
    let opened = c.in_ok-heap.ensures in
    let p = c.remove-first.result in
    opened_at c.in_ok-heap.heap c.in_ok-heap.passes.items opened.passes opened.opened 0 p (omega arith)
    (c.remove-first.ensures.value ∙ (c.remove-one.ensures.by_index.0 0 p (omega arith) ∙ c.remove-two.ensures.by_index.0 0 p (omega arith)))

pub returns-clause-one : goal.returns-clause-one
returns-clause-one c =
    let opened = c.in_ok-heap.ensures in
    let p = c.remove-one.result in
    starts c.in_ok-heap.heap p 0 (opened_at c.in_ok-heap.heap c.in_ok-heap.passes.items opened.passes opened.opened 1 p (omega arith)
    (c.remove-one.ensures.value ∙ c.remove-two.ensures.by_index.0 1 p (omega arith)))

pub returns-clause-two : goal.returns-clause-two
returns-clause-two c =
    let opened = c.in_ok-heap.ensures in
    let p = c.remove-two.result in
    starts c.in_ok-heap.heap p 1 (opened_at c.in_ok-heap.heap c.in_ok-heap.passes.items opened.passes opened.opened 2 p (omega arith) c.remove-two.ensures.value)
