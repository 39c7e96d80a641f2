use Rattle.std.proofs.Common.{◌+◌, ◌∙◌, ap, drop, sym}
use Rattle.jo_parse_tree.specs.Views.{accesses_list, accesses_with}
use Rattle.jo_parse_tree.proofs.Shapes.{accesses_with-key}
use Rattle.jo_code.specs.inner.Code.{are_fields}
use Rattle.jo_code.proofs.Dropped.{drop-at}
use Rattle.jo_code.proofs.readings.are_fields.Goals as goal

pub returns-in-Key : goal.returns-in-Key
returns-in-Key c =
    let rest = accesses_list (drop (c.loop-access.access-index + 1) c.args.accesses.now) in
    sym (c.loop-access.invariant
    ∙ ap (λ v. are_fields (accesses_list v)) (drop-at c.args.accesses.now c.loop-access.access-index c.access-item.result c.loop-access-test.true c.access-item.is)
    ∙ ap (λ x. are_fields (accesses_with rest x)) c.in-Key.is
    ∙ ap are_fields (accesses_with-key rest c.in-Key.field-0))
