use Rattle.std.proofs.Common.{rules, ◌==◌}
use Rattle.std.proofs.lemmas.List.Sums.{prefix_len-le-length}
use Rattle.std.proofs.lemmas.Iterator.{YieldsList-from_slice}
use Rattle.std.proofs.lemmas.Iterator.Search.{position_from_yields_List}
use Rattle.jo_model.proofs.Places.{place_or_length}
use Rattle.jo_print.proofs.FirstLine.{line_len-place}
use Rattle.jo_print.proofs.print.run.line_len.Goals as goal

pub returns-clause-len : goal.returns-clause-len
returns-clause-len c =
    let lines = c.args.lines.now in
    let e = position_from_yields_List (λ b. b == 10) _ _ c.position-found.result c.position-found.ensures.ran (YieldsList-from_slice lines cc) (λ x b q h. search rules) in
    cc (place_or_length _ _ _ e (prefix_len-le-length _ lines), line_len-place lines)
