use Rattle.std.proofs.Common.{◌≡◌, ◌<◌, length, get_or, arith}
use Rattle.std.proofs.lemmas.Grind.{common_steps}
use Rattle.std.proofs.lemmas.Str.{IsCharBoundary-after_ascii}
use Rattle.jo_parse.proofs.Lines.{ends-at-feed, ends-with-input}
use Rattle.jo_parse.proofs.section.line_end.Goals as goal

pub returns-then-bytes-end-eq10-clause-boundary : goal.returns-then-bytes-end-eq10-clause-boundary
returns-then-bytes-end-eq10-clause-boundary c =
    let within : c.loop-end.end < length c.args.input.now = grind (arith, common_steps) in
    let feed : get_or c.args.input.now c.loop-end.end 0 ≡ 10 = grind (arith, common_steps) in
    IsCharBoundary-after_ascii c.args.input.now c.loop-end.end c.utf8.input within (omega (arith, feed))

pub returns-then-bytes-end-eq10-clause-lines : goal.returns-then-bytes-end-eq10-clause-lines
returns-then-bytes-end-eq10-clause-lines c =
    let within : c.loop-end.end < length c.args.input.now = grind (arith, common_steps) in
    let feed : get_or c.args.input.now c.loop-end.end 0 ≡ 10 = grind (arith, common_steps) in
    ends-at-feed c.args.input.now c.loop-end.end c.loop-end.invariant.1 within feed

pub returns-clause-lines : goal.returns-clause-lines
returns-clause-lines c =
    let whole : c.loop-end.end ≡ length c.args.input.now = grind (arith, common_steps) in
    ends-with-input c.args.input.now c.loop-end.end c.loop-end.invariant.1 whole c.requires
