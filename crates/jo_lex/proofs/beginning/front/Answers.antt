use Rattle.std.proofs.Common.{◌≡◌, ◌-◌, length, ap, subst, arith, length-append}
use Rattle.std.proofs.lemmas.Str.{IsCharBoundary-at_seam}
use Rattle.std.specs.Str.{IsCharBoundary}
use Rattle.jo_lex.proofs.beginning.front.Goals as goal

pub split_at-requires : goal.split_at-requires
split_at-requires c =
    let e = c.requires.1 in
    let n : length c.requires.0 ≡ length c.args.input.now - length c.args.end.now = omega (arith, ap length e, length-append c.requires.0 c.args.end.now) in
    subst (IsCharBoundary c.args.input.now) n (IsCharBoundary-at_seam _ c.requires.0 _ e c.utf8.end)
