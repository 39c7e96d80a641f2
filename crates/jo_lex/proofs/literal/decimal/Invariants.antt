use Rattle.std.proofs.Common.{◌≡◌, ◌≤◌, length, min, ◌+◌}
use Rattle.std.specs.Str.{chars}
use denote.Shadow.{shadow}
use denote.Text.{Utf8}
use Rattle.jo_value.specs.declared.limits.TheConstants.{MOST_NUMBER}
use Rattle.jo_lex.specs.Pieces.{decimal}
use Rattle.jo_lex.proofs.literal.decimal.Given as goal

abbrev pub invariant-loop-d : goal.invariant-loop-d
invariant-loop-d l = shadow (Utf8 l.rest) × (min (decimal l.n (chars l.rest)) (MOST_NUMBER + 1) ≡ min (decimal l.first (chars l.digits)) (MOST_NUMBER + 1)) × (l.n ≤ MOST_NUMBER + 1)

abbrev pub decreases-loop-d : goal.decreases-loop-d
decreases-loop-d l = length l.rest
