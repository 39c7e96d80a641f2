use Rattle.std.proofs.Common.{◌≡◌, ℕ, ◌+◌, ◌-◌, ◌≤◌, length}
use denote.Shadow.{shadow}
use denote.Text.{Utf8}
use Rattle.std.specs.Str.{chars}
use Rattle.jo_lex.specs.inner.Steps.{at}
use Rattle.jo_lex.specs.Tokens.{start, reached}
use Rattle.jo_lex.proofs.reader.tokens.Given as goal

abbrev pub invariant-loop-first : goal.invariant-loop-first
invariant-loop-first l = shadow (Utf8 l.rest) × ((n : ℕ) × (reached n (start l.base l.fn.texts (chars l.input)) ≡ at (l.base + (length l.input - length l.rest)) l.rest l.tokens.items l.texts) × (n + length l.rest ≤ length l.input))

abbrev pub decreases-loop-first : goal.decreases-loop-first
decreases-loop-first l = length l.rest
