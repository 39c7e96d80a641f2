use Rattle.std.proofs.Common.{◌≡◌, ◌≤◌, length, string_bytes, false}
use Rattle.std.specs.Str.{chars}
use denote.Shadow.{shadow}
use denote.Text.{Utf8}
use Rattle.jo_lex.specs.Pieces.{literal_rest, with_bytes}
use Rattle.jo_lex.proofs.literal.literal_rest.Given as goal

abbrev pub invariant-loop-c : goal.invariant-loop-c
invariant-loop-c l = shadow (Utf8 l.rest) × (with_bytes (string_bytes l.string) (literal_rest l.escaped l.quote (chars l.rest)) ≡ literal_rest false l.quote (chars l.input)) × (length l.rest ≤ length l.input)

abbrev pub decreases-loop-c : goal.decreases-loop-c
decreases-loop-c l = length l.rest
