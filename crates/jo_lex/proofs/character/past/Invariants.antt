use Rattle.std.proofs.Common.{◌≡◌, length}
use Rattle.std.specs.Str.{chars}
use denote.Shadow.{shadow}
use denote.Text.{Utf8}
use Rattle.jo_lex.specs.Characters.{drop_while}
use Rattle.jo_lex.specs.inner.Classes.{test_of}
use Rattle.jo_lex.specs.Characters.{EndsWith}
use Rattle.jo_lex.proofs.character.past.Given as goal

abbrev pub invariant-loop-c : goal.invariant-loop-c
invariant-loop-c l = shadow (Utf8 l.rest) × (drop_while (test_of l.class) (chars l.rest) ≡ drop_while (test_of l.class) (chars l.input)) × EndsWith l.input l.rest

abbrev pub decreases-loop-c : goal.decreases-loop-c
decreases-loop-c l = length l.rest
