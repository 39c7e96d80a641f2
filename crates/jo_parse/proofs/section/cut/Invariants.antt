use Rattle.std.proofs.Common.{length}
use denote.Shadow.{shadow}
use denote.Text.{Utf8}
use Rattle.jo_parse.specs.inner.CutScripts.{sections_in}
use Rattle.jo_parse.proofs.Cutting.{IsUnderWay}
use Rattle.jo_parse.proofs.section.cut.Given as goal

abbrev pub invariant-loop-line : goal.invariant-loop-line
invariant-loop-line l = shadow (Utf8 l.from) × shadow (Utf8 l.rest) × IsUnderWay l.input l.from l.rest (sections_in l.parts.items)

abbrev pub decreases-loop-line : goal.decreases-loop-line
decreases-loop-line l = length l.rest
