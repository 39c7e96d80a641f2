use Rattle.std.proofs.Common.{drop}
use Rattle.jo_parse.specs.inner.CutScripts.{sections_in}
use Rattle.jo_parse.specs.inner.Stages.{lists_of}
use Rattle.jo_parse.proofs.Turns.{Reads}
use Rattle.jo_parse.proofs.lex.token_lists.Given as goal

abbrev pub invariant-loop-section : goal.invariant-loop-section
invariant-loop-section l = Reads l.fn.texts (sections_in l.sections) l.texts (sections_in (drop l.section-index l.sections)) (lists_of l.lists.items)
