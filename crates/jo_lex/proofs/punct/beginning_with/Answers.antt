use Rattle.std.proofs.Common.{sym, ap, arith}
use Rattle.std.proofs.lemmas.Bool.Decides.{nat_tests}
use Rattle.jo_lex.proofs.Groups.{entries_for-other}
use Rattle.jo_lex.specs.Punctuators.{table}
use Rattle.jo_lex.specs.inner.Views.{entries_for}
use Rattle.jo_lex.proofs.punct.beginning_with.Goals as goal

pub returns-in-123 : goal.returns-in-123
unfolding entries_for table
returns-in-123 c = ap entries_for (sym c.in-123.is)

pub returns-in-125 : goal.returns-in-125
unfolding entries_for table
returns-in-125 c = ap entries_for (sym c.in-125.is)

pub returns-in-40 : goal.returns-in-40
unfolding entries_for table
returns-in-40 c = ap entries_for (sym c.in-40.is)

pub returns-in-41 : goal.returns-in-41
unfolding entries_for table
returns-in-41 c = ap entries_for (sym c.in-41.is)

pub returns-in-91 : goal.returns-in-91
unfolding entries_for table
returns-in-91 c = ap entries_for (sym c.in-91.is)

pub returns-in-93 : goal.returns-in-93
unfolding entries_for table
returns-in-93 c = ap entries_for (sym c.in-93.is)

pub returns-in-59 : goal.returns-in-59
unfolding entries_for table
returns-in-59 c = ap entries_for (sym c.in-59.is)

pub returns-in-44 : goal.returns-in-44
unfolding entries_for table
returns-in-44 c = ap entries_for (sym c.in-44.is)

pub returns-in-58 : goal.returns-in-58
unfolding entries_for table
returns-in-58 c = ap entries_for (sym c.in-58.is)

pub returns-in-126 : goal.returns-in-126
unfolding entries_for table
returns-in-126 c = ap entries_for (sym c.in-126.is)

pub returns-in-46 : goal.returns-in-46
unfolding entries_for table
returns-in-46 c = ap entries_for (sym c.in-46.is)

pub returns-in-60 : goal.returns-in-60
unfolding entries_for table
returns-in-60 c = ap entries_for (sym c.in-60.is)

pub returns-in-62 : goal.returns-in-62
unfolding entries_for table
returns-in-62 c = ap entries_for (sym c.in-62.is)

pub returns-in-61 : goal.returns-in-61
unfolding entries_for table
returns-in-61 c = ap entries_for (sym c.in-61.is)

pub returns-in-33 : goal.returns-in-33
unfolding entries_for table
returns-in-33 c = ap entries_for (sym c.in-33.is)

pub returns-in-43 : goal.returns-in-43
unfolding entries_for table
returns-in-43 c = ap entries_for (sym c.in-43.is)

pub returns-in-45 : goal.returns-in-45
unfolding entries_for table
returns-in-45 c = ap entries_for (sym c.in-45.is)

pub returns-in-42 : goal.returns-in-42
unfolding entries_for table
returns-in-42 c = ap entries_for (sym c.in-42.is)

pub returns-in-47 : goal.returns-in-47
unfolding entries_for table
returns-in-47 c = ap entries_for (sym c.in-47.is)

pub returns-in-37 : goal.returns-in-37
unfolding entries_for table
returns-in-37 c = ap entries_for (sym c.in-37.is)

pub returns-in-38 : goal.returns-in-38
unfolding entries_for table
returns-in-38 c = ap entries_for (sym c.in-38.is)

pub returns-in-124 : goal.returns-in-124
unfolding entries_for table
returns-in-124 c = ap entries_for (sym c.in-124.is)

pub returns-in-94 : goal.returns-in-94
unfolding entries_for table
returns-in-94 c = ap entries_for (sym c.in-94.is)

pub returns-in-63 : goal.returns-in-63
unfolding entries_for table
returns-in-63 c = ap entries_for (sym c.in-63.is)

pub returns-in_default : goal.returns-in_default
returns-in_default c = entries_for-other c.args.first (grind (arith, nat_tests))
