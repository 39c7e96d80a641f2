use Rattle.std.proofs.Common.{ap, ◌∙◌, arith}
use Rattle.std.proofs.lemmas.Grind.{common_steps}
use Rattle.std.specs.Str.{chars}
use Rattle.jo_lex.specs.inner.Views.{is_falling}
use Rattle.jo_lex.proofs.Groups.{entries_for-falling, punctuator_of-first}
use Rattle.jo_lex.proofs.operator.operator.Goals as goal

pub lookup-requires : goal.lookup-requires
lookup-requires c = ap (is_falling 4) c.beginning_with.ensures ∙ entries_for-falling c.args.first

pub returns-in-Some-Some-default-clause-value : goal.returns-in-Some-Some-default-clause-value
returns-in-Some-Some-default-clause-value c = grind (arith, common_steps, punctuator_of-first c.args.first (chars c.args.input.now) c.requires)

pub returns-in_default-clause-value : goal.returns-in_default-clause-value
returns-in_default-clause-value c = grind (arith, common_steps, punctuator_of-first c.args.first (chars c.args.input.now) c.requires)
