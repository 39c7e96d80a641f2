use Rattle.jo_code.proofs.Accessed.{last_late-one, last_late-many}
use Rattle.jo_code.proofs.members.first_late.Goals as goal

pub returns-then-accesses-lt2 : goal.returns-then-accesses-lt2
returns-then-accesses-lt2 c = last_late-one c.args.late c.args.accesses.now c.if-accesses-lt2.true

pub returns : goal.returns
returns c = last_late-many c.args.late c.args.accesses.now c.if-accesses-lt2.false
