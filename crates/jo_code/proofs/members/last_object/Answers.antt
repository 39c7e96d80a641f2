use Rattle.jo_code.proofs.Accessed.{last_object-few, last_object-many}
use Rattle.jo_code.proofs.members.last_object.Goals as goal

pub returns-then-accesses-lt2 : goal.returns-then-accesses-lt2
returns-then-accesses-lt2 c = last_object-few c.args.base c.args.accesses.now c.if-accesses-lt2.true

pub returns : goal.returns
returns c = last_object-many c.args.base c.args.accesses.now c.if-accesses-lt2.false
