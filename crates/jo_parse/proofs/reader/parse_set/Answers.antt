use Rattle.jo_parse.proofs.Answered.{complete, first}
use Rattle.jo_parse.proofs.reader.parse_set.Goals as goal

pub returns-clause-complete : goal.returns-clause-complete
returns-clause-complete c = complete c.args.bytes.now c.read.result c.read.ensures.ok c.read.ensures.refused

pub returns-clause-first : goal.returns-clause-first
returns-clause-first c = first c.args.bytes.now c.read.result c.read.ensures.ok c.read.ensures.refused
