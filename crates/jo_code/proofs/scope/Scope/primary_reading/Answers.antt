use Rattle.std.proofs.Common.{◌∙◌}
use Rattle.jo_code.proofs.Looked.{primary-alike}
use Rattle.jo_code.proofs.scope.Scope.primary_reading.Goals as goal

pub returns : goal.returns
returns c = c.plain_primary.ensures ∙ primary-alike c.args.self.now c.args.primary.now
