use Rattle.std.proofs.Common.{arith, reverse}
use Rattle.std.proofs.lemmas.List.{length-reverse}
use Rattle.jo_code.proofs.Scoped.{names_in-length}
use Rattle.jo_code.proofs.scope.Scope.len.Goals as goal

pub returns : goal.returns
returns c =
    let items = c.self.inside.declared.items in
    rw (← c.self.view_is) (omega (arith, c.len.ensures, c.self.inside.declared.ok, names_in-length (reverse items), length-reverse items))
