use Rattle.std.proofs.Common.{arith, ◌∙◌, ap, sym}
use Rattle.jo_code.specs.inner.Scopes.{slot_of}
use Rattle.jo_code.proofs.Scoped.{declared_kept}
use Rattle.jo_code.proofs.scope.Scope.declare.Goals as goal

pub invariant_of-self-2 : goal.invariant_of-self-2
invariant_of-self-2 c =
    let both = declared_kept c.self.inside.meanings c.insert.new.self c.self.inside.declared.items _ c.push_reserved.new.self.items c.args.name _ _
    c.in_ok-reserve.ensures.items c.push_reserved.ensures.items c.self.invariant.1 c.self.invariant.2
    (c.meaning-before.ensures ∙ ap (λ names. slot_of names c.args.name) (sym c.self.view_is)) (omega (arith, c.len-slot.ensures, c.self.inside.declared.ok)) c.in_ok-insert.ensures.updates.0 in
    (omega (arith, c.self.invariant.0, c.in_ok-reserve.ensures.len, c.push_reserved.ensures.len, c.if-slot.false, c.len-slot.ensures, c.push_reserved.new.self.ok, c.self.inside.declared.ok), both.0, both.1)
