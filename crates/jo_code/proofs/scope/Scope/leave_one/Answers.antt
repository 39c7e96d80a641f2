use Rattle.std.proofs.Common.{◌-◌, ◌∙◌, ap, arith, length, reverse, take}
use Rattle.std.specs.List.{slice_get}
use Rattle.jo_code.proofs.Scoped.{last_kept, left_kept}
use Rattle.jo_code.proofs.scope.Scope.leave_one.Goals as goal

pub invariant_of-self-in-Some : goal.invariant_of-self-in-Some
invariant_of-self-in-Some c =
    let items = c.self.inside.declared.items in
    let turned = last_kept items c.pop.new.self.items c.in-Some.last.now
    (c.in-Some.ensures.value ∙ ap (λ xs. slice_get xs (length xs - 1)) c.deref.ensures.value)
    (c.pop.ensures.rest ∙ ap (λ n. take (n - 1) items) (omega (arith, c.self.inside.declared.ok))) in
    let both = left_kept c.self.inside.meanings c.insert.new.self _ (reverse c.pop.new.self.items) c.in-Some.last.now turned c.self.invariant.1 c.self.invariant.2 c.in_ok-insert.ensures.updates.0 in
    (omega (arith, c.self.invariant.0, c.pop.ensures.len, c.self.inside.declared.ok, c.pop.new.self.ok), both.0, both.1)
