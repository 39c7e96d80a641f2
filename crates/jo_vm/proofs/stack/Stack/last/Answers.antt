use Rattle.std.proofs.Common.{reverse, sym, ap, ◌∙◌}
use Rattle.jo_vm.proofs.Reversed.{last_of}
use Rattle.jo_vm.proofs.stack.Stack.last.Goals as goal

pub returns : goal.returns
returns c =
    last_of c.deref.result.now c.args.self.now.1 c.saturating_sub-start.result c.args.count c.len.result
    c.saturating_sub-start.ensures (c.len.ensures ∙ sym c.deref.ensures.len)
    (ap reverse c.deref.ensures.value ∙ ap (λ v. v.1) c.self.view_is)
