use Rattle.std.proofs.Common.{reverse, ap, ◌∙◌, length}
use Rattle.jo_vm.proofs.Reversed.{drop_last_of}
use Rattle.jo_vm.proofs.stack.Stack.drop_last.Goals as goal

pub returns : goal.returns
returns c =
    let rest = drop_last_of c.self.inside.items.items c.args.self.now.1 c.saturating_sub-left.result c.args.count (length c.as_slice.result.now)
    c.saturating_sub-left.ensures (ap length c.as_slice.ensures.value) (ap (λ v. v.1) c.self.view_is) in
    let items = ap reverse c.truncate.ensures.items ∙ rest in
    ap (λ room. (room, reverse c.truncate.new.self.items)) (ap (λ v. v.0) c.self.view_is) ∙ ap (λ ys. (c.args.self.now.0, ys)) items
