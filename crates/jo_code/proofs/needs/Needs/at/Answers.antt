use Rattle.std.proofs.Common.{◌-◌, ◌∙◌, ap, arith, get_or}
use Rattle.jo_code.proofs.Counted.{need_at-kept, need_at-end}
use Rattle.jo_code.proofs.needs.Needs.at.Goals as goal

pub returns-then-skip-len : goal.returns-then-skip-len
returns-then-skip-len c = rw (← c.self.view_is) (need_at-kept c.self.inside.backwards.items c.args.skip _ (omega (arith, c.if-skip-len.true, c.len.ensures, c.self.inside.backwards.ok)) (c.index.ensures ∙ ap (λ n. get_or c.self.inside.backwards.items (n - 1 - c.args.skip) c.index.result.now) (omega (arith, c.len-then-skip-len.ensures, c.self.inside.backwards.ok))))

pub returns : goal.returns
returns c = rw (← c.self.view_is) (need_at-end c.self.inside.backwards.items c.args.skip (omega (arith, c.if-skip-len.false, c.len.ensures, c.self.inside.backwards.ok)))
