use Rattle.std.proofs.Common.{◌≡◌, ◌+◌, ◌-◌, suc, arith, sym, ap, ◌∙◌}
use Rattle.std.specs.Prelude.{◌%◌, ◌++◌}
use Rattle.jo_made.specs.Made.{more_scripts, made}
use Rattle.jo_made.proofs.Scripts.{one_more}
use Rattle.jo_made.proofs.made_set.Goals as goal

pub loop-script-preserved : goal.loop-script-preserved
loop-script-preserved c =
    let l = c.loop-script in
    let i = l.invariant in
    let end = 3 + c.args.number % 7 in
    let left : end - l.script ≡ suc (end - (l.script + 1)) = omega (arith, c.loop-script-test.true) in
    record {
      within = omega (arith, i.within, c.loop-script-test.true);
      below = c.in_ok-last-2.ensures.last.1;
      rest = one_more l.set.items c.extend_from_slice.new.self.items c.add_script-in-loop-script.new.set.items (made c.args.number) (end - (l.script + 1)) l.script l.last c.in_ok-last-2.last
          c.in_ok-extend_from_slice.ensures.items c.in_ok-last-2.ensures.added c.in_ok-last-2.ensures.last.0
          (ap (λ n. l.set.items ++ more_scripts n l.script l.last) (sym left) ∙ i.rest);
    }
