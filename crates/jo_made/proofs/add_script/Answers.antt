use Rattle.std.proofs.Common.{◌≡◌, ◌∙◌, ap, codes, ℕ, List}
use Rattle.std.specs.Prelude.{◌++◌}
use Rattle.jo_made.specs.Made.{delete_line, draw, next_draw}
use Rattle.jo_made.specs.Made as made
use Rattle.jo_made.proofs.Scripts.{ten}
use Rattle.jo_made.proofs.add_script.Goals as goal

pub returns-clause-added : goal.returns-clause-added
returns-clause-added c =
    let t = c.args.script in
    let x = c.args.before in
    let set = c.args.set.now.items in
    let put : ℕ → ℕ → List ℕ = made.put_line t in
    let fifth : c.next_draw-fifth.result ≡ draw 5 x = c.next_draw-fifth.ensures.draw ∙ ap next_draw c.in_ok-fourth.ensures.last.0 in
    let sixth : c.next_draw-sixth.result ≡ draw 6 x = c.next_draw-sixth.ensures.draw ∙ ap next_draw fifth in
    let begun : c.extend_from_slice.new.self.items ≡ set ++ made.opening t =
    c.in_ok-extend_from_slice.ensures.items ∙ ap (λ l. set ++ l) (c.deref.ensures.value ∙ c.in_ok-opening.ensures) in
    let looped : c.add_loop.new.set.items ≡ c.add_puts.new.set.items ++ made.loop_head (draw 5 x) ++ made.loop_tail t =
    c.in_ok-add_loop.ensures ∙ ap (λ n. c.add_puts.new.set.items ++ made.loop_head n ++ made.loop_tail t) fifth in
    c.in_ok-add_end.ensures
    ∙ (ap (λ n. c.add_loop.new.set.items ++ delete_line t ++ put 0 n ++ codes "print(a.c);\n") sixth
    ∙ (ap (λ l. l ++ delete_line t ++ put 0 (draw 6 x) ++ codes "print(a.c);\n")
    (looped ∙ ap (λ l. l ++ made.loop_head (draw 5 x) ++ made.loop_tail t)
    (c.in_ok-fourth.ensures.added ∙ ap (λ l. l ++ put 0 (draw 1 x) ++ put 1 (draw 2 x) ++ put 2 (draw 3 x) ++ put 3 (draw 4 x)) begun))
    ∙ ten set (made.opening t) (put 0 (draw 1 x)) (put 1 (draw 2 x)) (put 2 (draw 3 x)) (put 3 (draw 4 x)) (made.loop_head (draw 5 x)) (made.loop_tail t) (delete_line t) (put 0 (draw 6 x)) (codes "print(a.c);\n")))
