-- One more script of a set.
use Rattle.std.proofs.Common.{◌≡◌, ℕ, ◌+◌, suc, List, ◌++◌, sym, ap, ◌∙◌}
use Rattle.std.specs.Prelude.{codes}
use Rattle.std.proofs.lemmas.List.{append_assoc}
use Rattle.jo_made.specs.Made.{draw, made_script, more_scripts}

-- three lists that are added one after another
added : (set separator script rest : List ℕ) → set ++ separator ++ script ++ rest ≡ set ++ (separator ++ script ++ rest)
added set separator script rest =
    append_assoc (set ++ separator) script rest ∙ (append_assoc set separator (script ++ rest)
    ∙ ap (λ l. set ++ l) (sym (append_assoc separator script rest)))

pub one_more : (set between new target : List ℕ) (count t before last : ℕ) → between ≡ set ++ codes "%%\n" → new ≡ between ++ made_script t before → last ≡ draw 6 before
    → set ++ more_scripts (suc count) t before ≡ target → new ++ more_scripts count (t + 1) last ≡ target
one_more set between new target count t before last separated added_ is whole =
    let rest = more_scripts count (t + 1) (draw 6 before) in
    ap (λ x. new ++ more_scripts count (t + 1) x) is
    ∙ (ap (λ l. l ++ rest) (added_ ∙ ap (λ l. l ++ made_script t before) separated)
    ∙ (added set (codes "%%\n") (made_script t before) rest ∙ whole))

-- lists that are added one after another
further : (set lines line all : List ℕ) → all ≡ set ++ lines → all ++ line ≡ set ++ (lines ++ line)
further set lines line all so_far = ap (λ l. l ++ line) so_far ∙ append_assoc set lines line

pub ten : (set a b c d e f g h i j : List ℕ) → set ++ a ++ b ++ c ++ d ++ e ++ f ++ g ++ h ++ i ++ j ≡ set ++ (a ++ b ++ c ++ d ++ e ++ f ++ g ++ h ++ i ++ j)
ten set a b c d e f g h i j =
    further set (a ++ b ++ c ++ d ++ e ++ f ++ g ++ h ++ i) j (set ++ a ++ b ++ c ++ d ++ e ++ f ++ g ++ h ++ i)
    (further set (a ++ b ++ c ++ d ++ e ++ f ++ g ++ h) i (set ++ a ++ b ++ c ++ d ++ e ++ f ++ g ++ h)
    (further set (a ++ b ++ c ++ d ++ e ++ f ++ g) h (set ++ a ++ b ++ c ++ d ++ e ++ f ++ g)
    (further set (a ++ b ++ c ++ d ++ e ++ f) g (set ++ a ++ b ++ c ++ d ++ e ++ f)
    (further set (a ++ b ++ c ++ d ++ e) f (set ++ a ++ b ++ c ++ d ++ e)
    (further set (a ++ b ++ c ++ d) e (set ++ a ++ b ++ c ++ d)
    (further set (a ++ b ++ c) d (set ++ a ++ b ++ c)
    (further set (a ++ b) c (set ++ a ++ b)
    (append_assoc set a b))))))))
