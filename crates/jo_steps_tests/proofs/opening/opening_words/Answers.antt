use Rattle.std.proofs.Common.{◌≡◌, ℕ, ◌+◌, ◌-◌, ◌<◌, List, [], ◌∷◌, ◌++◌, length, get_or, ap, subst, sym, ◌∙◌, ⊎_elim, arith}
use Rattle.std.proofs.lemmas.Bool.{cases_lt}
use Rattle.std.proofs.lemmas.List.{get_or_append_left, get_or-append_right}
use Rattle.jo_rule.specs.Names.{word_numbered}
use Rattle.jo_rule.specs.Opening.{opening_word}
use Rattle.jo_steps_tests.proofs.opening.opening_words.Goals as goal

-- words that a function has at their numbers, and one more
one_more : (f : ℕ → ℕ) (ws : List ℕ) (n w : ℕ) → length ws ≡ n → w ≡ f n → ((k : ℕ) → k < n → get_or ws k 0 ≡ f k) → (k : ℕ) → k < n + 1 → get_or (ws ++ w ∷ []) k 0 ≡ f k
one_more f ws n w long is each k lt = ⊎_elim
    (λ (l : k < n). get_or_append_left ws (w ∷ []) 0 k (omega arith) ∙ each k l)
    (λ g. let e : n ≡ k = omega arith in subst (λ (j : ℕ). get_or (ws ++ w ∷ []) j 0 ≡ f j) e (get_or-append_right ws (w ∷ []) n n 0 long (omega arith) ∙ (let none : n - n ≡ 0 = omega arith in ap (λ (j : ℕ). get_or (w ∷ []) j 0) none ∙ is))) (cases_lt k n)

pub loop-at-preserved : goal.loop-at-preserved
loop-at-preserved c =
    let pushed = c.in_ok-push.ensures in
    let ws = c.loop-at.words in
    let so_far = c.loop-at.invariant in
    let n = so_far.len in
    let long = pushed.len in
    let f = λ (k : ℕ). opening_word (word_numbered c.args.passes k) in record {
      len = omega arith;
      each = λ k lt. ap (λ (l : List ℕ). get_or l k 0) pushed.items ∙ one_more f ws.items c.loop-at.at c.opening_word_at.result (sym ws.ok.0 ∙ n) c.opening_word_at.ensures so_far.each k lt;
    }
