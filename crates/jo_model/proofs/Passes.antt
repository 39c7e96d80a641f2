-- The passes at the start, one more at a time.
use Rattle.std.proofs.Common.{◌≡◌, ℕ, ◌+◌, ◌-◌, ◌≤◌, [], ◌∷◌, ◌++◌, replicate, ap, ◌∙◌, arith}
use Rattle.std.proofs.lemmas.List.{replicate-append-replicate}

pub one_more : {A : Type 0} (first x : A) (n : ℕ) → 1 ≤ n → (first ∷ []) ++ replicate (n - 1) x ++ (x ∷ []) ≡ first ∷ replicate (n + 1 - 1) x
one_more first x n le =
    let e : n - 1 + 1 ≡ n + 1 - 1 = omega arith in
    ap (λ l. first ∷ l) (replicate-append-replicate (n - 1) 1 x ∙ ap (λ k. replicate k x) e)
