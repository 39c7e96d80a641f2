-- A place that a search through a list gives, or the list's length where it finds none.
use Rattle.std.proofs.Common.{◌≡◌, ◌≤◌, ◌∙◌, ℕ, ap, arith, Option, Some, None, cond, ltb, ⊎_elim}
use Rattle.std.specs.Prelude.{unwrap_or}
use Rattle.std.proofs.lemmas.Bool.{lt-ltb, le-ltb, cases_lt}

pub place_or_length : (place n : ℕ) (found : Option ℕ) → found ≡ cond (ltb place n) (Some place) None → place ≤ n → unwrap_or found n ≡ place
place_or_length place n found e le =
    ⊎_elim
    (λ lt. ap (λ o. unwrap_or o n) (e ∙ ap (λ b. cond b (Some place) None) (lt-ltb place n lt)))
    (λ ge. let same : n ≡ place = omega arith in ap (λ o. unwrap_or o n) (e ∙ ap (λ b. cond b (Some place) None) (le-ltb place n ge)) ∙ same)
    (cases_lt place n)
