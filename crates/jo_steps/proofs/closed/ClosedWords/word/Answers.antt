use Rattle.std.proofs.Common.{◌≡◌, ℕ, zero, suc, List, [], ◌∷◌, get_or, ap, ◌∙◌}
use mathlib.Core.Option.{some}
use lib.ListN.{get_elem?}
use Rattle.jo_steps.specs.Views.{ClosedView}
use Rattle.jo_steps.proofs.closed.ClosedWords.word.Goals as goal

word_there : (ws : List ℕ) (i w : ℕ) → get_elem? ws i ≡ some w → w ≡ get_or ws i 0
word_there [] i w e = absurd cc
word_there (x ∷ xs) zero w e = cc
word_there (x ∷ xs) (suc i) w e = word_there xs i w e

pub returns : goal.returns
returns c =
    let row = c.self.inside.words.words in
    word_there row.items c.args.at c.word.result c.word.ensures ∙ ap (λ (x : ClosedView). get_or x.words c.args.at 0) c.self.view_is
