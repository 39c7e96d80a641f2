use Rattle.std.proofs.Common.{◌∙◌, sym, subst, ℕ}
use Rattle.jo_dict.specs.inner.Stored.{held_words}
use Rattle.jo_dict.specs.inner.Places.{AreNameWords, names_in}
use Rattle.jo_dict.proofs.Views.{same_words}
use Rattle.jo_dict.proofs.Reading.{small_names, all_names}
use Rattle.jo_dict.proofs.listing.names.Goals as goal

pub list_of-requires-clause-names : goal.list_of-requires-clause-names
list_of-requires-clause-names c =
    let v = c.args.pass.now.view in
    let z = c.requires.block.0 in
    let b = c.requires.block.1 in
    let words = same_words v c.len-names.new.pass.view c.len-names.ensures.only in
    subst (λ (f : ℕ → ℕ). AreNameWords f c.len-names.result) (sym words) (subst (AreNameWords (held_words v)) (sym (c.len-names.ensures.names z b)) (small_names b.properties b.words))

pub returns-clause-names : goal.returns-clause-names
returns-clause-names c z b =
    let v = c.args.pass.now.view in
    let words = same_words v c.len-names.new.pass.view c.len-names.ensures.only in
    c.list_of.ensures.names ∙ (λ i. names_in (words i) (c.len-names.ensures.names z b i)) ∙ sym (all_names b.properties)
