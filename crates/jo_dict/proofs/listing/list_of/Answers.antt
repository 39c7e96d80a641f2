use Rattle.std.proofs.Common.{◌≡◌, ℕ, suc, length, ◌+◌, [], ◌∷◌, ◌++◌, ap, ◌∙◌, arith}
use Rattle.std.proofs.lemmas.List.{length_push}
use Rattle.jo_value.specs.declared.value.NameId.{NameId}
use Rattle.jo_dict.specs.inner.Stored.{held_words}
use Rattle.jo_dict.specs.inner.Places.{names_in}
use Rattle.jo_dict.proofs.Views.{same_words, counts_then}
use Rattle.jo_dict.proofs.listing.list_of.Goals as goal

pub loop-place-preserved : goal.loop-place-preserved
loop-place-preserved c =
    let v = c.args.pass.now.view in
    let loop = c.loop-place in
    let f = held_words v in
    let of : ℕ → NameId = λ n. record { 0 = n } in
    let word = c.load_held-name.ensures.word ∙ (λ i. same_words v loop.pass.view loop.invariant.only i (c.name_at.ensures i)) in
    let next : suc loop.place ≡ loop.place + 1 = omega arith in
    record {
      held = c.load_held-name.ensures.held;
      only = counts_then v loop.pass.view c.load_held-name.new.pass.view loop.invariant.only c.load_held-name.ensures.only;
      list = c.push.ensures ∙ (λ i. loop.invariant.list i ++ of (word i) ∷ []) ∙ ap (names_in f) next;
      long = ap length c.push.ensures ∙ length_push loop.list (of c.load_held-name.result) ∙ ap (λ n. n + 1) loop.invariant.long;
    }
