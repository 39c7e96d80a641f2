use Rattle.std.proofs.Common.{◌<◌, [], ◌∷◌, ◌++◌, length, map, take, sym, ap, ◌∙◌, arith}
use Rattle.std.proofs.lemmas.List.{length-set, take_more_set, map_more}
use Rattle.jo_parse_tree.specs.declared.keyword.Keyword.TheVariants.{Break}
use Rattle.jo_vm.specs.inner.Words.{word_id}
use Rattle.jo_vm.proofs.keywords.ids_of.Goals as goal

pub loop-place-preserved : goal.loop-place-preserved
loop-place-preserved c =
    let ids = c.loop-place.ids in
    let words = c.args.words.now in
    let place = c.loop-place.place in
    let here : place < length ids = omega (arith, c.loop-place.invariant.long, c.loop-place-test.true) in
    let there : place < length words = omega (arith, c.requires, c.loop-place-test.true) in
    record {
      long = length-set ids place c.word_id.result ∙ c.loop-place.invariant.long;
      so_far =
          take_more_set ids place c.word_id.result here
          ∙ ap (λ front. front ++ c.word_id.result ∷ []) c.loop-place.invariant.so_far
          ∙ ap (λ id. map (word_id c.args.texts.now) (take place words) ++ id ∷ []) c.word_id.ensures
          ∙ sym (map_more (word_id c.args.texts.now) words place Break there);
    }
