use Rattle.std.proofs.Common.{◌≡◌, ◌<◌, ◌∙◌, ◌+◌, ap, refl, ℕ, arith, length}
use Rattle.jo_value.specs.declared.value.Key.TheVariants.{Name}
use Rattle.jo_model.specs.One.{put_in}
use Rattle.jo_rule.specs.Views.{View}
use Rattle.jo_dict.specs.inner.Stored.{block_words, fresh_words}
use Rattle.jo_dict.proofs.Views.{stores_as}
use Rattle.jo_dict.proofs.Adding.{name_done}
use Rattle.jo_dict.proofs.Fresh.{same_fresh, area_after, areas_then, refilled}
use Rattle.jo_dict.proofs.filling.fill_name.Goals as goal

pub store_word-requires-clause-word : goal.store_word-requires-clause-word
store_word-requires-clause-word c =
    let block = c.requires.block in
    let counted = c.load_word-names.ensures in
    let names = counted.word ∙ block.filled.properties.count in
    let few = block.room.1 in
    let at = c.value_at.ensures in
    let from = block.filled.from in
    let to = block.filled.to in
    let named = ap (λ (x : View). x.storage.named) counted.only in
    let used = ap (λ (x : View). x.storage.used) counted.only in
    record { from = omega arith; to = omega arith }

pub returns-clause-block : goal.returns-clause-block
returns-clause-block c elements z filled may =
    let v = c.args.pass.now.view in
    let a = c.load_word-names.new.pass.view in
    let u = c.store_word.new.pass.view in
    let t = c.store_word-2.new.pass.view in
    let w = c.store_word-3.new.pass.view in
    let first = c.args.first in
    let counted = c.load_word-names.ensures in
    let names = counted.word ∙ filled.properties.count in
    let value = stores_as (same_fresh v a first counted.only) c.value_at.ensures c.slot_word-word.ensures c.store_word.ensures.words in
    let name = stores_as refl c.name_at.ensures c.from.ensures c.store_word-2.ensures.words in
    let count = stores_as refl refl (ap (λ (n : ℕ). n + 1) (c.from-2.ensures ∙ names)) c.store_word-3.ensures.words in
    let area = areas_then v u w (area_after v a u counted.only c.store_word.ensures.area) (areas_then u t w c.store_word-2.ensures.area c.store_word-3.ensures.area) in
    refilled v w first elements z (put_in z (Name c.args.name) c.args.value).0 filled area
    (count.others 0 (λ e. omega arith) ∙ name.others 0 (λ e. omega arith) ∙ value.others 0 (λ e. omega arith))
    (name_done filled.properties c.args.name c.args.value (block_words u first) (block_words t first) (block_words w first) may.0 names may.1 value name count)

pub returns-clause-others : goal.returns-clause-others
returns-clause-others c j apart =
    let block = c.requires.block in
    let counted = c.load_word-names.ensures in
    let names = counted.word ∙ block.filled.properties.count in
    let few = block.room.1 in
    c.store_word-3.ensures.others j (λ e. omega arith)
    ∙ c.store_word-2.ensures.others j (λ e. omega (arith, c.name_at.ensures))
    ∙ c.store_word.ensures.others j (λ e. omega (arith, c.value_at.ensures))
    ∙ ap (λ (x : View). fresh_words x j) counted.only
