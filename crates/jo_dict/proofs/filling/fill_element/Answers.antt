use Rattle.std.proofs.Common.{◌<◌, refl, arith}
use Rattle.jo_value.specs.declared.value.Key.TheVariants.{Index}
use Rattle.jo_model.specs.One.{put_in}
use Rattle.jo_dict.specs.inner.Stored.{block_words}
use Rattle.jo_dict.proofs.Views.{stores_as}
use Rattle.jo_dict.proofs.Adding.{element_put}
use Rattle.jo_dict.proofs.Fresh.{same_elements, refilled}
use Rattle.jo_dict.proofs.filling.fill_element.Goals as goal

pub returns-clause-block : goal.returns-clause-block
returns-clause-block c elements z filled =
    let v = c.args.pass.now.view in
    let u = c.store_word.new.pass.view in
    let first = c.args.first in
    let block = c.requires.block in
    let value = stores_as refl c.element_at.ensures c.slot_word-word.ensures c.store_word.ensures.words in
    let same = same_elements v.storage first block.elements elements block.object z block.filled filled in
    let within : c.args.index < elements = omega (arith, block.room) in
    refilled v u first elements z (put_in z (Index c.args.index) c.args.value).0 filled c.store_word.ensures.area (value.others 0 (λ e. omega arith))
    (element_put (block_words v first) (block_words u first) elements z c.args.index c.args.value filled.properties within value)
