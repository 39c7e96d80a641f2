use Rattle.std.proofs.Common.{◌+◌, ◌∙◌, ap}
use Rattle.jo_value.specs.declared.words.cell.Cell.{Cell}
use Rattle.jo_rule.specs.Names.{word_at, storage}
use Rattle.jo_dict.proofs.Views.{held_at}
use Rattle.jo_dict.proofs.words.at_held.Goals as goal

pub returns : goal.returns
returns c =
    let at = c.at_storage.ensures ∙ ap (λ (x : Cell). word_at c.args.heap.now.passes (storage (x.address + c.args.k))) c.cell.ensures in
    held_at c.requires.held c.args.k c.at_storage.result c.requires.within at
