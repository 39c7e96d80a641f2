-- In a heap that was opened so an object is born flat, so what that asks for can be met.
use Rattle.std.proofs.Common.{true, refl, arith, [], ◌∷◌}
use Rattle.jo_value.specs.declared.value.ObjId.{ObjId}
use Rattle.jo_value.specs.Words.{cell_bits}
use Rattle.jo_model.specs.Logs.{Log}
use Rattle.jo_rule.specs.declared.counts.Counts.{Counts}
use Rattle.jo_rule.specs.Names.{cell}
use Rattle.jo_rule.specs.Areas.{put}
use Rattle.jo_rule.specs.Marks.{Mark}
use Rattle.jo_rule.specs.Views.{View}
use Rattle.jo_rule.specs.Rule.{Rule}
use Rattle.jo_rule.specs.Opening.{opening_words}
use Rattle.jo_rule.specs.Steps.{opening_view, split_left, split_right, with_birth}
use Rattle.jo_rule.proofs.Opens.{opens_either}
use Rattle.jo_rule.proofs.Splits.{splits}
use Rattle.jo_rule.proofs.Births.{flat_cell, bears_flat}

abbrev counts : Counts
counts = record { loads = 0; stores = 0; exchanges = 0; locks = 0 }

abbrev opened : View
opened = record opening_view { flat = true }

abbrev second : View
second = split_right opened

abbrev born : ObjId
born = record { pass = 1; serial = 0 }

pub a_flat_object_is_born : (log : Log Mark) × Rule 2 (put (opening_words 2) (cell born) (cell_bits (flat_cell 1))) (split_left opened ∷ with_birth 2 second log second.storage counts ∷ [])
a_flat_object_is_born =
    let made = splits 0 opened (opens_either true 2 (omega arith) (omega arith)) refl refl refl (omega arith) in
    (made.log, (bears_flat 1 second made refl refl counts (omega arith) refl refl (omega arith)).1)
