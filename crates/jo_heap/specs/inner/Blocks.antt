-- The block of an object, as private functions read it.
use Rattle.std.specs.Prelude.{◌+◌}
use Rattle.jo_model.specs.Objects.{Object}
use Rattle.jo_rule.specs.Areas.{Words, stored}
use Rattle.jo_rule.specs.Contents.{HasWords}
use Rattle.jo_rule.specs.Dictionaries.{HasProperties}
use Rattle.jo_heap.specs.declared.block.Block.{Block}

-- its words have the properties of the object
pub record IsBlockOf (w : Words) (object : Object) (block : Block) : Type 0 where
  pub properties : HasProperties (λ k. stored w (block.address + k)) block.elements object
  pub words : HasWords object
