-- The words of values, as private functions read them.
use Rattle.std.specs.Prelude.{◌≡◌, ℕ, Option}
use Rattle.jo_value.specs.declared.value.Value.{Value}
use Rattle.jo_value.specs.Words.{IsSlot, slot_bits}
use Rattle.jo_rule.specs.Dictionaries.{slot_in}

-- the word of a value, or of none
pub record IsWordOf (value : Option Value) (word : ℕ) : Type 0 where
  pub is_slot : IsSlot (slot_in value)
  pub is_word : slot_bits (slot_in value) ≡ word
