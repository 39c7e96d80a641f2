-- What a load tells.
use Rattle.std.specs.Prelude.{◌≡◌, ℕ}
use Rattle.jo_value.specs.declared.value.ObjId.{ObjId}
use Rattle.jo_value.specs.declared.words.cell.Cell.{Cell}
use Rattle.jo_value.specs.Words.{cell_bits}
use Rattle.jo_rule.specs.declared.event.Event.{Event}
use Rattle.jo_steps.specs.Counting.{one_load}
use Rattle.jo_steps.specs.Effects.{IsCellOf, Looked, LoadedOwn}
use Rattle.jo_steps.specs.inner.Tables.{StepFact}

-- a word is that of the cell of an object
pub record IsCellWordOf (o : ObjId) (word : ℕ) : Type 0 where
  pub cell : Cell
  pub is : IsCellOf o cell
  pub is_word : word ≡ cell_bits cell

abbrev pub looked : ℕ → ObjId → Event → StepFact
looked passes o event v found u = Looked passes event v u × IsCellWordOf o found

abbrev pub loaded_own : (passes at : ℕ) → StepFact
loaded_own passes at v found u = LoadedOwn passes v at found × (u ≡ record v { counts = one_load v.counts })

-- nothing changed
abbrev pub stayed : StepFact
stayed v found u = u ≡ v
