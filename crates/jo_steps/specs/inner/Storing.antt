-- What a store to an own word tells, and what the pass has used and made after it.
use Rattle.std.specs.Prelude.{ℕ, ◌+◌, ◌-◌, ◌*◌, nat_lt, nat_le, ◌&&◌, if◌then◌else◌}
use Rattle.jo_value.specs.declared.limits.TheConstants.{MOST_STORAGE}
use Rattle.jo_rule.specs.Names.{storage_at}
use Rattle.jo_rule.specs.Views.{View}
use Rattle.jo_steps.specs.Counting.{one_store}
use Rattle.jo_steps.specs.Effects.{StoredOwn}
use Rattle.jo_steps.specs.inner.Goings.{GoesOn}

-- the number of the first word of a pass's storage
abbrev pub first_word : ℕ → ℕ → ℕ
first_word passes pass = storage_at passes + MOST_STORAGE * pass

-- how much is used after a store to word `at`: more where the word is own storage behind what was used
abbrev pub used_after : ℕ → ℕ → ℕ → ℕ → ℕ
used_after passes pass used at =
    if nat_le (first_word passes pass + used) at && nat_lt at (first_word passes pass + MOST_STORAGE) then at - first_word passes pass + 1 else used

-- how many objects are made after it: one more where it is before the storage
abbrev pub objects_after : ℕ → ℕ → ℕ → ℕ
objects_after passes objects at = objects + (if nat_lt at (storage_at passes) then 1 else 0)

-- the word was stored
pub record HasStored (passes at word : ℕ) (v u : View) : Type 0 where
  pub told : StoredOwn passes v at word u
  pub goes : GoesOn v u (used_after passes v.number v.storage.used at) (objects_after passes v.births.objects at) (one_store v.counts)
