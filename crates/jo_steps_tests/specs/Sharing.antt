-- What the tests know of the shared object and of the passes that take its lock.
use Rattle.std.specs.Prelude.{◌≡◌, ℕ, slice_index, None}
use Rattle.jo_model.specs.Heaps.{IsBorn, shared}
use Rattle.jo_model.specs.Logs.{after}
use Rattle.jo_rule.specs.Dictionaries.{HasProperties}
use Rattle.jo_rule.specs.Views.{View}
use Rattle.jo_steps.specs.Views.{HeldView}
use Rattle.jo_steps.specs.Holding.{lock_of, HoldsLock}

-- what no step of the tests changes
pub record Stays (v u : View) : Type 0 where
  pub number : u.number ≡ v.number
  pub made : u.made ≡ v.made
  pub kept : u.kept ≡ v.kept

-- the pass may take the lock of the shared object
pub record MayTake (passes : ℕ) (v : View) : Type 0 where
  pub born : IsBorn (after passes v.past.seen) shared
  pub unlocked : v.lock ≡ None

-- the lock of the shared object is held, and its block has the properties of the object
pub record HasShared (passes : ℕ) (v : View) (held : HeldView) : Type 0 where
  pub born : IsBorn (after passes v.past.seen) shared
  pub object : held.object ≡ shared
  pub holds : HoldsLock passes v held
  pub properties : HasProperties (slice_index (lock_of v).block) (lock_of v).room (lock_of v).content

-- only counts differ
abbrev pub OnlyCounts : View → View → Type 0
OnlyCounts v u = u ≡ record v { counts = u.counts }
