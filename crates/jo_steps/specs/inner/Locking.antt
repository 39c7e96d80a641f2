-- What a try of a lock tells, and a store that releases one.
use Rattle.std.specs.Prelude.{◌≡◌, ◌≢◌, ℕ}
use Rattle.jo_value.specs.declared.value.ObjId.{ObjId}
use Rattle.jo_value.specs.declared.words.cell.Cell.{Cell}
use Rattle.jo_value.specs.Words.{cell_bits}
use Rattle.jo_rule.specs.declared.event.Event.{Event}
use Rattle.jo_rule.specs.Views.{View}
use Rattle.jo_rule.specs.Steps.{with_lost_try}
use Rattle.jo_steps.specs.Views.{HeldView}
use Rattle.jo_steps.specs.Counting.{one_store, one_lock}
use Rattle.jo_steps.specs.Effects.{Locked, ReleasesTo}
use Rattle.jo_steps.specs.inner.KindsOfLoads.{IsCellWordOf}
use Rattle.jo_steps.specs.inner.Goings.{GoesOn}

-- the token of a lock
abbrev pub token : ObjId → Cell → HeldView
token o seen = record { object = o; cell = seen }

-- the lock was taken where the word of the expected cell was found, and else it was not
pub record HasTried (passes : ℕ) (o : ObjId) (seen : Cell) (v : View) (found : ℕ) (u : View) : Type 0 where
  pub taken : found ≡ cell_bits seen → Locked passes (token o seen) v u
  pub lost : found ≢ cell_bits seen → u ≡ with_lost_try v o seen (one_lock v.counts)
  pub cell : IsCellWordOf o found
  pub goes : GoesOn v u v.storage.used v.births.objects (one_lock v.counts)

-- the lock was released
pub record HasReleased (passes : ℕ) (held : HeldView) (next : Cell) (event : Event) (v u : View) : Type 0 where
  pub released : ReleasesTo passes v held next event u
  pub goes : GoesOn v u v.storage.used v.births.objects (one_store v.counts)
