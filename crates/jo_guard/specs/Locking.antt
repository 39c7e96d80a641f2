-- What is known when a lock was taken.
use Rattle.std.specs.Prelude.{◌≡◌, ℕ, slice_index}
use Rattle.jo_value.specs.declared.value.ObjId.{ObjId}
use Rattle.jo_model.specs.Logs.{after}
use Rattle.jo_rule.specs.Histories.{Begins}
use Rattle.jo_rule.specs.Views.{View}
use Rattle.jo_rule.specs.Locks.{IsUnderLock}
use Rattle.jo_rule.specs.Tidy.{own_changes}
use Rattle.jo_steps.specs.Views.{HeldView}
use Rattle.jo_steps.specs.Holding.{lock_of, HoldsLock}
use Rattle.jo_guard.specs.Placing.{TriesDictionaries}

-- only what was seen, counts, tries, pins and the lock differ
abbrev pub OnlyLock : View → View → Type 0
OnlyLock v u = u ≡ record v { past = record v.past { seen = u.past.seen }; counts = u.counts; tries = u.tries; sight = u.sight; lock = u.lock }

-- The lock of an object was taken. Its holder has seen the log, and knows the object as the log has it and the words of its block.
pub record HasLocked (passes : ℕ) (o : ObjId) (held : HeldView) (v u : View) : Type 0 where
  pub object : held.object ≡ o
  pub holds : HoldsLock passes u held
  pub taken : IsUnderLock (after passes u.past.seen) o (lock_of u).content (lock_of u).room (slice_index (lock_of u).block)
  pub seen : Begins u.past.seen v.past.seen
  pub tries : TriesDictionaries v u
  pub changes : own_changes passes u ≡ own_changes passes v
  pub only : OnlyLock v u
