-- What is done while a lock is held, and what is known once it was released with a call.
use Rattle.std.specs.Prelude.{◌≡◌, ℕ, ◌+◌, ◌&&◌, not, Bool, true, false, if◌then◌else◌, List, [], ◌∷◌, ◌++◌, length, Some, None}
use Rattle.jo_model.specs.declared.call.Call.{Call}
use Rattle.jo_model.specs.declared.call.Call.TheVariants as call
use Rattle.jo_model.specs.declared.call.Reply.TheVariants as reply
use Rattle.jo_model.specs.Objects.{Object, property, has_property}
use Rattle.jo_model.specs.Heaps.{object_of}
use Rattle.jo_model.specs.One.{is_found_as}
use Rattle.jo_model.specs.History.{is_refusal}
use Rattle.jo_model.specs.Logs.{change, Log, after}
use Rattle.jo_model.specs.Placed.{PlacedCall}
use Rattle.jo_rule.specs.declared.event.Event.{Event}
use Rattle.jo_rule.specs.declared.event.Event.TheVariants.{Nothing, Place, Refuse}
use Rattle.jo_rule.specs.Dictionaries.{block_size}
use Rattle.jo_rule.specs.Events.{object_after_event, object_reply, placed}
use Rattle.jo_rule.specs.Histories.{Begins}
use Rattle.jo_rule.specs.Marks.{Mark}
use Rattle.jo_rule.specs.Owned.{address_of}
use Rattle.jo_rule.specs.Steps.{IsFilled, with_named, no_sight}
use Rattle.jo_rule.specs.Tidy.{own_changes}
use Rattle.jo_rule.specs.Views.{View, Storage}
use Rattle.jo_steps.specs.Holding.{lock_of}

-- ---- while it is held

-- only counts, the own storage, and the words of the block differ whose lock is held
abbrev pub OnlyHeld : View → View → Type 0
OnlyHeld v u = u ≡ record v { storage = u.storage; lock = Some (record (lock_of v) { block = (lock_of u).block }); counts = u.counts }

-- at this address of the own storage is a block with the properties of an object, which no cell names
pub record IsNewBlock (v : View) (address : ℕ) (z : Object) : Type 0 where
  pub at : ℕ
  pub elements : ℕ
  pub here : address ≡ address_of v.number at
  pub filled : IsFilled v.storage at elements z

-- ---- once it was released

-- the call of an event, placed there with its reply by the object that it is made on
abbrev pub placed_by : Event → ℕ → Object → List PlacedCall
placed_by Nothing place z = []
placed_by (Place c) place z = placed place c (object_reply c z) ∷ []
placed_by (Refuse c spent) place z = placed place c (reply.Spent spent) ∷ []

-- whether a call on this object counts as a change where it is not refused
abbrev pub would_change_it : Call → Object → Bool
would_change_it call.New z = true
would_change_it (call.Get o key) z = false
would_change_it (call.Has o key) z = false
would_change_it (call.Names o) z = false
would_change_it (call.Put o key value) z = true
would_change_it (call.Delete o key) z = has_property z key
would_change_it (call.Cas o key expected desired) z = is_found_as (property z key) expected

-- whether it is one
abbrev pub changes_it : Call → Object → Bool
changes_it c z = not (is_refusal (object_reply c z)) && would_change_it c z

-- what an event of a pass on this object adds to the log
abbrev pub recorded_by : ℕ → Event → Object → Log Mark
recorded_by pass Nothing z = []
recorded_by pass (Place c) z = if changes_it c z then change pass c ∷ [] else []
recorded_by pass (Refuse c spent) z = []

-- A lock was released with an event, by a holder who knew the object as the log then had it. The call is placed behind
-- that log, and the pass has seen all of it. Nothing else is new but the own storage, of which a block may have been
-- named.
pub record HasReleased (passes : ℕ) (event : Event) (own : Storage) (v u : View) : Type 0 where
  pub log : Log Mark
  pub more : Begins log v.past.seen
  pub content : object_of (after passes log) (lock_of v).object ≡ (lock_of v).content
  pub seen : u.past.seen ≡ log ++ recorded_by v.number event (lock_of v).content
  pub calls : u.past.calls ≡ v.past.calls ++ placed_by event (length log) (lock_of v).content
  pub changes : own_changes passes u ≡ own_changes passes v + length (recorded_by v.number event (lock_of v).content)
  pub only : u ≡ record v { past = u.past; storage = own; sight = no_sight; lock = None; counts = u.counts }

-- The same where the object has a new block from then on, at this address of the own storage.
abbrev pub HasMoved : ℕ → Event → (address : ℕ) → View → View → Type 0
HasMoved passes event address v u = (k room : ℕ) → address ≡ address_of v.number k → IsFilled v.storage k room (object_after_event event (lock_of v).content)
    → HasReleased passes event (with_named v.storage k (block_size room)) v u
