-- What each step tells: the view after it, by the view before.
use Rattle.std.specs.Prelude.{◌≡◌, ◌⊎◌, ℕ, ◌+◌, ◌<◌, length, slice_index}
use Rattle.jo_value.specs.declared.limits.TheConstants.{MOST_OBJECTS}
use Rattle.jo_value.specs.declared.value.ObjId.{ObjId}
use Rattle.jo_value.specs.declared.words.cell.Cell.{Cell}
use Rattle.jo_value.specs.declared.words.cell.Kind.TheVariants.{Dictionary}
use Rattle.jo_value.specs.Words.{IsCell}
use Rattle.jo_model.specs.declared.call.Call.TheVariants as call
use Rattle.jo_model.specs.declared.call.Reply.TheVariants as reply
use Rattle.jo_model.specs.One.{one}
use Rattle.jo_model.specs.Heaps.{objects_of, object_of, IsBorn}
use Rattle.jo_model.specs.Logs.{Log, after}
use Rattle.jo_rule.specs.declared.event.Event.{Event}
use Rattle.jo_rule.specs.declared.event.Event.TheVariants.{Nothing, Place, Refuse}
use Rattle.jo_rule.specs.Marks.{Mark}
use Rattle.jo_rule.specs.Histories.{Begins}
use Rattle.jo_rule.specs.Views.{View, Lock, Storage, word_in}
use Rattle.jo_rule.specs.Dictionaries.{HasProperties, block_size}
use Rattle.jo_rule.specs.Contents.{root_of}
use Rattle.jo_rule.specs.Events.{MayPlace, added, object_after_event}
use Rattle.jo_rule.specs.Locks.{IsUnderLock}
use Rattle.jo_rule.specs.Tidy.{own_changes}
use Rattle.jo_rule.specs.Owned.{address_of}
use Rattle.jo_rule.specs.Steps.{with_placed, with_taken_lock, taken_lock, with_own_word, with_block_word, with_named, without_lock, with_birth, IsFilled}
use Rattle.jo_steps.specs.Views.{HeldView}
use Rattle.jo_steps.specs.Counting.{one_load, one_store, one_lock}
use Rattle.jo_steps.specs.Holding.{lock_of, next_object, HoldsLock, IsFreshAt, IsHeldAt, IsBirthAt}

-- a load may place a New that is refused, since no more objects may be made, or since storage does not suffice for
-- its block
abbrev pub MayPlaceByLoad : ℕ → View → Event → Type 0
MayPlaceByLoad passes v Nothing = Unit {0}
MayPlaceByLoad passes v (Place call.New) = v.births.objects ≡ MOST_OBJECTS
MayPlaceByLoad passes v (Place _) = ⊥
MayPlaceByLoad passes v (Refuse call.New spent) = MayPlace passes v (Refuse call.New spent)
MayPlaceByLoad passes v (Refuse _ spent) = ⊥

-- the cell of an object that is born: a dictionary's, whose owner is the pass that made the object, with the root of that pass
pub record IsCellOf (o : ObjId) (found : Cell) : Type 0 where
  pub is_cell : IsCell found
  pub kind : found.kind ≡ Dictionary
  pub structure : found.sid ≡ root_of o.pass
  pub owner : found.owner ≡ o.pass

-- a cell was loaded, which shows the log, and an event was placed
pub record Looked (passes : ℕ) (event : Event) (v u : View) : Type 0 where
  pub log : Log Mark
  pub more : Begins log v.past.seen
  pub view : u ≡ with_placed passes v event log (one_load v.counts)
  pub objects : length (objects_of (after passes log) v.number) ≡ v.births.objects
  pub changes : own_changes passes u ≡ own_changes passes v

-- A lock was taken, which shows the log. The holder knows the object as it is then, and the words of its block.
pub record Locked (passes : ℕ) (held : HeldView) (v u : View) : Type 0 where
  pub log : Log Mark
  pub more : Begins log v.past.seen
  pub lock : Lock
  pub is_taken : lock ≡ taken_lock held.object held.cell lock.content lock.room lock.block lock.since
  pub view : u ≡ with_taken_lock v log lock held.cell (one_lock v.counts)
  pub changes : own_changes passes u ≡ own_changes passes v
  pub holds : HoldsLock passes u held
  pub taken : IsUnderLock (after passes log) held.object lock.content lock.room (slice_index lock.block)

-- a word that nobody else may change is as it is known
pub record LoadedOwn (passes : ℕ) (v : View) (at found : ℕ) : Type 0 where
  pub fresh : (k : ℕ) → IsFreshAt passes v k at → found ≡ word_in v.storage.fresh k
  pub held : (k : ℕ) → IsHeldAt passes v k at → found ≡ slice_index (lock_of v).block k

-- an object was born, with its block at word k of the own storage
pub record Born (passes : ℕ) (k room : ℕ) (v u : View) : Type 0 where
  pub log : Log Mark
  pub more : Begins log v.past.seen
  pub view : u ≡ with_birth passes v log (with_named v.storage k (block_size room)) (one_store v.counts)
  pub changes : own_changes passes u ≡ own_changes passes v + 1
  pub objects : length (objects_of (after passes log) v.number) ≡ v.births.objects
  pub reply : (one (after passes log) v.number call.New).1 ≡ reply.Made (next_object v)
  pub born : IsBorn (after passes u.past.seen) (next_object v)

-- a word was stored, which is known from then on
pub record StoredOwn (passes : ℕ) (v : View) (at word : ℕ) (u : View) : Type 0 where
  pub fresh : (k : ℕ) → IsFreshAt passes v k at → u ≡ with_own_word v k word (one_store v.counts)
  pub held : (k : ℕ) → 0 < k → IsHeldAt passes v k at → u ≡ with_block_word v (lock_of v) k word (one_store v.counts)
  pub born : (k room : ℕ) → IsBirthAt passes v k room at word → Born passes k room v u

-- A lock was released with an event. What its holder knew is the object, as the log has it.
pub record Released (passes : ℕ) (event : Event) (own : Storage) (v u : View) : Type 0 where
  pub log : Log Mark
  pub more : Begins log v.past.seen
  pub content : object_of (after passes log) (lock_of v).object ≡ (lock_of v).content
  pub view : u ≡ without_lock passes v event log own (one_store v.counts)
  pub changes : own_changes passes u ≡ own_changes passes v + added passes v.number event log

-- the lock is released in its block, which has what the event leaves
pub record ReleasesInPlace (v : View) (held : HeldView) (next : Cell) (event : Event) : Type 0 where
  pub same : next ≡ held.cell
  pub properties : HasProperties (slice_index (lock_of v).block) (lock_of v).room (object_after_event event (lock_of v).content)

-- the lock is released in a new block, at word k of the own storage
pub record ReleasesMoved (v : View) (held : HeldView) (next : Cell) (event : Event) (k room : ℕ) : Type 0 where
  pub moved : next ≡ record held.cell { address = address_of v.number k }
  pub filled : IsFilled v.storage k room (object_after_event event (lock_of v).content)

abbrev pub MayReleaseTo : View → HeldView → Cell → Event → Type 0
MayReleaseTo v held next event = ReleasesInPlace v held next event ⊎ ((k : ℕ) × (room : ℕ) × ReleasesMoved v held next event k room)

pub record ReleasesTo (passes : ℕ) (v : View) (held : HeldView) (next : Cell) (event : Event) (u : View) : Type 0 where
  pub here : ReleasesInPlace v held next event → Released passes event v.storage v u
  pub moved : (k room : ℕ) → ReleasesMoved v held next event k room → Released passes event (with_named v.storage k (block_size room)) v u
