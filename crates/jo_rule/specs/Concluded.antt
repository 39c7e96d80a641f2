-- What follows when an object was opened: what its pass does next, and what that pass had used up.
use Rattle.std.specs.Prelude.{◌≡◌, ◌≢◌, ℕ, ◌<◌, ◌≤◌, true, List, length, slice_get, Option, Some, None}
use Rattle.jo_value.specs.declared.capacities.TheConstants.{MOST_STRUCTURES, CALLS_WITHIN_STRUCTURES}
use Rattle.jo_value.specs.declared.value.ObjId.{ObjId}
use Rattle.jo_value.specs.declared.words.cell.Kind.TheVariants.{Opening}
use Rattle.jo_model.specs.Logs.{LogEntry, change, mark, Log, made_by, after}
use Rattle.jo_model.specs.Placed.{PlacedCall}
use Rattle.jo_rule.specs.declared.cause.Cause.{Cause}
use Rattle.jo_rule.specs.declared.cause.Cause.TheVariants.{Nodes}
use Rattle.jo_rule.specs.declared.event.Event.{Event}
use Rattle.jo_rule.specs.declared.event.Event.TheVariants.{Nothing, Place, Refuse}
use Rattle.jo_rule.specs.Marks.{Mark, opened, HasNodesFor, IsOpenedFor, AreConcluded}
use Rattle.jo_rule.specs.Views.{View, Kept, Lock}
use Rattle.jo_rule.specs.Lists.{Each, Live}
use Rattle.jo_rule.specs.Events.{changes}

-- a lock that is held, if there is one, is not that of an object which its holder opened
abbrev pub NotOpened : Option Lock → Type 0
NotOpened lock = (g : Lock) → lock ≡ Some g → g.opened ≡ None

-- the last entry of a pass is the mark of an object that it opened
pub record OpenedLast (log : Log Mark) (t : ℕ) (o : ObjId) (cause : Cause) : Type 0 where
  pub at : ℕ
  pub is : slice_get log at ≡ Some (mark t (opened o cause))
  pub last : (k : ℕ) (d : LogEntry Mark) → at < k → slice_get log k ≡ Some d → made_by d ≢ t

-- the lock of an object is held that was opened for this cause
pub record HoldsOpened (lock : Option Lock) (o : ObjId) (cause : Cause) : Type 0 where
  pub held_lock : Lock
  pub held : lock ≡ Some held_lock
  pub object : held_lock.object ≡ o
  pub why : held_lock.opened ≡ Some cause

-- What a view knows of the object that it opened, by its items: where its lock is opened, the object is opening and the last own entry is
-- that mark, and the other way round; and each pass that opened an object for want of structures had used all its own.
pub record IsConcluding (log : Log Mark) (number : ℕ) (lock : Option Lock) (nodes : ℕ) (calls : List PlacedCall) (kept : List Kept) : Type 0 where
  pub opening : (g : Lock) (cause : Cause) → lock ≡ Some g → g.opened ≡ Some cause → g.cell.kind ≡ Opening
  pub opened : (g : Lock) (cause : Cause) → lock ≡ Some g → g.opened ≡ Some cause → OpenedLast log number g.object cause
  pub pending : (o : ObjId) (cause : Cause) → OpenedLast log number o cause → HoldsOpened lock o cause
  pub used : HasNodesFor log number nodes calls
  pub kept_used : Each kept (λ k q. HasNodesFor log q.number q.nodes q.calls)

-- all this of a view
abbrev pub ViewConcludes : Log Mark → ℕ → View → Type 0
ViewConcludes log seat v = IsConcluding log v.number v.lock v.births.nodes v.past.calls v.kept

-- each pass that opened an object went on with what it opened it for, or its lock says that it has yet to
pub record Concluded (passes : ℕ) (log : Log Mark) (views : List View) : Type 0 where
  pub concluded : AreConcluded passes log
  pub each : Live views (ViewConcludes log)

-- ---- what steps ask for

-- the event is a change, and what the object was opened for
abbrev pub Concludes : ℕ → Log Mark → ℕ → ObjId → Cause → Event → Type 0
Concludes passes log t o cause Nothing = ⊥
Concludes passes log t o cause (Place c) = (changes (after passes log) t c ≡ true) × IsOpenedFor (after passes log) o cause (change t c)
Concludes passes log t o cause (Refuse c spent) = ⊥

-- where a lock is held of an object that was opened, the event is what it was opened for
abbrev pub MayFollow : ℕ → Log Mark → ℕ → Option Lock → Event → Type 0
MayFollow passes log t lock event = (g : Lock) (cause : Cause) → lock ≡ Some g → g.opened ≡ Some cause → Concludes passes log t g.object cause event

-- an object is opened for want of structures by a pass that has made all it may, and has placed CALLS_WITHIN_STRUCTURES calls or more
abbrev pub HasUsedNodes : View → Cause → Type 0
HasUsedNodes v cause = cause ≡ Nodes → (v.births.nodes ≡ MOST_STRUCTURES) × (CALLS_WITHIN_STRUCTURES ≤ length v.past.calls)
