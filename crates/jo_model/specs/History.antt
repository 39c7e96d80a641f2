-- Legal histories of the calls of several passes.
use Rattle.std.specs.Prelude.{◌≡◌, ◌⊎◌, ℕ, ◌+◌, ◌*◌, ◌<◌, ◌≤◌, ◌==◌, ◌&&◌, not, Bool, true, false, List, [], ◌∷◌, ◌++◌, fold, filter, map, if◌then◌else◌}
use Rattle.jo_value.specs.declared.limits.TheConstants.{MOST_STORAGE, MOST_NEED}
use Rattle.jo_model.specs.declared.call.Call.{Call}
use Rattle.jo_model.specs.declared.call.Call.TheVariants as call
use Rattle.jo_model.specs.declared.call.Reply.{Reply}
use Rattle.jo_model.specs.declared.call.Reply.TheVariants as reply
use Rattle.jo_model.specs.declared.call.Spent.{Spent}
use Rattle.jo_model.specs.Objects.{property, has_property}
use Rattle.jo_model.specs.Heaps.{Heap, heap_at_start, object_of}
use Rattle.jo_model.specs.One.{one, is_found_as}

-- a call of a pass, with its reply
pub record Entry : Type 0 where
  pub pass : ℕ
  pub call : Call
  pub reply : Reply

-- A history is a list of them.
abbrev pub History : Type 0
History = List Entry

-- whether a reply refuses its call, which then does nothing
abbrev pub is_refusal : Reply → Bool
is_refusal (reply.Made o) = false
is_refusal (reply.Found v) = false
is_refusal (reply.Flag b) = false
is_refusal (reply.Names names) = false
is_refusal reply.Done = false
is_refusal reply.TooManyNames = true
is_refusal reply.ObjectsSpent = true
is_refusal (reply.Spent spent) = true

-- whether a call counts as a change of this heap where it is not refused; a Put does also where the value was the same
abbrev pub would_change : Heap → Call → Bool
would_change heap call.New = true
would_change heap (call.Get o key) = false
would_change heap (call.Has o key) = false
would_change heap (call.Names o) = false
would_change heap (call.Put o key value) = true
would_change heap (call.Delete o key) = has_property (object_of heap o) key
would_change heap (call.Cas o key expected desired) = is_found_as (property (object_of heap o) key) expected

-- whether an answered call is a change of this heap, which is the one before it
abbrev pub is_change : Heap → Call → Reply → Bool
is_change heap call answer = not (is_refusal answer) && would_change heap call

-- the heap after an entry; a call that is refused changes nothing
abbrev pub after_entry : Heap → Entry → Heap
after_entry heap e = if is_refusal e.reply then heap else (one heap e.pass e.call).0

-- the heap after a history
abbrev pub heap_after : ℕ → History → Heap
heap_after passes w = fold after_entry (heap_at_start passes) w

-- how many changes a pass makes in a history that begins at this heap
abbrev pub changes_by : ℕ → Heap → History → ℕ
changes_by pass heap [] = 0
changes_by pass heap (e ∷ w) =
    (if e.pass == pass && is_change heap e.call e.reply then 1 else 0) + changes_by pass (after_entry heap e) w

-- The calls that may be refused for want of storage. A New is one of them for as long as an object is born with a block
-- of storage; once it is born with none, it takes none.
abbrev pub MayTakeStorage : Call → Type 0
MayTakeStorage call.New = Unit {0}
MayTakeStorage (call.Get o key) = ⊥
MayTakeStorage (call.Has o key) = ⊥
MayTakeStorage (call.Names o) = ⊥
MayTakeStorage (call.Put o key value) = Unit {0}
MayTakeStorage (call.Delete o key) = Unit {0}
MayTakeStorage (call.Cas o key expected desired) = ⊥

-- A refusal for want of storage is lawful where used and needed together are more than a pass has, the need is at most
-- what one call takes at most, and used is at most that much for each change that the pass has made.
pub record IsLawfulSpent (made : ℕ) (call : Call) (answer : Reply) : Type 0 where
  pub spent : Spent
  pub answered : answer ≡ reply.Spent spent
  pub takes : MayTakeStorage call
  pub over : MOST_STORAGE < spent.used + spent.need
  pub need : spent.need ≤ MOST_NEED
  pub used : spent.used ≤ MOST_NEED * made

-- An entry is lawful after others: its pass is one of the heap's, and its reply is that of one thread,
-- or a lawful refusal for want of storage.
pub record IsLawful (passes : ℕ) (before : History) (e : Entry) : Type 0 where
  pub pass : e.pass < passes
  pub reply : (e.reply ≡ (one (heap_after passes before) e.pass e.call).1)
      ⊎ IsLawfulSpent (changes_by e.pass (heap_at_start passes) before) e.call e.reply

-- each entry is lawful after the entries `before` and those that precede it
abbrev pub IsLegalAfter : ℕ → History → History → Type 0
IsLegalAfter passes before [] = Unit {0}
IsLegalAfter passes before (e ∷ w) = IsLawful passes before e × IsLegalAfter passes (before ++ e ∷ []) w

-- A history is legal where each entry is lawful after those before it.
abbrev pub IsLegal : ℕ → History → Type 0
IsLegal passes w = IsLegalAfter passes [] w

-- the entries of a pass, in their order
abbrev pub entries_of : ℕ → History → History
entries_of pass w = filter (λ e. e.pass == pass) w

abbrev pub calls_of : ℕ → History → List Call
calls_of pass w = map (λ e. e.call) (entries_of pass w)

abbrev pub replies_of : ℕ → History → List Reply
replies_of pass w = map (λ e. e.reply) (entries_of pass w)
