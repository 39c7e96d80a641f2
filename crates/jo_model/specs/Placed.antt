-- Calls that have a place in the log of a heap, and the history that they make.
use Rattle.std.specs.Prelude.{◌≡◌, ◌⊎◌, ℕ, ◌+◌, ◌≤◌, if◌then◌else◌, ◌==◌, ◌&&◌, not, Bool, true, false, List, [], ◌∷◌, ◌++◌, length, filter, map, flat_map, take, slice_get, Some}
use Rattle.std.specs.List.{enumerate_from}
use Rattle.jo_model.specs.declared.call.Call.{Call}
use Rattle.jo_model.specs.declared.call.Reply.{Reply}
use Rattle.jo_model.specs.Heaps.{Heap, heap_at_start}
use Rattle.jo_model.specs.One.{one}
use Rattle.jo_model.specs.History.{Entry, History, is_change, IsLawfulSpent}
use Rattle.jo_model.specs.Logs.{LogEntry, change, mark, Log, changes_of, after_log_entry, heap_at}

-- A call of some pass, its reply, and its place: how many entries of the log stand before it, marks too.
pub record PlacedCall : Type 0 where
  pub place : ℕ
  pub call : Call
  pub reply : Reply

-- whether a placed call is a change at its place
abbrev pub is_placed_change : {M : Type 0} → ℕ → Log M → PlacedCall → Bool
is_placed_change passes log p = is_change (heap_at passes p.place log) p.call p.reply

-- a change is the entry at its place, and its reply is that of one thread there
pub record IsPlacedChange {M : Type 0} (passes : ℕ) (log : Log M) (pass : ℕ) (p : PlacedCall) : Type 0 where
  pub entry : slice_get log p.place ≡ Some (change pass p.call)
  pub reply : p.reply ≡ (one (heap_at passes p.place log) pass p.call).1
  pub changing : is_placed_change passes log p ≡ true

-- any other call is answered as by one thread at its place, and leaves the heap as it is
pub record IsPlacedUnchanging {M : Type 0} (passes : ℕ) (log : Log M) (pass : ℕ) (p : PlacedCall) : Type 0 where
  pub place : p.place ≤ length log
  pub same : one (heap_at passes p.place log) pass p.call ≡ (heap_at passes p.place log, p.reply)
  pub unchanging : is_placed_change passes log p ≡ false

-- a lawful refusal for want of storage, which changes nothing and may have any place
pub record IsPlacedRefusal {M : Type 0} (log : Log M) (pass : ℕ) (p : PlacedCall) : Type 0 where
  pub place : p.place ≤ length log
  pub refused : IsLawfulSpent (changes_of pass (take p.place log)) p.call p.reply

-- a placed call is lawful in this log
abbrev pub IsLawfulPlaced : {M : Type 0} → ℕ → Log M → ℕ → PlacedCall → Type 0
IsLawfulPlaced passes log pass p =
    IsPlacedChange passes log pass p ⊎ IsPlacedUnchanging passes log pass p ⊎ IsPlacedRefusal log pass p

-- the least place that the call after this one may have
abbrev pub end_of : {M : Type 0} → ℕ → Log M → PlacedCall → ℕ
end_of passes log p = if is_placed_change passes log p then p.place + 1 else p.place

-- The calls of a pass stand in its own order: none stands before the one before it, or where that one is a change.
-- `least` is the least place that the next call may have.
abbrev pub IsInOwnOrder : {M : Type 0} → ℕ → Log M → ℕ → List PlacedCall → Type 0
IsInOwnOrder passes log least [] = Unit {0}
IsInOwnOrder passes log least (p ∷ calls) = (least ≤ p.place) × IsInOwnOrder passes log (end_of passes log p) calls

-- a placed call of a pass as an entry of a history
abbrev pub entry_of : ℕ → PlacedCall → Entry
entry_of pass p = record { pass = pass; call = p.call; reply = p.reply }

-- the calls of a pass at a place that are no change there, in their order
abbrev pub unchanging_at : ℕ → Heap → ℕ → List PlacedCall → History
unchanging_at place heap pass calls =
    map (entry_of pass) (filter (λ p. p.place == place && not (is_change heap p.call p.reply)) calls)

-- those of all passes, in the order of the passes
abbrev pub all_unchanging_at : ℕ → Heap → List (List PlacedCall) → History
all_unchanging_at place heap calls = flat_map (λ of_pass. unchanging_at place heap of_pass.0 of_pass.1) (enumerate_from 0 calls)

-- an entry of a log in a history: a change stands there with the reply of one thread, a mark does not
abbrev pub history_of : {M : Type 0} → Heap → LogEntry M → History
history_of heap (change pass call) = record { pass = pass; call = call; reply = (one heap pass call).1 } ∷ []
history_of heap (mark pass noted) = []

-- from a place on: the calls there that are no change, then the entry there, and so on
abbrev pub weave_from : {M : Type 0} → ℕ → Heap → Log M → List (List PlacedCall) → History
weave_from place heap [] calls = all_unchanging_at place heap calls
weave_from place heap (e ∷ log) calls =
    all_unchanging_at place heap calls ++ (history_of heap e ++ weave_from (place + 1) (after_log_entry heap e) log calls)

-- The history of a log and of the placed calls of each pass: the changes in their order, without the marks, and a call
-- that is no change after as many entries as its place says. At one place the calls go by pass, and then in the order of
-- the pass. A placed call that is a change is not repeated: the entry at its place stands for it, with the reply of one thread.
abbrev pub weave : {M : Type 0} → Log M → List (List PlacedCall) → History
weave log calls = weave_from 0 (heap_at_start (length calls)) log calls
