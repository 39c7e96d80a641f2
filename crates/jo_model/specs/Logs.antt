-- What a heap that passes share shows of itself: the log of its changes and marks.
use Rattle.std.specs.Prelude.{◌≡◌, ℕ, ◌<◌, ◌==◌, Bool, true, false, List, fold, take, slice_get, Some, count_by}
use Rattle.jo_model.specs.declared.call.Call.{Call}
use Rattle.jo_model.specs.Heaps.{Heap, heap_at_start}
use Rattle.jo_model.specs.One.{one}
use Rattle.jo_model.specs.History.{is_change}

-- A change is a pass and its call. A mark is something else that a pass notes; nothing here looks into it.
pub data LogEntry (M : Type 0) : Type 0 where
  change : ℕ → Call → LogEntry M
  mark : ℕ → M → LogEntry M

-- A log is a list of them.
abbrev pub Log : Type 0 → Type 0
Log M = List (LogEntry M)

-- the pass that made an entry
abbrev pub made_by : {M : Type 0} → LogEntry M → ℕ
made_by (change pass call) = pass
made_by (mark pass noted) = pass

-- whether an entry is a change of this pass
abbrev pub is_change_of : {M : Type 0} → ℕ → LogEntry M → Bool
is_change_of pass (change by call) = by == pass
is_change_of pass (mark by noted) = false

-- how many changes of a pass a log has
abbrev pub changes_of : {M : Type 0} → ℕ → Log M → ℕ
changes_of pass log = count_by (is_change_of pass) log

-- the heap after one more entry; a mark changes nothing
abbrev pub after_log_entry : {M : Type 0} → Heap → LogEntry M → Heap
after_log_entry heap (change pass call) = (one heap pass call).0
after_log_entry heap (mark pass noted) = heap

-- the heap after the entries of a log, in their order
abbrev pub after : {M : Type 0} → ℕ → Log M → Heap
after passes log = fold after_log_entry (heap_at_start passes) log

-- the heap after the first n entries of a log
abbrev pub heap_at : {M : Type 0} → ℕ → ℕ → Log M → Heap
heap_at passes n log = after passes (take n log)

-- Each entry of a log is made by a pass of the heap, and each change is a change of the heap at its place.
pub record IsLawfulLog {M : Type 0} (passes : ℕ) (log : Log M) : Type 0 where
  pub made : (n : ℕ) (e : LogEntry M) → slice_get log n ≡ Some e → made_by e < passes
  pub changes : (n pass : ℕ) (call : Call) → slice_get log n ≡ Some (change pass call)
      → is_change (heap_at passes n log) call (one (heap_at passes n log) pass call).1 ≡ true
