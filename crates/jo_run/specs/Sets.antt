-- What is left of a set of scripts that has run.
use Rattle.std.specs.Prelude.{◌≡◌, ℕ, ◌+◌, ◌<◌, List, length, map, slice_get, Some}
use Rattle.jo_value.specs.Texts.{Table}
use Rattle.jo_value.specs.declared.words.cell.Kind.TheVariants.{Dictionary}
use Rattle.jo_parse_tree.specs.Trees.{Items}
use Rattle.jo_model.specs.declared.call.Call.{Call}
use Rattle.jo_model.specs.declared.call.Call.TheVariants as call
use Rattle.jo_model.specs.declared.call.Outcome.{Outcome}
use Rattle.jo_model.specs.Placed.{PlacedCall}
use Rattle.jo_rule.specs.Views.{Try}
use Rattle.jo_rule.specs.Ending.{calls_of_pass}
use Rattle.jo_heap.specs.Closing.{ClosedHeap, IsOneHistory, history_left, counts_of_pass, tries_of_pass}
use Rattle.jo_meaning.specs.Histories.{IsHistoryOf, run_in}
use Rattle.jo_run.specs.declared.set.EndedScript.{EndedScript}

-- ---- reads and locks

-- a call that only reads
abbrev pub IsRead : Call → Type 0
IsRead (call.Get o key) = Unit {0}
IsRead (call.Has o key) = Unit {0}
IsRead (call.Names o) = Unit {0}
IsRead _ = ⊥

-- each try of a lock during a read, or since the call before it, expected the cell of a dictionary; a try says how many calls were
-- placed before it
abbrev pub ReadsLockDictionariesAlone : List PlacedCall → List Try → Type 0
ReadsLockDictionariesAlone calls tries =
    (n : ℕ) (t : Try) (p : PlacedCall) → slice_get tries n ≡ Some t → slice_get calls t.call ≡ Some p → IsRead p.call → t.expected.kind ≡ Dictionary

-- so it is for each pass
abbrev pub ReadsLockOnlyDictionaries : ClosedHeap → Type 0
ReadsLockOnlyDictionaries closed =
    (t : ℕ) → t < closed.passes → ReadsLockDictionariesAlone (calls_of_pass closed.view t) (tries_of_pass closed.view t)

-- ---- sets

-- how the scripts ended
abbrev pub outcomes_of : List EndedScript → List Outcome
outcomes_of ended = map (λ e. e.outcome) ended

-- A set of scripts was run, each script with `turns` turns. The history that is left is one of these scripts, to these
-- outcomes; it has the calls that the passes placed, once each and no others, and the objects that are left are those
-- after it. The lines of a script are those that its meaning gives there, and its counts those of its pass. Reads
-- locked dictionaries alone.
pub record HaveRun (scripts : List Items) (texts : Table) (turns : ℕ) (ended : List EndedScript) (closed : ClosedHeap) : Type 0 where
  pub passes : closed.passes ≡ length scripts + 1
  pub history : IsHistoryOf scripts texts turns (outcomes_of ended) (history_left closed)
  pub one : IsOneHistory closed
  pub lines : (k : ℕ) (script : Items) (e : EndedScript) → slice_get scripts k ≡ Some script → slice_get ended k ≡ Some e
      → e.lines.items ≡ (run_in (history_left closed) (k + 1) script texts turns).lines
  pub counts : (k : ℕ) (e : EndedScript) → slice_get ended k ≡ Some e → e.counts ≡ counts_of_pass closed.view (k + 1)
  pub reads : ReadsLockOnlyDictionaries closed
