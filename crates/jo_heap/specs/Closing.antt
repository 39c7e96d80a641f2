-- What is left of a heap that was closed.
use Rattle.std.specs.Prelude.{ℕ, ◌==◌, if◌then◌else◌, List, [], ◌∷◌}
use Rattle.jo_model.specs.Heaps.{Heap}
use Rattle.jo_model.specs.History.{History}
use Rattle.jo_model.specs.Logs.{after}
use Rattle.jo_model.specs.Joined.{IsHistoryOfCalls}
use Rattle.jo_model.specs.Placed.{weave}
use Rattle.jo_rule.specs.declared.counts.Counts.{Counts}
use Rattle.jo_rule.specs.Views.{View, Kept, Try}
use Rattle.jo_rule.specs.Ending.{all_calls}

-- how many passes there were, and what the first one knew at the end, which had joined all others into itself
pub record ClosedHeap : Type 0 where
  pub passes : ℕ
  pub view : View

-- the objects that are left
abbrev pub heap_left : ClosedHeap → Heap
heap_left c = after c.passes c.view.past.seen

-- the history of all calls
abbrev pub history_left : ClosedHeap → History
history_left c = weave c.view.past.seen (all_calls c.passes c.view)

abbrev pub no_counts : Counts
no_counts = record { loads = 0; stores = 0; exchanges = 0; locks = 0 }

-- the counts, and the tries of locks, of the pass t that is kept
abbrev pub kept_counts : List Kept → ℕ → Counts
kept_counts [] t = no_counts
kept_counts (q ∷ kept) t = if q.number == t then q.counts else kept_counts kept t

abbrev pub kept_tries : List Kept → ℕ → List Try
kept_tries [] t = []
kept_tries (q ∷ kept) t = if q.number == t then q.tries else kept_tries kept t

-- those of the pass t, by the view into which all others were joined
abbrev pub counts_of_pass : View → ℕ → Counts
counts_of_pass v t = if v.number == t then v.counts else kept_counts v.kept t

abbrev pub tries_of_pass : View → ℕ → List Try
tries_of_pass v t = if v.number == t then v.tries else kept_tries v.kept t

-- the calls of all passes make one legal history, which leaves the objects
abbrev pub IsOneHistory : ClosedHeap → Type 0
IsOneHistory c = IsHistoryOfCalls c.passes c.view.past.seen (all_calls c.passes c.view) (history_left c)
