-- What is written of scripts that were run, in place of their output or beside it.
use Rattle.std.specs.Prelude.{ℕ, ◌+◌, Bool, true, false, List, ◌++◌, codes, decimal, flat_map, length, count_by}
use Rattle.std.specs.Fmt.{signed_decimal}
use Rattle.std.specs.List.{enumerate_from}
use Rattle.jo_value.specs.Texts.{Table}
use Rattle.jo_parse_tree.specs.Trees.{Items}
use Rattle.jo_model.specs.declared.call.Outcome.{Outcome}
use Rattle.jo_model.specs.declared.call.Outcome.TheVariants as outcome
use Rattle.jo_model.specs.Heaps.{Heap}
use Rattle.jo_model.specs.History.{History, heap_after}
use Rattle.jo_model.specs.Rendered.{heap_bytes}
use Rattle.jo_rule.specs.declared.counts.Counts.{Counts}
use Rattle.jo_heap.specs.Closing.{heap_left, history_left, counts_of_pass}
use Rattle.jo_meaning.specs.Output.{output, script_bytes}
use Rattle.jo_totals.specs.Totals.{totals_of}
use Rattle.jo_run.specs.declared.set.Ended.{Ended}
use Rattle.jo_run.specs.Sets.{outcomes_of}
use Rattle.jo_answer.specs.declared.options.Form.{Form}
use Rattle.jo_answer.specs.declared.options.Form.TheVariants as form

-- the counts of the script with this number
abbrev pub counts_line : ℕ → Counts → List ℕ
counts_line n c =
    decimal n ++ codes "# loads " ++ decimal c.loads ++ codes " stores " ++ decimal c.stores
    ++ codes " exchanges " ++ decimal c.exchanges ++ codes " locks " ++ decimal c.locks ++ codes "\n"

-- the output of scripts with this history, where the counts of each follow its part
abbrev pub counted_output : Table → ℕ → History → (counts : ℕ → Counts) → List Items → List ℕ
counted_output texts turns w counts scripts =
    flat_map (λ s. script_bytes texts turns w s ++ counts_line s.0 (counts s.0)) (enumerate_from 1 scripts)
    ++ heap_bytes texts (heap_after (length scripts + 1) w)

abbrev pub is_done : Outcome → Bool
is_done outcome.Done = true
is_done _ = false

-- the line for the made set with this number: how its scripts ended, and what the heap has in all
abbrev pub summary_line : ℕ → List Outcome → Heap → List ℕ
summary_line n outcomes heap =
    codes "made " ++ decimal n ++ codes ": scripts " ++ decimal (length outcomes) ++ codes ", done " ++ decimal (count_by is_done outcomes)
    ++ codes ", objects " ++ decimal (totals_of heap).objects ++ codes ", names " ++ decimal (totals_of heap).names
    ++ codes ", elements " ++ decimal (totals_of heap).elements ++ codes ", sum " ++ signed_decimal (totals_of heap).sum ++ codes "\n"

-- what is written of scripts that were run, by the one history of what is left
abbrev pub written_of : Form → Table → ℕ → List Items → Ended → List ℕ
written_of form.Output texts turns scripts ended = output texts turns (history_left ended.closed) scripts
written_of form.Counted texts turns scripts ended = counted_output texts turns (history_left ended.closed) (counts_of_pass ended.closed.view) scripts
written_of (form.Summary n) texts turns scripts ended = summary_line n (outcomes_of ended.scripts.items) (heap_left ended.closed)
