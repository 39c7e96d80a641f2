-- The text of what is due.
use Rattle.std.specs.Prelude.{◌≤◌, ℕ, Bool, true, false, List, ◌++◌, flat_map, length, Option, Some, None}
use Rattle.std.specs.List.{enumerate_from}
use Rattle.jo_value.specs.declared.limits.TheConstants.{MOST_SCRIPTS}
use Rattle.jo_value.specs.Texts.{Table}
use Rattle.jo_model.specs.Rendered.{outcome_bytes, run_bytes, heap_bytes}
use Rattle.jo_model.specs.WellFormed.{IsWellFormedHeap}
use Rattle.jo_heap.specs.Closing.{heap_left}
use Rattle.jo_run.specs.declared.set.Ended.{Ended}
use Rattle.jo_run.specs.declared.set.EndedScript.{EndedScript}
use Rattle.jo_run.specs.Sets.{outcomes_of}
use Rattle.jo_answer.specs.declared.options.Form.{Form}
use Rattle.jo_answer.specs.declared.options.Form.TheVariants as form
use Rattle.jo_answer.specs.Forms.{counts_line, summary_line}
use Rattle.jo_answer.specs.declared.text.Due.{Due}
use Rattle.jo_answer.specs.declared.text.Due.TheVariants as due

-- the part of the script with this number: its lines, how it ended, and perhaps its counts
abbrev pub part_bytes : (counted : Bool) → ℕ × EndedScript → List ℕ
part_bytes false s = run_bytes s.0 s.1.lines.items (outcome_bytes s.1.outcome)
part_bytes true s = run_bytes s.0 s.1.lines.items (outcome_bytes s.1.outcome) ++ counts_line s.0 s.1.counts

-- the output of scripts, by what they left: their parts, numbered from 1, and then all objects
abbrev pub whole_bytes : (counted : Bool) → Table → Ended → List ℕ
whole_bytes counted texts ended =
    flat_map (part_bytes counted) (enumerate_from 1 ended.scripts.items) ++ heap_bytes texts (heap_left ended.closed)

-- what is written of scripts, by what they left
abbrev pub ended_bytes : Form → Table → Ended → List ℕ
ended_bytes form.Output texts ended = whole_bytes false texts ended
ended_bytes form.Counted texts ended = whole_bytes true texts ended
ended_bytes (form.Summary n) texts ended = summary_line n (outcomes_of ended.scripts.items) (heap_left ended.closed)

-- the line, or what is written of the scripts of a set
abbrev pub text_of : Due → List ℕ
text_of (due.Line line) = line.items
text_of (due.Output set ended form) = ended_bytes form set.1 ended

-- what is left of a run
abbrev pub ended_of : Due → Option Ended
ended_of (due.Line line) = None
ended_of (due.Output set ended form) = Some ended

-- it has no more scripts than a set may have, and each object that they left is well formed
abbrev pub IsPrintable : Due → Type 0
IsPrintable (due.Line line) = Unit {0}
IsPrintable (due.Output set ended form) = (length ended.scripts.items ≤ MOST_SCRIPTS) × IsWellFormedHeap (heap_left ended.closed)
