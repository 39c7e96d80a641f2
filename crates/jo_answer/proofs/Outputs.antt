-- What is written of scripts that were run, by what they left.
use Rattle.std.proofs.Common.{◌≡◌, ◌∙◌, ℕ, suc, ◌+◌, Bool, true, false, List, [], ◌∷◌, ◌++◌, refl, sym, ap, subst, arith}
use Rattle.std.specs.Prelude.{length, flat_map, slice_get, Some}
use Rattle.std.specs.List.{enumerate_from}
use Rattle.std.specs.Option.{option_map}
use Rattle.std.proofs.lemmas.List.{length-map}
use Rattle.std.proofs.lemmas.Option.{same_Some, slice_get-map}
use Rattle.jo_value.specs.Texts.{Table}
use Rattle.jo_parse_tree.specs.Trees.{Items}
use Rattle.jo_model.specs.History.{heap_after}
use Rattle.jo_model.specs.Rendered.{outcome_bytes, run_bytes, heap_bytes}
use Rattle.jo_heap.specs.Closing.{heap_left, history_left, counts_of_pass}
use Rattle.jo_meaning.specs.Runs.{Ended as Finished}
use Rattle.jo_meaning.specs.Histories.{IsHistoryOf, run_in}
use Rattle.jo_meaning.specs.Output.{stand_bytes, script_bytes}
use Rattle.jo_run.specs.declared.set.Ended.{Ended}
use Rattle.jo_run.specs.declared.set.EndedScript.{EndedScript}
use Rattle.jo_run.specs.Sets.{HaveRun, outcomes_of}
use Rattle.jo_answer.specs.declared.options.Form.{Form}
use Rattle.jo_answer.specs.declared.options.Form.TheVariants as forms
use Rattle.jo_answer.specs.Forms.{counts_line, written_of}
use Rattle.jo_answer.specs.Texts.{part_bytes, whole_bytes, ended_bytes}

-- ---- one script

-- where a script of a set stands in the history that was left: at its outcome
stand_left : (scripts : List Items) (texts : Table) (turns : ℕ) (ended : Ended) (k : ℕ) (script : Items) (e : EndedScript)
    → IsHistoryOf scripts texts turns (outcomes_of ended.scripts.items) (history_left ended.closed)
    → slice_get scripts k ≡ Some script → slice_get ended.scripts.items k ≡ Some e
    → (run_in (history_left ended.closed) (k + 1) script texts turns).stand ≡ Finished e.outcome
stand_left scripts texts turns ended k script e of_scripts there left =
    let run = of_scripts.each k script there in
    let outcome : Some run.0 ≡ Some e.outcome =
    sym run.1 ∙ slice_get-map (λ x. x.outcome) ended.scripts.items k ∙ ap (option_map (λ x. x.outcome)) left in
    run.2.ended ∙ ap Finished (same_Some _ _ outcome)

-- its part by what it left is that by what it does in the history
part_left : (scripts : List Items) (texts : Table) (turns : ℕ) (ended : Ended) → HaveRun scripts texts turns ended.scripts.items ended.closed
    → (k : ℕ) (script : Items) (e : EndedScript) → slice_get scripts k ≡ Some script → slice_get ended.scripts.items k ≡ Some e
    → part_bytes false (k + 1, e) ≡ script_bytes texts turns (history_left ended.closed) (k + 1, script)
part_left scripts texts turns ended run k script e there left =
    let made = run_in (history_left ended.closed) (k + 1) script texts turns in
    ap (λ l. run_bytes (k + 1) l (outcome_bytes e.outcome)) (run.lines k script e there left)
    ∙ ap (λ s. run_bytes (k + 1) made.lines (stand_bytes s)) (sym (stand_left scripts texts turns ended k script e run.history there left))

-- the part of a script by what it does in a history, and then the counts of its pass
abbrev counted_part : Table → ℕ → Ended → ℕ × Items → List ℕ
counted_part texts turns ended s =
    script_bytes texts turns (history_left ended.closed) s ++ counts_line s.0 (counts_of_pass ended.closed.view s.0)

-- so it is with its counts, which are those of its pass
counted_left : (scripts : List Items) (texts : Table) (turns : ℕ) (ended : Ended) → HaveRun scripts texts turns ended.scripts.items ended.closed
    → (k : ℕ) (script : Items) (e : EndedScript) → slice_get scripts k ≡ Some script → slice_get ended.scripts.items k ≡ Some e
    → part_bytes true (k + 1, e) ≡ counted_part texts turns ended (k + 1, script)
counted_left scripts texts turns ended run k script e there left =
    ap (λ l. l ++ counts_line (k + 1) e.counts) (part_left scripts texts turns ended run k script e there left)
    ∙ ap (λ n. script_bytes texts turns (history_left ended.closed) (k + 1, script) ++ counts_line (k + 1) n) (run.counts k e left)

-- ---- all scripts

-- two lists of which the same is made place by place, where places are numbered from n
pub same_parts : {X Y A : Type 0} (f : ℕ × X → List A) (g : ℕ × Y → List A) (xs : List X) (ys : List Y) (n : ℕ) → length xs ≡ length ys
    → ((k : ℕ) (x : X) (y : Y) → slice_get xs k ≡ Some x → slice_get ys k ≡ Some y → f (k + n, x) ≡ g (k + n, y))
    → flat_map f (enumerate_from n xs) ≡ flat_map g (enumerate_from n ys)
same_parts f g [] [] n long same = refl
same_parts f g [] (y ∷ ys) n long same = absurd (omega (arith, long))
same_parts f g (x ∷ xs) [] n long same = absurd (omega (arith, long))
same_parts f g (x ∷ xs) (y ∷ ys) n long same =
    let rest = same_parts f g xs ys (n + 1) (omega (arith, long)) (λ k a b at_xs at_ys.
    let next : suc k + n ≡ k + (n + 1) = omega arith in
    subst (λ m. f (m, a) ≡ g (m, b)) next (same (suc k) a b at_xs at_ys)) in
    let start : 0 + n ≡ n = omega arith in
    let first = subst (λ m. f (m, x) ≡ g (m, y)) start (same 0 x y refl refl) in
    ap (λ l. l ++ flat_map f (enumerate_from (n + 1) xs)) first ∙ ap (λ l. g (n, y) ++ l) rest

-- all parts, and then all objects, by what scripts left and by the history of all their calls
whole_left : (counted : Bool) (part : ℕ × Items → List ℕ) (scripts : List Items) (texts : Table) (turns : ℕ) (ended : Ended)
    → HaveRun scripts texts turns ended.scripts.items ended.closed
    → ((k : ℕ) (script : Items) (e : EndedScript) → slice_get scripts k ≡ Some script → slice_get ended.scripts.items k ≡ Some e
    → part_bytes counted (k + 1, e) ≡ part (k + 1, script))
    → whole_bytes counted texts ended
    ≡ flat_map part (enumerate_from 1 scripts) ++ heap_bytes texts (heap_after (length scripts + 1) (history_left ended.closed))
whole_left counted part scripts texts turns ended run same =
    let long : length ended.scripts.items ≡ length scripts = sym (length-map ended.scripts.items (λ e. e.outcome)) ∙ run.history.as_many in
    let parts = same_parts (part_bytes counted) part ended.scripts.items scripts 1 long (λ k e script left there. same k script e there left) in
    let left : heap_left ended.closed ≡ heap_after (length scripts + 1) (history_left ended.closed) =
    sym (subst (λ (n : ℕ). heap_after n (history_left ended.closed) ≡ heap_left ended.closed) run.passes run.one.leaves) in
    ap (λ p. p ++ heap_bytes texts (heap_left ended.closed)) parts
    ∙ ap (λ h. flat_map part (enumerate_from 1 scripts) ++ heap_bytes texts h) left

-- what is written by what scripts left is that of the history of all their calls
pub output_left : (form : Form) (scripts : List Items) (texts : Table) (turns : ℕ) (ended : Ended)
    → HaveRun scripts texts turns ended.scripts.items ended.closed
    → ended_bytes form texts ended ≡ written_of form texts turns scripts ended
output_left forms.Output scripts texts turns ended run =
    whole_left false (script_bytes texts turns (history_left ended.closed)) scripts texts turns ended run (part_left scripts texts turns ended run)
output_left forms.Counted scripts texts turns ended run =
    whole_left true (counted_part texts turns ended) scripts texts turns ended run (counted_left scripts texts turns ended run)
output_left (forms.Summary n) scripts texts turns ended run = refl
