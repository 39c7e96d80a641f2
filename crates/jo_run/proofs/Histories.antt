-- From the jobs that were run, and whose passes were joined into the first one, to the history of the set.
use Rattle.std.proofs.Common.{◌≡◌, ℕ, zero, suc, ◌+◌, ◌<◌, false, eqb, List, [], length, map, slice_get, Some, sym, ap, ◌∙◌, subst, arith}
use Rattle.std.specs.Prelude.{All}
use Rattle.std.proofs.lemmas.Bool.{ne_eqb}
use Rattle.std.proofs.lemmas.Option.{slice_get_within}
use Rattle.jo_value.specs.Texts.{Table}
use Rattle.jo_parse_tree.specs.Trees.{Items}
use Rattle.jo_model.specs.declared.call.Reply.{Reply}
use Rattle.jo_model.specs.History.{IsLegal, calls_of, replies_of}
use Rattle.jo_rule.specs.Ending.{calls_of_pass}
use Rattle.jo_rule.specs.Views.{View, Kept, Try}
use Rattle.jo_meaning.specs.Runs.{Run}
use Rattle.jo_meaning.specs.Scripts.{does}
use Rattle.jo_meaning.specs.Histories.{IsHistoryOf, IsRunIn, run_in}
use Rattle.jo_heap.specs.Closing.{ClosedHeap, history_left, counts_of_pass, tries_of_pass, IsOneHistory}
use Rattle.jo_run.specs.Scripts.{calls_in, replies_in, ExpectsDictionary}
use Rattle.jo_run.specs.Sets.{HaveRun, outcomes_of, ReadsLockOnlyDictionaries, ReadsLockDictionariesAlone}
use Rattle.jo_run.specs.declared.jobs.Job.{Job}
use Rattle.jo_run.specs.declared.set.EndedScript.{EndedScript}
use Rattle.jo_run.specs.inner.Jobs.{ScriptEnd, end_of_script, end_of_job, kept_of_job}
use Rattle.jo_run.proofs.Places.{there, all_at, at_map, from_map, len_map, listed_there, kept_there, IsKeptOf}
use Rattle.jo_run.proofs.Ran.{AreOver}

-- ---- the passes of scripts, in the view into which they were joined

-- it has placed nothing, and keeps the passes of the jobs
pub record KeepsAll (jobs : List Job) (v : View) : Type 0 where
  pub number : v.number ≡ 0
  pub calls : v.past.calls ≡ []
  pub tries : v.tries ≡ []
  pub kept : v.kept ≡ map kept_of_job jobs

-- what it knows of a pass is what the job of its script knew
record IsOfJob (v : View) (t : ℕ) (job : Job) : Type 0 where
  calls : calls_of_pass v t ≡ job.pass.view.past.calls
  counts : counts_of_pass v t ≡ job.pass.view.counts
  tries : tries_of_pass v t ≡ job.pass.view.tries

-- a pass other than its own
of_others : (v : View) (t : ℕ) (q : Kept) → v.number ≡ 0 → IsKeptOf v.kept (suc t) q
    → (calls_of_pass v (suc t) ≡ q.calls) × (counts_of_pass v (suc t) ≡ q.counts) × (tries_of_pass v (suc t) ≡ q.tries)
of_others v t q number is =
    let other : eqb v.number (suc t) ≡ false = ne_eqb v.number (suc t) (λ same. omega (arith, number, same)) in
    (rw other is.calls, rw other is.counts, rw other is.tries)

module _ (scripts : List Items) (texts : Table) (turns : ℕ) (jobs : List Job) (over : AreOver scripts texts turns jobs)
    (ended : List EndedScript) (left : map end_of_script ended ≡ map end_of_job jobs)
    (closed : ClosedHeap) (passes : closed.passes ≡ suc (length scripts)) (keeps : KeepsAll jobs closed.view) (whole : IsOneHistory closed) where
  -- the job of each script
  job_of : (k : ℕ) (script : Items) → slice_get scripts k ≡ Some script → (job : Job) × (slice_get jobs k ≡ Some job)
  job_of k script s = let within = slice_get_within scripts k script s in let len = over.all in there jobs k (omega (arith, len, within))

  numbered : (j : ℕ) (q : Kept) → slice_get (map kept_of_job jobs) j ≡ Some q → q.number ≡ 1 + j
  numbered j q e =
      let job = from_map kept_of_job jobs j q e in
      let within = slice_get_within jobs j job.0 job.1 in
      let len = over.all in
      let script = there scripts j (omega (arith, len, within)) in
      let is = over.each j script.0 job.0 script.1 job.1 in
      let number : q.number ≡ suc j = sym (ap (λ (p : Kept). p.number) job.2) ∙ is.number in
      omega (arith, number)

  of_job : (k : ℕ) (job : Job) → slice_get jobs k ≡ Some job → IsOfJob closed.view (suc k) job
  of_job k job e =
      let found : IsKeptOf (map kept_of_job jobs) (1 + k) (kept_of_job job) = kept_there (map kept_of_job jobs) 1 k (kept_of_job job) numbered (at_map kept_of_job jobs k job e) in
      let up : 1 + k ≡ suc k = omega arith in
      let kept : IsKeptOf closed.view.kept (suc k) (kept_of_job job) = subst (λ (p : List Kept × ℕ). IsKeptOf p.0 p.1 (kept_of_job job)) (λ i. (sym keeps.kept i, up i)) found in
      let all = of_others closed.view k (kept_of_job job) keeps.number kept in
      record { calls = all.0; counts = all.1; tries = all.2 }

  of_first : (calls_of_pass closed.view 0 ≡ []) × (tries_of_pass closed.view 0 ≡ [])
  of_first = (rw keeps.number keeps.calls, rw keeps.number keeps.tries)

  -- ---- the history

  -- the calls and replies of a pass in the history
  asked_by : (t : ℕ) → t < closed.passes → calls_of t (history_left closed) ≡ calls_in (calls_of_pass closed.view t)
  asked_by t lt = whole.asked t (calls_of_pass closed.view t) (listed_there closed.passes t (calls_of_pass closed.view) lt)

  answered_to : (t : ℕ) → t < closed.passes → replies_of t (history_left closed) ≡ replies_in (calls_of_pass closed.view t)
  answered_to t lt = whole.answered t (calls_of_pass closed.view t) (listed_there closed.passes t (calls_of_pass closed.view) lt)

  within : (k : ℕ) (job : Job) → slice_get jobs k ≡ Some job → suc k < closed.passes
  within k job e = let lt = slice_get_within jobs k job e in let len = over.all in omega (arith, lt, len, passes)

  run_of : (k : ℕ) (script : Items) (job : Job) → slice_get jobs k ≡ Some job
      → run_in (history_left closed) (k + 1) script texts turns ≡ does script texts turns (replies_in job.pass.view.past.calls)
  run_of k script job e =
      let up : k + 1 ≡ suc k = omega arith in
      let replies : replies_of (k + 1) (history_left closed) ≡ replies_in job.pass.view.past.calls =
      ap (λ (t : ℕ). replies_of t (history_left closed)) up ∙ (answered_to (suc k) (within k job e) ∙ ap replies_in (of_job k job e).calls) in
      ap (λ (rs : List Reply). does script texts turns rs) replies

  is_run : (k : ℕ) (script : Items) (job : Job) → slice_get scripts k ≡ Some script → slice_get jobs k ≡ Some job
      → IsRunIn (history_left closed) (k + 1) script texts turns job.outcome
  is_run k script job s e =
      let is = over.each k script job s e in
      let up : k + 1 ≡ suc k = omega arith in
      let run = sym (run_of k script job e) in
      record {
        calls = ap (λ (t : ℕ). calls_of t (history_left closed)) up
            ∙ (asked_by (suc k) (within k job e) ∙ (ap calls_in (of_job k job e).calls ∙ (is.asked ∙ ap (λ (r : Run). r.calls) run)));
        ended = ap (λ (r : Run). r.stand) (sym run) ∙ is.ended;
      }

  -- ---- what is left of the scripts

  left_at : (k : ℕ) (e : EndedScript) → slice_get ended k ≡ Some e → (job : Job) × (slice_get jobs k ≡ Some job) × (end_of_job job ≡ end_of_script e)
  left_at k e at = from_map end_of_job jobs k (end_of_script e) (ap (λ (l : List ScriptEnd). slice_get l k) (sym left) ∙ at_map end_of_script ended k e at)

  ended_at : (k : ℕ) (job : Job) → slice_get jobs k ≡ Some job → (e : EndedScript) × (slice_get ended k ≡ Some e) × (end_of_script e ≡ end_of_job job)
  ended_at k job at = from_map end_of_script ended k (end_of_job job) (ap (λ (l : List ScriptEnd). slice_get l k) left ∙ at_map end_of_job jobs k job at)

  as_many : length ended ≡ length scripts
  as_many = sym (len_map end_of_script ended) ∙ (ap length left ∙ (len_map end_of_job jobs ∙ over.all))

  history : IsHistoryOf scripts texts turns (outcomes_of ended) (history_left closed)
  history =
      let up : closed.passes ≡ length scripts + 1 = omega (arith, passes) in
      record {
        legal = subst (λ (n : ℕ). IsLegal n (history_left closed)) up whole.legal;
        setup = asked_by 0 (omega (arith, passes)) ∙ ap calls_in of_first.0;
        as_many = len_map (λ (e : EndedScript). e.outcome) ended ∙ as_many;
        each = λ k script s.
            let job = job_of k script s in
            let e = ended_at k job.0 job.1 in (
              job.0.outcome,
              at_map (λ (e : EndedScript). e.outcome) ended k e.0 e.1 ∙ ap (λ (l : ScriptEnd). Some l.outcome) e.2,
              is_run k script job.0 s job.1,
            );
      }

  no_tries : (t : ℕ) → All ExpectsDictionary (tries_of_pass closed.view t) → ReadsLockDictionariesAlone (calls_of_pass closed.view t) (tries_of_pass closed.view t)
  no_tries t all n try p at of_call read = all_at ExpectsDictionary (tries_of_pass closed.view t) n try all at

  reads : ReadsLockOnlyDictionaries closed
  reads zero lt = no_tries 0 (subst (λ (ts : List Try). All ExpectsDictionary ts) (sym of_first.1) (λ k d past. absurd (omega (arith, past))))
  reads (suc k) lt =
      let len = over.all in
      let job = there jobs k (omega (arith, lt, len, passes)) in
      let script = there scripts k (omega (arith, lt, passes)) in
      let is = over.each k script.0 job.0 script.1 job.1 in
      no_tries (suc k) (subst (λ (ts : List Try). All ExpectsDictionary ts) (sym (of_job k job.0 job.1).tries) is.dictionaries)

  -- all of it
  pub have_run : HaveRun scripts texts turns ended closed
  have_run =
      let up : closed.passes ≡ length scripts + 1 = omega (arith, passes) in
      record {
        passes = up;
        history = history;
        one = whole;
        lines = λ k script e s at.
            let job = left_at k e at in
            let is = over.each k script job.0 s job.1 in
            sym (ap (λ (l : ScriptEnd). l.lines) job.2) ∙ (is.printed ∙ ap (λ (r : Run). r.lines) (sym (run_of k script job.0 job.1)));
        counts = λ k e at.
            let job = left_at k e at in
            let up : k + 1 ≡ suc k = omega arith in
            sym (ap (λ (l : ScriptEnd). l.counts) job.2) ∙ (sym (of_job k job.0 job.1).counts ∙ ap (counts_of_pass closed.view) (sym up));
        reads = reads;
      }
