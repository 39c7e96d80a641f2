-- What jobs are before they run, after it, and when their passes were joined into the first one.
use Rattle.std.proofs.Common.{◌≡◌, ℕ, suc, ◌-◌, ◌<◌, List, ◌++◌, length, map, slice_get, Some, None, refl, sym, ap, ◌∙◌, subst, arith}
use Rattle.std.specs.Prelude.{All}
use Rattle.std.proofs.lemmas.Option.{slice_get_within}
use Rattle.jo_value.specs.Texts.{Table}
use Rattle.jo_parse_tree.specs.Trees.{Items}
use Rattle.jo_model.specs.Placed.{PlacedCall}
use Rattle.jo_value.specs.declared.capacities.TheConstants.{UNSTAMPED}
use Rattle.jo_rule.specs.Ending.{HasJoinedAll}
use Rattle.jo_rule.specs.Steps.{new_view}
use Rattle.jo_rule.specs.Tidy.{IsTidy}
use Rattle.jo_rule.specs.Views.{View, Kept, Try}
use Rattle.jo_meaning.specs.Runs.{Ended}
use Rattle.jo_meaning.specs.Scripts.{interaction_of, does}
use Rattle.jo_steps.specs.Views.{HeapView, PassView, IsPassOf}
use Rattle.jo_guard.specs.Ready.{IsReady}
use Rattle.jo_run.specs.Scripts.{HasRun, MayRun, ExpectsDictionary, calls_in, replies_in}
use Rattle.jo_run.specs.declared.jobs.Job.{Job}
use Rattle.jo_run.specs.inner.Begun.{AreAtStart}
use Rattle.jo_run.specs.inner.Jobs.{IsReadyJob, HasRunJob, HaveRunJobs, MayJoin, kept_of_job}
use Rattle.jo_run.proofs.Places.{there, at_or, at_map, len_map, elem_there, all_there, all_at}

-- ---- before

-- what the pass of a script knows at the start
abbrev pub fresh_view : ℕ → View
fresh_view t = record new_view { number = t }

tidy_at_start : (passes t : ℕ) → IsTidy passes (fresh_view t)
tidy_at_start passes t = record {
  no_raise = refl;
  no_firing = refl;
  stamped = λ o offset e. (let no : 0 ≡ UNSTAMPED = e in omega arith);
  storage = omega arith;
  structures = omega arith;
}

pub ready_at_start : (h : HeapView) (p : PassView) (k : ℕ) → IsPassOf h p → p.view ≡ fresh_view (suc k) → IsReady h p
ready_at_start h p k of_heap view =
    let number : p.view.number ≡ suc k = ap (λ (v : View). v.number) view in
    record {
      of_heap = of_heap;
      script = λ z. omega (arith, number, z);
      tidy = subst (IsTidy h.passes) (sym view) (tidy_at_start h.passes (suc k));
      free = ap (λ (v : View). v.lock) view;
    }

-- a job for each pass but the first, in order of number
pub record AreNew (h : HeapView) (jobs : List Job) : Type 0 where
  pub of_heap : (k : ℕ) (job : Job) → slice_get jobs k ≡ Some job → IsPassOf h job.pass
  pub views : (k : ℕ) (job : Job) → slice_get jobs k ≡ Some job → job.pass.view ≡ fresh_view (suc k)
  pub machines : All MayRun (map (λ job. job.machine) jobs)

pub ready_jobs : (h : HeapView) (jobs : List Job) → AreNew h jobs → All (IsReadyJob h) jobs
ready_jobs h jobs new = all_there (IsReadyJob h) jobs (λ k job e. record {
  pass = ready_at_start h job.pass k (new.of_heap k job e) (new.views k job e);
  machine = all_at MayRun (map (λ (j : Job). j.machine) jobs) k job.machine new.machines (at_map (λ (j : Job). j.machine) jobs k job e);
})

-- ---- after

-- the script of pass t was run to its end
pub record IsOver (script : Items) (texts : Table) (turns : ℕ) (t : ℕ) (job : Job) : Type 0 where
  pub number : job.pass.view.number ≡ t
  pub asked : calls_in job.pass.view.past.calls ≡ (does script texts turns (replies_in job.pass.view.past.calls)).calls
  pub printed : job.machine.lines ≡ (does script texts turns (replies_in job.pass.view.past.calls)).lines
  pub ended : (does script texts turns (replies_in job.pass.view.past.calls)).stand ≡ Ended job.outcome
  pub dictionaries : All ExpectsDictionary job.pass.view.tries

-- a new pass has exactly the calls of the run
over_by : (script : Items) (texts : Table) (turns : ℕ) (t : ℕ) (job : Job) (v : View) → v ≡ fresh_view t
    → HasRun (interaction_of script texts turns) job.outcome job.machine.lines v job.pass.view → IsOver script texts turns t job
over_by script texts turns t job v fresh run =
    let calls : run.placed ≡ job.pass.view.past.calls = sym (run.calls ∙ ap (λ (x : View). x.past.calls ++ run.placed) fresh) in
    let tries : run.tried ≡ job.pass.view.tries = sym (run.tries ∙ ap (λ (x : View). x.tries ++ run.tried) fresh) in
    record {
      number = run.same_number ∙ ap (λ (x : View). x.number) fresh;
      asked = subst (λ (ps : List PlacedCall). calls_in ps ≡ (does script texts turns (replies_in ps)).calls) calls run.asked;
      printed = subst (λ (ps : List PlacedCall). job.machine.lines ≡ (does script texts turns (replies_in ps)).lines) calls run.printed;
      ended = subst (λ (ps : List PlacedCall). (does script texts turns (replies_in ps)).stand ≡ Ended job.outcome) calls run.ended;
      dictionaries = subst (λ (ts : List Try). All ExpectsDictionary ts) tries run.dictionaries;
    }

-- a job for each script, which was run to its end
pub record AreOver (scripts : List Items) (texts : Table) (turns : ℕ) (jobs : List Job) : Type 0 where
  pub all : length jobs ≡ length scripts
  pub each : (k : ℕ) (script : Items) (job : Job) → slice_get scripts k ≡ Some script → slice_get jobs k ≡ Some job → IsOver script texts turns (suc k) job

module _ (h : HeapView) (before after : List Job) (new : AreNew h before) (ran : HaveRunJobs h before after) where
  -- what a job was before, and how it ran
  ran_at : (k : ℕ) (a : Job) → slice_get after k ≡ Some a → (b : Job) × (slice_get before k ≡ Some b) × HasRunJob h b a
  ran_at k a e =
      let len = ran.all in
      let within = slice_get_within after k a e in
      let lt : k < length before = omega (arith, len, within) in
      let b = there before k lt in
      (b.0, b.1, subst (λ (p : Job × Job). HasRunJob h p.0 p.1) (λ i. (at_or before k b.0 a b.1 i, at_or after k a a e i)) (ran.each k a lt))

  -- its pass has its number, holds no lock and keeps no other
  pub joins_at : (k : ℕ) (a : Job) → slice_get after k ≡ Some a → (a.pass.view.number ≡ suc k) × MayJoin h a
  joins_at k a e =
      let was = ran_at k a e in
      let may = (all_at (IsReadyJob h) before k was.0 (ready_jobs h before new) was.1).machine in
      let run = was.2.run may.0 may.1 may.2 may.3 in
      let fresh = new.views k was.0 was.1 in (
        run.same_number ∙ ap (λ (v : View). v.number) fresh,
        record { of_heap = was.2.pass.of_heap; free = was.2.pass.free; alone = run.same_kept ∙ ap (λ (v : View). v.kept) fresh },
      )

  pub may_join : All (MayJoin h) after
  may_join = all_there (MayJoin h) after (λ k a e. (joins_at k a e).1)

  -- all passes are kept
  pub joined_all : (first : View) → first.number ≡ 0 → first.made ≡ suc (length before) → first.kept ≡ map kept_of_job after → first.lock ≡ None → HasJoinedAll first
  joined_all first zeroth made kept lock = record {
    first = zeroth;
    others = λ t lo hi.
        let len = ran.all in
        let k = t - 1 in
        let up : suc k ≡ t = omega arith in
        let a = there after k (omega (arith, len, made, lo, hi)) in
        (k, kept_of_job a.0, elem_there first.kept k (kept_of_job a.0) (ap (λ (l : List Kept). slice_get l k) kept ∙ at_map kept_of_job after k a.0 a.1), (joins_at k a.0 a.1).0 ∙ up);
    unlocked = lock;
  }

  pub over : (scripts : List Items) (texts : Table) (turns : ℕ) → AreAtStart scripts texts turns (map (λ job. job.machine) before) → AreOver scripts texts turns after
  over scripts texts turns begun = record {
    all = ran.all ∙ (sym (len_map (λ (j : Job). j.machine) before) ∙ begun.all);
    each = λ k script a s e.
        let was = ran_at k a e in
        let start = begun.each k script was.0.machine s (at_map (λ (j : Job). j.machine) before k was.0 was.1) in
        over_by script texts turns (suc k) a was.0.pass.view (new.views k was.0 was.1) (was.2.run script texts turns start);
  }
