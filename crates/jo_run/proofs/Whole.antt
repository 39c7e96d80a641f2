-- From the passes of a new heap and the machines of all scripts to the end of the heap.
use Rattle.std.proofs.Common.{◌≡◌, ℕ, suc, ◌+◌, ◌<◌, false, eqb, List, [], ◌∷◌, ◌++◌, length, map, slice_get, slice_index_or, Some, refl, sym, ap, ◌∙◌, subst, arith}
use Rattle.std.specs.Prelude.{All}
use Rattle.std.specs.List.{remove}
use Rattle.std.proofs.lemmas.Bool.{ne_eqb}
use Rattle.std.proofs.lemmas.Option.{slice_get_within}
use Rattle.jo_value.specs.Texts.{Table}
use Rattle.jo_parse_tree.specs.Trees.{Items}
use Rattle.jo_rule.specs.Ending.{HasJoinedAll}
use Rattle.jo_rule.specs.Views.{View}
use Rattle.jo_steps.specs.Views.{HeapView, PassView, IsPassOf}
use Rattle.jo_heap.specs.Closing.{ClosedHeap, IsOneHistory}
use Rattle.jo_heap.specs.Opening.{AreOpened, opened_view}
use Rattle.jo_code.specs.declared.instruction.Instruction.{Instruction}
use Rattle.jo_vm.specs.Machines.{Machine, Free}
use Rattle.jo_run.specs.Scripts.{MayRun}
use Rattle.jo_run.specs.Sets.{HaveRun}
use Rattle.jo_run.specs.declared.jobs.Job.{Job}
use Rattle.jo_run.specs.declared.set.EndedScript.{EndedScript}
use Rattle.jo_run.specs.inner.Begun.{AreAtCodes, AreAtStart, AreCodesOf}
use Rattle.jo_run.specs.inner.Jobs.{IsReadyJob, HaveRunJobs, MayJoin, StaysFirst, kept_of_job, end_of_script, end_of_job}
use Rattle.jo_run.proofs.Places.{there, all_there, at_map, len_map}
use Rattle.jo_run.proofs.Ran.{AreNew, fresh_view, ready_jobs, may_join, joined_all, over}
use Rattle.jo_run.proofs.Histories.{have_run}

-- ---- machines

-- where each code is that of its script, and each machine is at the start of its code
pub at_start : (scripts : List Items) (texts : Table) (turns : ℕ) (codes : List (List Instruction)) (machines : List Machine)
    → AreCodesOf texts scripts codes → AreAtCodes texts turns codes machines → AreAtStart scripts texts turns machines
at_start scripts texts turns codes machines of_scripts at_codes = record {
  all = at_codes.all ∙ of_scripts.all;
  each = λ k script m s e.
      let lt = slice_get_within scripts k script s in
      let len = of_scripts.all in
      let code = there codes k (omega (arith, lt, len)) in
      let is = of_scripts.each k script code.0 s code.1 in
      record { sound = is.sound; begins = at_codes.each k code.0 m code.1 e ∙ ap Free (is.behaves.same texts turns) };
}

pub all_may_run : (scripts : List Items) (texts : Table) (turns : ℕ) (machines : List Machine) → AreAtStart scripts texts turns machines → All MayRun machines
all_may_run scripts texts turns machines begun = all_there MayRun machines (λ k m e.
    let lt = slice_get_within machines k m e in
    let len = begun.all in
    let script = there scripts k (omega (arith, lt, len)) in
    (script.0, texts, turns, begun.each k script.0 m script.1 e))

-- ---- passes

-- the first pass, and the others
parted : (passes : List PassView) (first : PassView) (rest : List PassView) → 0 < length passes → first ≡ slice_index_or passes 0 first → rest ≡ remove passes 0 → passes ≡ first ∷ rest
parted [] first rest lt f r = absurd (omega (arith, lt))
parted (p ∷ passes) first rest lt f r = λ i. sym f i ∷ sym r i

other_is : (n k : ℕ) → opened_view n (suc k) ≡ fresh_view (suc k)
other_is n k = let e : eqb (suc k) 0 ≡ false = ne_eqb (suc k) 0 (λ f. omega (arith, f)) in rw e refl

module _ (h : HeapView) (passes : List PassView) (machines : List Machine) (opened : AreOpened h passes) (count : h.passes ≡ length machines + 1) (may : All MayRun machines)
    (first : PassView) (rest : List PassView) (is_first : first ≡ slice_index_or passes 0 first) (is_rest : rest ≡ remove passes 0) where
  split : passes ≡ first ∷ rest
  split = let all = opened.all in parted passes first rest (omega (arith, all, count)) is_first is_rest

  pub first_opened : IsPassOf h first × (first.view ≡ opened_view h.passes 0)
  first_opened = opened.each 0 first (ap (λ (l : List PassView). slice_get l 0) split)

  module _ (before : List Job) (of_passes : map (λ job. job.pass) before ≡ rest) (of_machines : map (λ job. job.machine) before ≡ machines) where
    opened_at : (k : ℕ) (job : Job) → slice_get before k ≡ Some job → IsPassOf h job.pass × (job.pass.view ≡ opened_view h.passes (suc k))
    opened_at k job e = opened.each (suc k) job.pass
        (ap (λ (l : List PassView). slice_get l (suc k)) split ∙ (ap (λ (l : List PassView). slice_get l k) (sym of_passes) ∙ at_map (λ (j : Job). j.pass) before k job e))

    new : AreNew h before
    new = record {
      of_heap = λ k job e. (opened_at k job e).0;
      views = λ k job e. (opened_at k job e).1 ∙ other_is h.passes k;
      machines = subst (All MayRun) (sym of_machines) may;
    }

    pub all_ready : All (IsReadyJob h) before
    all_ready = ready_jobs h before new

    as_many : length before ≡ length machines
    as_many = sym (len_map (λ (j : Job). j.machine) before) ∙ ap length of_machines

    module _ (after : List Job) (ran : HaveRunJobs h before after) where
      pub all_may_join : All (MayJoin h) after
      all_may_join = may_join h before after new ran

      module _ (u : View) (stays : StaysFirst first.view u) (kept : u.kept ≡ first.view.kept ++ map kept_of_job after) where
        all_kept : u.kept ≡ map kept_of_job after
        all_kept = kept ∙ ap (λ (v : View). v.kept ++ map kept_of_job after) first_opened.1

        pub all_joined : HasJoinedAll u
        all_joined =
            let many = as_many in
            let made : suc (length before) ≡ h.passes = omega (arith, many, count) in
            joined_all h before after new ran u
            (stays.number ∙ ap (λ (v : View). v.number) first_opened.1)
            (stays.made ∙ (ap (λ (v : View). v.made) first_opened.1 ∙ sym made))
            all_kept
            (stays.lock ∙ ap (λ (v : View). v.lock) first_opened.1)

        -- what is left
        pub have_ended : (ended : List EndedScript) (closed : ClosedHeap) → map end_of_script ended ≡ map end_of_job after → (closed.passes ≡ h.passes) × (closed.view ≡ u) → IsOneHistory closed
            → (scripts : List Items) (texts : Table) (turns : ℕ) → AreAtStart scripts texts turns machines → HaveRun scripts texts turns ended closed
        have_ended ended closed left closes whole scripts texts turns begun =
            let len = begun.all in
            let as_passes = closes.0 in
            let begins : AreAtStart scripts texts turns (map (λ (j : Job). j.machine) before) = subst (AreAtStart scripts texts turns) (sym of_machines) begun in
            have_run scripts texts turns after (over h before after new ran scripts texts turns begins) ended left closed (omega (arith, len, as_passes, count))
            (record {
              number = ap (λ (v : View). v.number) closes.1 ∙ (stays.number ∙ ap (λ (v : View). v.number) first_opened.1);
              calls = ap (λ (v : View). v.past.calls) closes.1 ∙ (stays.calls ∙ ap (λ (v : View). v.past.calls) first_opened.1);
              tries = ap (λ (v : View). v.tries) closes.1 ∙ (stays.tries ∙ ap (λ (v : View). v.tries) first_opened.1);
              kept = ap (λ (v : View). v.kept) closes.1 ∙ all_kept;
            }) whole
