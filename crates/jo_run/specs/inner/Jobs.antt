-- What is known of the job of a script, before it runs and after.
use Rattle.std.specs.Prelude.{◌≡◌, ℕ, ◌<◌, List, [], length, slice_index_or, None}
use Rattle.jo_value.specs.Texts.{Table}
use Rattle.jo_parse_tree.specs.Trees.{Items}
use Rattle.jo_model.specs.declared.call.Outcome.{Outcome}
use Rattle.jo_rule.specs.declared.counts.Counts.{Counts}
use Rattle.jo_rule.specs.Steps.{kept_of}
use Rattle.jo_rule.specs.Views.{View, Kept}
use Rattle.jo_meaning.specs.Scripts.{interaction_of}
use Rattle.jo_steps.specs.Views.{HeapView, IsPassOf}
use Rattle.jo_guard.specs.Ready.{IsReady}
use Rattle.jo_run.specs.declared.jobs.Job.{Job}
use Rattle.jo_run.specs.declared.set.EndedScript.{EndedScript}
use Rattle.jo_run.specs.Scripts.{IsAtStart, MayRun, HasRun}

-- its pass is ready for calls, and its machine is at the start of a sound script
pub record IsReadyJob (h : HeapView) (job : Job) : Type 0 where
  pub pass : IsReady h job.pass
  pub machine : MayRun job.machine

-- its script was run to its end
pub record HasRunJob (h : HeapView) (before after : Job) : Type 0 where
  pub pass : IsReady h after.pass
  pub run : (script : Items) (texts : Table) (turns : ℕ) → IsAtStart script texts turns before.machine
      → HasRun (interaction_of script texts turns) after.outcome after.machine.lines before.pass.view after.pass.view

-- each of these has run
pub record HaveRunJobs (h : HeapView) (before after : List Job) : Type 0 where
  pub all : length after ≡ length before
  pub each : (k : ℕ) (d : Job) → k < length before → HasRunJob h (slice_index_or before k d) (slice_index_or after k d)

-- ---- where their passes are joined into the first one

-- its pass holds no lock and keeps no other
pub record MayJoin (h : HeapView) (job : Job) : Type 0 where
  pub of_heap : IsPassOf h job.pass
  pub free : job.pass.view.lock ≡ None
  pub alone : job.pass.view.kept ≡ []

-- what is kept of it
abbrev pub kept_of_job : Job → Kept
kept_of_job job = kept_of job.pass.view

-- what of the first pass stays as it is when it joins another into itself
pub record StaysFirst (v u : View) : Type 0 where
  pub number : u.number ≡ v.number
  pub made : u.made ≡ v.made
  pub calls : u.past.calls ≡ v.past.calls
  pub tries : u.tries ≡ v.tries
  pub lock : u.lock ≡ v.lock

-- what is left of a script, as plain data
pub record ScriptEnd : Type 0 where
  pub outcome : Outcome
  pub lines : List ℕ
  pub counts : Counts

abbrev pub end_of_script : EndedScript → ScriptEnd
end_of_script e = record { outcome = e.outcome; lines = e.lines.items; counts = e.counts }

abbrev pub end_of_job : Job → ScriptEnd
end_of_job job = record { outcome = job.outcome; lines = job.machine.lines; counts = job.pass.view.counts }
