use Rattle.std.proofs.Common.{◌≡◌, suc, ◌∷◌, arith, subst}
use Rattle.std.proofs.lemmas.Grind.{common_steps}
use Rattle.std.specs.Prelude.{All}
use Rattle.std.specs.Vec.Iter.{into_iter_items}
use Rattle.jo_run.specs.declared.set.EndedScript.{EndedScript}
use Rattle.jo_run.specs.inner.Jobs.{MayJoin, end_of_script, end_of_job}
use Rattle.jo_run.proofs.Taken.{kept_more, left_more, stays_more}
use Rattle.jo_run.proofs.jobs.join_all.Goals as goal

pub loop-job-preserved : goal.loop-job-preserved
loop-job-preserved c =
    let l = c.loop-job.invariant in
    let job = c.in-Some.job in
    let first = c.args.first.now.view in
    let v = c.loop-job.first.view in
    let y = c.join.new.into.view in
    let may : All (MayJoin c.args.heap.now) (job ∷ into_iter_items c.next.new.self) = subst (All (MayJoin c.args.heap.now)) c.in-Some.ensures.steps.0 l.left in
    let e : EndedScript = record { outcome = job.outcome; lines = c.into_lines-lines.result; counts = c.counts-counts.result } in
    let is : end_of_script e ≡ end_of_job job = λ i. record { outcome = job.outcome; lines = c.into_lines-lines.ensures i; counts = c.counts-counts.ensures i } in record {
      first = c.join.ensures.pass;
      stays = stays_more first v y job c.join.ensures.view l.stays;
      kept = kept_more first v y job c.join.ensures.view c.loop-job.yielded (may 0 job (omega arith)).alone l.kept;
      ended = left_more c.args.ended.now.items c.loop-job.ended.items c.push_reserved.new.self.items e c.loop-job.yielded job is c.push_reserved.ensures.items l.ended;
      left = λ k d lt. may (suc k) d (omega (arith, lt));
      len = grind (arith, common_steps);
      room = grind (arith, common_steps);
    }
