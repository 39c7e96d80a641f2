use Rattle.std.proofs.Common.{◌≡◌, ◌+◌, ◌++◌, length, map}
use Rattle.std.specs.Prelude.{All}
use Rattle.std.specs.Vec.{vec_capacity}
use Rattle.std.specs.Vec.Iter.{into_iter_items}
use Rattle.jo_steps.specs.Views.{IsPassOf}
use Rattle.jo_run.specs.inner.Jobs.{MayJoin, StaysFirst, kept_of_job, end_of_script, end_of_job}
use Rattle.jo_run.proofs.jobs.join_all.Given as goal

abbrev pub invariant-loop-job : goal.invariant-loop-job
invariant-loop-job l = record {
  first : IsPassOf l.fn.heap l.first;
  stays : StaysFirst l.fn.first.view l.first.view;
  kept : l.first.view.kept ≡ l.fn.first.view.kept ++ map kept_of_job l.yielded;
  ended : map end_of_script l.ended.items ≡ map end_of_script l.fn.ended.items ++ map end_of_job l.yielded;
  left : All (MayJoin l.fn.heap) (into_iter_items l.job-iterator);
  len : length l.ended.items ≡ length l.fn.ended.items + length l.yielded;
  room : vec_capacity l.ended ≡ vec_capacity l.fn.ended;
}
