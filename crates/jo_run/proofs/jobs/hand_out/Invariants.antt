use Rattle.std.proofs.Common.{◌≡◌, ◌+◌, ◌++◌, length, map}
use Rattle.std.specs.Iterator.Adapters.{zip_first, zip_second}
use Rattle.std.specs.Vec.{vec_capacity}
use Rattle.std.specs.Vec.Iter.{into_iter_items}
use Rattle.jo_run.proofs.jobs.hand_out.Given as goal

abbrev pub invariant-loop-pass : goal.invariant-loop-pass
invariant-loop-pass l = record {
  passes : map (λ job. job.pass) l.jobs.items ++ into_iter_items (zip_first l.pass-iterator) ≡ l.fn.passes.items;
  machines : map (λ job. job.machine) l.jobs.items ++ into_iter_items (zip_second l.pass-iterator) ≡ l.fn.machines.items;
  len : length l.jobs.items + length (into_iter_items (zip_second l.pass-iterator)) ≡ length l.fn.machines.items;
  room : vec_capacity l.jobs ≡ vec_capacity l.fn.jobs;
}
