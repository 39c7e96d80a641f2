use Rattle.std.proofs.Common.{List, ◌++◌, map, ap, ◌∙◌}
use Rattle.jo_run.specs.declared.set.EndedScript.{EndedScript}
use Rattle.jo_run.specs.inner.Jobs.{end_of_script, end_of_job}
use Rattle.jo_run.proofs.Whole.{first_opened, all_ready, all_may_join, all_joined, have_ended}
use Rattle.jo_run.proofs.set.run_over.Goals as goal

pub run_jobs-requires-clause-ready : goal.run_jobs-requires-clause-ready
run_jobs-requires-clause-ready g c κs within =
    all_ready c.args.heap c.args.passes.items c.args.machines.items c.requires.opened.0 c.requires.opened.1 c.requires.machines.1
    c.remove-first.result c.remove-first.new.self.items c.remove-first.ensures.value c.remove-first.ensures.items
    c.hand_out.new.jobs.items c.hand_out.ensures.passes c.hand_out.ensures.machines

pub join_all-requires-clause-first : goal.join_all-requires-clause-first
join_all-requires-clause-first g c =
    (first_opened c.args.heap c.args.passes.items c.args.machines.items c.requires.opened.0 c.requires.opened.1 c.requires.machines.1
    c.remove-first.result c.remove-first.new.self.items c.remove-first.ensures.value c.remove-first.ensures.items).0

pub join_all-requires-clause-jobs : goal.join_all-requires-clause-jobs
join_all-requires-clause-jobs g c =
    all_may_join c.args.heap c.args.passes.items c.args.machines.items c.requires.opened.0 c.requires.opened.1 c.requires.machines.1
    c.remove-first.result c.remove-first.new.self.items c.remove-first.ensures.value c.remove-first.ensures.items
    c.hand_out.new.jobs.items c.hand_out.ensures.passes c.hand_out.ensures.machines c.run_jobs.new.jobs.items c.run_jobs.ensures

pub close-requires-clause-joined : goal.close-requires-clause-joined
close-requires-clause-joined g c =
    all_joined c.args.heap c.args.passes.items c.args.machines.items c.requires.opened.0 c.requires.opened.1 c.requires.machines.1
    c.remove-first.result c.remove-first.new.self.items c.remove-first.ensures.value c.remove-first.ensures.items
    c.hand_out.new.jobs.items c.hand_out.ensures.passes c.hand_out.ensures.machines c.run_jobs.new.jobs.items c.run_jobs.ensures
    c.join_all.new.first.view c.join_all.ensures.stays c.join_all.ensures.kept

pub returns : goal.returns
returns g c =
    let none = ap (λ (l : List EndedScript). map end_of_script l ++ map end_of_job c.run_jobs.new.jobs.items) c.requires.ended.0 in
    have_ended c.args.heap c.args.passes.items c.args.machines.items c.requires.opened.0 c.requires.opened.1 c.requires.machines.1
    c.remove-first.result c.remove-first.new.self.items c.remove-first.ensures.value c.remove-first.ensures.items
    c.hand_out.new.jobs.items c.hand_out.ensures.passes c.hand_out.ensures.machines c.run_jobs.new.jobs.items c.run_jobs.ensures
    c.join_all.new.first.view c.join_all.ensures.stays c.join_all.ensures.kept
    c.join_all.new.ended.items c.close.result (c.join_all.ensures.ended ∙ none) c.close.ensures.closed c.close.ensures.history
