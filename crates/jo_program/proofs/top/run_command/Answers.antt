use Rattle.std.proofs.Common.{◌≡◌, subst}
use Rattle.jo_made.specs.Made.{made}
use Rattle.jo_program.specs.declared.command.Command.TheVariants as command
use Rattle.jo_program.specs.Run.{IsJudged}
use Rattle.jo_program.proofs.Written.{kept_by, made_is_small}
use Rattle.jo_program.proofs.top.run_command.Goals as goal

pub returns-in-Run-clause-kept : goal.returns-in-Run-clause-kept
returns-in-Run-clause-kept g c =
    kept_by (command.Run c.in-Run.options) c.args.command (g.S.Source.left c.args.source.now) (g.S.Source.left c.run_read.new.source)
    (g.K.Sink.held c.args.sink.now) (g.K.Sink.held c.run_read.new.sink) c.run_read.result.status c.run_read.result.ended c.in-Run.is c.run_read.ensures.kept

pub returns-in-RunMade-clause-kept : goal.returns-in-RunMade-clause-kept
returns-in-RunMade-clause-kept g c =
    kept_by (command.RunMade c.in-RunMade.number) c.args.command (g.S.Source.left c.args.source.now) (g.S.Source.left c.args.source.now)
    (g.K.Sink.held c.args.sink.now) (g.K.Sink.held c.run_made.new.sink) c.run_made.result.status c.run_made.result.ended c.in-RunMade.is c.run_made.ensures.kept

pub returns-in-RunMade-clause-judged_made : goal.returns-in-RunMade-clause-judged_made
returns-in-RunMade-clause-judged_made g c = λ number given.
    let same : c.in-RunMade.number ≡ number = cc in
    let judged = subst (λ n. IsJudged c.run_made.result.status (made n)) same c.run_made.ensures.judged in
    (judged, made_is_small number c.run_made.result.status judged)
