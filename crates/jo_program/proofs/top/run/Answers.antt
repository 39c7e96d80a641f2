use Rattle.std.proofs.Common.{◌≡◌}
use Rattle.std.specs.Prelude.{Some}
use Rattle.jo_answer.specs.declared.due.Verdict.TheVariants as verdict
use Rattle.jo_program.specs.declared.command.Command.TheVariants as command
use Rattle.jo_program.specs.Words.{command_of}
use Rattle.jo_program.proofs.Written.{answered_to, part_of_answer}
use Rattle.jo_program.proofs.top.run.Goals as goal

pub returns-in-Some-clause-done : goal.returns-in-Some-clause-done
returns-in-Some-clause-done g c = λ status.
    let given : command_of c.args.words.now ≡ Some c.in-Some.command = cc in
    answered_to c.args.words.now c.in-Some.command verdict.Done _ _ _ _ _ given (c.run_command.ensures.kept.whole verdict.Done status)

pub returns-in-Some-clause-faulty : goal.returns-in-Some-clause-faulty
returns-in-Some-clause-faulty g c = λ status.
    let given : command_of c.args.words.now ≡ Some c.in-Some.command = cc in
    answered_to c.args.words.now c.in-Some.command verdict.EndedWithFaults _ _ _ _ _ given (c.run_command.ensures.kept.whole verdict.EndedWithFaults status)

pub returns-in-Some-clause-refused : goal.returns-in-Some-clause-refused
returns-in-Some-clause-refused g c = λ status.
    let given : command_of c.args.words.now ≡ Some c.in-Some.command = cc in
    answered_to c.args.words.now c.in-Some.command verdict.Refused _ _ _ _ _ given (c.run_command.ensures.kept.whole verdict.Refused status)

pub returns-in-Some-clause-too_large : goal.returns-in-Some-clause-too_large
returns-in-Some-clause-too_large g c = λ status.
    let given : command_of c.args.words.now ≡ Some c.in-Some.command = cc in
    answered_to c.args.words.now c.in-Some.command verdict.TooLarge _ _ _ _ _ given (c.run_command.ensures.kept.whole verdict.TooLarge status)

pub returns-in-Some-clause-part : goal.returns-in-Some-clause-part
returns-in-Some-clause-part g c = λ fault.
    let given : command_of c.args.words.now ≡ Some c.in-Some.command = cc in
    part_of_answer c.args.words.now c.in-Some.command _ _ _ _ _ given (c.run_command.ensures.kept.part fault)

pub returns-in-Some-clause-judged_made : goal.returns-in-Some-clause-judged_made
returns-in-Some-clause-judged_made g c = λ number given.
    let is : c.in-Some.command ≡ command.RunMade number = cc in
    c.run_command.ensures.judged_made number is
