use Rattle.std.proofs.Common.{◌≡◌, refl, ◌∙◌}
use Rattle.std.specs.Prelude.{ℕ, List, None}
use Rattle.jo_answer.specs.declared.due.Verdict.{Verdict}
use Rattle.jo_answer.specs.declared.due.Verdict.TheVariants as verdict
use Rattle.jo_made.specs.Made.{made}
use Rattle.jo_program.proofs.Written.{kept_of_printed}
use Rattle.jo_program.proofs.top.make.Goals as goal

pub returns-in-Ok-clause-kept : goal.returns-in-Ok-clause-kept
returns-in-Ok-clause-kept g c =
    let is = λ (said : Verdict) (written : List ℕ). (said ≡ verdict.Done) × (c.write_text.result.ended ≡ None) × (written ≡ made c.args.number) in
    kept_of_printed is verdict.Done c.deref.result.now (g.K.Sink.held c.args.sink.now) (g.K.Sink.held c.write_text.new.sink) c.write_text.result.status
    c.write_text.ensures.printed (refl, c.write_text.ensures.ended, c.deref.ensures.value ∙ c.in-Ok.ensures)
