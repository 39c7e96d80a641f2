use Rattle.std.proofs.Common.{◌∙◌, ap}
use Rattle.std.specs.Option.{option_map}
use Rattle.jo_lex.proofs.Lengths.{reserved-length}
use Rattle.jo_lex.proofs.reserved.reserved.Goals as goal

pub returns-in_err-row : goal.returns-in_err-row
returns-in_err-row c =
    c.from_residual.ensures ∙ ap (option_map (λ row. row.1)) c.in_err-row.ensures ∙ reserved-length c.args.word.now c.of_length.result.now c.of_length.ensures

pub returns : goal.returns
returns c = ap (option_map (λ row. row.1)) c.in_ok-row.ensures ∙ reserved-length c.args.word.now c.of_length.result.now c.of_length.ensures
