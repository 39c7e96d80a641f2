use Rattle.std.proofs.Common.{rules, ◌∙◌, ◌&&◌, sym, ap}
use Rattle.std.specs.Char.{is_ascii_digit}
use Rattle.std.specs.Str.{all_ascii_digits}
use Rattle.std.proofs.lemmas.Iterator.{YieldsList-from_slice}
use Rattle.std.proofs.lemmas.Iterator.Search.{all_from_yields_List}
use Rattle.jo_value.proofs.Numerals.{all_digits}
use Rattle.jo_program.proofs.command.is_numeral.Goals as goal

pub returns-then-is_unpadded : goal.returns-then-is_unpadded
returns-then-is_unpadded c =
    let text = c.args.text.now in
    let digits = all_from_yields_List is_ascii_digit _ _ c.all.result c.all.ensures.ran (YieldsList-from_slice text cc) (λ x b q h. search rules) in
    digits ∙ all_digits text ∙ ap (λ b. b && all_ascii_digits text) (sym c.if-is_unpadded.true ∙ c.is_unpadded.ensures)
