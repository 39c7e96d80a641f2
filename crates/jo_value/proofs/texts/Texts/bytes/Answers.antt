use Rattle.std.proofs.Common.{◌∙◌, [], ap, sym}
use Rattle.std.specs.Prelude.{unwrap_or}
use Rattle.std.proofs.lemmas.Option.{unwrap_or-slice_get}
use Rattle.jo_value.proofs.texts.Texts.bytes.Goals as goal

pub returns-in-None : goal.returns-in-None
returns-in-None c = ap (λ text. unwrap_or text []) (sym c.in-None.ensures.none) ∙ unwrap_or-slice_get c.args.self.now c.args.id.0 []
