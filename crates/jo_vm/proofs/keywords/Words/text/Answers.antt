use Rattle.std.proofs.Common.{ap, ◌∙◌, get_or}
use Rattle.jo_value.specs.declared.value.TextId.{TextId}
use Rattle.jo_value.specs.Texts.{id_in}
use Rattle.jo_parse_tree.specs.Words.{keyword_text}
use Rattle.jo_vm.proofs.WordIds.{id_is}
use Rattle.jo_vm.proofs.keywords.Words.text.Goals as goal

pub returns : goal.returns
returns c =
    ap (λ n. (get_or {A = TextId} c.self.inside.ids n (record { 0 = 0 })).0) c.place_of.ensures.value
    ∙ ap (λ (id : TextId). id.0) (id_is c.self.inside.texts.now c.self.inside.ids c.args.word c.self.invariant)
    ∙ ap (λ texts. id_in texts (keyword_text c.args.word)) c.self.view_is
