use Rattle.std.proofs.Common.{◌∷◌, ◌∙◌, ap}
use Rattle.jo_parse_grammar.specs.Declarations.{is_among}
use Rattle.jo_parse_names.proofs.Names.{one-put}
use Rattle.jo_parse_names.proofs.block.Block.declare.Goals as goal

pub returns : goal.returns
returns c =
    ((λ key. one-put c.self.inside.names.keys c.insert.new.self.keys c.args.name c.in_ok-insert.ensures.updates.0 key ∙ ap (λ s. is_among (c.args.name ∷ s.names) key) c.self.view_is), (λ key. ap (λ s. is_among s.ended key) c.self.view_is))
