use Rattle.std.proofs.Common.{rules}
use Rattle.std.proofs.lemmas.List.Sums.{prefix_len-le-length}
use Rattle.std.proofs.lemmas.Iterator.{YieldsList-from_slice}
use Rattle.std.proofs.lemmas.Iterator.Search.{position_from_yields_List}
use Rattle.jo_value.specs.Values.{is_same_name}
use Rattle.jo_model.proofs.Places.{place_or_length}
use Rattle.jo_model.proofs.plain.object.PlainObject.name_place.Goals as goal

pub returns-clause-place : goal.returns-clause-place
returns-clause-place c =
    let names = c.self.inside.names.items in
    let e = position_from_yields_List (λ p. is_same_name p.0 c.args.name) _ _ c.position-at.result c.position-at.ensures.ran (YieldsList-from_slice names cc) (λ x b q h. search rules) in
    cc (place_or_length _ _ _ e (prefix_len-le-length _ names), c.self.view_is, c.len.ensures, c.self.inside.names.ok.0)
