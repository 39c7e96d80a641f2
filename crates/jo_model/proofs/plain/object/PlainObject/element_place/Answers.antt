use Rattle.std.proofs.Common.{◌==◌, rules}
use Rattle.std.proofs.lemmas.List.Sums.{prefix_len-le-length}
use Rattle.std.proofs.lemmas.Iterator.{YieldsList-from_slice}
use Rattle.std.proofs.lemmas.Iterator.Search.{position_from_yields_List}
use Rattle.jo_model.proofs.Places.{place_or_length}
use Rattle.jo_model.proofs.plain.object.PlainObject.element_place.Goals as goal

pub returns-clause-place : goal.returns-clause-place
returns-clause-place c =
    let elements = c.self.inside.elements.items in
    let e = position_from_yields_List (λ p. p.0 == c.args.index) _ _ c.position-at.result c.position-at.ensures.ran (YieldsList-from_slice elements cc) (λ x b q h. search rules) in
    cc (place_or_length _ _ _ e (prefix_len-le-length _ elements), c.self.view_is, c.len.ensures, c.self.inside.elements.ok.0)
