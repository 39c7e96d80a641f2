use Rattle.std.proofs.Common.{rules, nat_le}
use Rattle.std.proofs.lemmas.List.Sums.{prefix_len-le-length}
use Rattle.std.proofs.lemmas.Iterator.{YieldsList-from_slice}
use Rattle.std.proofs.lemmas.Iterator.Search.{position_from_yields_List}
use Rattle.jo_model.proofs.Places.{place_or_length}
use Rattle.jo_model.proofs.objects.place_from.Goals as goal

pub returns : goal.returns
returns c =
    let elements = c.args.elements.now in
    let e = position_from_yields_List (λ p. nat_le c.args.low p.0) _ _ c.position-at.result c.position-at.ensures.ran (YieldsList-from_slice elements cc) (λ x b q h. search rules) in
    cc (place_or_length _ _ _ e (prefix_len-le-length _ elements))
