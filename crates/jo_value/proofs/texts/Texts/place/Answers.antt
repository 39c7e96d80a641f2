use Rattle.std.proofs.Common.{◌≡◌, ◌≤◌, ◌∙◌, length, ap, sym, arith, string_bytes}
use Rattle.std.proofs.lemmas.List.{length-map}
use Rattle.std.specs.List.{position_or_len}
use Rattle.std.specs.Str.{bytes_eq}
use Rattle.indexmap.specs.IndexMap.{keys}
use Rattle.jo_value.specs.Texts.{id_in}
use Rattle.jo_value.proofs.Places.{id_in-keys, place_within, place-there, place-new}
use Rattle.jo_value.proofs.texts.Texts.place.Goals as goal

pub returns-clause-there : goal.returns-clause-there
returns-clause-there c =
    let keys = keys c.self.inside.texts in
    let text = c.args.text.now in
    let same : position_or_len (λ key. bytes_eq text (string_bytes key)) keys ≡ id_in c.args.self.now text = id_in-keys text keys ∙ ap (λ table. id_in table text) c.self.view_is in
    place-there _ (id_in c.args.self.now text) (length keys) c.get_index_of.result c.get_index_of.ensures.index same

pub returns-clause-new : goal.returns-clause-new
returns-clause-new c =
    let keys = keys c.self.inside.texts in
    let text = c.args.text.now in
    let same : position_or_len (λ key. bytes_eq text (string_bytes key)) keys ≡ id_in c.args.self.now text = id_in-keys text keys ∙ ap (λ table. id_in table text) c.self.view_is in
    let long : length c.args.self.now ≡ length keys = sym (ap length c.self.view_is) ∙ length-map keys (λ key. string_bytes key) in
    let below : position_or_len (λ key. bytes_eq text (string_bytes key)) keys ≤ length keys = omega (arith, place_within c.args.self.now text) in
    let new = place-new _ (id_in c.args.self.now text) (length keys) c.get_index_of.result c.get_index_of.ensures.index same below in
    rw (long) new
