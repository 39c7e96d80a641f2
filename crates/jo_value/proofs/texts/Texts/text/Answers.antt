use Rattle.std.proofs.Common.{◌≡◌, ◌∙◌, Some, None, ap, sym, slice_get, string_bytes}
use Rattle.std.specs.Option.{option_map}
use Rattle.std.proofs.lemmas.Option.{slice_get-map}
use Rattle.indexmap.specs.IndexMap.{keys}
use Rattle.jo_value.proofs.texts.Texts.text.Goals as goal

pub returns-in-Some-clause-some : goal.returns-in-Some-clause-some
returns-in-Some-clause-some c =
    let names = keys c.self.inside.texts in
    let there : slice_get names c.from.result ≡ Some c.in-Some.text.now =
    slice_get-map (λ e. e.0) c.self.inside.texts.entries c.from.result ∙ ap (option_map (λ e. e.0)) (sym c.in-Some.ensures.entry) in
    let text = ap (λ table. slice_get table c.from.result) (sym c.self.view_is) ∙ slice_get-map (λ text. string_bytes text) names c.from.result
    ∙ ap (option_map (λ text. string_bytes text)) there ∙ ap Some (sym c.as_str.ensures.value) in
    rw (sym c.from.ensures) text

pub returns-in-None-clause-none : goal.returns-in-None-clause-none
returns-in-None-clause-none c =
    let names = keys c.self.inside.texts in
    let missing : slice_get names c.from.result ≡ None =
    slice_get-map (λ e. e.0) c.self.inside.texts.entries c.from.result ∙ ap (option_map (λ e. e.0)) (sym c.in-None.ensures.entry) in
    let text = ap (λ table. slice_get table c.from.result) (sym c.self.view_is) ∙ slice_get-map (λ text. string_bytes text) names c.from.result
    ∙ ap (option_map (λ text. string_bytes text)) missing in
    rw (sym c.from.ensures) text
