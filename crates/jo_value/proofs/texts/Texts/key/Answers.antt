use Rattle.std.proofs.Common.{◌≡◌, ◌∙◌, Some, None, ap, sym, subst, slice_get}
use Rattle.std.specs.Option.{option_map}
use Rattle.std.proofs.lemmas.Option.{slice_get-map}
use Rattle.indexmap.specs.IndexMap.{values}
use Rattle.jo_value.specs.inner.Entries.{IsTable}
use Rattle.jo_value.proofs.Entries.{key-there, key-missing}
use Rattle.jo_value.proofs.texts.Texts.key.Goals as goal

pub returns-in-Some : goal.returns-in-Some
returns-in-Some c =
    let keys = values c.self.inside.texts in
    let table : IsTable c.args.self.now keys = subst (λ texts. IsTable texts keys) c.self.view_is c.self.invariant in
    let there : slice_get keys c.from.result ≡ Some c.in-Some.key.now =
    slice_get-map (λ e. e.1) c.self.inside.texts.entries c.from.result ∙ ap (option_map (λ e. e.1)) (sym c.in-Some.ensures.entry) in
    key-there c.args.self.now keys c.args.id.0 c.in-Some.key.now table (rw (sym c.from.ensures) there)

pub returns-in-None : goal.returns-in-None
returns-in-None c =
    let keys = values c.self.inside.texts in
    let table : IsTable c.args.self.now keys = subst (λ texts. IsTable texts keys) c.self.view_is c.self.invariant in
    let missing : slice_get keys c.from.result ≡ None =
    slice_get-map (λ e. e.1) c.self.inside.texts.entries c.from.result ∙ ap (option_map (λ e. e.1)) (sym c.in-None.ensures.entry) in
    key-missing c.args.self.now keys c.args.id.0 table (rw (sym c.from.ensures) missing)
