use Rattle.std.proofs.Common.{◌≡◌, ◌∙◌, ◌∷◌, ◌++◌, [], length, ap, sym, subst, string_bytes}
use Rattle.jo_value.specs.Texts.{id_in}
use Rattle.std.specs.Map.{values_of}
use Rattle.jo_value.specs.Keys.{array_index, key_by}
use Rattle.jo_value.specs.inner.Entries.{IsTable}
use Rattle.jo_value.proofs.Entries.{texts_of, added, texts-push, known-push}
use Rattle.jo_value.proofs.texts.Texts.add.Goals as goal

pub invariant_of-self-2 : goal.invariant_of-self-2
invariant_of-self-2 c =
    let entries = c.self.inside.texts.entries in
    let copy = c.in_ok-copy.copy in
    let key = c.of_text-key.result in
    let texts = c.args.self.now in
    let bytes : string_bytes copy ≡ c.args.text.now = c.in_ok-copy.ensures.ok in
    let new : id_in texts (string_bytes copy) ≡ length texts = ap (id_in texts) bytes ∙ c.requires.new in
    let last : c.insert.new.self.entries ≡ entries ++ (copy, key) ∷ [] = c.in_ok-insert.ensures.entries ∙ added entries copy key texts c.self.view_is new in
    let own : key ≡ key_by (length texts) (array_index (string_bytes copy)) =
    c.of_text-key.ensures ∙ ap (λ id. key_by id (array_index c.args.text.now)) c.len.ensures ∙ ap (λ text. key_by (length texts) (array_index text)) (sym bytes) in
    subst (λ es. IsTable (texts_of es) (values_of es)) (sym last) (known-push entries copy key texts c.self.view_is c.self.invariant c.requires.room own)

pub returns-clause-ok : goal.returns-clause-ok
returns-clause-ok c =
    let entries = c.self.inside.texts.entries in
    let copy = c.in_ok-copy.copy in
    let key = c.of_text-key.result in
    let texts = c.args.self.now in
    let bytes : string_bytes copy ≡ c.args.text.now = c.in_ok-copy.ensures.ok in
    let new : id_in texts (string_bytes copy) ≡ length texts = ap (id_in texts) bytes ∙ c.requires.new in
    let last : c.insert.new.self.entries ≡ entries ++ (copy, key) ∷ [] = c.in_ok-insert.ensures.entries ∙ added entries copy key texts c.self.view_is new in
    ap texts_of last ∙ (texts-push entries copy key ∙ ap (λ t. t ++ string_bytes copy ∷ []) c.self.view_is ∙ ap (λ text. texts ++ text ∷ []) bytes)
