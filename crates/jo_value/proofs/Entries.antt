-- The keys that the table keeps beside its texts are those of the definitions.
use Rattle.std.proofs.Common.{◌≡◌, ◌+◌, ◌<◌, ◌∙◌, ◌||◌, if◌then◌else◌, ℕ, zero, suc, Bool, true, false, List, [], ◌∷◌, ◌++◌, length, map, slice_get, Option, Some, None, Err, refl, sym, ap, arith, length-append, String, string_bytes}
use Rattle.std.proofs.lemmas.List.{length-map, map-append}
use Rattle.std.specs.List.{list_any, position_or_len}
use Rattle.std.specs.Map.{keys_of, values_of}
use Rattle.std.specs.Str.{bytes_eq}
use Rattle.std.specs.Option.{option_map}
use Rattle.indexmap.specs.IndexMap.{insert_entry}
use Rattle.jo_value.specs.declared.limits.TheConstants.{MOST_TEXTS}
use Rattle.jo_value.specs.Texts.{Table, id_in}
use Rattle.jo_value.specs.Keys.{array_index, key_by, key_of_text, key_of_id}
use Rattle.jo_value.proofs.Places.{id_in-keys, none_passes}
use Rattle.jo_value.specs.inner.Entries.{Found, IsTable, keys_from}

abbrev key_from : ℕ → List ℕ → Found
key_from id text = key_by id (array_index text)

keys_from-at : (first : ℕ) (texts : Table) (i : ℕ) → slice_get (keys_from first texts) i ≡ option_map (key_from (first + i)) (slice_get texts i)
keys_from-at first [] i = refl
keys_from-at first (text ∷ texts) zero = ap (λ id. Some (key_from id text)) (omega arith)
keys_from-at first (text ∷ texts) (suc i) = keys_from-at (suc first) texts i ∙ ap (λ id. option_map (key_from id) (slice_get texts i)) (omega arith)

keys-at : (texts : Table) (keys : List Found) (id : ℕ) → IsTable texts keys → option_map (key_from id) (slice_get texts id) ≡ slice_get keys id
keys-at texts keys id table =
    ap (λ i. option_map (key_from i) (slice_get texts id)) (omega arith) ∙ sym (keys_from-at 0 texts id) ∙ ap (λ ks. slice_get ks id) (sym table.known)

-- one text more has its key last
keys_from-append : (first : ℕ) (texts : Table) (text : List ℕ) → keys_from first (texts ++ text ∷ []) ≡ keys_from first texts ++ key_from (first + length texts) text ∷ []
keys_from-append first [] text = ap (λ id. key_from id text ∷ []) (omega arith)
keys_from-append first (t ∷ texts) text =
    let rest = keys_from (suc first) texts in
    ap (λ keys. key_from first t ∷ keys) (keys_from-append (suc first) texts text ∙ ap (λ id. rest ++ key_from id text ∷ []) (omega arith))

some-step : (id : ℕ) (k : Found) (text : Option (List ℕ)) → option_map (key_from id) text ≡ Some k → k ≡ key_of_text id text
some-step id k None e = cc
some-step id k (Some text) e = cc

-- what stands at an id is the key of the text there
pub key-there : (texts : Table) (keys : List Found) (id : ℕ) (k : Found) → IsTable texts keys → slice_get keys id ≡ Some k → k ≡ key_of_id texts id
key-there texts keys id k table e = some-step id k (slice_get texts id) (keys-at texts keys id table ∙ e)

none-step : (id : ℕ) (text : Option (List ℕ)) → option_map (key_from id) text ≡ None → Err (record {}) ≡ key_of_text id text
none-step id None e = refl
none-step id (Some text) e = cc

-- and where none stands, there is no text
pub key-missing : (texts : Table) (keys : List Found) (id : ℕ) → IsTable texts keys → slice_get keys id ≡ None → Err (record {}) ≡ key_of_id texts id
key-missing texts keys id table e = none-step id (slice_get texts id) (keys-at texts keys id table ∙ e)

-- a text more, with its key
table-push : (texts : Table) (keys : List Found) (text : List ℕ) (key : Found) → IsTable texts keys → length texts < MOST_TEXTS → key ≡ key_from (length texts) text → IsTable (texts ++ text ∷ []) (keys ++ key ∷ [])
table-push texts keys text key table room e = record {
  few = omega (arith, room, length-append texts (text ∷ []));
  known = ap (λ ks. ks ++ key ∷ []) table.known ∙ ap (λ k. keys_from 0 texts ++ k ∷ []) (e ∙ ap (λ i. key_from i text) (omega arith)) ∙ sym (keys_from-append 0 texts text);
}

-- a key that equals none goes last
insert-last : {K X : Type 0} (eq : K → K → Bool) (k : K) (v : X) (es : List (K × X)) → list_any (eq k) (map (λ e. e.0) es) ≡ false → insert_entry eq es k v ≡ es ++ (k, v) ∷ []
insert-last eq k v [] none = refl
insert-last eq k v (e ∷ es) none = step (eq k e.0) none (insert-last eq k v es)
  where
    step : (b : Bool) → (b || list_any (eq k) (map (λ e. e.0) es)) ≡ false → (list_any (eq k) (map (λ e. e.0) es) ≡ false → insert_entry eq es k v ≡ es ++ (k, v) ∷ [])
        → (if b then (e.0, v) ∷ es else e ∷ insert_entry eq es k v) ≡ e ∷ (es ++ (k, v) ∷ [])
    step true t ih = cc
    step false t ih = ap (λ rest. e ∷ rest) (ih t)

-- the texts of entries
abbrev pub texts_of : {Z : Type 0} → List (String Z × Found) → Table
texts_of entries = map (λ text. string_bytes text) (keys_of entries)

-- a text that the table lacks goes last, with its key
pub added : {Z : Type 0} (entries : List (String Z × Found)) (copy : String Z) (key : Found) (texts : Table) → texts_of entries ≡ texts → id_in texts (string_bytes copy) ≡ length texts
    → insert_entry (λ a b. bytes_eq (string_bytes a) (string_bytes b)) entries copy key ≡ entries ++ (copy, key) ∷ []
added entries copy key texts view new =
    let text = string_bytes copy in
    let names = keys_of entries in
    let place : position_or_len (λ name. bytes_eq text (string_bytes name)) names ≡ length names =
    id_in-keys text names ∙ ap (λ table. id_in table text) view ∙ new ∙ sym (ap length view) ∙ length-map names (λ name. string_bytes name) in
    insert-last (λ a b. bytes_eq (string_bytes a) (string_bytes b)) copy key entries (none_passes (λ name. bytes_eq text (string_bytes name)) names place)

pub texts-push : {Z : Type 0} (entries : List (String Z × Found)) (copy : String Z) (key : Found) → texts_of (entries ++ (copy, key) ∷ []) ≡ texts_of entries ++ string_bytes copy ∷ []
texts-push entries copy key =
    ap (map (λ text. string_bytes text)) (map-append (λ e. e.0) entries ((copy, key) ∷ [])) ∙ map-append (λ text. string_bytes text) (keys_of entries) (copy ∷ [])

-- the entries after it are those of a table
pub known-push : {Z : Type 0} (entries : List (String Z × Found)) (copy : String Z) (key : Found) (texts : Table) → texts_of entries ≡ texts → IsTable (texts_of entries) (values_of entries) → length texts < MOST_TEXTS
    → key ≡ key_from (length texts) (string_bytes copy) → IsTable (texts_of (entries ++ (copy, key) ∷ [])) (values_of (entries ++ (copy, key) ∷ []))
known-push entries copy key texts view table room e =
    let same : length (texts_of entries) ≡ length texts = ap length view in
    let pushed = table-push (texts_of entries) (values_of entries) (string_bytes copy) key table (omega (arith, same, room)) (e ∙ ap (λ i. key_from i (string_bytes copy)) (sym same)) in
    rw (texts-push entries copy key) (rw (map-append (λ e. e.1) entries ((copy, key) ∷ [])) pushed)
