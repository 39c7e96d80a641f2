-- What the table of texts keeps beside each text.
use Rattle.std.specs.Prelude.{◌≡◌, ◌≤◌, ℕ, suc, List, [], ◌∷◌, length, Result}
use Rattle.jo_value.specs.declared.limits.TheConstants.{MOST_TEXTS}
use Rattle.jo_value.specs.declared.key.KeyOutside.{KeyOutside}
use Rattle.jo_value.specs.declared.value.Key.{Key}
use Rattle.jo_value.specs.Keys.{array_index, key_by}
use Rattle.jo_value.specs.Texts.{Table}

abbrev pub Found : Type 0
Found = Result Key KeyOutside

-- the keys that texts are, where the first of them has this id
abbrev pub keys_from : ℕ → Table → List Found
keys_from id [] = []
keys_from id (text ∷ texts) = key_by id (array_index text) ∷ keys_from (suc id) texts

-- no more texts than there may be, with the keys that they are
pub record IsTable (texts : Table) (keys : List Found) : Type 0 where
  pub few : length texts ≤ MOST_TEXTS
  pub known : keys ≡ keys_from 0 texts
