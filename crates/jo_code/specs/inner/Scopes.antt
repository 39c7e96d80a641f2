-- What private functions do to the names of blocks.
use Rattle.std.specs.Prelude.{◌≡◌, ℕ, nat_eq, if◌then◌else◌, List, [], ◌∷◌, length, Option, None, Some}
use Rattle.std.specs.HashMap.{get, HashMap}
use Rattle.std.specs.Option.{unwrap_or}
use Rattle.jo_parse_tree.specs.declared.script.Item.{Item}
use Rattle.jo_parse_tree.specs.declared.script.Item.TheVariants as i
use Rattle.jo_parse_tree.specs.Blocks.{names_of}
use Rattle.jo_parse_tree.specs.ScriptViews.{let_list}
use Rattle.jo_meaning.specs.State.{Environment}
use Rattle.jo_code.specs.declared.scope.Declared.{Declared}

-- the names that an item declares in its block
abbrev pub item_names : Item → List ℕ
item_names (i.Let l) = names_of (let_list l)
item_names (i.Statement x) = []

-- ---- names that are kept with what they meant before

abbrev pub names_in : List Declared → Environment
names_in [] = []
names_in (d ∷ declared) = d.name ∷ names_in declared

-- the variable that the name with this id means
abbrev pub slot_of : Environment → ℕ → Option ℕ
slot_of [] x = None
slot_of (name ∷ environment) x = if nat_eq name x then Some (length environment) else slot_of environment x

-- each name is kept with what it means in the blocks around
abbrev pub AreKept : List Declared → Type 0
AreKept [] = Unit {0}
AreKept (d ∷ declared) = (d.before ≡ slot_of (names_in declared) d.name) × AreKept declared

-- the variable of a name in a map; a name that it does not have means none
abbrev pub meaning_in : {S : Type 0} → HashMap ℕ (Option ℕ) S → ℕ → Option ℕ
meaning_in meanings x = unwrap_or (get nat_eq meanings x) None

-- the map has what each name means
abbrev pub Means : {S : Type 0} → HashMap ℕ (Option ℕ) S → Environment → Type 0
Means meanings environment = (x : ℕ) → meaning_in meanings x ≡ slot_of environment x
