-- What each storage word is for ever, once a cell has named its block, and where a block has the slots of an object by it.
use Rattle.std.specs.Prelude.{◌≡◌, ◌≢◌, ℕ, ◌+◌, ◌-◌, ◌/◌, ◌%◌, ◌<◌, nat_lt, Bool, true, false, if◌then◌else◌, Option, Some, None}
use Rattle.jo_value.specs.declared.capacities.TheConstants.{INLINE_OFFSETS, FRAGMENT_WORDS}
use Rattle.jo_value.specs.declared.value.ObjId.{ObjId}
use Rattle.jo_rule.specs.Spots.{Spot, offset, element, Location, beside, stored_at}

-- a word that never changes, the value of a slot of an object, or one of an object's dictionary
pub data Role : Type 0 where
  unnamed : Role
  fixed : ℕ → Role
  value : ObjId → Spot → Role
  dictionary : ObjId → Role

-- roles are given to words that had none, and never changed
abbrev pub Grows : (ℕ → Role) → (ℕ → Role) → Type 0
Grows role role' = (a : ℕ) → role a ≢ unnamed → role' a ≡ role a

-- the words beside a cell are values of its object for ever
abbrev pub role_at : (ℕ → Role) → Location → Role
role_at role (beside o j) = value o (offset j)
role_at role (stored_at a) = role a

-- the word that a role fixes
abbrev pub word_fixed : Role → ℕ
word_fixed unnamed = 0
word_fixed (fixed word) = word
word_fixed (value o y) = 0
word_fixed (dictionary o) = 0

-- the words that roles fix, by address
abbrev pub words_fixed : (ℕ → Role) → ℕ → ℕ
words_fixed role a = word_fixed (role a)

-- ---- how the words of a block give its places

-- the room for names that a header tells
abbrev pub names_room : ℕ → ℕ
names_room header = header % 65536

-- the room for elements that a header tells
abbrev pub elements_room : ℕ → ℕ
elements_room header = header / 65536

-- where the block at b has name j, counted behind those beside the cell; f gives the words of storage
abbrev pub name_at : (segmented : Bool) → (ℕ → ℕ) → ℕ → ℕ → ℕ
name_at false f b j = b - (1 + j)
name_at true f b j = f (b - (1 + j / FRAGMENT_WORDS)) - j % FRAGMENT_WORDS

-- and where it has element i
abbrev pub element_at : (segmented : Bool) → (ℕ → ℕ) → ℕ → ℕ → ℕ
element_at false f b i = b + 1 + i
element_at true f b i = f (b + 1 + i / FRAGMENT_WORDS) + i % FRAGMENT_WORDS

-- where the block at b has a slot of an object, by words of storage: those of memory, those that a view knows, or those that roles fix
unfoldable pub place_by : (segmented : Bool) → (ℕ → ℕ) → ObjId → ℕ → Spot → Option Location
place_by segmented f o b (offset j) =
    if nat_lt j INLINE_OFFSETS then Some (beside o j)
    else (if nat_lt (j - INLINE_OFFSETS) (names_room (f b)) then Some (stored_at (name_at segmented f b (j - INLINE_OFFSETS))) else None)
place_by segmented f o b (element i) =
    if nat_lt i (elements_room (f b)) then Some (stored_at (element_at segmented f b i)) else None

-- where the block at b has a slot of an object, for ever
abbrev pub frame : (ℕ → Role) → (segmented : Bool) → ObjId → ℕ → Spot → Option Location
frame role segmented o b y = place_by segmented (words_fixed role) o b y

-- The block at b is one of an object: its header never changes, nor does its spine where it is segmented, and each place that
-- they give is that slot of the object.
pub record IsBlockOf (role : ℕ → Role) (segmented : Bool) (o : ObjId) (b : ℕ) : Type 0 where
  pub head : ℕ
  pub header : role b ≡ fixed head
  pub names : (j : ℕ) → segmented ≡ true → j < names_room head → (word : ℕ) × (role (b - (1 + j / FRAGMENT_WORDS)) ≡ fixed word)
  pub elements : (i : ℕ) → segmented ≡ true → i < elements_room head → (word : ℕ) × (role (b + 1 + i / FRAGMENT_WORDS) ≡ fixed word)
  pub mine : (y : Spot) (p : Location) → frame role segmented o b y ≡ Some p → role_at role p ≡ value o y
