-- What is known at the end, when the first pass has joined all others into itself.
use Rattle.std.specs.Prelude.{◌≡◌, ◌≢◌, ◌⊎◌, true, map, Option, Some, ℕ, ◌+◌, ◌<◌, ◌==◌, zero, suc, if◌then◌else◌, List, [], ◌∷◌, None, ◌≤◌, false}
use mathlib.Core.Option.{some}
use lib.ListN.{get_elem?}
use Rattle.jo_value.specs.declared.value.ObjId.{ObjId}
use Rattle.jo_value.specs.declared.words.cell.Cell.{Cell}
use Rattle.jo_value.specs.Words.{IsCell, cell_bits}
use Rattle.jo_model.specs.Heaps.{object_of, IsBorn}
use Rattle.jo_model.specs.Logs.{after}
use Rattle.jo_model.specs.Placed.{PlacedCall}
use Rattle.jo_model.specs.Joined.{ArePlaced}
use Rattle.jo_rule.specs.Names.{cell}
use Rattle.jo_value.specs.declared.value.Key.{Key}
use Rattle.jo_value.specs.declared.value.Key.TheVariants.{Index}
use Rattle.jo_value.specs.declared.value.NameId.{NameId}
use Rattle.jo_value.specs.declared.value.Sid.{Sid}
use Rattle.jo_value.specs.declared.words.cell.Kind.TheVariants.{Dictionary}
use Rattle.jo_value.specs.declared.words.node.Node.{Node}
use Rattle.jo_value.specs.Words.{slot_bits}
use Rattle.jo_model.specs.Objects.{property}
use Rattle.jo_rule.specs.Areas.{Words, stored, nodes, first_children, siblings}
use Rattle.jo_rule.specs.Shapes.{Shape, Shaped, names_of, offset_of}
use Rattle.jo_rule.specs.Spots.{Spot, offset, element, Location, values, spot_of}
use Rattle.jo_rule.specs.Roles.{place_by}
use Rattle.jo_rule.specs.Dictionaries.{slot_in}
use Rattle.jo_rule.specs.Contents.{is_keyed, is_segmented}
use Rattle.jo_rule.specs.Views.{View, Kept}
use Rattle.jo_value.specs.declared.limits.TheConstants.{MOST_INDEX}
use Rattle.jo_model.specs.Objects.{Object}
use Rattle.jo_rule.specs.Dictionaries.{dictionary_header, HasProperties}
use Rattle.jo_rule.specs.Contents.{HasWords}

-- the first pass keeps each other one, and holds no lock
pub record HasJoinedAll (v : View) : Type 0 where
  pub first : v.number ≡ 0
  pub others : (t : ℕ) → 0 < t → t < v.made → (k : ℕ) × (q : Kept) × (get_elem? v.kept k ≡ some q) × (q.number ≡ t)
  pub unlocked : v.lock ≡ None

-- the calls of the pass t that are kept; none where none of t are
abbrev pub kept_calls : List Kept → ℕ → List PlacedCall
kept_calls [] t = []
kept_calls (q ∷ kept) t = if q.number == t then q.calls else kept_calls kept t

-- the calls of the pass t, by the view into which all others were joined
abbrev pub calls_of_pass : View → ℕ → List PlacedCall
calls_of_pass v t = if v.number == t then v.past.calls else kept_calls v.kept t

-- what a function gives for the numbers below n, from one on
abbrev pub listed : {A : Type 0} → ℕ → (ℕ → A) → List A
listed zero f = []
listed (suc n) f = f 0 ∷ listed n (λ k. f (suc k))

-- the calls of each pass
abbrev pub all_calls : ℕ → View → List (List PlacedCall)
all_calls passes v = listed passes (calls_of_pass v)

-- an unlocked dictionary stands in the words, with these properties
pub record IsWritten (w : Words) (o : ObjId) (z : Object) : Type 0 where
  pub found : Cell
  pub room : ℕ
  pub is_cell : IsCell found
  pub word : w (cell o) ≡ cell_bits found
  pub unlocked : found.locked ≡ false
  pub kind : found.kind ≡ Dictionary
  pub capacity : room ≤ MOST_INDEX + 1
  pub header : stored w found.address ≡ dictionary_header room
  pub properties : HasProperties (λ k. stored w (found.address + k)) room z
  pub words : HasWords z

-- an unlocked object stands in the words, whose keys lie at places: its structure has its names in order, and the header and the
-- spine of its block give the place of each key, which has its value
pub record IsWrittenAtPlaces (w : Words) (shape : Sid → Shape) (o : ObjId) (z : Object) : Type 0 where
  pub found : Cell
  pub is_cell : IsCell found
  pub word : w (cell o) ≡ cell_bits found
  pub unlocked : found.locked ≡ false
  pub kind : is_keyed found.kind ≡ true
  pub names : names_of (shape found.sid) ≡ map (λ p. p.0) z.names
  pub inside : (name : NameId) (j : ℕ) → offset_of (shape found.sid) name ≡ Some j → place_by (is_segmented found.kind) (stored w) o found.address (offset j) ≢ None
  pub values : (key : Key) (y : Spot) (p : Location) → spot_of (shape found.sid) key ≡ Some y → place_by (is_segmented found.kind) (stored w) o found.address y ≡ Some p → values w p ≡ slot_bits (slot_in (property z key))
  pub beyond : (i : ℕ) → place_by (is_segmented found.kind) (stored w) o found.address (element i) ≡ None → property z (Index i) ≡ None
  pub words : HasWords z

-- an object stands in the words, as a dictionary or at places
abbrev pub IsLeft : Words → (Sid → Shape) → ObjId → Object → Type 0
IsLeft w shape o z = IsWritten w o z ⊎ IsWrittenAtPlaces w shape o z

-- The calls of each pass are placed in the log that was seen, so that they make a legal history, and each object stands in the
-- words, as a dictionary where none may be born flat. Shapes are what the nodes say.
pub record HasEnded (passes : ℕ) (w : Words) (v : View) : Type 0 where
  pub placed : ArePlaced passes v.past.seen (all_calls passes v)
  pub node : Sid → Option Node
  pub shape : Sid → Shape
  pub shaped : Shaped passes (nodes w) (first_children w) (siblings w) node shape
  pub objects : (o : ObjId) → IsBorn (after passes v.past.seen) o → IsLeft w shape o (object_of (after passes v.past.seen) o)
  pub dictionaries : v.flat ≡ false → (o : ObjId) → IsBorn (after passes v.past.seen) o → IsWritten w o (object_of (after passes v.past.seen) o)
  pub unborn : (o : ObjId) → (IsBorn (after passes v.past.seen) o → ⊥) → w (cell o) ≡ 0
