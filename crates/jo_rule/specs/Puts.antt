-- What a store to one value word makes of an object.
use Rattle.std.specs.Prelude.{◌≡◌, ◌≢◌, ◌⊎◌, ℕ, ◌+◌, ◌<◌, ◌≤◌, true, List, [], ◌∷◌, ◌++◌, map, Some, if◌then◌else◌}
use Rattle.jo_value.specs.declared.value.Key.{Key}
use Rattle.jo_value.specs.declared.value.Key.TheVariants.{Name, Index}
use Rattle.jo_value.specs.declared.value.NameId.{NameId}
use Rattle.jo_value.specs.Values.{is_same_name}
use mathlib.Core.Option.{some}
use lib.ListN.{get_elem?}
use Rattle.jo_value.specs.declared.value.ObjId.{ObjId}
use Rattle.jo_value.specs.Words.{slot_bits}
use Rattle.jo_model.specs.Objects.{Object, property}
use Rattle.jo_rule.specs.declared.event.Event.{Event}
use Rattle.jo_rule.specs.Dictionaries.{slot_in}
use Rattle.jo_rule.specs.Shapes.{Shape, names_of, offset_of}
use Rattle.jo_rule.specs.Spots.{Spot, spot_of}
use Rattle.jo_value.specs.declared.words.cell.Cell.{Cell}
use Rattle.jo_rule.specs.Views.{View, Since, Licence}
use Rattle.jo_rule.specs.Counted.{adds_to, removes_from, name_count}
use Rattle.jo_rule.specs.Concluded.{NotOpened}
use Rattle.jo_rule.specs.Events.{MayPlace, IsEventOn, object_after_event}

-- the object has another slot at the key, whose word is x; all else of it, and the order of its names, is the same
pub record PutsIn (z z' : Object) (key : Key) (x : ℕ) : Type 0 where
  pub names : map (λ p. p.0) z'.names ≡ map (λ p. p.0) z.names
  pub here : x ≡ slot_bits (slot_in (property z' key))
  pub others : (q : Key) → q ≢ key → property z' q ≡ property z q

-- The event is a call on the object that puts the slot with the word x at the key, where the object has the names of this shape and the
-- word at the key is the one that is there. The pass has no object opened.
pub record MayPut (passes : ℕ) (v : View) (event : Event) (o : ObjId) (shape : Shape) (key : Key) (word x : ℕ) : Type 0 where
  pub unopened : NotOpened v.lock
  pub may : MayPlace passes v event
  pub on : IsEventOn o event
  pub puts : (z : Object) → names_of shape ≡ map (λ p. p.0) z.names → word ≡ slot_bits (slot_in (property z key)) → PutsIn z (object_after_event event z) key x
  pub steady : (z : Object) → names_of shape ≡ map (λ p. p.0) z.names → word ≡ slot_bits (slot_in (property z key)) → (adds_to event z ≡ 0) × (removes_from event z ≡ 0)

-- the cell of each other pass's pins was loaded in this epoch or later
abbrev pub AllClear : ℕ → View → ℕ → Type 0
AllClear passes v e = (q : ℕ) → q < passes → q ≢ v.number → (k : ℕ) × (c : Since) × (get_elem? v.time.clear k ≡ some c) × (c.pass ≡ q) × (e ≤ c.epoch)

-- the names with that of a key last, where it is one
abbrev pub names_with : Key → List NameId → List NameId
names_with (Name name) names = names ++ name ∷ []
names_with (Index index) names = names

-- An owner adds a key by a store of the cell where its licence relies on both sets. By one on the transition set alone it adds one in the
-- old block, by an exchange.
pub record MayGrow (l : Licence) (c : Cell) : Type 0 where
  pub transitions : l.transitions ≡ true
  pub place : (l.writes ≡ true) ⊎ (c.address ≡ l.pin.cell.address)

-- the object has a slot more, at a key that it had not, whose word is x
pub record AddsIn (z z' : Object) (key : Key) (x : ℕ) : Type 0 where
  pub names : map (λ p. p.0) z'.names ≡ names_with key (map (λ p. p.0) z.names)
  pub here : x ≡ slot_bits (slot_in (property z' key))
  pub others : (q : Key) → q ≢ key → property z' q ≡ property z q

-- the names without one
abbrev pub left_of : NameId → List NameId → List NameId
left_of name [] = []
left_of name (m ∷ names) = if is_same_name m name then names else m ∷ left_of name names

-- the object is without a name
pub record TakesOut (z z' : Object) (name : NameId) : Type 0 where
  pub names : map (λ p. p.0) z'.names ≡ left_of name (map (λ p. p.0) z.names)
  pub others : (q : Key) → q ≢ Name name → property z' q ≡ property z q

-- the event is a call on the object that adds a slot, where the object has the names of this shape
pub record MayAdd (passes : ℕ) (v : View) (event : Event) (o : ObjId) (shape : Shape) (key : Key) (x : ℕ) : Type 0 where
  pub unopened : NotOpened v.lock
  pub may : MayPlace passes v event
  pub on : IsEventOn o event
  pub adds : (z : Object) → names_of shape ≡ map (λ p. p.0) z.names → AddsIn z (object_after_event event z) key x
  pub counts : (z : Object) → names_of shape ≡ map (λ p. p.0) z.names → (adds_to event z ≡ name_count key) × (removes_from event z ≡ 0)

-- the event is a call on the object that takes a name out of it, where the object has the names of this shape
pub record MayTakeOut (passes : ℕ) (v : View) (event : Event) (o : ObjId) (shape : Shape) (name : NameId) : Type 0 where
  pub unopened : NotOpened v.lock
  pub may : MayPlace passes v event
  pub on : IsEventOn o event
  pub takes : (z : Object) → names_of shape ≡ map (λ p. p.0) z.names → TakesOut z (object_after_event event z) name
  pub counts : (z : Object) → names_of shape ≡ map (λ p. p.0) z.names → (adds_to event z ≡ 0) × (removes_from event z ≡ 1)

-- z' has one slot more than z, at the offset or index y; where it is an offset, `fresh` says that of each that is not one of z
pub record Widens (z z' : Shape) (key : Key) (y : Spot) (fresh : ℕ → Type 0) : Type 0 where
  pub here : spot_of z' key ≡ Some y
  pub others : (q : Key) → q ≢ key → spot_of z' q ≡ spot_of z q
  pub names : names_of z' ≡ names_with key (names_of z)
  pub keep : (name : NameId) (j : ℕ) → offset_of z name ≡ Some j → offset_of z' name ≡ Some j
  pub back : (name : NameId) (j : ℕ) → offset_of z' name ≡ Some j → (offset_of z name ≡ Some j) ⊎ fresh j
  pub top : z.top ≤ z'.top
  pub high : z'.top ≤ z.top + name_count key
  pub depth : z'.depth ≡ z.depth + name_count key
  pub root : z'.root ≡ z.root
  pub born : z'.born ≡ true
