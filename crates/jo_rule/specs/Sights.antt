-- What a pass sees and may do: its pins, the licences that rely on watched sets, the words that it knows by them, and its stamps.
use Rattle.std.specs.Prelude.{◌≡◌, ◌≢◌, ◌⊎◌, ℕ, ◌+◌, ◌<◌, ◌≤◌, nat_eq, ◌&&◌, Bool, true, false, if◌then◌else◌, List, [], ◌∷◌, length, map, Option, Some, None}
use mathlib.Core.Option.{some}
use lib.ListN.{get_elem?}
use Rattle.jo_value.specs.declared.capacities.TheConstants.{UNSTAMPED, VALID, FIRING, FIRED}
use Rattle.jo_value.specs.declared.value.Key.{Key}
use Rattle.jo_value.specs.declared.value.Key.TheVariants.{Index}
use Rattle.jo_value.specs.declared.value.NameId.{NameId}
use Rattle.jo_value.specs.declared.value.ObjId.{ObjId}
use Rattle.jo_value.specs.declared.value.Sid.{Sid}
use Rattle.jo_value.specs.declared.words.cell.Cell.{Cell}
use Rattle.jo_value.specs.Values.{is_same_object}
use Rattle.jo_value.specs.Words.{IsSlot, slot_bits}
use Rattle.jo_model.specs.Objects.{property}
use Rattle.jo_model.specs.Heaps.{object_of}
use Rattle.jo_model.specs.Logs.{Log, heap_at}
use Rattle.jo_model.specs.Valid.{IsValidObject}
use Rattle.jo_rule.specs.declared.watched.SetKind.{SetKind}
use Rattle.jo_rule.specs.declared.watched.SetKind.TheVariants.{Transition, Write}
use Rattle.jo_rule.specs.Names.{WordName, transition_set, write_set}
use Rattle.jo_rule.specs.Areas.{Words, is_same_word, is_same_structure}
use Rattle.jo_rule.specs.Marks.{Mark}
use Rattle.jo_rule.specs.Shapes.{Shape, names_of, offset_of}
use Rattle.jo_rule.specs.Spots.{Spot, offset, element, Location, name_of_place, spot_of}
use Rattle.jo_rule.specs.Roles.{Role, value, role_at, frame, IsBlockOf}
use Rattle.jo_rule.specs.Dictionaries.{slot_in}
use Rattle.jo_rule.specs.Contents.{Now, is_keyed, is_flat, is_segmented}
use Rattle.jo_rule.specs.Views.{View, Pin, Licence, Sight, Firing, Sets, Quarantined, Since, Lock, KnownWord}
use Rattle.jo_rule.specs.Lists.{Each, Live}

-- the words of watched sets, by structure and kind
abbrev pub watched : Words → Sid → SetKind → ℕ
watched w s Transition = w (transition_set s)
watched w s Write = w (write_set s)

-- ---- what a pin sees, whatever became of its object

-- The word is that of the key's slot in the object, which has one, as some beginning of the log that has at least n entries leaves it.
-- All that the object holds is valid there.
pub record Valued (passes : ℕ) (log : Log Mark) (o : ObjId) (key : Key) (n word : ℕ) : Type 0 where
  pub at : ℕ
  pub later : n ≤ at
  pub within : at ≤ length log
  pub is : word ≡ slot_bits (slot_in (property (object_of (heap_at passes at log) o) key))
  pub slot : IsSlot (slot_in (property (object_of (heap_at passes at log) o) key))
  pub valid : IsValidObject (heap_at passes at log) (object_of (heap_at passes at log) o)

-- The structure of a pin comes from the root of the object's pass. It has the names of the object where the pin was made, each at a place,
-- and each place has the value of its key there or later.
pub record Sees (passes : ℕ) (v : Location → ℕ) (shape : Shape) (role : ℕ → Role) (log : Log Mark) (p : Pin) : Type 0 where
  pub structure : shape.born ≡ true
  pub root : shape.root ≡ p.object.pass
  pub block : IsBlockOf role (is_segmented p.cell.kind) p.object p.cell.address
  pub inside : (name : NameId) (j : ℕ) → offset_of shape name ≡ Some j → frame role (is_segmented p.cell.kind) p.object p.cell.address (offset j) ≢ None
  pub past : p.place ≤ length log
  pub names : names_of shape ≡ map (λ x. x.0) (object_of (heap_at passes p.place log) p.object).names
  pub values : (key : Key) (y : Spot) (a : Location) → spot_of shape key ≡ Some y → frame role (is_segmented p.cell.kind) p.object p.cell.address y ≡ Some a → Valued passes log p.object key p.place (v a)
  pub beyond : (i : ℕ) → frame role (is_segmented p.cell.kind) p.object p.cell.address (element i) ≡ None → property (object_of (heap_at passes p.place log) p.object) (Index i) ≡ None

-- ---- how its object goes on

-- a pin of the object's owner, one with the bit for writes of others, or one of a segmented block: its places stay those of the object
abbrev pub IsTight : ℕ → Pin → Type 0
IsTight number p = (p.object.pass ≡ number) ⊎ ((p.cell.shared_write ≡ true) ⊎ (is_segmented p.cell.kind ≡ true))

-- A name of a pin is at the same offset in the structure of the cell c, or that offset was given back after the pin was made.
pub record Follows (role : ℕ → Role) (here there : Shape) (c : Cell) (now : Now) (number : ℕ) (p : Pin) : Type 0 where
  pub loose : now.settled ≡ false
  pub below : 0 < now.sealed → p.epoch < now.sealed
  pub bit : p.cell.shared_write ≡ true → c.shared_write ≡ true
  pub segments : is_segmented p.cell.kind ≡ true → is_flat c.kind ≡ false
  pub names : (name : NameId) (j : ℕ) → offset_of there name ≡ Some j → (offset_of here name ≡ Some j) ⊎ (p.epoch < now.stamps j)
  pub tight : IsTight number p → (name : NameId) (j : ℕ) → offset_of there name ≡ Some j → offset_of here name ≡ Some j
  pub current : IsTight number p → (y : Spot) (a : Location) → frame role (is_segmented p.cell.kind) p.object p.cell.address y ≡ Some a → frame role now.segmented p.object c.address y ≡ Some a

-- the object of a pin is born, and goes on from it in its cell
pub record IsFollowed (role : ℕ → Role) (shape : Sid → Shape) (x : Option Cell) (now : Now) (number : ℕ) (p : Pin) : Type 0 where
  pub current : Cell
  pub is : x ≡ Some current
  pub follows : Follows role (shape current.sid) (shape p.cell.sid) current now number p

-- ---- own pins

-- a pin by which its pass may have a licence
pub record IsPlain (number : ℕ) (p : Pin) : Type 0 where
  pub own : p.object.pass ≡ number
  pub flat : is_flat p.cell.kind ≡ true
  pub unlocked : p.cell.locked ≡ false
  pub unshared : p.cell.shared_write ≡ false

-- the cell has the structure and the address of the pin
pub record HasStayed (x : Option Cell) (p : Pin) : Type 0 where
  pub current : Cell
  pub is : x ≡ Some current
  pub structure : current.sid ≡ p.cell.sid
  pub address : current.address ≡ p.cell.address

-- the cell is the pin's, or it has its structure and address, but where the set that watches over that is fired
pub record Owning (sets : Sid → SetKind → ℕ) (x : Option Cell) (number : ℕ) (p : Pin) : Type 0 where
  pub writes : IsPlain number p → (x ≡ Some p.cell) ⊎ (sets p.cell.sid Write ≡ FIRED)
  pub transitions : IsPlain number p → HasStayed x p ⊎ (sets p.cell.sid Transition ≡ FIRED)

-- ---- licences and sets

-- A set that is relied on is not fired; where it has an epoch, the licence is older.
pub record IsRelied (sets sealed : Sid → SetKind → ℕ) (s : Sid) (which : SetKind) (epoch : ℕ) : Type 0 where
  pub unfired : sets s which ≢ FIRED
  pub older : 0 < sealed s which → epoch < sealed s which

-- a licence is by a pin of the pass, and each set that it relies on does not end it
pub record Licensed (sets sealed : Sid → SetKind → ℕ) (pins : List Pin) (number : ℕ) (l : Licence) : Type 0 where
  pub index : ℕ
  pub is : get_elem? pins index ≡ some l.pin
  pub plain : IsPlain number l.pin
  pub writes : l.writes ≡ true → IsRelied sets sealed l.pin.cell.sid Write l.pin.epoch
  pub transitions : l.transitions ≡ true → IsRelied sets sealed l.pin.cell.sid Transition l.pin.epoch

-- a firing that is owed
pub record IsFiring (sets sealed firer : Sid → SetKind → ℕ) (seat : ℕ) (f : Firing) : Type 0 where
  pub state : sets f.structure f.which ≡ FIRING
  pub since : sealed f.structure f.which ≡ f.since
  pub mine : firer f.structure f.which ≡ seat

-- ---- words that are known

-- who may store the word of a slot that no key has, and knows it: by a licence on writes
pub record ByWrites (licences : List Licence) (o : ObjId) : Type 0 where
  pub index : ℕ
  pub licence : Licence
  pub is : get_elem? licences index ≡ some licence
  pub object : licence.pin.object ≡ o
  pub writes : licence.writes ≡ true

-- or by a licence on transitions, for an offset that was never given out
pub record ByTransitions (shape : Sid → Shape) (licences : List Licence) (o : ObjId) (y : Spot) : Type 0 where
  pub index : ℕ
  pub licence : Licence
  pub is : get_elem? licences index ≡ some licence
  pub object : licence.pin.object ≡ o
  pub transitions : licence.transitions ≡ true
  pub at : ℕ
  pub spot_is : y ≡ offset at
  pub unused : (shape licence.pin.cell.sid).top ≤ at

-- or by the lock, with the transition set known to be fired, for an offset that was never given out
pub record ByLock (shape : Sid → Shape) (lock : Option Lock) (fired : List (Sid × SetKind)) (o : ObjId) (y : Spot) : Type 0 where
  pub held : Lock
  pub is : lock ≡ Some held
  pub object : held.object ≡ o
  pub index : ℕ
  pub known : get_elem? fired index ≡ some (held.cell.sid, Transition)
  pub at : ℕ
  pub spot_is : y ≡ offset at
  pub unused : (shape held.cell.sid).top ≤ at

-- one of these three rights
abbrev pub HasRight : (Sid → Shape) → List Licence → Option Lock → List (Sid × SetKind) → ObjId → Spot → Type 0
HasRight shape licences lock fired o y = ByWrites licences o ⊎ (ByTransitions shape licences o y ⊎ ByLock shape lock fired o y)

-- a word that is known is that of a slot of an object, to which there is such a right
pub record IsKnown (v : Location → ℕ) (shape : Sid → Shape) (role : ℕ → Role) (licences : List Licence) (lock : Option Lock) (fired : List (Sid × SetKind)) (name : WordName) (word : ℕ) : Type 0 where
  pub place : Location
  pub name_is : name ≡ name_of_place place
  pub is : v place ≡ word
  pub object : ObjId
  pub spot : Spot
  pub role_is : role_at role place ≡ value object spot
  pub right : HasRight shape licences lock fired object spot

-- what a list says of a word, where it says something
abbrev pub told : List KnownWord → WordName → Option ℕ
told [] name = None
told (k ∷ known) name = if is_same_word name k.at then Some k.word else told known name

-- the stamp of an offset of an object, 0 where it was not given back
abbrev pub stamp_in : List Quarantined → ObjId → ℕ → ℕ
stamp_in [] o j = 0
stamp_in (q ∷ qs) o j = if is_same_object o q.object && nat_eq j q.offset then q.stamp else stamp_in qs o j

-- ---- of one view

-- All this of the items of one view at a seat. `floor` is an epoch that no pin of a pass is older than; `sealed` of a set is 0, or an
-- epoch that each licence which relies on it is below; and `firer` is the seat that fires it.
pub record IsSighted (passes E : ℕ) (v : Location → ℕ) (cells : ObjId → Option Cell) (shape : Sid → Shape) (role : ℕ → Role) (now : ObjId → Now) (sets : Sid → SetKind → ℕ) (log : Log Mark) (floor : ℕ → ℕ) (sealed firer : Sid → SetKind → ℕ)
    (seat number : ℕ) (sight : Sight) (known : Sets) (quarantine : List Quarantined) (clear : List Since) (lock : Option Lock) : Type 0 where
  pub sees : Each sight.pins (λ k p. is_keyed p.cell.kind ≡ true → Sees passes v (shape p.cell.sid) role log p)
  pub follows : Each sight.pins (λ k p. is_keyed p.cell.kind ≡ true → IsFollowed role shape (cells p.object) (now p.object) number p)
  pub owning : Each sight.pins (λ k p. Owning sets (cells p.object) number p)
  pub timed : Each sight.pins (λ k p. (floor number ≤ p.epoch) × (p.epoch ≤ E))
  pub licensed : Each sight.licences (λ k l. Licensed sets sealed sight.pins number l)
  pub firing : (f : Firing) → known.firing ≡ Some f → IsFiring sets sealed firer seat f
  pub fired : Each known.fired (λ k s. sets s.0 s.1 ≡ FIRED)
  pub knows : (name : WordName) (word : ℕ) → told sight.known name ≡ Some word → IsKnown v shape role sight.licences lock known.fired name word
  pub stamped : (o : ObjId) (j : ℕ) → o.pass ≡ number → (now o).stamps j ≡ stamp_in quarantine o j
  pub cleared : Each clear (λ k c. c.epoch ≤ floor c.pass)

-- all this of a view, by its items
abbrev pub ViewIsSighted : ℕ → ℕ → (Location → ℕ) → (ObjId → Option Cell) → (Sid → Shape) → (ℕ → Role) → (ObjId → Now) → (Sid → SetKind → ℕ) → Log Mark → (ℕ → ℕ) → (Sid → SetKind → ℕ) → (Sid → SetKind → ℕ) → ℕ → View → Type 0
ViewIsSighted passes E v cells shape role now sets log floor sealed firer seat y =
    IsSighted passes E v cells shape role now sets log floor sealed firer seat y.number y.sight y.sets y.quarantine y.time.clear y.lock

-- all this of each live view, and what is common to them
pub record Sights (passes E : ℕ) (v : Location → ℕ) (cells : ObjId → Option Cell) (shape : Sid → Shape) (role : ℕ → Role) (now : ObjId → Now) (sets : Sid → SetKind → ℕ) (log : Log Mark) (views : List View) : Type 0 where
  pub floor : ℕ → ℕ
  pub sealed : Sid → SetKind → ℕ
  pub firer : Sid → SetKind → ℕ
  pub each : Live views (ViewIsSighted passes E v cells shape role now sets log floor sealed firer)
  pub floors : (q : ℕ) → floor q ≤ E
  pub few : E + 1 < UNSTAMPED
  pub states : (s : Sid) (which : SetKind) → (sets s which ≡ VALID) ⊎ ((sets s which ≡ FIRING) ⊎ (sets s which ≡ FIRED))
  pub unsealed : (s : Sid) (which : SetKind) → sets s which ≡ VALID → sealed s which ≡ 0

-- the word of a set
abbrev pub name_of_set : Sid → SetKind → WordName
name_of_set s Transition = transition_set s
name_of_set s Write = write_set s

-- whether two kinds of sets are one
abbrev pub is_same_kind : SetKind → SetKind → Bool
is_same_kind Transition Transition = true
is_same_kind Write Write = true
is_same_kind _ _ = false

-- a function of sets, where that of one is x
abbrev pub set_watched : (Sid → SetKind → ℕ) → Sid → SetKind → ℕ → Sid → SetKind → ℕ
set_watched f s which x t kind = if is_same_structure t s && is_same_kind kind which then x else f t kind
