-- What words stand for: it stays where a word is stored that no free object reads, where roles grow, where structures are born, and
-- where the cell of one object changes.
use Rattle.std.proofs.Common.{◌≡◌, ◌≢◌, ◌⊎◌, ◌+◌, ◌*◌, ◌<◌, ◌≤◌, ℕ, Bool, true, false, refl, sym, ap, ◌∙◌, subst, ⊎_elim, arith, length, Option, Some, None}
use Rattle.std.specs.Prelude.{nat_lt}
use Rattle.std.proofs.lemmas.Bool.{both_ways, cases_Bool}
use Rattle.std.proofs.lemmas.Option.{slice_get_within}
use Rattle.jo_value.specs.declared.capacities.TheConstants.{DICTIONARY_NEED}
use Rattle.jo_value.specs.declared.limits.TheConstants.{MOST_STORAGE, MOST_INDEX}
use Rattle.jo_value.specs.declared.value.Key.{Key}
use Rattle.jo_value.specs.declared.value.Key.TheVariants.{Index}
use Rattle.jo_value.specs.declared.value.ObjId.{ObjId}
use Rattle.jo_value.specs.declared.value.Sid.{Sid}
use Rattle.jo_value.specs.declared.words.cell.Cell.{Cell}
use Rattle.jo_value.specs.declared.words.cell.Kind.{Kind}
use Rattle.jo_value.specs.declared.words.cell.Kind.TheVariants.{Flat, Segmented, Opening, Dictionary}
use Rattle.jo_value.specs.declared.value.Value.{Value}
use Rattle.jo_value.specs.Words.{cell_bits, slot_bits}
use Rattle.jo_model.specs.Objects.{Object, property}
use Rattle.jo_model.specs.Heaps.{Heap, objects_of, object_of}
use Rattle.jo_model.specs.Valid.{IsValidHeap}
use Rattle.jo_rule.specs.Areas.{set_object}
use Rattle.jo_rule.specs.Shapes.{Shape, IsShape}
use Rattle.jo_rule.specs.Spots.{Spot, offset, element, Location, stored_at, spot_of}
use Rattle.jo_rule.specs.Roles.{Role, unnamed, fixed, value, dictionary, Grows, role_at, frame, IsBlockOf}
use Rattle.jo_rule.specs.Dictionaries.{slot_in, block_size, dictionary_header, HasProperties}
use Rattle.jo_rule.specs.Contents.{Now, unborn_now, word_of_cell, is_born, is_keyed, is_dictionary, AreCells, StandsAsDictionary, HasKeys, StandsAtPlaces, StandsAs, Standing, Stands, HasWords, Contents}
use Rattle.jo_rule.specs.Puts.{PutsIn}
use Rattle.jo_rule.proofs.Layouts.{frame_grows, block_grows, fixed_named, same_spot, one_place}
use Rattle.jo_rule.proofs.Keys.{cases_key, one_key, one_spot}
use Rattle.jo_rule.proofs.Sets.{cases_object, object_here, object_else}

-- ---- the block of a dictionary is read by its own words alone

pub same_properties : (f g : ℕ → ℕ) (room : ℕ) (z : Object) → ((k : ℕ) → 0 < k → k < block_size room → g k ≡ f k) → HasProperties f room z → HasProperties g room z
same_properties f g room z same h = record {
  few = h.few;
  count = same 1 (omega arith) (omega arith) ∙ h.count;
  names = λ j name v e.
      let lt = slice_get_within z.names j (name, v) e in
      let few = h.few in
      (same (2 + 2 * j) (omega arith) (omega arith) ∙ (h.names j name v e).0, same (3 + 2 * j) (omega arith) (omega arith) ∙ (h.names j name v e).1);
  elements = λ i lt. same (DICTIONARY_NEED + i) (omega arith) (omega arith) ∙ h.elements i lt;
  beyond = h.beyond;
}

-- ---- kinds

-- a dictionary is what a cell of this kind stands for
pub as_dictionary : (k : Kind) (v : Location → ℕ) (shape : Shape) {role : ℕ → Role} {o : ObjId} {c : Cell} {now : Now} {z : Object} → k ≡ Dictionary → StandsAsDictionary (λ a. v (stored_at a)) role o c now z → StandsAs k v role shape o c now z
as_dictionary k v shape {role} {o} {c} {now} {z} is h = subst (λ (x : Kind). StandsAs x v role shape o c now z) (sym is) h

pub kind_is_dictionary : (k : Kind) → is_dictionary k ≡ true → k ≡ Dictionary
kind_is_dictionary Flat e = (let no : false ≡ true = e in absurd cc)
kind_is_dictionary Segmented e = (let no : false ≡ true = e in absurd cc)
kind_is_dictionary Opening e = (let no : false ≡ true = e in absurd cc)
kind_is_dictionary Dictionary e = refl

pub keyed_no_dictionary : (k : Kind) → is_keyed k ≡ true → is_dictionary k ≡ false
keyed_no_dictionary Flat e = refl
keyed_no_dictionary Segmented e = refl
keyed_no_dictionary Opening e = refl
keyed_no_dictionary Dictionary e = (let no : false ≡ true = e in absurd cc)

-- one that is no dictionary has its keys at places
places_by : (k : Kind) (v : Location → ℕ) (role : ℕ → Role) (shape : Shape) (o : ObjId) (c : Cell) (now : Now) (z : Object) → is_dictionary k ≡ false → StandsAs k v role shape o c now z → StandsAtPlaces v role shape o c now z
places_by Flat v role shape o c now z e h = h.1
places_by Segmented v role shape o c now z e h = h.1
places_by Opening v role shape o c now z e h = h.1
places_by Dictionary v role shape o c now z e h = (let no : true ≡ false = e in absurd cc)

module _ {v : Location → ℕ} {role : ℕ → Role} {shape : Shape} {o : ObjId} {c : Cell} {now : Now} {z : Object} (h : Standing v role shape o c now z) where
  pub dictionary_of : c.kind ≡ Dictionary → StandsAsDictionary (λ a. v (stored_at a)) role o c now z
  dictionary_of is = subst (λ (x : Kind). StandsAs x v role shape o c now z) is h.kind

  pub places_of : is_dictionary c.kind ≡ false → StandsAtPlaces v role shape o c now z
  places_of e = places_by c.kind v role shape o c now z e h.kind

  -- one that is not settled is no dictionary
  pub unsettled_places : now.settled ≡ false → is_dictionary c.kind ≡ false
  unsettled_places loose = ⊎_elim
      (λ (e : is_dictionary c.kind ≡ true). absurd (both_ways now.settled loose (dictionary_of (kind_is_dictionary c.kind e)).settled))
      (λ (e : is_dictionary c.kind ≡ false). e) (cases_Bool (is_dictionary c.kind))

not_nameless_word : (a : ℕ) (role : ℕ → Role) (o : ObjId) → role a ≡ dictionary o → role a ≢ unnamed
not_nameless_word a role o e f = (let no : dictionary o ≡ unnamed = sym e ∙ f in cc)

-- ---- roles grow

pub keys_grow : {v : Location → ℕ} {role role' : ℕ → Role} {sg : Bool} {shape : Shape} {o : ObjId} {b : ℕ} {z : Object} → Grows role role' → IsBlockOf role sg o b → HasKeys v role sg shape o b z → HasKeys v role' sg shape o b z
keys_grow {v} {role} {role'} {sg} {shape} {o} {b} {z} grows block h = record {
  names = h.names;
  inside = λ name j e f. h.inside name j e (sym (frame_grows grows block (offset j)) ∙ f);
  values = λ key y p e f. h.values key y p e (sym (frame_grows grows block y) ∙ f);
  beyond = λ i f. h.beyond i (sym (frame_grows grows block (element i)) ∙ f);
}

places_grow : {v : Location → ℕ} {role role' : ℕ → Role} {shape : Shape} {o : ObjId} {c : Cell} {now : Now} {z : Object} → Grows role role' → StandsAtPlaces v role shape o c now z → StandsAtPlaces v role' shape o c now z
places_grow grows h = record { block = block_grows grows h.block; keys = keys_grow grows h.block h.keys; unused = h.unused; under = h.under }

stands_as_grows : (k : Kind) (v : Location → ℕ) (role role' : ℕ → Role) (shape : Shape) (o : ObjId) (c : Cell) (now : Now) (z : Object) → Grows role role' → StandsAs k v role shape o c now z → StandsAs k v role' shape o c now z
stands_as_grows Flat v role role' shape o c now z grows h = (h.0, places_grow grows h.1)
stands_as_grows Segmented v role role' shape o c now z grows h = (h.0, places_grow grows h.1)
stands_as_grows Opening v role role' shape o c now z grows h = (h.0, places_grow grows h.1)
stands_as_grows Dictionary v role role' shape o c now z grows h = record {
  settled = h.settled;
  capacity = h.capacity;
  header = grows c.address (fixed_named role c.address (dictionary_header now.room) h.header) ∙ h.header;
  words = λ k lt le. grows (c.address + k) (not_nameless_word (c.address + k) role o (h.words k lt le)) ∙ h.words k lt le;
  properties = h.properties;
}

pub standing_grows : {v : Location → ℕ} {role role' : ℕ → Role} {shape : Shape} {o : ObjId} {c : Cell} {now : Now} {z : Object} → Grows role role' → Standing v role shape o c now z → Standing v role' shape o c now z
standing_grows {v} {role} {role'} {shape} {o} {c} {now} {z} grows h = record { cell = h.cell; structure = h.structure; root = h.root; owner = h.owner; kind = stands_as_grows c.kind v role role' shape o c now z grows h.kind }

-- ---- a word is stored that none of an object's own reads, unless its lock is held

-- the word at q is no value of a key, and that of no dictionary whose lock is free
module _ (v v' : Location → ℕ) (role : ℕ → Role) (shape : Shape) (o : ObjId) (q : Location) (else_ : (p : Location) → p ≢ q → v' p ≡ v p) (hidden : (key : Key) (y : Spot) → spot_of shape key ≡ Some y → role_at role q ≢ value o y) where
  places_store : {c : Cell} {now : Now} {z : Object} → StandsAtPlaces v role shape o c now z → StandsAtPlaces v' role shape o c now z
  places_store {c} {now} {z} h = record {
    block = h.block;
    keys = record {
      names = h.keys.names;
      inside = h.keys.inside;
      values = λ key y p e f. else_ p (λ g. hidden key y e (ap (role_at role) (sym g) ∙ h.block.mine y p f)) ∙ h.keys.values key y p e f;
      beyond = h.keys.beyond;
    };
    unused = h.unused;
    under = h.under;
  }

  stands_as_stores : (k : Kind) (c : Cell) (now : Now) (z : Object) → (role_at role q ≡ dictionary o → c.locked ≡ true) → StandsAs k v role shape o c now z → StandsAs k v' role shape o c now z
  stands_as_stores Flat c now z held h = (h.0, places_store h.1)
  stands_as_stores Segmented c now z held h = (h.0, places_store h.1)
  stands_as_stores Opening c now z held h = (h.0, places_store h.1)
  stands_as_stores Dictionary c now z held h = record {
    settled = h.settled;
    capacity = h.capacity;
    header = h.header;
    words = h.words;
    properties = λ free. same_properties (λ k. v (stored_at (c.address + k))) (λ k. v' (stored_at (c.address + k))) now.room z
        (λ k lt le. else_ (stored_at (c.address + k)) (λ e. both_ways c.locked free (held (ap (role_at role) (sym e) ∙ h.words k lt le)))) (h.properties free);
  }

  standing_stores : {c : Cell} {now : Now} {z : Object} → (role_at role q ≡ dictionary o → c.locked ≡ true) → Standing v role shape o c now z → Standing v' role shape o c now z
  standing_stores {c} {now} {z} held h = record { cell = h.cell; structure = h.structure; root = h.root; owner = h.owner; kind = stands_as_stores c.kind c now z held h.kind }

-- ---- the word of a key is stored

-- what the places of an object are, where they become others
places_map : (k : Kind) (v v' : Location → ℕ) (role : ℕ → Role) (shape : Shape) (o : ObjId) (c : Cell) (now : Now) (z z' : Object) → now.settled ≡ false → (StandsAtPlaces v role shape o c now z → StandsAtPlaces v' role shape o c now z') → StandsAs k v role shape o c now z → StandsAs k v' role shape o c now z'
places_map Flat v v' role shape o c now z z' loose go h = (h.0, go h.1)
places_map Segmented v v' role shape o c now z z' loose go h = (h.0, go h.1)
places_map Opening v v' role shape o c now z z' loose go h = (h.0, go h.1)
places_map Dictionary v v' role shape o c now z z' loose go h = absurd (both_ways now.settled loose h.settled)

keys_put : {v v' : Location → ℕ} {role : ℕ → Role} {sg : Bool} {shape : Shape} {o : ObjId} {b : ℕ} {z z' : Object} (key : Key) (y : Spot) (a : Location) → IsShape shape → IsBlockOf role sg o b → ((p : Location) → p ≢ a → v' p ≡ v p) → spot_of shape key ≡ Some y → frame role sg o b y ≡ Some a → PutsIn z z' key (v' a)
    → HasKeys v role sg shape o b z → HasKeys v' role sg shape o b z'
keys_put {v} {v'} {role} {sg} {shape} {o} {b} {z} {z'} key y a formed block else_ at place puts h = record {
  names = h.names ∙ sym puts.names;
  inside = h.inside;
  values = λ q x p e f. ⊎_elim
      (λ (g : q ≡ key).
      let same : x ≡ y = one_spot (spot_of shape key) x y (ap (spot_of shape) (sym g) ∙ e) at in
      let there : p ≡ a = one_place (frame role sg o b y) p a (ap (frame role sg o b) (sym same) ∙ f) place in
      ap v' there ∙ (puts.here ∙ ap (λ (k : Key). slot_bits (slot_in (property z' k))) (sym g)))
      (λ (g : q ≢ key).
      let away : p ≢ a = λ n. g (one_key shape formed q key y (e ∙ ap (λ (s : Spot). Some s) (same_spot role p x y (block.mine x p f) (ap (role_at role) n ∙ block.mine y a place)).1) at) in
      else_ p away ∙ (h.values q x p e f ∙ ap (λ (k : Option Value). slot_bits (slot_in k)) (sym (puts.others q g)))) (cases_key q key);
  beyond = λ i f.
      let no : Index i ≢ key = λ g. (let same : element i ≡ y = one_spot (spot_of shape key) (element i) y (ap (spot_of shape) (sym g)) at in let bad : None ≡ Some a = sym f ∙ (ap (frame role sg o b) same ∙ place) in cc) in
      puts.others (Index i) no ∙ h.beyond i f;
}

pub standing_puts : {v v' : Location → ℕ} {role : ℕ → Role} {shape : Shape} {o : ObjId} {c : Cell} {now : Now} {z z' : Object} (key : Key) (y : Spot) (a : Location) → IsShape shape → ((p : Location) → p ≢ a → v' p ≡ v p) → now.settled ≡ false → spot_of shape key ≡ Some y → frame role now.segmented o c.address y ≡ Some a → PutsIn z z' key (v' a)
    → Standing v role shape o c now z → Standing v' role shape o c now z'
standing_puts {v} {v'} {role} {shape} {o} {c} {now} {z} {z'} key y a formed else_ loose at place puts h = record {
  cell = h.cell;
  structure = h.structure;
  root = h.root;
  owner = h.owner;
  kind = places_map c.kind v v' role shape o c now z z' loose (λ t. record { block = t.block; keys = keys_put key y a formed t.block else_ at place puts t.keys; unused = t.unused; under = t.under }) h.kind;
}

-- ---- the state of an object changes

places_now : (v : Location → ℕ) (role : ℕ → Role) (shape : Shape) (o : ObjId) (c : Cell) (now now' : Now) (z : Object) → now'.segmented ≡ now.segmented → ((j : ℕ) → 0 < now'.stamps j → 0 < now.stamps j) → StandsAtPlaces v role shape o c now z → StandsAtPlaces v role shape o c now' z
places_now v role shape o c now now' z segmented stamps h = record {
  block = subst (λ (b : Bool). IsBlockOf role b o c.address) (sym segmented) h.block;
  keys = subst (λ (b : Bool). HasKeys v role b shape o c.address z) (sym segmented) h.keys;
  unused = λ j name lt. h.unused j name (stamps j lt);
  under = λ j lt. h.under j (stamps j lt);
}

-- stamps change, and no other state
stands_now : (k : Kind) (v : Location → ℕ) (role : ℕ → Role) (shape : Shape) (o : ObjId) (c : Cell) (now now' : Now) (z : Object) → now'.settled ≡ now.settled → now'.segmented ≡ now.segmented → now'.sealed ≡ now.sealed → now'.room ≡ now.room → ((j : ℕ) → 0 < now'.stamps j → 0 < now.stamps j) → StandsAs k v role shape o c now z → StandsAs k v role shape o c now' z
stands_now Flat v role shape o c now now' z settled segmented sealed room stamps h = (record { settled = settled ∙ h.0.settled; segmented_is = segmented ∙ h.0.segmented_is; sealed = sealed ∙ h.0.sealed }, places_now v role shape o c now now' z segmented stamps h.1)
stands_now Segmented v role shape o c now now' z settled segmented sealed room stamps h = (record { settled = settled ∙ h.0.settled; segmented_is = segmented ∙ h.0.segmented_is; sealed = sealed ∙ h.0.sealed }, places_now v role shape o c now now' z segmented stamps h.1)
stands_now Opening v role shape o c now now' z settled segmented sealed room stamps h = (h.0, places_now v role shape o c now now' z segmented stamps h.1)
stands_now Dictionary v role shape o c now now' z settled segmented sealed room stamps h = record {
  settled = settled ∙ h.settled;
  capacity = subst (λ (n : ℕ). n ≤ MOST_INDEX + 1) (sym room) h.capacity;
  header = h.header ∙ ap (λ (n : ℕ). fixed (dictionary_header n)) (sym room);
  words = λ k lo hi. h.words k lo (subst (λ (n : ℕ). k < block_size n) room hi);
  properties = λ free. subst (λ (n : ℕ). HasProperties (λ k. v (stored_at (c.address + k))) n z) (sym room) (h.properties free);
}

pub standing_now : {v : Location → ℕ} {role : ℕ → Role} {shape : Shape} {o : ObjId} {c : Cell} {now now' : Now} {z : Object} → now'.settled ≡ now.settled → now'.segmented ≡ now.segmented → now'.sealed ≡ now.sealed → now'.room ≡ now.room → ((j : ℕ) → 0 < now'.stamps j → 0 < now.stamps j) → Standing v role shape o c now z → Standing v role shape o c now' z
standing_now {v} {role} {shape} {o} {c} {now} {now'} {z} settled segmented sealed room stamps h = record { cell = h.cell; structure = h.structure; root = h.root; owner = h.owner; kind = stands_now c.kind v role shape o c now now' z settled segmented sealed room stamps h.kind }

-- the state of an object that is opening changes, but for its block and stamps
pub standing_opening : {v : Location → ℕ} {role : ℕ → Role} {shape : Shape} {o : ObjId} {c : Cell} {now now' : Now} {z : Object} → c.kind ≡ Opening → now'.segmented ≡ now.segmented → ((j : ℕ) → now'.stamps j ≡ now.stamps j) → Standing v role shape o c now z → Standing v role shape o c now' z
standing_opening {v} {role} {shape} {o} {c} {now} {now'} {z} kind segmented stamps h =
    let t = subst (λ (k : Kind). StandsAs k v role shape o c now z) kind h.kind in record {
      cell = h.cell;
      structure = h.structure;
      root = h.root;
      owner = h.owner;
      kind = subst (λ (k : Kind). StandsAs k v role shape o c now' z) (sym kind) (t.0, places_now v role shape o c now now' z segmented (λ j lt. subst (λ (n : ℕ). 0 < n) (stamps j) lt) t.1);
    }

-- ---- objects, one by one

stands_grows : (v : Location → ℕ) (role role' : ℕ → Role) (shape : Sid → Shape) (o : ObjId) (x : Option Cell) (now : Now) (z z' : Object) → Grows role role' → z' ≡ z → Stands v role shape o x now z → Stands v role' shape o x now z'
stands_grows v role role' shape o None now z z' grows same h = (h.0, same ∙ h.1)
stands_grows v role role' shape o (Some c) now z z' grows same h = subst (λ (y : Object). Standing v role' (shape c.sid) o c now y) (sym same) (standing_grows grows h)

stands_stores : (v v' : Location → ℕ) (role : ℕ → Role) (shape : Sid → Shape) (o : ObjId) (x : Option Cell) (now : Now) (z : Object) (q : Location) → ((p : Location) → p ≢ q → v' p ≡ v p) → ((c : Cell) → x ≡ Some c → (key : Key) (y : Spot) → spot_of (shape c.sid) key ≡ Some y → role_at role q ≢ value o y)
    → ((c : Cell) → x ≡ Some c → role_at role q ≡ dictionary o → c.locked ≡ true) → Stands v role shape o x now z → Stands v' role shape o x now z
stands_stores v v' role shape o None now z q else_ hidden held h = h
stands_stores v v' role shape o (Some c) now z q else_ hidden held h = standing_stores v v' role (shape c.sid) o q else_ (hidden c refl) (held c refl) h

-- shapes are others, but for the structure of the cell
stands_shapes : (v : Location → ℕ) (role : ℕ → Role) (shape shape' : Sid → Shape) (o : ObjId) (x : Option Cell) (now : Now) (z : Object) → ((s : Sid) → (shape s).born ≡ true → shape' s ≡ shape s) → Stands v role shape o x now z → Stands v role shape' o x now z
stands_shapes v role shape shape' o None now z kept h = h
stands_shapes v role shape shape' o (Some c) now z kept h = subst (λ (y : Shape). Standing v role y o c now z) (sym (kept c.sid h.structure)) h

standing_of : (v : Location → ℕ) (role : ℕ → Role) (shape : Sid → Shape) (o : ObjId) (x : Option Cell) (now : Now) (z : Object) (c : Cell) → x ≡ Some c → Stands v role shape o x now z → Standing v role (shape c.sid) o c now z
standing_of v role shape o x now z c is h = subst (λ (y : Option Cell). Stands v role shape o y now z) is h

-- an unborn object has no cell
pub unborn_cell : (x : Option Cell) → is_born x ≡ false → x ≡ None
unborn_cell None e = refl
unborn_cell (Some c) e = (let no : true ≡ false = e in absurd cc)

unborn_by : (v : Location → ℕ) (role : ℕ → Role) (shape : Sid → Shape) (o : ObjId) (x : Option Cell) (now : Now) (z : Object) → x ≡ None → Stands v role shape o x now z → now ≡ unborn_now
unborn_by v role shape o None now z e h = h.0
unborn_by v role shape o (Some c) now z e h = (let no : Some c ≡ None = e in absurd cc)

module _ {P : ℕ} {v : Location → ℕ} {cells : ObjId → Option Cell} {shape : Sid → Shape} {role : ℕ → Role} {now : ObjId → Now} {heap : Heap} (r : Contents P v cells shape role now heap) where
  -- a born object has a standing cell
  pub standing : (o : ObjId) (c : Cell) → cells o ≡ Some c → Standing v role (shape c.sid) o c (now o) (object_of heap o)
  standing o c is = standing_of v role shape o (cells o) (now o) (object_of heap o) c is (r.stands o)

  pub standing_dictionary : (o : ObjId) (c : Cell) → cells o ≡ Some c → c.kind ≡ Dictionary → StandsAsDictionary (λ a. v (stored_at a)) role o c (now o) (object_of heap o)
  standing_dictionary o c is kind = dictionary_of (standing o c is) kind

  -- what is said of an object that is not born
  pub unborn_state : (o : ObjId) → cells o ≡ None → now o ≡ unborn_now
  unborn_state o e = unborn_by v role shape o (cells o) (now o) (object_of heap o) e (r.stands o)

  -- address 0 is no block, and its word is 0
  pub zero_is_zero : v (stored_at 0) ≡ 0
  zero_is_zero = r.still 0 0 r.origin

  -- no dictionary has its block there
  pub no_block_at_zero : (o : ObjId) (c : Cell) → cells o ≡ Some c → c.kind ≡ Dictionary → c.address ≢ 0
  no_block_at_zero o c is kind at =
      let d = standing_dictionary o c is kind in
      let both : fixed (dictionary_header (now o).room) ≡ fixed 0 = sym d.header ∙ (ap role at ∙ r.origin) in
      let one : dictionary_header (now o).room ≡ 0 = cc in
      omega (arith, one)

  -- a word is stored that does not stay for ever and is no key's; where it is a dictionary's, that is locked
  pub stores_contents : {v' : Location → ℕ} (q : Location) → ((p : Location) → p ≢ q → v' p ≡ v p) → ((word : ℕ) → role_at role q ≢ fixed word)
      → ((o : ObjId) (c : Cell) → cells o ≡ Some c → (key : Key) (y : Spot) → spot_of (shape c.sid) key ≡ Some y → role_at role q ≢ value o y)
      → ((o : ObjId) (c : Cell) → cells o ≡ Some c → role_at role q ≡ dictionary o → c.locked ≡ true) → Contents P v' cells shape role now heap
  stores_contents {v'} q else_ loose hidden held = record {
    stands = λ o. stands_stores v v' role shape o (cells o) (now o) (object_of heap o) q else_ (hidden o) (held o) (r.stands o);
    born = r.born;
    still = λ b word e. else_ (stored_at b) (λ f. loose word (ap (role_at role) (sym f) ∙ e)) ∙ r.still b word e;
    origin = r.origin;
    inside = r.inside;
    words = r.words;
    valid = r.valid;
  }

  -- a structure is born
  pub shapes_contents : {shape' : Sid → Shape} → ((s : Sid) → (shape s).born ≡ true → shape' s ≡ shape s) → Contents P v cells shape' role now heap
  shapes_contents {shape'} kept = record {
    stands = λ o. stands_shapes v role shape shape' o (cells o) (now o) (object_of heap o) kept (r.stands o);
    born = r.born;
    still = r.still;
    origin = r.origin;
    inside = r.inside;
    words = r.words;
    valid = r.valid;
  }

  -- the word of a key is stored, and its object changes there alone
  pub puts_contents : {v' : Location → ℕ} {heap' : Heap} (o : ObjId) (c : Cell) (key : Key) (y : Spot) (a : Location) → ((s : Sid) → IsShape (shape s)) → ((p : Location) → p ≢ a → v' p ≡ v p) → cells o ≡ Some c → (now o).settled ≡ false → spot_of (shape c.sid) key ≡ Some y → frame role (now o).segmented o c.address y ≡ Some a
      → PutsIn (object_of heap o) (object_of heap' o) key (v' a) → ((q : ObjId) → q ≢ o → object_of heap' q ≡ object_of heap q) → ((p : ℕ) → length (objects_of heap' p) ≡ length (objects_of heap p)) → HasWords (object_of heap' o) → IsValidHeap heap' → Contents P v' cells shape role now heap'
  puts_contents {v'} {heap'} o c key y a formed else_ cell loose at place puts others lengths words valid =
      let st = standing o c cell in
      let role_is : role_at role a ≡ value o y = (places_of st (unsettled_places st loose)).block.mine y a place in record {
        stands = λ q. ⊎_elim
            (λ (e : q ≡ o). subst (λ (x : ObjId). Stands v' role shape x (cells x) (now x) (object_of heap' x)) (sym e)
            (subst (λ (x : Option Cell). Stands v' role shape o x (now o) (object_of heap' o)) (sym cell) (standing_puts key y a (formed c.sid) else_ loose at place puts st)))
            (λ (n : q ≢ o). subst (λ (z : Object). Stands v' role shape q (cells q) (now q) z) (sym (others q n)) (stands_stores v v' role shape q (cells q) (now q) (object_of heap q) a else_
            (λ d is k x e f. n (sym (same_spot role a y x role_is f).0)) (λ d is f. (let no : value o y ≡ dictionary q = sym role_is ∙ f in absurd cc)) (r.stands q))) (cases_object q o);
        born = λ q. r.born q ∙ ap (nat_lt q.serial) (sym (lengths q.pass));
        still = λ b word e. else_ (stored_at b) (λ f. let no : value o y ≡ fixed word = sym role_is ∙ (ap (role_at role) (sym f) ∙ e) in cc) ∙ r.still b word e;
        origin = r.origin;
        inside = r.inside;
        words = λ q. ⊎_elim (λ (e : q ≡ o). subst (λ (x : ObjId). HasWords (object_of heap' x)) (sym e) words) (λ (n : q ≢ o). subst HasWords (sym (others q n)) (r.words q)) (cases_object q o);
        valid = valid;
      }

  -- the state of one object changes
  pub now_contents : (o : ObjId) (c : Cell) (w : Now) → cells o ≡ Some c → Standing v role (shape c.sid) o c w (object_of heap o) → Contents P v cells shape role (set_object now o w) heap
  now_contents o c w is st = record {
    stands = λ q. ⊎_elim
        (λ (e : q ≡ o). subst (λ (x : ObjId × Now). Stands v role shape x.0 (cells x.0) x.1 (object_of heap x.0)) (λ i. (sym e i, sym (ap (set_object now o w) e ∙ object_here now o w) i)) (subst (λ (x : Option Cell). Stands v role shape o x w (object_of heap o)) (sym is) st))
        (λ (n : q ≢ o). subst (λ (x : Now). Stands v role shape q (cells q) x (object_of heap q)) (sym (object_else now o q w n)) (r.stands q)) (cases_object q o);
    born = r.born;
    still = r.still;
    origin = r.origin;
    inside = r.inside;
    words = r.words;
    valid = r.valid;
  }

  -- the cell of one object changes, and with it what the object is
  pub moves_contents : {role' : ℕ → Role} {heap' : Heap} (o : ObjId) (c : Cell) (w : Now) → Grows role role' → ((a word : ℕ) → role' a ≡ fixed word → (role a ≡ fixed word) ⊎ (v (stored_at a) ≡ word)) → ((a : ℕ) → role' a ≢ unnamed → a < MOST_STORAGE * P) → ((q : ObjId) → q ≢ o → object_of heap' q ≡ object_of heap q)
      → Standing v role' (shape c.sid) o c w (object_of heap' o) → ((q : ObjId) → is_born (set_object cells o (Some c) q) ≡ nat_lt q.serial (length (objects_of heap' q.pass))) → HasWords (object_of heap' o) → IsValidHeap heap'
      → Contents P v (set_object cells o (Some c)) shape role' (set_object now o w) heap'
  moves_contents {role'} {heap'} o c w grows new inside others here born words valid = record {
    stands = λ q. ⊎_elim
        (λ (e : q ≡ o). subst (λ (x : ObjId × Option Cell × Now). Stands v role' shape x.0 x.1 x.2 (object_of heap' x.0))
        (λ i. (sym e i, sym (ap (set_object cells o (Some c)) e ∙ object_here cells o (Some c)) i, sym (ap (set_object now o w) e ∙ object_here now o w) i)) here)
        (λ (n : q ≢ o). subst (λ (x : Option Cell × Now). Stands v role' shape q x.0 x.1 (object_of heap' q))
        (λ i. (sym (object_else cells o q (Some c) n) i, sym (object_else now o q w n) i)) (stands_grows v role role' shape q (cells q) (now q) (object_of heap q) (object_of heap' q) grows (others q n) (r.stands q))) (cases_object q o);
    born = born;
    still = λ a word e. ⊎_elim (λ (f : role a ≡ fixed word). r.still a word f) (λ f. f) (new a word e);
    origin = grows 0 (fixed_named role 0 0 r.origin) ∙ r.origin;
    inside = inside;
    words = λ q. ⊎_elim (λ (e : q ≡ o). subst (λ (x : ObjId). HasWords (object_of heap' x)) (sym e) words) (λ (n : q ≢ o). subst HasWords (sym (others q n)) (r.words q)) (cases_object q o);
    valid = valid;
  }

-- the words of cells, where one becomes that of another cell
pub codes_cell : (words : ObjId → ℕ) (cells : ObjId → Option Cell) (o : ObjId) (c : Cell) → AreCells words cells → AreCells (set_object words o (cell_bits c)) (set_object cells o (Some c))
codes_cell words cells o c h q = ⊎_elim
    (λ (e : q ≡ o). (ap (set_object words o (cell_bits c)) e ∙ object_here words o (cell_bits c)) ∙ sym (ap word_of_cell (ap (set_object cells o (Some c)) e ∙ object_here cells o (Some c))))
    (λ (n : q ≢ o). object_else words o q (cell_bits c) n ∙ (h q ∙ sym (ap word_of_cell (object_else cells o q (Some c) n)))) (cases_object q o)
