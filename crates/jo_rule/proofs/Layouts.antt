-- The words of a block give its places: those that never change, read by any pass; and a segmented block keeps the places of the
-- block that it came from.
use Rattle.std.proofs.Common.{◌≡◌, ◌≢◌, ℕ, ◌+◌, ◌-◌, ◌*◌, ◌<◌, ◌≤◌, ◌/◌, ◌%◌, Bool, true, false, cond, ltb, sym, refl, ap, ◌∙◌, subst, arith, Some, None, Option}
use Rattle.std.proofs.lemmas.Bool.{ltb-true, lt-ltb, cond_both}
use Rattle.jo_value.specs.declared.capacities.TheConstants.{INLINE_OFFSETS}
use Rattle.jo_value.specs.declared.value.ObjId.{ObjId}
use Rattle.jo_rule.specs.Spots.{Spot, offset, element, Location, beside, stored_at}
use Rattle.jo_rule.specs.Roles.{Role, unnamed, fixed, value, Grows, role_at, word_fixed, words_fixed, names_room, elements_room, name_at, element_at, place_by, frame, IsBlockOf}

pub fixed_named : (role : ℕ → Role) (a word : ℕ) → role a ≡ fixed word → role a ≢ unnamed
fixed_named role a word e f = let no : fixed word ≡ unnamed = sym e ∙ f in cc

pub value_named : (role : ℕ → Role) (a : ℕ) (o : ObjId) (y : Spot) → role a ≡ value o y → role a ≢ unnamed
value_named role a o y e f = let no : value o y ≡ unnamed = sym e ∙ f in cc

-- two slots with one place are one slot of one object
pub same_spot : (role : ℕ → Role) {o q : ObjId} (p : Location) (x y : Spot) → role_at role p ≡ value o x → role_at role p ≡ value q y → (o ≡ q) × (x ≡ y)
same_spot role {o} {q} p x y e f = let k : value o x ≡ value q y = sym e ∙ f in (cc, cc)

-- a frame of two places
pub one_place : (f : Option Location) (p q : Location) → f ≡ Some p → f ≡ Some q → p ≡ q
one_place f p q e g = let k : Some p ≡ Some q = sym e ∙ g in cc

-- two areas that agree where a block is read give the same places
module _ (f g : ℕ → ℕ) (o : ObjId) (b : ℕ) (head : f b ≡ g b) where
  name_same : (sg : Bool) (j : ℕ) → (sg ≡ true → f (b - (1 + j / 4)) ≡ g (b - (1 + j / 4))) → name_at sg f b j ≡ name_at sg g b j
  name_same false j h = refl
  name_same true j h = ap (λ (x : ℕ). x - j % 4) (h refl)

  element_same : (sg : Bool) (i : ℕ) → (sg ≡ true → f (b + 1 + i / 4) ≡ g (b + 1 + i / 4)) → element_at sg f b i ≡ element_at sg g b i
  element_same false i h = refl
  element_same true i h = ap (λ (x : ℕ). x + i % 4) (h refl)

  pub place_same : (sg : Bool) → ((j : ℕ) → sg ≡ true → j < names_room (g b) → f (b - (1 + j / 4)) ≡ g (b - (1 + j / 4))) → ((i : ℕ) → sg ≡ true → i < elements_room (g b) → f (b + 1 + i / 4) ≡ g (b + 1 + i / 4)) → (y : Spot) → place_by sg f o b y ≡ place_by sg g o b y
  unfolding place_by
  place_same sg names elements (offset j) =
      let tail : (q : Bool) → ltb (j - 4) (names_room (g b)) ≡ q → cond q (Some (stored_at (name_at sg f b (j - 4)))) None ≡ cond q (Some (stored_at (name_at sg g b (j - 4)))) None = λ q. elim q as (λ q. ltb (j - 4) (names_room (g b)) ≡ q → cond q (Some (stored_at (name_at sg f b (j - 4)))) None ≡ cond q (Some (stored_at (name_at sg g b (j - 4)))) None) [
        | true ↦ λ e. ap (λ (x : ℕ). Some (stored_at x)) (name_same sg (j - 4) (λ t. names (j - 4) t (ltb-true (j - 4) (names_room (g b)) e)))
        | false ↦ λ e. refl
      ] in
      ap (λ (z : Option Location). cond (ltb j 4) (Some (beside o j)) z) (ap (λ (w : ℕ). cond (ltb (j - 4) (names_room w)) (Some (stored_at (name_at sg f b (j - 4)))) None) head ∙ tail (ltb (j - 4) (names_room (g b))) refl)
  place_same sg names elements (element i) =
      let tail : (q : Bool) → ltb i (elements_room (g b)) ≡ q → cond q (Some (stored_at (element_at sg f b i))) None ≡ cond q (Some (stored_at (element_at sg g b i))) None = λ q. elim q as (λ q. ltb i (elements_room (g b)) ≡ q → cond q (Some (stored_at (element_at sg f b i))) None ≡ cond q (Some (stored_at (element_at sg g b i))) None) [
        | true ↦ λ e. ap (λ (x : ℕ). Some (stored_at x)) (element_same sg i (λ t. elements i t (ltb-true i (elements_room (g b)) e)))
        | false ↦ λ e. refl
      ] in
      ap (λ (w : ℕ). cond (ltb i (elements_room w)) (Some (stored_at (element_at sg f b i))) None) head ∙ tail (ltb i (elements_room (g b))) refl

-- what never changes is there to be read: so code that reads a block computes the places of the rule
pub reads_frame : (role : ℕ → Role) (s : ℕ → ℕ) (o : ObjId) (b : ℕ) (sg : Bool) → ((a word : ℕ) → role a ≡ fixed word → s a ≡ word) → IsBlockOf role sg o b → (y : Spot) → place_by sg s o b y ≡ frame role sg o b y
reads_frame role s o b sg still t y =
    let here : (a word : ℕ) → role a ≡ fixed word → s a ≡ words_fixed role a = λ a word e. still a word e ∙ sym (ap word_fixed e) in
    let head : words_fixed role b ≡ t.head = ap word_fixed t.header in
    place_same s (words_fixed role) o b (here b t.head t.header) sg (λ j q l. let w = t.names j q (subst (λ (z : ℕ). j < names_room z) head l) in here (b - (1 + j / 4)) w.0 w.1)
    (λ i q l. let w = t.elements i q (subst (λ (z : ℕ). i < elements_room z) head l) in here (b + 1 + i / 4) w.0 w.1) y

-- a frame stays where roles grow
pub frame_grows : {role role' : ℕ → Role} {sg : Bool} {o : ObjId} {b : ℕ} → Grows role role' → IsBlockOf role sg o b → (y : Spot) → frame role' sg o b y ≡ frame role sg o b y
frame_grows {role} {role'} {sg} {o} {b} g t y =
    let keep : (a word : ℕ) → role a ≡ fixed word → words_fixed role' a ≡ words_fixed role a = λ a word e. ap word_fixed (g a (fixed_named role a word e)) in
    let head : words_fixed role b ≡ t.head = ap word_fixed t.header in
    place_same (words_fixed role') (words_fixed role) o b (keep b t.head t.header) sg
    (λ j q l. let w = t.names j q (subst (λ (z : ℕ). j < names_room z) head l) in keep (b - (1 + j / 4)) w.0 w.1) (λ i q l. let w = t.elements i q (subst (λ (z : ℕ). i < elements_room z) head l) in keep (b + 1 + i / 4) w.0 w.1) y

-- roles of places that are values stay
pub role_grows : {role role' : ℕ → Role} → Grows role role' → (p : Location) (o : ObjId) (y : Spot) → role_at role p ≡ value o y → role_at role' p ≡ value o y
role_grows {role} {role'} g (beside q j) o y e = e
role_grows {role} {role'} g (stored_at a) o y e = g a (value_named role a o y e) ∙ e

-- a block stays one where roles grow
pub block_grows : {role role' : ℕ → Role} {sg : Bool} {o : ObjId} {b : ℕ} → Grows role role' → IsBlockOf role sg o b → IsBlockOf role' sg o b
block_grows {role} {role'} {sg} {o} {b} g t =
    let keep : (a word : ℕ) → role a ≡ fixed word → role' a ≡ fixed word = λ a word e. g a (fixed_named role a word e) ∙ e in record {
      head = t.head;
      header = keep b t.head t.header;
      names = λ j q l. let w = t.names j q l in (w.0, keep (b - (1 + j / 4)) w.0 w.1);
      elements = λ i q l. let w = t.elements i q l in (w.0, keep (b + 1 + i / 4) w.0 w.1);
      mine = λ y p e. role_grows g p o y (t.mine y p (sym (frame_grows g t y) ∙ e));
    }

-- ---- a segmented block whose spine has the fragments of an old block keeps the places of that

old_name : (sg : Bool) (f : ℕ → ℕ) (a b j : ℕ) → j / 4 * 4 + 4 < a → (sg ≡ false → f (b - (1 + j / 4)) ≡ a - (1 + 4 * (j / 4))) → (sg ≡ true → f (b - (1 + j / 4)) ≡ f (a - (1 + j / 4))) → name_at true f b j ≡ name_at sg f a j
old_name false f a b j l flat seg =
    let e = flat refl in
    let q : j ≡ 4 * (j / 4) + j % 4 = omega arith in
    let r : j % 4 < 4 = omega arith in
    let z : a - (1 + 4 * (j / 4)) - j % 4 ≡ a - (1 + j) = omega arith in
    ap (λ (x : ℕ). x - j % 4) e ∙ z
old_name true f a b j l flat seg = ap (λ (x : ℕ). x - j % 4) (seg refl)

old_element : (sg : Bool) (f : ℕ → ℕ) (a b i : ℕ) → (sg ≡ false → f (b + 1 + i / 4) ≡ a + 1 + 4 * (i / 4)) → (sg ≡ true → f (b + 1 + i / 4) ≡ f (a + 1 + i / 4)) → element_at true f b i ≡ element_at sg f a i
old_element false f a b i flat seg =
    let z : a + 1 + 4 * (i / 4) + i % 4 ≡ a + 1 + i = omega arith in
    ap (λ (x : ℕ). x + i % 4) (flat refl) ∙ z
old_element true f a b i flat seg = ap (λ (x : ℕ). x + i % 4) (seg refl)

-- so each place of the old block is one of the new, where the capacities did not fall
pub old_places : (sg : Bool) (f : ℕ → ℕ) (o : ObjId) (a b : ℕ) → names_room (f a) ≤ names_room (f b) → elements_room (f a) ≤ elements_room (f b) → (0 < names_room (f a) → names_room (f a) + 4 < a)
    → ((j : ℕ) → j < names_room (f a) → (sg ≡ false → f (b - (1 + j / 4)) ≡ a - (1 + 4 * (j / 4))) × (sg ≡ true → f (b - (1 + j / 4)) ≡ f (a - (1 + j / 4))))
    → ((i : ℕ) → i < elements_room (f a) → (sg ≡ false → f (b + 1 + i / 4) ≡ a + 1 + 4 * (i / 4)) × (sg ≡ true → f (b + 1 + i / 4) ≡ f (a + 1 + i / 4)))
    → (y : Spot) (q : Location) → place_by sg f o a y ≡ Some q → place_by true f o b y ≡ Some q
unfolding place_by
old_places sg f o a b more_names more_elements below names elements (offset j) q =
    cond_both (ltb j 4) (Some (beside o j)) (cond (ltb (j - 4) (names_room (f a))) (Some (stored_at (name_at sg f a (j - 4)))) None) (λ z. z ≡ Some q → place_by true f o b (offset j) ≡ Some q)
    (λ t e. rw t e)
    (λ t. cond_both (ltb (j - 4) (names_room (f a))) (Some (stored_at (name_at sg f a (j - 4)))) None (λ z. z ≡ Some q → place_by true f o b (offset j) ≡ Some q)
    (λ u e.
    let l = ltb-true (j - 4) (names_room (f a)) u in
    let w : ltb (j - 4) (names_room (f b)) ≡ true = lt-ltb (j - 4) (names_room (f b)) (omega arith) in
    let n = names (j - 4) l in
    let room = below (omega arith) in
    let same : name_at true f b (j - 4) ≡ name_at sg f a (j - 4) = old_name sg f a b (j - 4) (omega arith) n.0 n.1 in
    rw (t, w) (ap (λ (x : ℕ). Some (stored_at x)) same ∙ e))
    (λ u e. (let no : None ≡ Some q = e in cc)))
old_places sg f o a b more_names more_elements below names elements (element i) q =
    cond_both (ltb i (elements_room (f a))) (Some (stored_at (element_at sg f a i))) None (λ z. z ≡ Some q → place_by true f o b (element i) ≡ Some q)
    (λ u e.
    let l = ltb-true i (elements_room (f a)) u in
    let w : ltb i (elements_room (f b)) ≡ true = lt-ltb i (elements_room (f b)) (omega arith) in
    let n = elements i l in
    rw w (ap (λ (x : ℕ). Some (stored_at x)) (old_element sg f a b i n.0 n.1) ∙ e))
    (λ u e. (let no : None ≡ Some q = e in cc))

-- where there is no block, offsets have the words beside the cell and nothing else has one
pub no_block_offset : (role : ℕ → Role) (sg : Bool) (o : ObjId) → role 0 ≡ fixed 0 → (j : ℕ) → j < INLINE_OFFSETS → frame role sg o 0 (offset j) ≡ Some (beside o j)
unfolding place_by
no_block_offset role sg o e j lt = let t : ltb j 4 ≡ true = lt-ltb j 4 lt in rw t refl

pub no_block_mine : (role : ℕ → Role) (sg : Bool) (o : ObjId) → role 0 ≡ fixed 0 → (y : Spot) (p : Location) → frame role sg o 0 y ≡ Some p → role_at role p ≡ value o y
unfolding place_by
no_block_mine role sg o e (offset j) p =
    cond_both (ltb j 4) (Some (beside o j)) (cond (ltb (j - 4) (names_room (words_fixed role 0))) (Some (stored_at (name_at sg (words_fixed role) 0 (j - 4)))) None) (λ z. z ≡ Some p → role_at role p ≡ value o (offset j))
    (λ t q. let i : beside o j ≡ p = (let k : Some (beside o j) ≡ Some p = q in cc) in ap (role_at role) (sym i))
    (λ t. cond_both (ltb (j - 4) (names_room (words_fixed role 0))) (Some (stored_at (name_at sg (words_fixed role) 0 (j - 4)))) None (λ z. z ≡ Some p → role_at role p ≡ value o (offset j))
    (λ u q. (let l = ltb-true (j - 4) (names_room (words_fixed role 0)) u in let h : words_fixed role 0 ≡ 0 = ap word_fixed e in let z : names_room (words_fixed role 0) ≡ 0 = ap names_room h in absurd (omega arith)))
    (λ u q. (let no : None ≡ Some p = q in absurd cc)))
no_block_mine role sg o e (element i) p =
    cond_both (ltb i (elements_room (words_fixed role 0))) (Some (stored_at (element_at sg (words_fixed role) 0 i))) None (λ z. z ≡ Some p → role_at role p ≡ value o (element i))
    (λ u q. (let l = ltb-true i (elements_room (words_fixed role 0)) u in let h : words_fixed role 0 ≡ 0 = ap word_fixed e in let z : elements_room (words_fixed role 0) ≡ 0 = ap elements_room h in absurd (omega arith)))
    (λ u q. (let no : None ≡ Some p = q in absurd cc))

-- address 0 is the block of each object that has none
pub no_block : (role : ℕ → Role) (sg : Bool) (o : ObjId) → role 0 ≡ fixed 0 → IsBlockOf role sg o 0
no_block role sg o e = record {
  head = 0;
  header = e;
  names = λ j q l. absurd (omega arith);
  elements = λ i q l. absurd (omega arith);
  mine = no_block_mine role sg o e;
}

pub no_block_element : (role : ℕ → Role) (sg : Bool) (o : ObjId) → role 0 ≡ fixed 0 → (i : ℕ) → frame role sg o 0 (element i) ≡ None
unfolding place_by
no_block_element role sg o e i =
    cond_both (ltb i (elements_room (words_fixed role 0))) (Some (stored_at (element_at sg (words_fixed role) 0 i))) None (λ z. z ≡ None)
    (λ u. (let l = ltb-true i (elements_room (words_fixed role 0)) u in let h : words_fixed role 0 ≡ 0 = ap word_fixed e in let z : elements_room (words_fixed role 0) ≡ 0 = ap elements_room h in absurd (omega arith)))
    (λ u. refl)
