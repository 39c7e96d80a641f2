-- What the words of an object say that stands in them.
use Rattle.std.proofs.Common.{◌≡◌, ◌≢◌, ◌+◌, ◌*◌, ◌<◌, ◌≤◌, ℕ, zero, suc, false, ltb, ⊎_elim, List, [], ◌∷◌, refl, sym, subst, ap, ◌∙◌, arith, length, slice_get, Option, Some, None}
use Rattle.std.specs.Prelude.{All, option_map}
use Rattle.std.proofs.lemmas.Bool.{cases_lt, le-ltb}
use Rattle.std.proofs.lemmas.List.Elements.{All-head, All-tail}
use Rattle.jo_value.specs.declared.limits.TheConstants.{MOST_INDEX, MOST_OBJECTS}
use Rattle.jo_value.specs.declared.value.Key.TheVariants.{Index}
use Rattle.jo_value.specs.declared.value.NameId.{NameId}
use Rattle.jo_value.specs.declared.value.ObjId.{ObjId}
use Rattle.jo_value.specs.declared.value.Value.{Value}
use Rattle.jo_value.specs.declared.words.cell.Cell.{Cell}
use Rattle.jo_value.specs.declared.words.header.Header.{Header}
use Rattle.jo_value.specs.declared.words.slot.Slot.TheVariants.{Holds}
use Rattle.jo_value.specs.declared.capacities.TheConstants.{DICTIONARY_NAMES, DICTIONARY_NEED}
use Rattle.jo_value.specs.Words.{IsCell, IsHeader, IsSlot, cell_bits, header_bits}
use Rattle.jo_model.specs.Heaps.{IsBorn, objects_of, object_of, shared}
use Rattle.jo_model.specs.Logs.{after}
use Rattle.jo_model.specs.Objects.{Object, property, element_place}
use Rattle.jo_rule.specs.Areas.{Words, words_of, stored}
use Rattle.jo_rule.specs.Contents.{HasWords}
use Rattle.jo_rule.specs.Dictionaries.{IsNameWord, slot_in, dictionary_header, HasProperties}
use Rattle.jo_rule.specs.Ending.{HasEnded, IsWritten}
use Rattle.jo_rule.specs.Names.{cell}
use Rattle.jo_rule.proofs.Heaps.{born-longer, passes-after}
use Rattle.jo_steps.specs.Views.{ClosedView}
use Rattle.jo_heap.specs.Closing.{ClosedHeap, heap_left}
use Rattle.jo_heap.specs.declared.block.Block.{Block}
use Rattle.jo_heap.specs.inner.Blocks.{IsBlockOf}
use Rattle.jo_heap.specs.inner.Values.{IsWordOf}
use Rattle.jo_heap.proofs.Both.{both_off}

-- the heap that is left, by the words
abbrev pub left_by : ClosedView → ClosedHeap
left_by l = record { passes = l.passes; view = l.view }

-- and that each of its objects is a dictionary
abbrev pub HasLeft : ClosedView → Type 0
HasLeft l = HasEnded l.passes (words_of l.passes l.words) l.view × (l.view.flat ≡ false)

-- each born object stands in the words
pub written : (l : ClosedView) (c : ClosedHeap) (o : ObjId) → left_by l ≡ c → HasLeft l → IsBorn (heap_left c) o → IsWritten (words_of l.passes l.words) o (object_of (heap_left c) o)
written l c o same h born =
    subst (λ (x : ClosedHeap). IsBorn (heap_left x) o → IsWritten (words_of l.passes l.words) o (object_of (heap_left x) o)) same (h.0.dictionaries h.1 o) born

pub unwritten : (l : ClosedView) (c : ClosedHeap) (o : ObjId) → left_by l ≡ c → HasLeft l → (IsBorn (heap_left c) o → ⊥) → words_of l.passes l.words (cell o) ≡ 0
unwritten l c o same h unborn =
    subst (λ (x : ClosedHeap). (IsBorn (heap_left x) o → ⊥) → words_of l.passes l.words (cell o) ≡ 0) same (h.0.unborn o) unborn

-- the word of a cell is not 0
pub cell_there : (w : Words) (o : ObjId) (z : Object) → IsWritten w o z → w (cell o) ≢ 0
cell_there w o z h e = let word = h.word in omega (arith, word, e)

-- ---- the passes

-- the shared object is always there, so there is a pass
some_passes : (l : ClosedView) → HasLeft l → 0 < l.passes
some_passes l h = ⊎_elim (λ (lt : 0 < l.passes). lt)
    (λ (le : l.passes ≤ 0).
    let born : IsBorn (after l.passes l.view.past.seen) shared = born-longer l.passes [] l.view.past.seen shared (omega arith) in
    let none : words_of l.passes l.words (cell shared) ≡ 0 = let e = le-ltb 0 l.passes le in rw e refl in
    absurd (cell_there (words_of l.passes l.words) shared (object_of (after l.passes l.view.past.seen) shared) (h.0.dictionaries h.1 shared born) none))
    (cases_lt 0 l.passes)

-- each has a list of objects
pub lists_left : (l : ClosedView) (c : ClosedHeap) → left_by l ≡ c → HasLeft l → l.passes ≡ length (heap_left c)
lists_left l c same h =
    subst (λ (x : ClosedHeap). l.passes ≡ length (heap_left x)) same (sym (passes-after l.passes l.view.past.seen (some_passes l h)))

-- ---- the objects of a pass

abbrev pub object : (pass serial : ℕ) → ObjId
object pass serial = record { pass = pass; serial = serial }

module _ (l : ClosedView) (c : ClosedHeap) (same : left_by l ≡ c) (h : HasLeft l) (pass : ℕ) where
  abbrev pub cell_word : ℕ → ℕ
  cell_word serial = words_of l.passes l.words (cell (object pass serial))

  abbrev pub made : ℕ
  made = length (objects_of (heap_left c) pass)

  -- those below the first unborn one are all
  pub all_made : (serial : ℕ) → serial ≤ made → cell_word serial ≡ 0 → serial ≡ made
  all_made serial le e = ⊎_elim
      (λ (lt : serial < made). absurd (cell_there (words_of l.passes l.words) (object pass serial) (object_of (heap_left c) (object pass serial)) (written l c (object pass serial) same h lt) e))
      (λ (ge : made ≤ serial). omega arith) (cases_lt serial made)

  pub one_more_made : (serial : ℕ) → serial ≤ made → cell_word serial ≢ 0 → serial + 1 ≤ made
  one_more_made serial le n = ⊎_elim (λ (lt : serial < made). omega arith)
      (λ (ge : made ≤ serial). absurd (n (unwritten l c (object pass serial) same h (λ born. omega (arith, born, ge))))) (cases_lt serial made)

  -- no object is past the last one that has a cell
  pub few_made : made ≤ MOST_OBJECTS
  few_made =
      let past : cell_word MOST_OBJECTS ≡ 0 = let e = le-ltb MOST_OBJECTS MOST_OBJECTS (omega arith) in let f = both_off (ltb pass l.passes) in rw (e, f) refl in
      ⊎_elim (λ (lt : MOST_OBJECTS < made). let e = all_made MOST_OBJECTS (omega arith) past in omega arith)
      (λ (ge : made ≤ MOST_OBJECTS). ge) (cases_lt MOST_OBJECTS made)

-- ---- a name and its value

named : (names : List (NameId × Value)) (j : ℕ) → All (λ p. IsNameWord p.0 × IsSlot (Holds p.1)) names → j < length names
    → (name : NameId) × (v : Value) × (slice_get names j ≡ Some (name, v)) × IsSlot (Holds v)
named [] j all lt = absurd (omega arith)
named (p ∷ names) zero all lt =
    let here = All-head (λ (p : NameId × Value). IsNameWord p.0 × IsSlot (Holds p.1)) p names all in (p.0, p.1, refl, here.1)
named (p ∷ names) (suc j) all lt = named names j (All-tail (λ (p : NameId × Value). IsNameWord p.0 × IsSlot (Holds p.1)) p names all) (omega arith)

-- the pair of a name, and what its two words are
pub record HasPair (z : Object) (j first second : ℕ) : Type 0 where
  pub name : NameId
  pub value : Value
  pub there : slice_get z.names j ≡ Some (name, value)
  pub first_is : first ≡ name.0
  pub second_is : IsWordOf (Some value) second

pair_at : (f : ℕ → ℕ) (room : ℕ) (z : Object) (j : ℕ) → HasProperties f room z → HasWords z → j < f 1 → HasPair z j (f (2 + 2 * j)) (f (3 + 2 * j))
pair_at f room z j p h lt =
    let n = named z.names j h.names (let count = p.count in omega (arith, count, lt)) in
    let words = p.names j n.0 n.1 n.2 in
    record { name = n.0; value = n.1; there = n.2; first_is = words.0; second_is = record { is_slot = n.3; is_word = sym words.1 } }

-- by the words that were read of a block: the number of names, and the two words of pair j
pub pair_found : (w : Words) (z : Object) (b : Block) → IsBlockOf w z b → (j i x y count first : ℕ) → i ≡ j → x ≡ 2 + 2 * j → y ≡ 3 + 2 * j → count ≡ stored w (b.address + 1) → first ≡ stored w (b.address + x) → i < count
    → HasPair z j first (stored w (b.address + y))
pair_found w z b is j i x y count first ij name value counted read lt =
    let here : b.address + (2 + 2 * j) ≡ b.address + x = omega (arith, name) in
    let next : b.address + (3 + 2 * j) ≡ b.address + y = omega (arith, value) in
    let few : j < stored w (b.address + 1) = omega (arith, lt, ij, counted) in
    let p = pair_at (λ k. stored w (b.address + k)) b.elements z j is.properties is.words few in
    subst (λ (a : ℕ × ℕ). HasPair z j a.0 a.1) (λ i. ((ap (stored w) here ∙ sym read) i, stored w (next i))) p

-- ---- the block that a cell names

abbrev header_for : ℕ → Header
header_for room = record { names = DICTIONARY_NAMES; elements = room }

is_header : (room : ℕ) → room ≤ MOST_INDEX + 1 → IsHeader (header_for room)
is_header room le = record { names = omega arith; elements = omega arith }

-- a function that finds what has a word
abbrev Finds : {A : Type 0} → (A → Type 0) → (A → ℕ) → ℕ → Option A → Type 0
Finds {A} Is bits word found = (x : A) → Is x → bits x ≡ word → found ≡ Some x

module _ (w : Words) (o : ObjId) (z : Object) (h : IsWritten w o z) where
  -- the cell and the header are found for their words
  pub cell_found : (x : Option Cell) (word : ℕ) → word ≡ w (cell o) → Finds IsCell cell_bits word x → x ≡ Some h.found
  cell_found x word is finds = finds h.found h.is_cell (sym (is ∙ h.word))

  pub header_found : (found : Cell) (x : Option Header) (word : ℕ) → Some found ≡ Some h.found → word ≡ stored w found.address → Finds IsHeader header_bits word x → x ≡ Some (header_for h.room)
  header_found found x word same read finds =
      let one : found ≡ h.found = cc in
      finds (header_for h.room) (is_header h.room h.capacity) (sym (read ∙ ap (λ (c : Cell). stored w c.address) one ∙ h.header))

  -- they say where the properties are
  pub block_found : (found : Cell) (x : Header) → Some found ≡ Some h.found → Some x ≡ Some (header_for h.room) → IsBlockOf w z (record { address = found.address; elements = x.elements })
  block_found found x same_cell same_header =
      let cells : found ≡ h.found = cc in
      let headers : x ≡ header_for h.room = cc in
      record {
        properties = subst (λ (p : Cell × Header). HasProperties (λ k. stored w (p.0.address + k)) p.1.elements z) (sym (λ i. (cells i, headers i))) h.properties;
        words = h.words;
      }
