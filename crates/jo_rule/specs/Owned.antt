-- What belongs to a pass alone: storage that no cell has named, objects and structures that are not born.
pub use Rattle.jo_rule.specs.Roots.{root_node}
use Rattle.std.specs.Prelude.{◌≡◌, ℕ, ◌+◌, ◌*◌, ◌<◌, ◌≤◌, if◌then◌else◌, List, [], ◌∷◌, length, Option, None}
use Rattle.jo_value.specs.declared.capacities.TheConstants.{MOST_STRUCTURES, OUT, VALID}
use Rattle.jo_value.specs.declared.limits.TheConstants.{MOST_STORAGE}
use Rattle.jo_value.specs.declared.value.ObjId.{ObjId}
use Rattle.jo_value.specs.declared.value.Sid.{Sid}
use Rattle.jo_value.specs.declared.words.cell.Cell.{Cell}
use Rattle.jo_value.specs.Words.{node_bits}
use Rattle.jo_model.specs.Heaps.{Heap, objects_of}
use Rattle.jo_rule.specs.Names.{sibling}
use Rattle.jo_rule.specs.Areas.{is_same_word}
use Rattle.jo_rule.specs.Views.{View, Storage, Births, KnownWord, word_in}
use Rattle.jo_rule.specs.Lists.{Live}
use Rattle.jo_rule.specs.Contents.{Role, unnamed, root_of}

-- word k of a pass's storage, and its structure k
abbrev pub address_of : ℕ → ℕ → ℕ
address_of pass k = MOST_STORAGE * pass + k

-- structure k of a pass
abbrev pub structure_of : ℕ → ℕ → Sid
structure_of pass k = record { 0 = MOST_STRUCTURES * pass + k }

-- the words of the own storage that no cell has named are as the view knows them, and 0 where it has used none
pub record OwnsStorage (s : ℕ → ℕ) (role : ℕ → Role) (pass : ℕ) (own : Storage) : Type 0 where
  pub named : own.named ≤ own.used
  pub used : own.used ≤ MOST_STORAGE
  pub nameless : (k : ℕ) → own.named ≤ k → k < MOST_STORAGE → role (address_of pass k) ≡ unnamed
  pub known : (k : ℕ) → own.named ≤ k → k < MOST_STORAGE → s (address_of pass k) ≡ word_in own.fresh k
  pub zeros : (k : ℕ) → own.used ≤ k → word_in own.fresh k ≡ 0

-- the storage of a view is its own
abbrev pub StorageIsOwn : (ℕ → ℕ) → (ℕ → Role) → ℕ → View → Type 0
StorageIsOwn s role seat v = OwnsStorage s role v.number v.storage

-- the objects of a pass are those that it has made
abbrev pub ObjectsAreOwn : Heap → ℕ → View → Type 0
ObjectsAreOwn heap seat v = v.births.objects ≡ length (objects_of heap v.number)

-- what a list of known words says of the sibling link of a structure, which is 0 where it says nothing
abbrev pub link_in : List KnownWord → Sid → ℕ
link_in [] s = 0
link_in (k ∷ known) s = if is_same_word (sibling s) k.at then k.word else link_in known s

-- the structures that a pass has made, and the words that it knows of those to come
abbrev pub structures_in : Births → ℕ × List KnownWord
structures_in births = (births.nodes, births.unlinked)

-- The structures that a pass has not made are unborn, and their sibling links are as it knows them; all but the next one's are 0.
pub record OwnsStructures (nodes siblings : Sid → ℕ) (pass : ℕ) (own : ℕ × List KnownWord) : Type 0 where
  pub root : 0 < own.0
  pub few : own.0 ≤ MOST_STRUCTURES
  pub unborn : (k : ℕ) → own.0 ≤ k → k < MOST_STRUCTURES → nodes (structure_of pass k) ≡ 0
  pub links : (k : ℕ) → own.0 ≤ k → k < MOST_STRUCTURES → siblings (structure_of pass k) ≡ link_in own.1 (structure_of pass k)
  pub later : (k : ℕ) → own.0 < k → k < MOST_STRUCTURES → link_in own.1 (structure_of pass k) ≡ 0

-- the structures of a view are its own
abbrev pub StructuresAreOwn : (Sid → ℕ) → (Sid → ℕ) → ℕ → View → Type 0
StructuresAreOwn nodes siblings seat v = OwnsStructures nodes siblings v.number (structures_in v.births)

-- each live view has its storage and its objects alone
pub record Owned (s : ℕ → ℕ) (role : ℕ → Role) (heap : Heap) (views : List View) : Type 0 where
  pub storage : Live views (StorageIsOwn s role)
  pub objects : Live views (ObjectsAreOwn heap)

-- Each root is there, and each live view has its structures alone. A pass that was not made has linked none.
pub record Structures (passes made : ℕ) (nodes siblings : Sid → ℕ) (views : List View) : Type 0 where
  pub roots : (pass : ℕ) → pass < passes → nodes (root_of pass) ≡ node_bits root_node
  pub own : Live views (StructuresAreOwn nodes siblings)
  pub unlinked : (t k : ℕ) → made ≤ t → t < passes → 0 < k → k < MOST_STRUCTURES → siblings (structure_of t k) ≡ 0

-- An unborn structure has no child and valid sets, and the words beside the cell of an unborn object are 0.
pub record Unborn (cells : ObjId → Option Cell) (nodes first_children transition_sets write_sets : Sid → ℕ) (inline_words : ObjId → ℕ → ℕ) : Type 0 where
  pub children : (s : Sid) → nodes s ≡ 0 → first_children s ≡ 0
  pub transitions : (s : Sid) → nodes s ≡ 0 → transition_sets s ≡ VALID
  pub writes : (s : Sid) → nodes s ≡ 0 → write_sets s ≡ VALID
  pub offsets : (o : ObjId) (j : ℕ) → cells o ≡ None → inline_words o j ≡ 0

-- A pass that was not made is out, and nothing of it was begun.
pub record Unmade (passes made : ℕ) (acknowledgements : ℕ → ℕ) (nodes : Sid → ℕ) (s : ℕ → ℕ) (role : ℕ → Role) (heap : Heap) : Type 0 where
  pub out : (t : ℕ) → made ≤ t → t < passes → acknowledgements t ≡ OUT
  pub structures : (t k : ℕ) → made ≤ t → t < passes → 0 < k → k < MOST_STRUCTURES → nodes (structure_of t k) ≡ 0
  pub nameless : (t k : ℕ) → made ≤ t → t < passes → k < MOST_STORAGE → role (address_of t k) ≡ unnamed
  pub storage : (t k : ℕ) → made ≤ t → t < passes → k < MOST_STORAGE → s (address_of t k) ≡ 0
  pub objects : (t : ℕ) → made ≤ t → length (objects_of heap t) ≡ 0
