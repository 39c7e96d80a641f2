-- What is known of an object that is opening, and of the names of a structure whose nodes are known.
use Rattle.std.specs.Prelude.{◌≡◌, ◌≢◌, ℕ, ◌<◌, List, [], ◌∷◌, map, Some, None}
use Rattle.jo_value.specs.declared.value.Key.{Key}
use Rattle.jo_value.specs.declared.value.Key.TheVariants.{Index}
use Rattle.jo_value.specs.declared.value.NameId.{NameId}
use Rattle.jo_value.specs.declared.value.Sid.{Sid}
use Rattle.jo_value.specs.declared.words.node.Node.{Node}
use Rattle.jo_value.specs.Words.{IsNode, node_bits, slot_bits}
use Rattle.jo_model.specs.Objects.{property}
use Rattle.jo_model.specs.Heaps.{Heap}
use Rattle.jo_model.specs.WellFormed.{IsWellFormed}
use Rattle.jo_model.specs.Valid.{IsValidObject}
use Rattle.jo_rule.specs.Names.{node}
use Rattle.jo_rule.specs.Shapes.{Shape, names_of, offset_of, names_after}
use Rattle.jo_rule.specs.Spots.{Spot, offset, element, Location, spot_of}
use Rattle.jo_rule.specs.Roles.{place_by}
use Rattle.jo_rule.specs.Dictionaries.{slot_in}
use Rattle.jo_rule.specs.Contents.{is_segmented, HasWords}
use Rattle.jo_rule.specs.Views.{KnownWord, Lock}
use Rattle.jo_rule.specs.Sights.{told}

-- What the holder of a lock knows of an object that is opening, once it has its content alone. The words f of its header and spine give
-- the places: the structure has the names in order, each at a place, each place has the value of its key, and no element lies beyond.
-- Each of its names and values has a word, and it and all that it holds are valid.
pub record IsUnderOpening (heap : Heap) (v : Location → ℕ) (shape : Shape) (f : ℕ → ℕ) (g : Lock) : Type 0 where
  pub names : names_of shape ≡ map (λ p. p.0) g.content.names
  pub inside : (name : NameId) (j : ℕ) → offset_of shape name ≡ Some j → place_by (is_segmented g.found) f g.object g.cell.address (offset j) ≢ None
  pub values : (key : Key) (y : Spot) (a : Location) → spot_of shape key ≡ Some y → place_by (is_segmented g.found) f g.object g.cell.address y ≡ Some a → v a ≡ slot_bits (slot_in (property g.content key))
  pub beyond : (i : ℕ) → place_by (is_segmented g.found) f g.object g.cell.address (element i) ≡ None → property g.content (Index i) ≡ None
  pub words : HasWords g.content
  pub formed : IsWellFormed g.content
  pub valid : IsValidObject heap g.content

-- the node of a structure is known
abbrev pub IsKnownNode : List KnownWord → Sid → Node → Type 0
IsKnownNode known s n = IsNode n × (told known (node s) ≡ Some (node_bits n))

-- these are the nodes from a structure to its root, all known, without the root's
abbrev pub IsWalk : List KnownWord → Sid → List Node → Type 0
IsWalk known s [] = (root : Node) × IsKnownNode known s root × (root.depth ≡ 0)
IsWalk known s (n ∷ ns) = IsKnownNode known s n × (0 < n.depth) × IsWalk known n.parent ns

-- the names of a structure, each with its offset, by the nodes of such a walk
abbrev pub names_by : List Node → List (NameId × ℕ)
names_by [] = []
names_by (n ∷ ns) = names_after n.change n.name n.offset (names_by ns)
