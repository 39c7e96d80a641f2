-- Structures: which names an object has, at which offsets, and how the words of nodes and links say so.
use Rattle.std.specs.Prelude.{◌≡◌, ◌≢◌, ◌⊎◌, ℕ, ◌+◌, ◌<◌, ◌≤◌, nat_eq, Bool, true, false, if◌then◌else◌, List, [], ◌∷◌, ◌++◌, map, Option, Some, None}
use Rattle.jo_value.specs.declared.capacities.TheConstants.{MOST_DEPTH, MOST_OFFSETS}
use Rattle.jo_value.specs.declared.value.NameId.{NameId}
use Rattle.jo_value.specs.declared.value.Sid.{Sid}
use Rattle.jo_value.specs.declared.words.node.Change.{Change}
use Rattle.jo_value.specs.declared.words.node.Change.TheVariants.{Add, Remove}
use Rattle.jo_value.specs.declared.words.node.Node.{Node}
use Rattle.jo_value.specs.Values.{is_same_name}
use Rattle.jo_value.specs.Words.{IsNode, node_bits}
use Rattle.jo_rule.specs.Roots.{root_of, root_node}

-- What a structure is, for ever: its names in order, each with its offset; the first offset that was never given out; how many
-- changes lead to it; and the pass whose root it comes from. A structure that is not born has none of these.
pub record Shape : Type 0 where
  pub born : Bool
  pub names : List (NameId × ℕ)
  pub top : ℕ
  pub depth : ℕ
  pub root : ℕ

-- the shape of a structure that is not born
abbrev pub unborn_shape : Shape
unborn_shape = record { born = false; names = []; top = 0; depth = 0; root = 0 }

-- the shape of the root of a pass
abbrev pub root_shape : ℕ → Shape
root_shape pass = record { born = true; names = []; top = 0; depth = 0; root = pass }

-- the offset of a name among such pairs
abbrev pub offset_in : List (NameId × ℕ) → NameId → Option ℕ
offset_in [] name = None
offset_in (p ∷ ps) name = if is_same_name p.0 name then Some p.1 else offset_in ps name

-- the offset of a name in a shape
abbrev pub offset_of : Shape → NameId → Option ℕ
offset_of z name = offset_in z.names name

-- the names of a shape, in order
abbrev pub names_of : Shape → List NameId
names_of z = map (λ p. p.0) z.names

-- the pairs without that of a name
abbrev pub without_name : List (NameId × ℕ) → NameId → List (NameId × ℕ)
without_name [] name = []
without_name (p ∷ ps) name = if is_same_name p.0 name then ps else p ∷ without_name ps name

-- the pairs after a change of this name at this offset
abbrev pub names_after : Change → NameId → ℕ → List (NameId × ℕ) → List (NameId × ℕ)
names_after Add name offset ps = ps ++ (name, offset) ∷ []
names_after Remove name offset ps = without_name ps name

-- the shape of a structure whose parent has this one
abbrev pub shape_after : Node → Shape → Shape
shape_after n z = record { born = true; names = names_after n.change n.name n.offset z.names; top = n.top; depth = n.depth; root = z.root }

-- a name is added at an offset that none has; it is the first one never given out, or one that was given back
pub record Adds (n : Node) (z : Shape) : Type 0 where
  pub new : offset_of z n.name ≡ None
  pub free : (m : NameId) → offset_of z m ≢ Some n.offset
  pub within : n.offset ≤ z.top
  pub top : n.top ≡ (if nat_eq n.offset z.top then z.top + 1 else z.top)

-- a name is taken out, whose offset stays given out
pub record Removes (n : Node) (z : Shape) : Type 0 where
  pub there : offset_of z n.name ≡ Some n.offset
  pub top : n.top ≡ z.top

-- a node changes its parent as it says
abbrev pub IsChangeOf : Change → Node → Shape → Type 0
IsChangeOf Add n z = Adds n z
IsChangeOf Remove n z = Removes n z

-- the node of a structure whose parent has this shape; no structure has more offsets or is deeper than may be
pub record IsChildOf (n : Node) (z : Shape) : Type 0 where
  pub node : IsNode n
  pub born : z.born ≡ true
  pub depth : n.depth ≡ z.depth + 1
  pub deepest : n.depth ≤ MOST_DEPTH
  pub highest : n.top ≤ MOST_OFFSETS
  pub change : IsChangeOf n.change n z

-- each name stands once, and so does each offset; all are below the top
abbrev pub StandOnce : List (NameId × ℕ) → Type 0
StandOnce [] = Unit {0}
StandOnce (p ∷ ps) = (offset_in ps p.0 ≡ None) × StandOnce ps

-- names and offsets stand once each, and below the top
pub record IsShape (z : Shape) : Type 0 where
  pub once : StandOnce z.names
  pub apart : (n m : NameId) (j : ℕ) → offset_of z n ≡ Some j → offset_of z m ≡ Some j → n ≡ m
  pub below : (n : NameId) (j : ℕ) → offset_of z n ≡ Some j → j < z.top

-- ---- the words

-- the word of a node; 0 is that of an unborn structure
abbrev pub word_of_node : Option Node → ℕ
word_of_node None = 0
word_of_node (Some n) = node_bits n

-- the word of a link is 0, or names a structure below this parent, which is born
pub record LinksTo (node : Sid → Option Node) (parent : Sid) (word : ℕ) : Type 0 where
  pub child : Sid
  pub found : Node
  pub number : word ≡ child.0 + 1
  pub there : node child ≡ Some found
  pub parent_is : found.parent ≡ parent
  pub deep : 0 < found.depth

-- the word of a link is 0, or names a child of this parent
abbrev pub IsLink : (Sid → Option Node) → Sid → ℕ → Type 0
IsLink node parent word = (word ≡ 0) ⊎ LinksTo node parent word

-- a structure that is born is a root, or a child of one that is born
pub record IsMade (siblings : Sid → ℕ) (node : Sid → Option Node) (shape : Sid → Shape) (s : Sid) (n : Node) : Type 0 where
  pub child : IsChildOf n (shape n.parent)
  pub is : shape s ≡ shape_after n (shape n.parent)
  pub next : IsLink node n.parent (siblings s)

-- the structure is the root of a pass, with its node and shape
abbrev pub IsRoot : ℕ → Sid → Node → Shape → Type 0
IsRoot passes s n z = (t : ℕ) × (t < passes) × (s ≡ root_of t) × (n ≡ root_node) × (z ≡ root_shape t)

-- Nodes and links, with the shape of each structure. No shape changes once the structure is born.
pub record Shaped (passes : ℕ) (nodes first_children siblings : Sid → ℕ) (node : Sid → Option Node) (shape : Sid → Shape) : Type 0 where
  pub coded : (s : Sid) → nodes s ≡ word_of_node (node s)
  pub roots : (t : ℕ) → t < passes → (node (root_of t) ≡ Some root_node) × (shape (root_of t) ≡ root_shape t)
  pub unborn : (s : Sid) → node s ≡ None → shape s ≡ unborn_shape
  pub made : (s : Sid) (n : Node) → node s ≡ Some n → IsRoot passes s n (shape s) ⊎ IsMade siblings node shape s n
  pub formed : (s : Sid) → IsShape (shape s)
  pub firsts : (s : Sid) → IsLink node s (first_children s)
