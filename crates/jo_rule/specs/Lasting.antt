-- Words that never change, which a pass has loaded: nodes and sibling links of structures that are born, and words of storage that a role
-- fixes.
use Rattle.std.specs.Prelude.{◌≡◌, ◌⊎◌, ℕ, List, Option, Some}
use Rattle.jo_value.specs.declared.value.Sid.{Sid}
use Rattle.jo_value.specs.declared.words.node.Node.{Node}
use Rattle.jo_value.specs.Words.{node_bits}
use Rattle.jo_rule.specs.Names.{WordName, node, sibling, storage}
use Rattle.jo_rule.specs.Roles.{Role, fixed}
use Rattle.jo_rule.specs.Views.{View}
use Rattle.jo_rule.specs.Lists.{Live}
use Rattle.jo_rule.specs.Sights.{told}

-- the word is that of the node of a structure that is born
pub record IsNodeWord (nodes : Sid → Option Node) (name : WordName) (word : ℕ) : Type 0 where
  pub structure : Sid
  pub found : Node
  pub name_is : name ≡ node structure
  pub is : nodes structure ≡ Some found
  pub word_is : word ≡ node_bits found

-- the word is one of storage that a role fixes
pub record IsFixedWord (role : ℕ → Role) (name : WordName) (word : ℕ) : Type 0 where
  pub at : ℕ
  pub name_is : name ≡ storage at
  pub is : role at ≡ fixed word

-- the word is the sibling link of a structure that is born
pub record IsLinkWord (nodes : Sid → Option Node) (siblings : Sid → ℕ) (name : WordName) (word : ℕ) : Type 0 where
  pub structure : Sid
  pub found : Node
  pub name_is : name ≡ sibling structure
  pub is : nodes structure ≡ Some found
  pub word_is : siblings structure ≡ word

-- the word never changes, since it is one of these
abbrev pub IsLasting : (Sid → Option Node) → (Sid → ℕ) → (ℕ → Role) → WordName → ℕ → Type 0
IsLasting nodes siblings role name word = IsNodeWord nodes name word ⊎ (IsFixedWord role name word ⊎ IsLinkWord nodes siblings name word)

-- each word that a view remembers so never changes
abbrev pub KnowsLasting : (Sid → Option Node) → (Sid → ℕ) → (ℕ → Role) → ℕ → View → Type 0
KnowsLasting nodes siblings role seat v = (name : WordName) (word : ℕ) → told v.lasting name ≡ Some word → IsLasting nodes siblings role name word

-- all that views remember so never changes
pub record Lasting (nodes : Sid → Option Node) (siblings : Sid → ℕ) (role : ℕ → Role) (views : List View) : Type 0 where
  pub known : Live views (KnowsLasting nodes siblings role)
