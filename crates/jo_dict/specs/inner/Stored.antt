-- One word that is stored, in the held block or in the own storage.
use Rattle.std.specs.Prelude.{◌≡◌, ◌≢◌, ℕ, ◌+◌, ◌<◌, ◌≤◌, max, slice_index}
use Rattle.jo_value.specs.declared.value.Key.{Key}
use Rattle.jo_model.specs.Objects.{Object}
use Rattle.jo_rule.specs.Steps.{IsFilled}
use Rattle.jo_rule.specs.Views.{View, word_in}
use Rattle.jo_steps.specs.Holding.{lock_of}
use Rattle.jo_dict.specs.Blocks.{MayAppend, OnlyStorage}

-- the words of the block whose lock the view holds, and those of the own storage
abbrev pub held_words : View → ℕ → ℕ
held_words v = slice_index (lock_of v).block

abbrev pub fresh_words : View → ℕ → ℕ
fresh_words v = word_in v.storage.fresh

-- word k became this one, and the others are as they were
pub record Stores (f : ℕ → ℕ) (k word : ℕ) (g : ℕ → ℕ) : Type 0 where
  pub here : g k ≡ word
  pub others : (j : ℕ) → j ≢ k → g j ≡ f j

-- word k of the own storage was stored, which no cell has named
pub record Fills (v : View) (k word : ℕ) (u : View) : Type 0 where
  pub used : u.storage.used ≡ max v.storage.used (k + 1)
  pub named : u.storage.named ≡ v.storage.named
  pub words : Stores (fresh_words v) k word (fresh_words u)
  pub only : OnlyStorage v u

-- Words 1 to `size` - 1 were copied to the own storage, behind its word `first`. All others there are as they were.
pub record Copies (words : ℕ → ℕ) (first size : ℕ) (old new : ℕ → ℕ) : Type 0 where
  pub copied : (k : ℕ) → 0 < k → k < size → new (first + k) ≡ words k
  pub before : (j : ℕ) → j ≤ first → new j ≡ old j
  pub behind : (k : ℕ) → size ≤ k → 0 < k → new (first + k) ≡ old (first + k)

-- ---- a block of the own storage that begins at its word `first`

abbrev pub block_words : View → (first : ℕ) → ℕ → ℕ
block_words v first k = word_in v.storage.fresh (first + k)

pub record IsWordOfBlock (v : View) (first k : ℕ) : Type 0 where
  pub from : v.storage.named ≤ first
  pub to : first + k < v.storage.used

-- it has the properties of some object, no cell names it, and it has room for this key, which is not there where it is a name
pub record HasFreshBlock (v : View) (first : ℕ) (key : Key) : Type 0 where
  pub elements : ℕ
  pub object : Object
  pub filled : IsFilled v.storage first elements object
  pub room : MayAppend elements object key

-- words were stored where the storage was used before
pub record KeepsArea (v u : View) : Type 0 where
  pub used : u.storage.used ≡ v.storage.used
  pub named : u.storage.named ≡ v.storage.named
  pub only : OnlyStorage v u
