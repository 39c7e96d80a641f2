-- A block of the own storage after steps on its words.
use Rattle.std.proofs.Common.{◌≡◌, ℕ, ◌+◌, sym, ap, ◌∙◌, subst, arith, length}
use Rattle.jo_model.specs.Objects.{Object}
use Rattle.jo_rule.specs.Views.{View, Storage, word_in}
use Rattle.jo_rule.specs.Dictionaries.{HasProperties}
use Rattle.jo_rule.specs.Steps.{IsFilled}
use Rattle.jo_dict.specs.Blocks.{OnlyCounts}
use Rattle.jo_dict.specs.inner.Stored.{KeepsArea, block_words}

-- the header tells the room
pub same_elements : (own : Storage) (first m n : ℕ) (y z : Object) → IsFilled own first m y → IsFilled own first n z → m ≡ n
same_elements own first m n y z f g = (let a = f.header in let b = g.header in omega arith)

pub same_fresh : (v u : View) (first : ℕ) → OnlyCounts v u → block_words u first ≡ block_words v first
same_fresh v u first e = ap (λ (x : View). block_words x first) e

pub area_after : (v u w : View) → OnlyCounts v u → KeepsArea u w → KeepsArea v w
area_after v u w e a = record {
  used = a.used ∙ ap (λ (x : View). x.storage.used) e;
  named = a.named ∙ ap (λ (x : View). x.storage.named) e;
  only = a.only ∙ ap (λ (x : View). record x { storage = w.storage; counts = w.counts }) e;
}

pub areas_then : (v u w : View) → KeepsArea v u → KeepsArea u w → KeepsArea v w
areas_then v u w a b = record {
  used = b.used ∙ a.used;
  named = b.named ∙ a.named;
  only = b.only ∙ ap (λ (x : View). record x { storage = w.storage; counts = w.counts }) a.only;
}

-- the block has the properties of another object then, with its header
pub refilled : (v u : View) (first room : ℕ) (z new : Object) → IsFilled v.storage first room z → KeepsArea v u → block_words u first 0 ≡ block_words v first 0 → HasProperties (block_words u first) room new → IsFilled u.storage first room new
refilled v u first room z new f area head p =
    let named = area.named in
    let used = area.used in
    let from = f.from in
    let to = f.to in
    let e : first ≡ first + 0 = omega arith in
    record {
      capacity = f.capacity;
      from = omega arith;
      to = omega arith;
      header = ap (word_in u.storage.fresh) e ∙ head ∙ sym (ap (word_in v.storage.fresh) e) ∙ f.header;
      properties = p;
    }
