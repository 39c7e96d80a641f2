-- A new block to which the words of the held one were copied.
use Rattle.std.proofs.Common.{◌≡◌, ℕ, ◌+◌, ◌*◌, ◌<◌, ◌≤◌, sym, ap, ◌∙◌, subst, arith, ⊎_elim}
use Rattle.std.proofs.lemmas.Bool.{cases_lt}
use Rattle.std.proofs.lemmas.Option.{slice_get_within}
use Rattle.std.specs.Prelude.{slice_index}
use Rattle.jo_value.specs.Words.{slot_bits}
use Rattle.jo_model.specs.Objects.{Object, empty_object}
use Rattle.jo_rule.specs.Views.{View}
use Rattle.jo_rule.specs.Dictionaries.{HasProperties, slot_in}
use Rattle.jo_steps.specs.Holding.{lock_of, HasBlockOf}
use Rattle.jo_dict.specs.Blocks.{IsMade, OnlyCounts, OnlyStorage}
use Rattle.jo_dict.specs.inner.Stored.{Copies, held_words, fresh_words}

-- what an empty block has behind the room of the old one is what any object has there that the old block has
copied_has : (f g h : ℕ → ℕ) (first room elements : ℕ) (z : Object) → HasProperties f room z → room ≤ elements → HasProperties (λ j. g (first + j)) elements empty_object → Copies f first (130 + room) g h
    → HasProperties (λ j. h (first + j)) elements z
copied_has f g h first room elements z p le e c =
    let few = p.few in
    record {
      few = p.few;
      count = c.copied 1 (omega arith) (omega arith) ∙ p.count;
      names = λ j name v is.
          let w = p.names j name v is in
          let lt = slice_get_within z.names j (name, v) is in
          (c.copied (2 + 2 * j) (omega arith) (omega arith) ∙ w.0, c.copied (3 + 2 * j) (omega arith) (omega arith) ∙ w.1);
      elements = λ i lt. ⊎_elim
          (λ (below : i < room). c.copied (130 + i) (omega arith) (omega arith) ∙ p.elements i below)
          (λ (above : room ≤ i). c.behind (130 + i) (omega arith) (omega arith) ∙ e.elements i lt ∙ sym (ap (λ o. slot_bits (slot_in o)) (p.beyond i above))) (cases_lt i room);
      beyond = λ i above. p.beyond i (omega arith);
    }

pub copied_made : (v u a w : View) (elements address : ℕ) (z : Object) → HasBlockOf v z → (lock_of v).room ≤ elements → IsMade v u elements empty_object address → OnlyCounts u a
    → Copies (held_words a) v.storage.used (130 + (lock_of u).room) (fresh_words a) (fresh_words w) → w.storage.used ≡ a.storage.used → w.storage.named ≡ a.storage.named → OnlyStorage a w
    → IsMade v w elements z address
copied_made v u a w elements address z b le m counted c used named only =
    let first = v.storage.used in
    let room : lock_of u ≡ lock_of v = ap lock_of m.only in
    let lock : lock_of a ≡ lock_of v = ap lock_of counted ∙ room in
    let fresh = ap fresh_words counted in
    let copies = subst (λ (x : (ℕ → ℕ) × ℕ × (ℕ → ℕ)). Copies x.0 first (130 + x.1) x.2 (fresh_words w)) (λ i. (slice_index (lock i).block, (room i).room, fresh i)) c in
    let area_used = used ∙ ap (λ (x : View). x.storage.used) counted in
    let area_named = named ∙ ap (λ (x : View). x.storage.named) counted in
    record {
      fits = m.fits;
      here = m.here;
      used = area_used ∙ m.used;
      named = area_named ∙ m.named;
      filled = record {
        capacity = m.filled.capacity;
        from = (let from = m.filled.from in omega arith);
        to = (let to = m.filled.to in omega arith);
        header = copies.before first (omega arith) ∙ m.filled.header;
        properties = copied_has (held_words v) (fresh_words u) (fresh_words w) first (lock_of v).room elements z b.properties le m.filled.properties copies;
      };
      others = λ j lt. copies.before j (omega arith) ∙ m.others j lt;
      only = only ∙ ap (λ (x : View). record x { storage = w.storage; counts = w.counts }) (counted ∙ ap (λ (x : View). record x { counts = a.counts }) m.only);
    }
