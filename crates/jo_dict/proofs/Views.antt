-- What is known of a lock, of its block and of the own storage after a step on one word.
use Rattle.std.proofs.Common.{◌≡◌, ℕ, ◌+◌, ◌*◌, ◌<◌, ◌≤◌, max, nat_lt, if◌then◌else◌, refl, sym, ap, ◌∙◌, subst, arith, length, Some, ⊎_elim, get_or-set_other, get_or-set_same}
use Rattle.std.specs.Prelude.{slice_index}
use Rattle.std.proofs.lemmas.Bool.{cases_lt, ne_eqb, eq-eqb, lt-ltb, le-ltb}
use Rattle.jo_value.specs.declared.limits.TheConstants.{MOST_INDEX, MOST_STORAGE}
use Rattle.std.proofs.lemmas.List.{length-set}
use Rattle.jo_value.specs.declared.words.cell.Cell.{Cell}
use Rattle.jo_model.specs.Objects.{Object}
use Rattle.jo_model.specs.WellFormed.{IsWellFormed}
use Rattle.jo_rule.specs.declared.counts.Counts.{Counts}
use Rattle.jo_rule.specs.Names.{word_at, storage}
use Rattle.jo_rule.specs.Views.{View, Lock}
use Rattle.jo_rule.specs.Dictionaries.{block_size, dictionary_header, HasProperties}
use Rattle.jo_rule.specs.Contents.{HasWords}
use Rattle.jo_rule.specs.Steps.{with_own_word, with_block_word}
use Rattle.jo_steps.specs.Views.{HeldView}
use Rattle.jo_steps.specs.Holding.{lock_of, lock_or, HoldsLock, HasBlockOf, IsHeldAt}
use Rattle.jo_dict.specs.Blocks.{OnlyCounts, OnlyStorage, OnlyBlock}
use Rattle.jo_dict.specs.inner.Stored.{Fills, Stores, held_words}

-- a word that was stored, where its number, the word and the words before are told otherwise
pub stores_as : {f old new : ℕ → ℕ} {k at x word : ℕ} → f ≡ old → k ≡ at → x ≡ word → Stores f k x new → Stores old at word new
stores_as {f} {old} {new} {k} {at} {x} {word} e h w s = subst (λ (t : (ℕ → ℕ) × ℕ × ℕ). Stores t.0 t.1 t.2 new) (λ i. (e i, h i, w i)) s

-- ---- a lock

module _ {P : ℕ} {v : View} {held : HeldView} (l : HoldsLock P v held) where
  pub held_at : (k at : ℕ) → k < block_size (lock_of v).room → at ≡ word_at P (storage (held.cell.address + k)) → IsHeldAt P v k at
  held_at k at lt e = record {
    lock = l.lock;
    kind = ap (λ (c : Cell). c.kind) l.cell ∙ l.kind;
    within = lt;
    inside = (let address = ap (λ (c : Cell). c.address) l.cell in let inside = l.inside in omega arith);
    number = e ∙ ap (λ (c : Cell). word_at P (storage (c.address + k))) (sym l.cell);
  }

  -- a view with the same lock
  pub same_lock : (u : View) → u.lock ≡ v.lock → HoldsLock P u held
  same_lock u e =
      let g : lock_of u ≡ lock_of v = ap lock_or e in
      record {
        lock = e ∙ (l.lock ∙ ap (λ (x : Lock). Some x) (sym g));
        object = ap (λ (x : Lock). x.object) g ∙ l.object;
        cell = ap (λ (x : Lock). x.cell) g ∙ l.cell;
        is_cell = l.is_cell;
        kind = l.kind;
        free = l.free;
        size = subst (λ (x : Lock). length x.block ≡ block_size x.room) (sym g) l.size;
        capacity = subst (λ (x : Lock). x.room ≤ MOST_INDEX + 1) (sym g) l.capacity;
        header = subst (λ (x : Lock). slice_index x.block 0 ≡ dictionary_header x.room) (sym g) l.header;
        there = l.there;
        inside = subst (λ (x : Lock). held.cell.address + block_size x.room ≤ MOST_STORAGE * P) (sym g) l.inside;
      }

  -- a view that differs in counts alone, or in the own storage too
  pub held_after : (u : View) → OnlyCounts v u → HoldsLock P u held
  held_after u e = same_lock u (ap (λ (x : View). x.lock) e)

  pub held_stored : (u : View) → OnlyStorage v u → HoldsLock P u held
  held_stored u e = same_lock u (ap (λ (x : View). x.lock) e)

  -- a step that only counts changes no block
  pub counts_block : (u : View) → OnlyCounts v u → OnlyBlock v u
  counts_block u e =
      let g : lock_of u ≡ lock_of v = ap lock_of e in
      e ∙ λ i. record v { lock = (l.lock ∙ ap (λ (x : Lock). Some (record (lock_of v) { block = x.block })) (sym g)) i; counts = u.counts }

  -- a word of the block was stored
  written : (k word : ℕ) (counts : Counts) → 0 < k → HoldsLock P (with_block_word v (lock_of v) k word counts) held
  written k word counts pos = record {
    lock = refl;
    object = l.object;
    cell = l.cell;
    there = l.there;
    is_cell = l.is_cell;
    kind = l.kind;
    free = l.free;
    size = length-set (lock_of v).block k word ∙ l.size;
    capacity = l.capacity;
    header = get_or-set_other (lock_of v).block k 0 word 0 (λ e. omega arith) ∙ l.header;
    inside = l.inside;
  }

  pub still_held : (k word : ℕ) (counts : Counts) (u : View) → 0 < k → u ≡ with_block_word v (lock_of v) k word counts → HoldsLock P u held
  still_held k word counts u pos e = subst (λ (x : View). HoldsLock P x held) (sym e) (written k word counts pos)

  pub stores_held : (k word : ℕ) (counts : Counts) (u : View) → k < block_size (lock_of v).room → u ≡ with_block_word v (lock_of v) k word counts → Stores (held_words v) k word (held_words u)
  stores_held k word counts u lt e =
      let block = (lock_of v).block in
      let size = l.size in
      subst (λ (x : View). Stores (held_words v) k word (held_words x)) (sym e) (record {
        here = get_or-set_same block k word 0 (omega arith);
        others = λ j n. get_or-set_other block k j word 0 n;
      })

-- ---- steps that only count

pub counts_then : (v u w : View) → OnlyCounts v u → OnlyCounts u w → OnlyCounts v w
counts_then v u w e f = f ∙ ap (λ (x : View). record x { counts = w.counts }) e

pub same_words : (v u : View) → OnlyCounts v u → held_words u ≡ held_words v
same_words v u e = ap held_words e

pub same_block : (v u : View) (z : Object) → OnlyCounts v u → HasBlockOf v z → HasBlockOf u z
same_block v u z e b =
    let g : lock_of u ≡ lock_of v = ap lock_of e in
    record {
      properties = subst (λ (x : Lock). HasProperties (slice_index x.block) x.room z) (sym g) b.properties;
      words = b.words;
      formed = b.formed;
    }

pub counts_room : (v u : View) → OnlyCounts v u → (lock_of u).room ≡ (lock_of v).room
counts_room v u e = ap (λ (x : View). (lock_of x).room) e

-- ---- steps that store a word of the block

pub same_room : (v u : View) → OnlyBlock v u → (lock_of u).room ≡ (lock_of v).room
same_room v u e = ap (λ (x : View). (lock_of x).room) e

-- the words of the block after such steps have the properties of an object
pub block_has : (v u : View) (z : Object) → (lock_of u).room ≡ (lock_of v).room → HasProperties (held_words u) (lock_of v).room z → HasWords z → IsWellFormed z → HasBlockOf u z
block_has v u z e p w f = record { properties = subst (λ (n : ℕ). HasProperties (held_words u) n z) (sym e) p; words = w; formed = f }

pub blocks_then : (v u w : View) → OnlyBlock v u → OnlyBlock u w → OnlyBlock v w
blocks_then v u w e f = f ∙ ap (λ (x : View). record x { lock = Some (record (lock_of x) { block = (lock_of w).block }); counts = w.counts }) e

pub writes_only : (v u : View) (k word : ℕ) (counts : Counts) → u ≡ with_block_word v (lock_of v) k word counts → OnlyBlock v u
writes_only v u k word counts e = subst (OnlyBlock v) (sym e) refl

-- ---- the own storage

cases_used : (used k : ℕ) → (if nat_lt used (k + 1) then k + 1 else used) ≡ max used (k + 1)
cases_used used k = ⊎_elim (λ (lt : used < k + 1). rw (lt-ltb used (k + 1) lt) (omega arith)) (λ (le : k + 1 ≤ used). rw (le-ltb used (k + 1) le) (omega arith)) (cases_lt used (k + 1))

pub fills : (v u : View) (k word : ℕ) (counts : Counts) → u ≡ with_own_word v k word counts → Fills v k word u
fills v u k word counts e = subst (Fills v k word) (sym e) (record {
  used = cases_used v.storage.used k;
  named = refl;
  words = record {
    here = (let t = eq-eqb k k refl in rw t refl);
    others = λ j n. (let t = ne_eqb j k n in rw t refl);
  };
  only = refl;
})
