-- A store to an own word keeps the rule and tells what it says.
use Rattle.std.proofs.Common.{◌≡◌, ◌≢◌, ◌⊎◌, ℕ, ◌+◌, ◌-◌, ◌*◌, ◌<◌, ◌≤◌, true, false, List, refl, sym, ap, ◌∙◌, subst, ⊎_elim, arith, set}
use mathlib.Core.Option.{some}
use lib.ListN.{get_elem?}
use Rattle.std.specs.Prelude.{nat_lt, nat_le, ◌&&◌, if◌then◌else◌}
use Rattle.std.proofs.lemmas.Bool.{ltb-true, leb-true, lt-ltb, le-ltb, le-leb, lt-leb, cases_Bool, cases_lt, and_parts, and_from}
use Rattle.jo_value.specs.declared.capacities.TheConstants.{MOST_PASSES}
use Rattle.jo_value.specs.declared.limits.TheConstants.{MOST_OBJECTS, MOST_STORAGE}
use Rattle.jo_value.specs.Words.{cell_bits}
use Rattle.jo_rule.specs.Names.{WordName, cell, storage, storage_at, word_at, is_word, word_numbered}
use Rattle.jo_rule.specs.Areas.{Words, put}
use Rattle.jo_rule.specs.Views.{View}
use Rattle.jo_rule.specs.Dictionaries.{block_size}
use Rattle.jo_rule.specs.Owned.{address_of}
use Rattle.jo_rule.specs.Rule.{Rule}
use Rattle.jo_rule.specs.Steps.{born_cell, with_named, with_own_word, with_block_word, with_birth}
use Rattle.jo_rule.proofs.Names.{word_back}
use Rattle.jo_rule.proofs.Stores.{fills, writes, knows_storage}
use Rattle.jo_rule.proofs.Bears.{bears}
use Rattle.jo_rule.proofs.Tidy.{bearing_changes}
use Rattle.jo_steps.specs.Counting.{one_store}
use Rattle.jo_steps.specs.Holding.{lock_of, next_object, IsFreshAt, IsHeldAt, IsBirthAt, MayStoreOwn}
use Rattle.jo_steps.specs.Effects.{Born, StoredOwn}
use Rattle.jo_steps.specs.inner.Tables.{Keeps}
use Rattle.jo_steps.specs.inner.Storing.{first_word, used_after, objects_after, HasStored}
use Rattle.jo_steps.proofs.Going.{same_block, goes_on, not_fresh}

-- ---- what is used and made after a store

-- a fresh word is used then
used_fresh : (P pass used k : ℕ) → k < MOST_STORAGE → used_after P pass used (word_at P (storage (address_of pass k))) ≡ (if nat_lt used (k + 1) then k + 1 else used)
used_fresh P pass used k to =
    let at = word_at P (storage (address_of pass k)) in
    let hi : nat_lt at (first_word P pass + MOST_STORAGE) ≡ true = lt-ltb at (first_word P pass + MOST_STORAGE) (omega arith) in
    ⊎_elim
    (λ (lt : used < k + 1).
    let lo : nat_le (first_word P pass + used) at ≡ true = le-leb (first_word P pass + used) at (omega arith) in
    let more : nat_lt used (k + 1) ≡ true = lt-ltb used (k + 1) lt in rw (lo, hi, more) (omega arith))
    (λ (ge : k + 1 ≤ used).
    let lo : nat_le (first_word P pass + used) at ≡ false = lt-leb (first_word P pass + used) at (omega arith) in
    let same : nat_lt used (k + 1) ≡ false = le-ltb used (k + 1) ge in rw (lo, same) refl) (cases_lt used (k + 1))

-- no more is used than before where the word is not of the own storage from what is used on
used_same : (P pass used at : ℕ) → ((k : ℕ) → used ≤ k → k < MOST_STORAGE → at ≢ word_at P (storage (address_of pass k))) → used_after P pass used at ≡ used
used_same P pass used at far =
    let test = nat_le (first_word P pass + used) at && nat_lt at (first_word P pass + MOST_STORAGE) in
    ⊎_elim
    (λ (t : test ≡ true).
    let p = and_parts (nat_le (first_word P pass + used) at) (nat_lt at (first_word P pass + MOST_STORAGE)) t in
    let lo = leb-true (first_word P pass + used) at p.0 in
    let hi = ltb-true at (first_word P pass + MOST_STORAGE) p.1 in
    absurd (far (at - first_word P pass) (omega arith) (omega arith) (omega arith)))
    (λ (f : test ≡ false). rw f refl) (cases_Bool test)

-- a word of storage is no object's
objects_same : (P objects a : ℕ) → objects_after P objects (word_at P (storage a)) ≡ objects
objects_same P objects a = let past : nat_lt (word_at P (storage a)) (storage_at P) ≡ false = le-ltb (word_at P (storage a)) (storage_at P) (omega arith) in rw past (omega arith)

-- ---- the three stores

module _ {P : ℕ} {w : Words} {views : List View} (id : ℕ) (v : View) (r : Rule P w views) (at : get_elem? views id ≡ some v) (l : v.live ≡ true) (few : v.births.objects ≤ MOST_OBJECTS) (number : v.number < P) (i word : ℕ) where
  -- the kinds of own words are apart
  fresh_or_held : (k j : ℕ) → IsFreshAt P v k i → IsHeldAt P v j i → ⊥
  fresh_or_held k j f h =
      let e = f.number in
      let d = h.number in
      not_fresh id v r at l (lock_of v) j k h.lock h.kind h.within f.nameless f.within (omega (arith, e, d))

  cell_or_storage : (k room a : ℕ) → IsBirthAt P v k room i word → i ≢ word_at P (storage a)
  cell_or_storage k room a b e =
      let d = b.number in
      let lt = b.may.few in omega (arith, e, d)

  abbrev Stores : WordName → Type 0
  Stores m = (u : View) × Rule P (put w m word) (set views id u) × (u.number ≡ v.number) × (u.live ≡ v.live) × HasStored P i word v u

  fills_it : (k : ℕ) → IsFreshAt P v k i → Stores (storage (address_of v.number k))
  fills_it k f =
      let counts = one_store v.counts in
      let u = with_own_word v k word counts in
      let r' = fills id v r at l k word counts f.nameless f.within in
      let told : StoredOwn P v i word u = record {
        fresh = λ j f'. let e = f.number in let d = f'.number in let same : k ≡ j = omega (arith, e, d) in ap (λ (x : ℕ). with_own_word v x word counts) same;
        held = λ j from h. absurd (fresh_or_held k j f h);
        born = λ j room b. absurd (cell_or_storage j room (address_of v.number k) b f.number);
      } in (
        u,
        r',
        refl,
        refl,
        record {
          told = told;
          goes = goes_on views id v u r' at l refl (used_after P v.number v.storage.used i) (objects_after P v.births.objects i) counts
              (ap (used_after P v.number v.storage.used) f.number ∙ used_fresh P v.number v.storage.used k f.within) refl
              (ap (objects_after P v.births.objects) f.number ∙ objects_same P v.births.objects (address_of v.number k)) refl few;
        },
      )

  writes_it : (k : ℕ) → 0 < k → IsHeldAt P v k i → Stores (storage ((lock_of v).cell.address + k))
  writes_it k from h =
      let counts = one_store v.counts in
      let g = lock_of v in
      let u = with_block_word v g k word counts in
      let r' = writes id v r at l g k word counts h.lock h.kind from h.within in
      let own = knows_storage id v r at l in
      let named = own.0 in
      let told : StoredOwn P v i word u = record {
        fresh = λ j f. absurd (fresh_or_held j k f h);
        held = λ j from' h'. let e = h.number in let d = h'.number in let same : k ≡ j = omega (arith, e, d) in ap (λ (x : ℕ). with_block_word v g x word counts) same;
        born = λ j room b. absurd (cell_or_storage j room (g.cell.address + k) b h.number);
      } in (
        u,
        r',
        refl,
        refl,
        record {
          told = told;
          goes = goes_on views id v u r' at l refl (used_after P v.number v.storage.used i) (objects_after P v.births.objects i) counts
              (used_same P v.number v.storage.used i (λ j le lt e. fresh_or_held j k (record { nameless = omega arith; within = lt; number = e }) h)) refl
              (ap (objects_after P v.births.objects) h.number ∙ objects_same P v.births.objects (g.cell.address + k)) refl few;
        },
      )

  bears_it : (k room : ℕ) → P ≤ MOST_PASSES → IsBirthAt P v k room i word → Stores (cell (next_object v))
  bears_it k room most b =
      let counts = one_store v.counts in
      let own = with_named v.storage k (block_size room) in
      let u = with_birth P v r.log own counts in
      let t = bears id v r at l k room counts most b.may in
      let r' = subst (λ (x : ℕ). Rule P (put w (cell (next_object v)) x) (set views id u)) (sym b.is_word) t.1 in
      let less = b.may.few in
      let is_at = b.number in
      let born : Born P k room v u = record { log = r.log; more = r.histories.seen id v at l; view = refl; changes = bearing_changes id v r at l own counts less; objects = sym (r.owned.objects id v at l); reply = t.3; born = t.2 } in
      let before : nat_lt i (storage_at P) ≡ true = lt-ltb i (storage_at P) (omega (arith, is_at)) in
      let told : StoredOwn P v i word u = record {
        fresh = λ j f. absurd (cell_or_storage k room (address_of v.number j) b f.number);
        held = λ j from h. absurd (cell_or_storage k room ((lock_of v).cell.address + j) b h.number);
        born = λ j room' b'.
            let e : cell_bits (born_cell v.number (address_of v.number k)) ≡ cell_bits (born_cell v.number (address_of v.number j)) = sym b.is_word ∙ b'.is_word in
            let one = same_block v.storage v.number k room j room' (omega (arith, e)) b.may.block.header b'.may.block.header in
            subst (λ (z : ℕ × ℕ). Born P z.0 z.1 v u) (λ x. (one.0 x, one.1 x)) born;
      } in (
        u,
        r',
        refl,
        refl,
        record {
          told = told;
          goes = goes_on views id v u r' at l refl (used_after P v.number v.storage.used i) (objects_after P v.births.objects i) counts
              (used_same P v.number v.storage.used i (λ j le lt e. cell_or_storage k room (address_of v.number j) b e)) refl (rw before refl) refl (omega arith);
        },
      )

-- ---- each own word by its number

-- an own word, its name, and that its store keeps the rule
pub record IsOwnWord (P id at word : ℕ) (v : View) (m : WordName) : Type 0 where
  pub is : is_word P m ≡ true
  pub number : at ≡ word_at P m
  pub keeps : Keeps P m (λ _. word) id v (λ n u. HasStored P at word v u)

fresh_word : (P id : ℕ) (v : View) (at word k : ℕ) → v.live ≡ true → v.births.objects ≤ MOST_OBJECTS → v.number < P → IsFreshAt P v k at → IsOwnWord P id at word v (storage (address_of v.number k))
fresh_word P id v at word k l few number f =
    let lt = f.within in
    record { is = lt-ltb (address_of v.number k) (MOST_STORAGE * P) (omega arith); number = f.number; keeps = λ w views r there. fills_it id v r there l few number at word k f }

held_word : (P id : ℕ) (v : View) (at word k : ℕ) → v.live ≡ true → v.births.objects ≤ MOST_OBJECTS → v.number < P → 0 < k → IsHeldAt P v k at → IsOwnWord P id at word v (storage ((lock_of v).cell.address + k))
held_word P id v at word k l few number from h =
    record { is = lt-ltb ((lock_of v).cell.address + k) (MOST_STORAGE * P) h.inside; number = h.number; keeps = λ w views r there. writes_it id v r there l few number at word k from h }

birth_word : (P id : ℕ) (v : View) (at word k room : ℕ) → P ≤ MOST_PASSES → v.live ≡ true → v.births.objects ≤ MOST_OBJECTS → v.number < P → IsBirthAt P v k room at word → IsOwnWord P id at word v (cell (next_object v))
birth_word P id v at word k room most l few number b = record {
  is = and_from (nat_lt v.number P) (nat_lt v.births.objects MOST_OBJECTS) (lt-ltb v.number P number) (lt-ltb v.births.objects MOST_OBJECTS b.may.few);
  number = b.number;
  keeps = λ w views r there. bears_it id v r there l few number at word k room most b;
}

-- the number tells the name
by_number : (P id at word : ℕ) (v : View) (m : WordName) → IsOwnWord P id at word v m → IsOwnWord P id at word v (word_numbered P at)
by_number P id at word v m h = subst (IsOwnWord P id at word v) (sym (ap (word_numbered P) h.number ∙ word_back P m h.is)) h

pub stores_own : (P id : ℕ) (v : View) (at word : ℕ) → P ≤ MOST_PASSES → v.live ≡ true → v.births.objects ≤ MOST_OBJECTS → v.number < P → MayStoreOwn P v at word → IsOwnWord P id at word v (word_numbered P at)
stores_own P id v at word most l few number may =
    ⊎_elim (λ f. by_number P id at word v (storage (address_of v.number f.0)) (fresh_word P id v at word f.0 l few number f.1))
    (λ (rest : ((k : ℕ) × (0 < k) × IsHeldAt P v k at) ⊎ ((k : ℕ) × (room : ℕ) × IsBirthAt P v k room at word)). ⊎_elim
    (λ h. by_number P id at word v (storage ((lock_of v).cell.address + h.0)) (held_word P id v at word h.0 l few number h.1 h.2))
    (λ b. by_number P id at word v (cell (next_object v)) (birth_word P id v at word b.0 b.1 most l few number b.2)) rest) may
