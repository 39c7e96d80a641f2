-- The words of a new heap, as they are set one after another.
use Rattle.std.proofs.Common.{◌≡◌, ◌≢◌, ◌+◌, ◌*◌, ◌%◌, ◌<◌, ◌≤◌, ◌&&◌, ℕ, true, false, cond, eqb, ltb, List, length, set, replicate, refl, sym, ap, ◌∙◌, ⊎_elim, arith, length-set}
use Rattle.std.specs.Prelude.{nat_eq, nat_lt, if◌then◌else◌, slice_index}
use Rattle.std.proofs.lemmas.Bool.{cases_eq, cases_lt, eq-eqb, ne_eqb, lt-ltb, le-ltb, and_from}
use Rattle.std.proofs.lemmas.List.{get_or-replicate, length-replicate}
use Rattle.jo_value.specs.declared.capacities.TheConstants.{MOST_STRUCTURES, OUT, SHARED_ADDRESS}
use Rattle.jo_value.specs.declared.limits.TheConstants.{MOST_OBJECTS, MOST_STORAGE}
use Rattle.jo_value.specs.Words.{cell_bits, node_bits}
use Rattle.jo_model.specs.Heaps.{shared}
use Rattle.jo_rule.specs.Areas.{Words, is_same_word, put}
use Rattle.jo_rule.specs.Contents.{root_of}
use Rattle.jo_rule.specs.Dictionaries.{dictionary_header}
use Rattle.jo_rule.specs.Names.{WordName, epoch, acknowledgement, node, first_child, sibling, transition_set, write_set, cell, inline, storage, word_at, is_word, word_numbered, words_in_all}
use Rattle.jo_rule.specs.Opening.{shared_cell, opening_word, AreOpening}
use Rattle.jo_rule.specs.Owned.{root_node}
use Rattle.jo_rule.proofs.Names.{word_below, words_set, word_is}
use Rattle.jo_heap.proofs.Both.{both_off, both_on}
use Rattle.jo_heap.proofs.Numbered.{numbered}

-- a list has these words
pub record AreWords (P : ℕ) (w : Words) (ws : List ℕ) : Type 0 where
  pub all : length ws ≡ words_in_all P
  pub each : (n : WordName) → is_word P n ≡ true → slice_index ws (word_at P n) ≡ w n

-- the passes before this one are out and have their roots, and all else is 0
abbrev pub begun_before : ℕ → Words
begun_before pass (acknowledgement p) = if nat_lt p pass then OUT else 0
begun_before pass (node s) = if nat_eq (s.0 % MOST_STRUCTURES) 0 && nat_lt s.0 (MOST_STRUCTURES * pass) then node_bits root_node else 0
begun_before pass _ = 0

-- at first all are 0
none_begun : (n : WordName) → begun_before 0 n ≡ 0
none_begun (acknowledgement p) = let e : ltb p 0 ≡ false = le-ltb p 0 (omega arith) in rw e refl
none_begun (node s) =
    let e : ltb s.0 (MOST_STRUCTURES * 0) ≡ false = le-ltb s.0 (MOST_STRUCTURES * 0) (omega arith) in
    let f = both_off (eqb (s.0 % MOST_STRUCTURES) 0) in
    rw (e, f) refl
none_begun epoch = refl
none_begun (first_child s) = refl
none_begun (sibling s) = refl
none_begun (transition_set s) = refl
none_begun (write_set s) = refl
none_begun (cell o) = refl
none_begun (inline o j) = refl
none_begun (storage a) = refl

pub zeros_are : (P : ℕ) → AreWords P (begun_before 0) (replicate (words_in_all P) 0)
zeros_are P = record {
  all = length-replicate {A = ℕ} (words_in_all P) 0;
  each = λ n is. get_or-replicate (words_in_all P) (word_at P n) 0 0 (word_below P n is) ∙ sym (none_begun n);
}

-- a word that is set changes at its name
pub set_are : (P : ℕ) (m : WordName) (w : Words) (ws : List ℕ) (x : ℕ) → is_word P m ≡ true → AreWords P w ws → AreWords P (put w m x) (set ws (word_at P m) x)
set_are P m w ws x there h = record {
  all = length-set ws (word_at P m) x ∙ h.all;
  each = λ n is.
      sym (word_is P n (set ws (word_at P m) x) is) ∙ ((λ i. words_set P m ws x there h.all i n)
      ∙ ap (λ (y : ℕ). cond (is_same_word n m) x y) (word_is P n ws is ∙ h.each n is));
}

same_are : (P : ℕ) (w w' : Words) (ws : List ℕ) → ((n : WordName) → is_word P n ≡ true → w n ≡ w' n) → AreWords P w ws → AreWords P w' ws
same_are P w w' ws same h = record { all = h.all; each = λ n is. h.each n is ∙ same n is }

-- ---- one more pass is out, and has its root

next_out : (p q : ℕ) → cond (eqb q p) OUT (cond (ltb q p) OUT 0) ≡ cond (ltb q (p + 1)) OUT 0
next_out p q = ⊎_elim
    (λ (e : q ≡ p).
    let a : eqb q p ≡ true = eq-eqb q p e in
    let b : ltb q (p + 1) ≡ true = lt-ltb q (p + 1) (omega arith) in rw (a, b) refl)
    (λ (n : q ≢ p). ⊎_elim
    (λ (lt : q < p).
    let a : eqb q p ≡ false = ne_eqb q p n in
    let b : ltb q p ≡ true = lt-ltb q p lt in
    let d : ltb q (p + 1) ≡ true = lt-ltb q (p + 1) (omega arith) in rw (a, b, d) refl)
    (λ (ge : p ≤ q).
    let a : eqb q p ≡ false = ne_eqb q p n in
    let b : ltb q p ≡ false = le-ltb q p ge in
    let d : ltb q (p + 1) ≡ false = le-ltb q (p + 1) (omega arith) in rw (a, b, d) refl) (cases_lt q p)) (cases_eq q p)

next_root : (p s bits : ℕ) → cond (eqb s (MOST_STRUCTURES * p)) bits (cond (eqb (s % MOST_STRUCTURES) 0 && ltb s (MOST_STRUCTURES * p)) bits 0) ≡ cond (eqb (s % MOST_STRUCTURES) 0 && ltb s (MOST_STRUCTURES * (p + 1))) bits 0
next_root p s bits = ⊎_elim
    (λ (m : s % MOST_STRUCTURES ≡ 0). ⊎_elim
    (λ (e : s ≡ MOST_STRUCTURES * p).
    let r : eqb (s % MOST_STRUCTURES) 0 ≡ true = eq-eqb (s % MOST_STRUCTURES) 0 m in
    let a : eqb s (MOST_STRUCTURES * p) ≡ true = eq-eqb s (MOST_STRUCTURES * p) e in
    let b : ltb s (MOST_STRUCTURES * (p + 1)) ≡ true = lt-ltb s (MOST_STRUCTURES * (p + 1)) (omega arith) in rw (r, a, b) refl)
    (λ (n : s ≢ MOST_STRUCTURES * p). ⊎_elim
    (λ (lt : s < MOST_STRUCTURES * p).
    let r : eqb (s % MOST_STRUCTURES) 0 ≡ true = eq-eqb (s % MOST_STRUCTURES) 0 m in
    let a : eqb s (MOST_STRUCTURES * p) ≡ false = ne_eqb s (MOST_STRUCTURES * p) n in
    let b : ltb s (MOST_STRUCTURES * p) ≡ true = lt-ltb s (MOST_STRUCTURES * p) lt in
    let d : ltb s (MOST_STRUCTURES * (p + 1)) ≡ true = lt-ltb s (MOST_STRUCTURES * (p + 1)) (omega arith) in rw (r, a, b, d) refl)
    (λ (ge : MOST_STRUCTURES * p ≤ s).
    let r : eqb (s % MOST_STRUCTURES) 0 ≡ true = eq-eqb (s % MOST_STRUCTURES) 0 m in
    let a : eqb s (MOST_STRUCTURES * p) ≡ false = ne_eqb s (MOST_STRUCTURES * p) n in
    let b : ltb s (MOST_STRUCTURES * p) ≡ false = le-ltb s (MOST_STRUCTURES * p) ge in
    let d : ltb s (MOST_STRUCTURES * (p + 1)) ≡ false = le-ltb s (MOST_STRUCTURES * (p + 1)) (omega arith) in rw (r, a, b, d) refl)
    (cases_lt s (MOST_STRUCTURES * p))) (cases_eq s (MOST_STRUCTURES * p)))
    (λ (k : s % MOST_STRUCTURES ≢ 0).
    let r : eqb (s % MOST_STRUCTURES) 0 ≡ false = ne_eqb (s % MOST_STRUCTURES) 0 k in
    let a : eqb s (MOST_STRUCTURES * p) ≡ false = ne_eqb s (MOST_STRUCTURES * p) (λ e. omega (arith, k, e)) in rw (r, a) refl) (cases_eq (s % MOST_STRUCTURES) 0)

abbrev with_pass : Words → ℕ → Words
with_pass w p = put (put w (acknowledgement p) OUT) (node (root_of p)) (node_bits root_node)

next_begun : (p : ℕ) (n : WordName) → with_pass (begun_before p) p n ≡ begun_before (p + 1) n
next_begun p (acknowledgement q) = next_out p q
next_begun p (node s) = next_root p s.0 (node_bits root_node)
next_begun p epoch = refl
next_begun p (first_child s) = refl
next_begun p (sibling s) = refl
next_begun p (transition_set s) = refl
next_begun p (write_set s) = refl
next_begun p (cell o) = refl
next_begun p (inline o j) = refl
next_begun p (storage a) = refl

pub pass_begun : (P p : ℕ) (ws : List ℕ) → p < P → AreWords P (begun_before p) ws
    → AreWords P (begun_before (p + 1)) (set (set ws (word_at P (acknowledgement p)) OUT) (word_at P (node (root_of p))) (node_bits root_node))
pass_begun P p ws lt h =
    let out = set_are P (acknowledgement p) (begun_before p) ws OUT (lt-ltb p P lt) h in
    let root = set_are P (node (root_of p)) (put (begun_before p) (acknowledgement p) OUT) (set ws (word_at P (acknowledgement p)) OUT) (node_bits root_node) (lt-ltb (MOST_STRUCTURES * p) (MOST_STRUCTURES * P) (omega arith)) out in
    same_are P (with_pass (begun_before p) p) (begun_before (p + 1)) (set (set ws (word_at P (acknowledgement p)) OUT) (word_at P (node (root_of p))) (node_bits root_node)) (λ n is. next_begun p n) root

-- ---- the shared object, when each pass is begun

abbrev with_shared : Words → Words
with_shared w = put (put w (cell shared) (cell_bits shared_cell)) (storage SHARED_ADDRESS) (dictionary_header 0)

all_begun : (P : ℕ) (n : WordName) → is_word P n ≡ true → with_shared (begun_before P) n ≡ opening_word n
all_begun P (acknowledgement q) is = rw is refl
all_begun P (node s) is = let e = both_on (eqb (s.0 % MOST_STRUCTURES) 0) in rw (is, e) refl
all_begun P epoch is = refl
all_begun P (first_child s) is = refl
all_begun P (sibling s) is = refl
all_begun P (transition_set s) is = refl
all_begun P (write_set s) is = refl
all_begun P (cell o) is = refl
all_begun P (inline o j) is = refl
all_begun P (storage a) is = refl

opening_are : (P : ℕ) (ws : List ℕ) → AreWords P opening_word ws → AreOpening P ws
opening_are P ws h = record {
  all = h.all;
  each = λ i lt. let k = numbered P i lt in ap (slice_index ws) (sym k.number) ∙ h.each (word_numbered P i) k.there;
}

pub shared_begun : (P : ℕ) (ws : List ℕ) → 0 < P → AreWords P (begun_before P) ws
    → AreOpening P (set (set ws (word_at P (cell shared)) (cell_bits shared_cell)) (word_at P (storage SHARED_ADDRESS)) (dictionary_header 0))
shared_begun P ws lt h =
    let object : is_word P (cell shared) ≡ true = and_from (ltb 0 P) (ltb 0 MOST_OBJECTS) (lt-ltb 0 P lt) (lt-ltb 0 MOST_OBJECTS (omega arith)) in
    let made = set_are P (cell shared) (begun_before P) ws (cell_bits shared_cell) object h in
    let cut = set ws (word_at P (cell shared)) (cell_bits shared_cell) in
    let block = set_are P (storage SHARED_ADDRESS) (put (begun_before P) (cell shared) (cell_bits shared_cell)) cut (dictionary_header 0) (lt-ltb SHARED_ADDRESS (MOST_STORAGE * P) (omega arith)) made in
    let whole = set cut (word_at P (storage SHARED_ADDRESS)) (dictionary_header 0) in
    opening_are P whole (same_are P (with_shared (begun_before P)) opening_word whole (all_begun P) block)
