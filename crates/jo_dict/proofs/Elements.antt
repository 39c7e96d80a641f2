-- The value at an index, where one element of a list is set, put in or taken out.
use Rattle.std.proofs.Common.{◌≡◌, ◌≢◌, ◌==◌, ◌+◌, ◌<◌, ℕ, zero, suc, true, false, eqb, refl, sym, ap, ◌∙◌, arith, ⊎_elim, List, [], ◌∷◌, length, map, get_or, set, drop, insert, remove, slice_get, option_map, Option, Some, None}
use Rattle.std.specs.List.{position_or_len}
use Rattle.std.specs.List.Sorted.{IsStrictlyIncreasing}
use Rattle.std.proofs.lemmas.Bool.{cases_eq, ne_eqb, eq-eqb}
use Rattle.std.proofs.lemmas.List.{get_or-map, length-map}
use Rattle.std.proofs.lemmas.List.Kept.{AllPairs-from_increasing}
use Rattle.jo_value.specs.declared.value.Value.{Value}

abbrev Elements : Type 0
Elements = List (ℕ × Value)

abbrev pub place_in : Elements → ℕ → ℕ
place_in l i = position_or_len (λ p. p.0 == i) l

abbrev pub at_index : Elements → ℕ → Option Value
at_index l i = option_map (λ p. p.1) (slice_get l (place_in l i))

-- ---- one element before the others

place_first : (p : ℕ × Value) (l : Elements) (i : ℕ) → p.0 ≡ i → place_in (p ∷ l) i ≡ 0
place_first p l i h = let e : eqb p.0 i ≡ true = eq-eqb p.0 i h in rw e refl

place_later : (p : ℕ × Value) (l : Elements) (i : ℕ) → p.0 ≢ i → place_in (p ∷ l) i ≡ suc (place_in l i)
place_later p l i n =
    let e : eqb p.0 i ≡ false = ne_eqb p.0 i n in
    let more : 1 + place_in l i ≡ suc (place_in l i) = omega arith in
    rw e more

first : (p : ℕ × Value) (l : Elements) (i : ℕ) → p.0 ≡ i → at_index (p ∷ l) i ≡ Some p.1
first p l i h = ap (λ k. option_map (λ p. p.1) (slice_get (p ∷ l) k)) (place_first p l i h)

later : (p : ℕ × Value) (l : Elements) (i : ℕ) → p.0 ≢ i → at_index (p ∷ l) i ≡ at_index l i
later p l i n = ap (λ k. option_map (λ p. p.1) (slice_get (p ∷ l) k)) (place_later p l i n)

-- the same in front of two lists with the same value at an index
behind : (p : ℕ × Value) (l m : Elements) (j : ℕ) → at_index l j ≡ at_index m j → at_index (p ∷ l) j ≡ at_index (p ∷ m) j
behind p l m j e = ⊎_elim
    (λ (h : p.0 ≡ j). first p l j h ∙ sym (first p m j h))
    (λ (n : p.0 ≢ j). later p l j n ∙ e ∙ sym (later p m j n)) (cases_eq p.0 j)

-- ---- set

pub set_here : (l : Elements) (i : ℕ) (v : Value) → place_in l i < length l → at_index (set l (place_in l i) (i, v)) i ≡ Some v
set_here [] i v lt = absurd (omega arith)
set_here (p ∷ l) i v lt = ⊎_elim
    (λ (h : p.0 ≡ i). ap (λ k. at_index (set (p ∷ l) k (i, v)) i) (place_first p l i h) ∙ first (i, v) l i refl)
    (λ (n : p.0 ≢ i).
    let e = place_later p l i n in
    ap (λ k. at_index (set (p ∷ l) k (i, v)) i) e ∙ later p (set l (place_in l i) (i, v)) i n ∙ set_here l i v (omega arith)) (cases_eq p.0 i)

pub set_else : (l : Elements) (i j : ℕ) (v : Value) → j ≢ i → at_index (set l (place_in l i) (i, v)) j ≡ at_index l j
set_else [] i j v other = refl
set_else (p ∷ l) i j v other = ⊎_elim
    (λ (h : p.0 ≡ i). ap (λ k. at_index (set (p ∷ l) k (i, v)) j) (place_first p l i h) ∙ later (i, v) l j (λ e. other (sym e)) ∙ sym (later p l j (λ e. other (sym e ∙ h))))
    (λ (n : p.0 ≢ i).
    ap (λ k. at_index (set (p ∷ l) k (i, v)) j) (place_later p l i n) ∙ behind p (set l (place_in l i) (i, v)) l j (set_else l i j v other)) (cases_eq p.0 i)

-- ---- put in

pub put_here : (c : ℕ) (l : Elements) (i : ℕ) (v : Value) → at_index l i ≡ None → at_index (insert l c (i, v)) i ≡ Some v
put_here zero l i v e = first (i, v) (drop 0 l) i refl
put_here (suc c) [] i v e = first (i, v) [] i refl
put_here (suc c) (p ∷ l) i v e = ⊎_elim
    (λ (h : p.0 ≡ i). (let no : Some p.1 ≡ None = sym (first p l i h) ∙ e in absurd cc))
    (λ (n : p.0 ≢ i). later p (insert l c (i, v)) i n ∙ put_here c l i v (sym (later p l i n) ∙ e)) (cases_eq p.0 i)

pub put_else : (c : ℕ) (l : Elements) (i j : ℕ) (v : Value) → j ≢ i → at_index (insert l c (i, v)) j ≡ at_index l j
put_else zero l i j v other = later (i, v) (drop 0 l) j (λ e. other (sym e))
put_else (suc c) [] i j v other = later (i, v) [] j (λ e. other (sym e))
put_else (suc c) (p ∷ l) i j v other = behind p (insert l c (i, v)) l j (put_else c l i j v other)

-- ---- taken out

nowhere : (l : Elements) (i : ℕ) → ((k : ℕ) (d : ℕ × Value) → k < length l → (get_or l k d).0 ≢ i) → at_index l i ≡ None
nowhere [] i none = refl
nowhere (p ∷ l) i none = later p l i (none 0 p (omega arith)) ∙ nowhere l i (λ k d lt. none (suc k) d (omega arith))

-- no index stands twice
abbrev Once : Elements → Type 0
Once l = (j k : ℕ) (d : ℕ × Value) → j < k → k < length l → (get_or l j d).0 ≢ (get_or l k d).0

tail_once : (p : ℕ × Value) (l : Elements) → Once (p ∷ l) → Once l
tail_once p l once j k d lt h = once (suc j) (suc k) d (omega arith) (omega arith)

take_here : (l : Elements) (i : ℕ) → Once l → at_index (remove l (place_in l i)) i ≡ None
take_here [] i once = refl
take_here (p ∷ l) i once = ⊎_elim
    (λ (h : p.0 ≡ i). ap (λ k. at_index (remove (p ∷ l) k) i) (place_first p l i h) ∙ nowhere l i (λ k d lt e. once 0 (suc k) d (omega arith) (omega arith) (h ∙ sym e)))
    (λ (n : p.0 ≢ i). ap (λ k. at_index (remove (p ∷ l) k) i) (place_later p l i n) ∙ later p (remove l (place_in l i)) i n ∙ take_here l i (tail_once p l once)) (cases_eq p.0 i)

pub take_else : (l : Elements) (i j : ℕ) → j ≢ i → at_index (remove l (place_in l i)) j ≡ at_index l j
take_else [] i j other = refl
take_else (p ∷ l) i j other = ⊎_elim
    (λ (h : p.0 ≡ i). ap (λ k. at_index (remove (p ∷ l) k) j) (place_first p l i h) ∙ sym (later p l j (λ e. other (sym e ∙ h))))
    (λ (n : p.0 ≢ i). ap (λ k. at_index (remove (p ∷ l) k) j) (place_later p l i n) ∙ behind p (remove l (place_in l i)) l j (take_else l i j other)) (cases_eq p.0 i)

rising_once : (l : Elements) → IsStrictlyIncreasing (map (λ p. p.0) l) → Once l
rising_once l up j k d lt h e =
    let size : length (map (λ p. p.0) l) ≡ length l = simp length-map in
    let below = AllPairs-from_increasing (map (λ p. p.0) l) up j k 0 lt (omega arith) in
    let a = get_or-map (λ (p : ℕ × Value). p.0) l j d 0 (omega arith) in
    let b = get_or-map (λ (p : ℕ × Value). p.0) l k d 0 h in
    omega (arith, below, a, b, e)

pub take_rising : (l : Elements) (i : ℕ) → IsStrictlyIncreasing (map (λ p. p.0) l) → at_index (remove l (place_in l i)) i ≡ None
take_rising l i up = take_here l i (rising_once l up)
