-- The punctuators that begin alike: the longest of all is the longest of those that a script may begin with.
use Rattle.std.proofs.Common.{◌≡◌, ◌<◌, ◌≤◌, ℕ, Bool, true, false, cond, ◌&&◌, nat_lt, nat_le, ◌==◌, ◌⊎◌, inl, inr, List, [], ◌∷◌, length, take, filter, Option, Some, None, refl, sym, ap, ◌∙◌, arith}
use Rattle.std.proofs.lemmas.Bool.{and_from, and_parts, eqb-true, false_from_ne_true, leb-true, ltb-true, ltb-false, le-leb, lt-ltb, le-ltb, cases_lt, cond_both}
use Rattle.std.specs.List.{list_any, list_all}
use Rattle.jo_lex.specs.Punctuators.{Row, table, fits, longer, longest, punctuator_of}
use Rattle.jo_lex.specs.inner.Views.{is_ascii, is_falling, may_begin, put, longer_first, entries_for}
use Rattle.jo_lex.proofs.Punctuation.{falling_parts}

-- ---- what the punctuators begin with

abbrev pub firsts : List ℕ
firsts = 123 ∷ 125 ∷ 40 ∷ 41 ∷ 91 ∷ 93 ∷ 59 ∷ 44 ∷ 58 ∷ 126 ∷ 46 ∷ 60 ∷ 62 ∷ 61 ∷ 33 ∷ 43 ∷ 45 ∷ 42 ∷ 47 ∷ 37 ∷ 38 ∷ 124 ∷ 94 ∷ 63 ∷ []

is_among : ℕ → Bool
is_among c = list_any (λ d. c == d) firsts

begins_among : List ℕ → Bool
begins_among [] = false
begins_among (d ∷ ds) = is_among d

table-begins : list_all (λ p. begins_among p.0) table ≡ true
unfolding table begins_among is_among
table-begins = refl

may_begin-other : (c : ℕ) (p : List ℕ) → is_among c ≡ false → begins_among p ≡ true → may_begin c p ≡ false
unfolding begins_among
may_begin-other c [] e b = cc
may_begin-other c (d ∷ ds) e b = false_from_ne_true (d == c) (λ t. let same : d ≡ c = eqb-true d c t in let clash : true ≡ false = sym b ∙ ap is_among same ∙ e in cc)

filter-other : (c : ℕ) (ps : List Row) → is_among c ≡ false → list_all (λ p. begins_among p.0) ps ≡ true → filter (λ p. may_begin c p.0) ps ≡ []
filter-other c [] e b = refl
filter-other c (p ∷ ps) e b =
    let parts = and_parts (begins_among p.0) (list_all (λ q. begins_among q.0) ps) b in
    rw (may_begin-other c p.0 e parts.0) (filter-other c ps e parts.1)

-- no punctuator begins with another character
pub entries_for-other : (c : ℕ) → list_any (λ d. c == d) firsts ≡ false → [] ≡ entries_for c
unfolding entries_for is_among
entries_for-other c e = ap longer_first (sym (filter-other c table e table-begins))

-- ---- the longer ones stand first

abbrev is_row : ℕ → List ℕ → Bool
is_row n p = is_ascii p && nat_lt 0 (length p) && nat_le (length p) n

table-rows : list_all (λ p. is_row 4 p.0) table ≡ true
unfolding table
table-rows = refl

falling-cons : (n : ℕ) (p : Row) (ps : List Row) → is_ascii p.0 ≡ true → 0 < length p.0 → length p.0 ≤ n → is_falling (length p.0) ps ≡ true → is_falling n (p ∷ ps) ≡ true
falling-cons n p ps a l le f = rw (a, lt-ltb 0 (length p.0) l, le-leb (length p.0) n le, f) refl

falling-put : (n : ℕ) (p : Row) (ps : List Row) → is_ascii p.0 ≡ true → 0 < length p.0 → length p.0 ≤ n → is_falling n ps ≡ true → is_falling n (put p ps) ≡ true
falling-put n p [] a l le f = falling-cons n p [] a l le refl
falling-put n p (q ∷ qs) a l le f = let parts = falling_parts n q qs f in step (nat_lt (length p.0) (length q.0)) refl parts (λ shorter. falling-put (length q.0) p qs a l shorter parts.3)
  where
    step : (b : Bool) → nat_lt (length p.0) (length q.0) ≡ b → (is_ascii q.0 ≡ true) × (0 < length q.0) × (length q.0 ≤ n) × (is_falling (length q.0) qs ≡ true)
        → (length p.0 ≤ length q.0 → is_falling (length q.0) (put p qs) ≡ true) → is_falling n (put p (q ∷ qs)) ≡ true
    step true e parts ih = let lt = ltb-true (length p.0) (length q.0) e in rw e (falling-cons n q (put p qs) parts.0 parts.1 parts.2 (ih (omega arith)))
    step false e parts ih = rw e (falling-cons n p (q ∷ qs) a l le (falling-cons (length p.0) q qs parts.0 parts.1 (ltb-false (length p.0) (length q.0) e) parts.3))

falling-longer_first : (n : ℕ) (ps : List Row) → list_all (λ p. is_row n p.0) ps ≡ true → is_falling n (longer_first ps) ≡ true
falling-longer_first n [] e = refl
falling-longer_first n (p ∷ ps) e =
    let parts = and_parts (is_row n p.0) (list_all (λ q. is_row n q.0) ps) e in
    let row = and_parts (is_ascii p.0 && nat_lt 0 (length p.0)) (nat_le (length p.0) n) parts.0 in
    let start = and_parts (is_ascii p.0) (nat_lt 0 (length p.0)) row.0 in
    falling-put n p (longer_first ps) start.0 (ltb-true 0 (length p.0) start.1) (leb-true (length p.0) n row.1) (falling-longer_first n ps parts.1)

filter-rows : (n c : ℕ) (ps : List Row) → list_all (λ p. is_row n p.0) ps ≡ true → list_all (λ p. is_row n p.0) (filter (λ p. may_begin c p.0) ps) ≡ true
filter-rows n c [] e = refl
filter-rows n c (p ∷ ps) e =
    let parts = and_parts (is_row n p.0) (list_all (λ q. is_row n q.0) ps) e in
    cond_both (may_begin c p.0) (p ∷ filter (λ q. may_begin c q.0) ps) (filter (λ q. may_begin c q.0) ps) (λ rows. list_all (λ q. is_row n q.0) rows ≡ true)
    (λ _. and_from (is_row n p.0) (list_all (λ q. is_row n q.0) (filter (λ q. may_begin c q.0) ps)) parts.0 (filter-rows n c ps parts.1))
    (λ _. filter-rows n c ps parts.1)

-- none is longer than the one before it, and the first has at most four characters
pub entries_for-falling : (c : ℕ) → is_falling 4 (entries_for c) ≡ true
unfolding entries_for
entries_for-falling c = falling-longer_first 4 (filter (λ p. may_begin c p.0) table) (filter-rows 4 c table table-rows)

-- ---- the longest, of those that begin alike

fits-other : (c : ℕ) (p cs : List ℕ) → may_begin c p ≡ false → fits p (c ∷ cs) ≡ false
fits-other c [] cs e = cc
fits-other c (d ∷ ds) cs e = rw e

longest-filter : (c : ℕ) (cs : List ℕ) (ps : List Row) → longest (filter (λ p. may_begin c p.0) ps) (c ∷ cs) ≡ longest ps (c ∷ cs)
longest-filter c cs [] = refl
longest-filter c cs (p ∷ ps) = step (may_begin c p.0) refl (longest-filter c cs ps)
  where
    step : (b : Bool) → may_begin c p.0 ≡ b → longest (filter (λ q. may_begin c q.0) ps) (c ∷ cs) ≡ longest ps (c ∷ cs) → longest (filter (λ q. may_begin c q.0) (p ∷ ps)) (c ∷ cs) ≡ longest (p ∷ ps) (c ∷ cs)
    step true e ih = rw e (ap (λ found. cond (fits p.0 (c ∷ cs)) (Some (longer p found)) found) ih)
    step false e ih = rw (e, fits-other c p.0 cs e) ih

-- ---- the longest, in whatever order

longer-other : (p q : Row) → length p.0 < length q.0 → longer p (Some q) ≡ q
longer-other p q lt = rw (lt-ltb (length p.0) (length q.0) lt) refl

longer-same : (p q : Row) → length q.0 ≤ length p.0 → longer p (Some q) ≡ p
longer-same p q le = rw (le-ltb (length p.0) (length q.0) le) refl

longer-within : (p q r : Row) → length p.0 ≤ length q.0 → length r.0 ≤ length q.0 → length (longer p (Some r)).0 ≤ length q.0
longer-within p q r le h = cond_both (nat_lt (length p.0) (length r.0)) r p (λ x. length x.0 ≤ length q.0) (λ _. h) (λ _. le)

-- a longer entry may go before
longer-swap : (p q : Row) (found : Option Row) → length p.0 < length q.0 → longer q (Some (longer p found)) ≡ longer p (Some (longer q found))
longer-swap p q None lt = longer-same q p (omega arith) ∙ sym (longer-other p q lt)
longer-swap p q (Some r) lt = step (cases_lt (length q.0) (length r.0))
  where
    step : (length q.0 < length r.0) ⊎ (length r.0 ≤ length q.0) → longer q (Some (longer p (Some r))) ≡ longer p (Some (longer q (Some r)))
    step (inl h) =
        let inner = longer-other p r (omega arith) in
        let outer = longer-other q r h in
        ap (λ x. longer q (Some x)) inner ∙ outer ∙ sym (ap (λ x. longer p (Some x)) outer ∙ inner)
    step (inr h) =
        longer-same q (longer p (Some r)) (longer-within p q r (omega arith) h)
        ∙ sym (ap (λ x. longer p (Some x)) (longer-same q r h) ∙ longer-other p q lt)

swap-step : (p q : Row) (a b : Bool) (found : Option Row) → length p.0 < length q.0
    → cond b (Some (longer q (cond a (Some (longer p found)) found))) (cond a (Some (longer p found)) found) ≡ cond a (Some (longer p (cond b (Some (longer q found)) found))) (cond b (Some (longer q found)) found)
swap-step p q true true found lt = ap Some (longer-swap p q found lt)
swap-step p q true false found lt = refl
swap-step p q false true found lt = refl
swap-step p q false false found lt = refl

longest-put : (p : Row) (ps : List Row) (cs : List ℕ) → longest (put p ps) cs ≡ longest (p ∷ ps) cs
longest-put p [] cs = refl
longest-put p (q ∷ qs) cs = step (nat_lt (length p.0) (length q.0)) refl (longest-put p qs cs)
  where
    step : (b : Bool) → nat_lt (length p.0) (length q.0) ≡ b → longest (put p qs) cs ≡ longest (p ∷ qs) cs → longest (put p (q ∷ qs)) cs ≡ longest (p ∷ q ∷ qs) cs
    step true e ih =
        rw e (ap (λ found. cond (fits q.0 cs) (Some (longer q found)) found) ih
        ∙ swap-step p q (fits p.0 cs) (fits q.0 cs) (longest qs cs) (ltb-true (length p.0) (length q.0) e))
    step false e ih = rw e refl

longest-longer_first : (ps : List Row) (cs : List ℕ) → longest (longer_first ps) cs ≡ longest ps cs
longest-longer_first [] cs = refl
longest-longer_first (p ∷ ps) cs = longest-put p (longer_first ps) cs ∙ ap (λ found. cond (fits p.0 cs) (Some (longer p found)) found) (longest-longer_first ps cs)

longest-entries_for : (c : ℕ) (cs : List ℕ) → longest (entries_for c) (c ∷ cs) ≡ punctuator_of (c ∷ cs)
unfolding entries_for punctuator_of
longest-entries_for c cs = longest-longer_first (filter (λ p. may_begin c p.0) table) (c ∷ cs) ∙ longest-filter c cs table

-- the longest of all is the longest of those that a script with this first character may begin with
pub punctuator_of-first : (c : ℕ) (cs : List ℕ) → take 1 cs ≡ c ∷ [] → punctuator_of cs ≡ longest (entries_for c) cs
punctuator_of-first c [] e = cc
punctuator_of-first c (d ∷ ds) e = let same : d ≡ c = cc in rw same (sym (longest-entries_for c ds))
