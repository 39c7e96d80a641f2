-- The reserved words by their lengths.
use Rattle.std.proofs.Common.{◌≡◌, ℕ, Bool, true, false, ◌==◌, ◌&&◌, ◌||◌, cond, nat_le, List, [], ◌∷◌, Bor, Option, Some, None, if◌then◌else◌, length, map, filter, refl, sym, ap, ◌∙◌}
use Rattle.std.proofs.lemmas.Bool.{and_parts, eqb-true, eq-eqb, false_from_ne_true}
use Rattle.std.proofs.lemmas.Slice.Eq.{bytes_eq-Decides}
use Rattle.std.specs.List.{find, list_any, list_all}
use Rattle.std.specs.Option.{option_map}
use Rattle.std.specs.Str.{bytes_eq}
use Rattle.jo_parse_tree.specs.declared.keyword.Keyword.{Keyword}
use Rattle.jo_parse_tree.specs.Words.{keyword_of}
use Rattle.jo_lex.specs.inner.Views.{ReservedRow, rows_of, reserved_rows}
use Rattle.jo_lex.specs.Words.{reserved_words, is_reserved, reserved_as}

-- how long a reserved word may be
abbrev pub is_length : ℕ → Bool
is_length n = nat_le 2 n && nat_le n 10

reserved_rows-lengths : list_all (λ row. is_length (length row.0)) reserved_rows ≡ true
unfolding reserved_rows reserved_words
reserved_rows-lengths = refl

other_length : (n m : ℕ) → is_length n ≡ false → is_length m ≡ true → (m == n) ≡ false
other_length n m e b = false_from_ne_true (m == n) (λ t. let same : m ≡ n = eqb-true m n t in let clash : true ≡ false = sym b ∙ ap is_length same ∙ e in cc)

filter-other : (n : ℕ) (rows : List ReservedRow) → is_length n ≡ false → list_all (λ row. is_length (length row.0)) rows ≡ true → filter (λ row. length row.0 == n) rows ≡ []
filter-other n [] e b = refl
filter-other n (row ∷ rows) e b =
    let parts = and_parts (is_length (length row.0)) (list_all (λ r. is_length (length r.0)) rows) b in
    rw (other_length n (length row.0) e parts.0) (filter-other n rows e parts.1)

-- no reserved word has another length
pub of_length-other : (n : ℕ) → is_length n ≡ false → [] ≡ filter (λ row. length row.0 == n) reserved_rows
of_length-other n e = sym (filter-other n reserved_rows e reserved_rows-lengths)

abbrev keyword_in : Option ReservedRow → Option (Option Keyword)
keyword_in row = option_map (λ r. r.1) row

-- what is found among the rows of the code
find-rows_of : (word : List ℕ) (rows : List (Bor (List ℕ) × Option Keyword)) → option_map (λ r. r.1) (find (λ r. bytes_eq r.0.now word) rows) ≡ keyword_in (find (λ r. bytes_eq r.0 word) (rows_of rows))
find-rows_of word [] = refl
find-rows_of word (row ∷ rows) = step (bytes_eq row.0.now word) (find-rows_of word rows)
  where
    step : (b : Bool) → option_map (λ r. r.1) (find (λ r. bytes_eq r.0.now word) rows) ≡ keyword_in (find (λ r. bytes_eq r.0 word) (rows_of rows))
        → option_map (λ r. r.1) (cond b (Some row) (find (λ r. bytes_eq r.0.now word) rows)) ≡ keyword_in (cond b (Some (row.0.now, row.1)) (find (λ r. bytes_eq r.0 word) (rows_of rows)))
    step true h = refl
    step false h = h

same_length : (word other : List ℕ) → bytes_eq other word ≡ true → (length other == length word) ≡ true
same_length word other e = eq-eqb (length other) (length word) (ap length ((bytes_eq-Decides other word).0 e))

-- what passes is found among those that pass a test as well, if each that passes does
find-filter : {X : Type 0} (p q : X → Bool) → ((x : X) → p x ≡ true → q x ≡ true) → (xs : List X) → find p (filter q xs) ≡ find p xs
find-filter p q both [] = refl
find-filter p q both (x ∷ xs) = step (p x) (q x) refl refl (find-filter p q both xs)
  where
    step : (a b : Bool) → p x ≡ a → q x ≡ b → find p (filter q xs) ≡ find p xs → find p (cond b (x ∷ filter q xs) (filter q xs)) ≡ cond a (Some x) (find p xs)
    step true true e f h = rw e refl
    step true false e f h = let clash : true ≡ false = sym (both x e) ∙ f in cc
    step false true e f h = rw e h
    step false false e f h = h

-- a word is found in its row
find-reserved : (word : List ℕ) (words : List (List ℕ)) → keyword_in (find (λ r. bytes_eq r.0 word) (map (λ w. (w, keyword_of w)) words)) ≡ (if list_any (λ w. bytes_eq w word) words then Some (keyword_of word) else None)
find-reserved word [] = refl
find-reserved word (w ∷ words) = step (bytes_eq w word) refl (find-reserved word words)
  where
    step : (b : Bool) → bytes_eq w word ≡ b
        → keyword_in (find (λ r. bytes_eq r.0 word) (map (λ v. (v, keyword_of v)) words)) ≡ (if list_any (λ v. bytes_eq v word) words then Some (keyword_of word) else None)
        → keyword_in (cond b (Some (w, keyword_of w)) (find (λ r. bytes_eq r.0 word) (map (λ v. (v, keyword_of v)) words))) ≡ (if b || list_any (λ v. bytes_eq v word) words then Some (keyword_of word) else None)
    step true e h = ap (λ v. Some (keyword_of v)) ((bytes_eq-Decides w word).0 e)
    step false e h = h

-- a word is reserved where it is one of the reserved words of its length
pub reserved-length : (word : List ℕ) (rows : List (Bor (List ℕ) × Option Keyword)) → rows_of rows ≡ filter (λ r. length r.0 == length word) reserved_rows
    → option_map (λ r. r.1) (find (λ r. bytes_eq r.0.now word) rows) ≡ reserved_as word
unfolding is_reserved reserved_rows
reserved-length word rows e =
    find-rows_of word rows ∙ ap (λ rs. keyword_in (find (λ r. bytes_eq r.0 word) rs)) e
    ∙ ap keyword_in (find-filter (λ r. bytes_eq r.0 word) (λ r. length r.0 == length word) (λ r h. same_length word r.0 h) reserved_rows)
    ∙ find-reserved word reserved_words
