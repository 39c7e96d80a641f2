-- The place of a text in a table, by the set that keeps it.
use Rattle.std.proofs.Common.{◌≡◌, ◌≤◌, ◌+◌, ◌∙◌, ℕ, Bool, true, false, not, List, [], ◌∷◌, ◌||◌, suc, length, map, ap, refl, arith, Option, Some, None, cond, ltb, string_bytes, String}
use Rattle.std.specs.List.{position_or_len, list_any}
use Rattle.std.specs.Str.{bytes_eq}
use Rattle.std.proofs.lemmas.Cmp.{nat_list_eq_equiv}
use Rattle.std.proofs.lemmas.Bool.{ltb-false}
use Rattle.std.proofs.lemmas.List.Sums.{prefix_len-le-length}
use Rattle.std.specs.Prelude.{IfSome, IfNone}
use Rattle.jo_value.specs.Texts.{id_in}

place-step : (b c : Bool) (m n : ℕ) → b ≡ c → m ≡ n → cond (not b) (1 + m) 0 ≡ cond (not c) (1 + n) 0
place-step b c m n e f = ap (λ x. cond (not x) (1 + m) 0) e ∙ ap (λ k. cond (not c) (1 + k) 0) f

-- the first key with these bytes stands where the table has them
pub id_in-keys : {Z : Type 0} (text : List ℕ) (keys : List (String Z)) → position_or_len (λ key. bytes_eq text (string_bytes key)) keys ≡ id_in (map (λ key. string_bytes key) keys) text
id_in-keys text [] = refl
id_in-keys text (key ∷ keys) = place-step (bytes_eq text (string_bytes key)) (bytes_eq (string_bytes key) text) _ _ (nat_list_eq_equiv.symm text (string_bytes key)) (id_in-keys text keys)

pub place_within : (table : List (List ℕ)) (text : List ℕ) → id_in table text ≤ length table
place_within table text = prefix_len-le-length (λ t. not (bytes_eq t text)) table

there-step : (k n : ℕ) (b : Bool) (found : Option ℕ) → found ≡ cond b (Some k) None → k ≡ n → IfSome found (λ at. at ≡ n)
there-step k n b None e same = tt
there-step k n true (Some at) e same = cc
there-step k n false (Some at) e same = cc

-- what a search by position finds is the place
pub place-there : (k n len : ℕ) (found : Option ℕ) → found ≡ cond (ltb k len) (Some k) None → k ≡ n → IfSome found (λ at. at ≡ n)
place-there k n len found e same = there-step k n (ltb k len) found e same

new-step : (k n len : ℕ) (b : Bool) (found : Option ℕ) → ltb k len ≡ b → found ≡ cond b (Some k) None → k ≡ n → k ≤ len → IfNone found (n ≡ len)
new-step k n len b (Some at) t e same le = tt
new-step k n len true None t e same le = cc
new-step k n len false None t e same le = let past = ltb-false k len t in omega arith

-- and where it finds none, the place is the length
pub place-new : (k n len : ℕ) (found : Option ℕ) → found ≡ cond (ltb k len) (Some k) None → k ≡ n → k ≤ len → IfNone found (n ≡ len)
place-new k n len found e same le = new-step k n len (ltb k len) found refl e same le

none-step : {X : Type 0} (p : X → Bool) (xs : List X) (b : Bool) → (position_or_len p xs ≡ length xs → list_any p xs ≡ false) → cond (not b) (1 + position_or_len p xs) 0 ≡ 1 + length xs → (b || list_any p xs) ≡ false
none-step p xs true ih e = absurd (omega arith)
none-step p xs false ih e = ih (omega arith)

-- no element passes, where the place of the first is the length
pub none_passes : {X : Type 0} (p : X → Bool) (xs : List X) → position_or_len p xs ≡ length xs → list_any p xs ≡ false
none_passes p [] e = refl
none_passes p (x ∷ xs) e = none-step p xs (p x) (none_passes p xs) (e ∙ add-one' (length xs))
  where
    add-one' : (n : ℕ) → suc n ≡ 1 + n
    add-one' n = omega arith
