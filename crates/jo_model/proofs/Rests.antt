-- What is left of a list, from a place on.
use Rattle.std.proofs.Common.{◌≡◌, ℕ, ◌<◌, ◌+◌, suc, List, [], ◌∷◌, ◌++◌, length, drop, get_or, drop-cons, sym, ap, ◌∙◌, arith, ⊎_elim}
use Rattle.std.specs.Prelude.{Option, Some, None, slice_get}
use Rattle.std.specs.List.{enumerate_from, flat_map}
use Rattle.std.proofs.lemmas.List.{drop_all}
use Rattle.std.proofs.lemmas.Option.{slice_get_within, slice_get_cases, get_or_from_slice_get}

rest-cons : {X : Type 0} (xs : List X) (i : ℕ) (d x : X) → i < length xs → x ≡ get_or xs i d → drop i xs ≡ x ∷ drop (i + 1) xs
rest-cons xs i d x within read =
    let next : suc i ≡ i + 1 = omega arith in
    drop-cons xs i d within ∙ ap (λ y. y ∷ drop (suc i) xs) (sym read) ∙ ap (λ k. x ∷ drop k xs) next

pub rest-some : {X : Type 0} (xs : List X) (i : ℕ) (x : X) → slice_get xs i ≡ Some x → drop i xs ≡ x ∷ drop (i + 1) xs
rest-some xs i x found = rest-cons xs i x x (slice_get_within xs i x found) (sym (get_or_from_slice_get xs i x x found))

pub rest-none : {X : Type 0} (xs : List X) (i : ℕ) → slice_get xs i ≡ None → drop i xs ≡ []
rest-none xs i none =
    ⊎_elim
    (λ there. let never : ⊥ = cc (there.2, none) in absurd never)
    (λ past. drop_all i xs past.0)
    (slice_get_cases xs i).1

-- the same, of what a call answered
pub rest-next : {X : Type 0} (xs : List X) (i : ℕ) (x : X) (answer : Option X) → answer ≡ slice_get xs i → answer ≡ Some x → drop i xs ≡ x ∷ drop (i + 1) xs
rest-next xs i x answer is some = rest-some xs i x (sym is ∙ some)

pub rest-end : {X : Type 0} (xs : List X) (i : ℕ) (answer : Option X) → answer ≡ slice_get xs i → answer ≡ None → drop i xs ≡ []
rest-end xs i answer is none = rest-none xs i (sym is ∙ none)

pub within-next : {X : Type 0} (xs : List X) (i : ℕ) (x : X) (answer : Option X) → answer ≡ slice_get xs i → answer ≡ Some x → i < length xs
within-next xs i x answer is some = slice_get_within xs i x (sym is ∙ some)

-- ---- what is made of each element

pub flat_map-rest : {X A : Type 0} (f : X → List A) (xs : List X) (i : ℕ) (d x : X) → i < length xs → x ≡ get_or xs i d →
    flat_map f (drop i xs) ≡ f x ++ flat_map f (drop (i + 1) xs)
flat_map-rest f xs i d x within read = ap (flat_map f) (rest-cons xs i d x within read)

pub numbered-rest : {X A : Type 0} (f : ℕ × X → List A) (xs : List X) (n i : ℕ) (d x : X) → i < length xs → x ≡ get_or xs i d →
    flat_map f (enumerate_from n (drop i xs)) ≡ f (n, x) ++ flat_map f (enumerate_from (n + 1) (drop (i + 1) xs))
numbered-rest f xs n i d x within read = ap (λ l. flat_map f (enumerate_from n l)) (rest-cons xs i d x within read)
