-- Names among the keys of a set, and in lists.
use Rattle.std.proofs.Common.{◌≡◌, ℕ, arith, Bool, true, false, cond, List, [], ◌∷◌, refl, sym, ◌∙◌}
use Rattle.std.specs.Prelude.{nat_eq, ◌||◌}
use Rattle.std.specs.List.{list_any}
use Rattle.jo_parse_grammar.specs.Declarations.{is_among}
use Rattle.jo_parse_names.specs.inner.Blocks.{HasSame}

pub same_turned : (a b : ℕ) → nat_eq a b ≡ nat_eq b a
same_turned a b = grind arith

pub among-keys : (keys : List ℕ) (name : ℕ) → list_any (λ key. nat_eq name key) keys ≡ is_among keys name
among-keys [] name = refl
among-keys (key ∷ keys) name = cc (same_turned name key, among-keys keys name)

either-put : (b x y : Bool) → x ≡ y → cond b true x ≡ (b || y)
either-put true x y e = refl
either-put false x y e = e

-- a set that has one key more has the list with one name more
pub one-put : (old new : List ℕ) (name : ℕ) → ((key : ℕ) → list_any (λ k. nat_eq key k) new ≡ cond (nat_eq name key) true (list_any (λ k. nat_eq key k) old)) → HasSame new (name ∷ old)
one-put old new name updates key =
    sym (among-keys new key) ∙ (updates key ∙ either-put (nat_eq name key) (list_any (λ k. nat_eq key k) old) (is_among old key) (among-keys old key))
