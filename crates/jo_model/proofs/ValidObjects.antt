-- Objects that hold what a reply says: one property, or a list of names.
use Rattle.std.proofs.Common.{◌≡◌, ◌+◌, ◌<◌, ◌≤◌, ℕ, zero, suc, true, false, List, [], ◌∷◌, length, map, refl, sym, ap, ◌∙◌, subst, inl, inr, arith, cond, not, All, lit≤}
use Rattle.std.specs.Prelude.{◌==◌, is_some, slice_get, option_map, unwrap_or}
use Rattle.std.specs.List.{IsDistinct, AllByRecursion, position_or_len}
use Rattle.std.specs.List.Sorted.{IsStrictlyIncreasing}
use Rattle.std.proofs.lemmas.Bool.{both_ways, eq-eqb, ne_eqb, cases_lt}
use Rattle.std.proofs.lemmas.List.{length-map}
use Rattle.std.proofs.lemmas.List.Elements.{All-nil, All-cons}
use Rattle.std.proofs.lemmas.Option.{slice_get_past}
use Rattle.jo_value.specs.declared.limits.TheConstants.{MOST_INDEX, MOST_NAMES}
use Rattle.jo_value.specs.declared.value.NameId.{NameId}
use Rattle.jo_value.specs.declared.value.Key.{Key}
use Rattle.jo_value.specs.declared.value.Key.TheVariants.{Name, Index}
use Rattle.jo_value.specs.declared.value.Value.{Value}
use Rattle.jo_value.specs.declared.value.Value.TheVariants as value
use Rattle.jo_value.specs.Values.{is_same_name}
use Rattle.jo_model.specs.Objects.{Object, empty_object, has_property, value_of}
use Rattle.jo_model.specs.Heaps.{Heap}
use Rattle.jo_model.specs.WellFormed.{IsWellFormed}
use Rattle.jo_model.specs.Valid.{IsValidValue, IsValidKey, IsValidObject}

rising_none : IsStrictlyIncreasing []
rising_none k lt = absurd (omega (arith, lt))

rising_one : (i : ℕ) → IsStrictlyIncreasing (i ∷ [])
rising_one i k lt = absurd (omega (arith, lt))

-- the object with one property
abbrev pub single : Key → Value → Object
single (Name name) v = record { names = (name, v) ∷ []; elements = [] }
single (Index index) v = record { names = []; elements = (index, v) ∷ [] }

pub formed-single : (key : Key) (v : Value) → IsWellFormed (single key v)
unfolding IsDistinct
formed-single (Name name) v = record { once = (tt, tt); few = lit≤ tt; rising = rising_none }
formed-single (Index index) v = record { once = tt; few = lit≤ tt; rising = rising_one index }

pub valid-single : (heap : Heap) (key : Key) (v : Value) → IsValidKey key → IsValidValue heap v → IsValidObject heap (single key v)
valid-single heap (Name name) v key_valid v_valid = record {
  names = All-cons (λ p. IsValidValue heap p.1) (name, v) [] v_valid (All-nil (λ p. IsValidValue heap p.1));
  elements = All-nil (λ p. IsValidValue heap p.1);
  indexes = All-nil (λ p. p.0 ≤ MOST_INDEX);
}
valid-single heap (Index index) v key_valid v_valid = record {
  names = All-nil (λ p. IsValidValue heap p.1);
  elements = All-cons (λ p. IsValidValue heap p.1) (index, v) [] v_valid (All-nil (λ p. IsValidValue heap p.1));
  indexes = All-cons (λ p. p.0 ≤ MOST_INDEX) (index, v) [] key_valid (All-nil (λ p. p.0 ≤ MOST_INDEX));
}

-- its first place is that of its key
pub value_of-single : (key : Key) (v : Value) → value_of (single key v) key ≡ v
value_of-single (Name name) v =
    ap (λ same. unwrap_or (option_map (λ (p : NameId × Value). p.1) (slice_get ((name, v) ∷ []) (cond (not same) (1 + 0) 0))) value.Undefined) (eq-eqb name.0 name.0 refl)
value_of-single (Index index) v =
    ap (λ same. unwrap_or (option_map (λ (p : ℕ × Value). p.1) (slice_get ((index, v) ∷ []) (cond (not same) (1 + 0) 0))) value.Undefined) (eq-eqb index index refl)

pub has_property-single : (key : Key) (v : Value) → has_property (single key v) key ≡ true
has_property-single (Name name) v =
    ap (λ same. is_some (option_map (λ (p : NameId × Value). p.1) (slice_get ((name, v) ∷ []) (cond (not same) (1 + 0) 0)))) (eq-eqb name.0 name.0 refl)
has_property-single (Index index) v =
    ap (λ same. is_some (option_map (λ (p : ℕ × Value). p.1) (slice_get ((index, v) ∷ []) (cond (not same) (1 + 0) 0)))) (eq-eqb index index refl)

pub has_property-empty : (key : Key) → has_property empty_object key ≡ false
has_property-empty (Name name) = refl
has_property-empty (Index index) = refl

-- the object with these names, each with undefined
abbrev pub with_undefined : NameId → NameId × Value
with_undefined name = (name, value.Undefined)

abbrev pub of_names : List NameId → Object
of_names names = record { names = map with_undefined names; elements = [] }

pub names-of_names : (names : List NameId) → map (λ p. p.0) (map with_undefined names) ≡ names
names-of_names [] = refl
names-of_names (name ∷ names) = ap (λ l. name ∷ l) (names-of_names names)

pub formed-of_names : (names : List NameId) → IsDistinct is_same_name names → length names ≤ MOST_NAMES → IsWellFormed (of_names names)
formed-of_names names once few = record {
  once = let P : List NameId → Type 0 = λ l. IsDistinct is_same_name l in subst P (sym (names-of_names names)) once;
  few = omega (arith, length-map names with_undefined);
  rising = rising_none;
}

undefined_each : (heap : Heap) (names : List NameId) → All (λ p. IsValidValue heap p.1) (map with_undefined names)
undefined_each heap [] = All-nil (λ p. IsValidValue heap p.1)
undefined_each heap (name ∷ names) = All-cons (λ p. IsValidValue heap p.1) (with_undefined name) (map with_undefined names) tt (undefined_each heap names)

pub valid-of_names : (heap : Heap) (names : List NameId) → IsValidObject heap (of_names names)
valid-of_names heap names = record {
  names = undefined_each heap names;
  elements = All-nil (λ p. IsValidValue heap p.1);
  indexes = All-nil (λ p. p.0 ≤ MOST_INDEX);
}

-- Lists of n names, with rising ids.

abbrev names_from : ℕ → ℕ → List NameId
names_from first zero = []
names_from first (suc n) = record { 0 = first } ∷ names_from (first + 1) n

length-names_from : (first n : ℕ) → length (names_from first n) ≡ n
length-names_from first zero = refl
length-names_from first (suc n) = ap suc (length-names_from (first + 1) n)

-- no name before them is among them
differs_below : (x first n : ℕ) → x < first → AllByRecursion (λ y. is_same_name (record { 0 = x }) y ≡ false) (names_from first n)
differs_below x first zero lt = tt
differs_below x first (suc n) lt = (ne_eqb x first (λ same. omega arith), differs_below x (first + 1) n (omega arith))

-- nor any after them
differs_above : (x first n : ℕ) → first + n ≤ x → AllByRecursion (λ y. is_same_name (record { 0 = x }) y ≡ false) (names_from first n)
differs_above x first zero le = tt
differs_above x first (suc n) le = (ne_eqb x first (λ same. omega arith), differs_above x (first + 1) n (omega arith))

distinct-names_from : (first n : ℕ) → IsDistinct is_same_name (names_from first n)
unfolding IsDistinct
distinct-names_from first zero = tt
distinct-names_from first (suc n) = (differs_below first (first + 1) n (omega arith), distinct-names_from (first + 1) n)

-- a name that differs from each stands past their end
past_end : (x : NameId) (names : List NameId) → AllByRecursion (λ y. is_same_name x y ≡ false) names
    → position_or_len (λ p. is_same_name p.0 x) (map with_undefined names) ≡ length (map with_undefined names)
past_end x [] h = refl
past_end x (y ∷ names) h =
    let flipped : (y.0 == x.0) ≡ false = ne_eqb y.0 x.0 (λ same. both_ways (x.0 == y.0) h.0 (eq-eqb x.0 y.0 (sym same))) in
    ap (λ b. cond (not b) (1 + position_or_len (λ p. is_same_name p.0 x) (map with_undefined names)) 0) flipped
    ∙ ap (λ n. 1 + n) (past_end x names h.1) ∙ omega arith

pub lacks : (x : NameId) (names : List NameId) → AllByRecursion (λ y. is_same_name x y ≡ false) names → has_property (of_names names) (Name x) ≡ false
lacks x names h =
    ap (λ found. is_some (option_map (λ (p : NameId × Value). p.1) found))
    (ap (slice_get (map with_undefined names)) (past_end x names h) ∙ slice_get_past (map with_undefined names) (length (map with_undefined names)) (omega arith))

-- as many names as an object may have, without this one
pub record Others (x : NameId) : Type 0 where
  pub names : List NameId
  pub many : length names ≡ MOST_NAMES
  pub once : IsDistinct is_same_name names
  pub differ : AllByRecursion (λ y. is_same_name x y ≡ false) names

pub others : (x : NameId) → Others x
others x = elim (cases_lt x.0 64) [
  | inl below ↦ record {
    names = names_from 64 64;
    many = length-names_from 64 64;
    once = distinct-names_from 64 64;
    differ = differs_below x.0 64 64 below;
  }
  | inr above ↦ record {
    names = names_from 0 64;
    many = length-names_from 0 64;
    once = distinct-names_from 0 64;
    differ = differs_above x.0 0 64 (omega arith);
  }
]
