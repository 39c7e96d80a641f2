-- What calls do to an object that is well formed leaves it so.
use Rattle.std.proofs.Common.{◌≡◌, ◌<◌, ◌≤◌, ◌+◌, ◌==◌, ℕ, zero, suc, Bool, true, false, cond, List, [], ◌∷◌, ◌++◌, length, map, ap, sym, refl, subst, ◌∙◌, arith, get_or, set, drop, insert, remove, count_by, nat_lt, Option, Some, None, Result, Ok, Err, IfOk, OnErr, is_some, if◌then◌else◌}
use Rattle.std.specs.Prelude.{slice_get}
use Rattle.std.specs.Option.{option_map}
use Rattle.std.specs.Cmp.{IsEquivalence}
use Rattle.std.specs.List.{list_any, position_or_len, IsDistinct}
use Rattle.std.specs.List.Sorted.{IsStrictlyIncreasing}
use Rattle.std.proofs.Math.Seq.{map-set_same}
use Rattle.std.proofs.lemmas.Cmp.{nat_eq_equiv}
use Rattle.std.proofs.lemmas.Bool.{true≢false, false≢true, eqb-true, leb-false}
use Rattle.std.proofs.lemmas.List.{map-append, take-map, drop-map, length-map, length-set, length_push, take_all, drop_all, append-nil, map_push}
use Rattle.std.proofs.lemmas.List.Edits.{length-remove}
use Rattle.std.proofs.lemmas.List.Elements.{All-map}
use Rattle.std.proofs.lemmas.List.Folds.{list_any_none}
use Rattle.std.proofs.lemmas.List.Quantifiers.{all_pairs_remove}
use Rattle.std.proofs.lemmas.List.Sums.{sum_by-cons, fails_before_first, passes_at_first}
use Rattle.std.proofs.lemmas.Map.Keys.{IsDistinct-push, IsDistinct-from_apart, apart_from_distinct}
use Rattle.jo_value.specs.declared.limits.TheConstants.{MOST_NAMES}
use Rattle.jo_value.specs.declared.value.NameId.{NameId}
use Rattle.jo_value.specs.declared.value.Key.{Key}
use Rattle.jo_value.specs.declared.value.Key.TheVariants.{Name, Index}
use Rattle.jo_value.specs.declared.value.Value.{Value}
use Rattle.jo_value.specs.Values.{is_same_name}
use Rattle.jo_model.specs.declared.call.Reply.{Reply}
use Rattle.jo_model.specs.Objects.{Object, property, has_property, name_place, element_place, is_full_for, with_value, with_property, without_property}
use Rattle.jo_model.specs.One.{put_in, delete_in, cas_in, is_found_as}
use Rattle.jo_model.specs.WellFormed.{IsWellFormed}
use Rattle.jo_model.proofs.Rising.{rises-put, rises-remove}

-- ---- lists

within : {X Y : Type 0} (f : X → Y) (xs : List X) (i : ℕ) → is_some (option_map f (slice_get xs i)) ≡ true → i < length xs
within f [] i e = absurd (false≢true e)
within f (x ∷ xs) zero e = omega arith
within f (x ∷ xs) (suc i) e = omega (arith, within f xs i e)

past : {X Y : Type 0} (f : X → Y) (xs : List X) (i : ℕ) → is_some (option_map f (slice_get xs i)) ≡ false → length xs ≤ i
past f [] i e = omega arith
past f (x ∷ xs) zero e = absurd (true≢false e)
past f (x ∷ xs) (suc i) e = omega (arith, past f xs i e)

remove-past : {X : Type 0} (xs : List X) (i : ℕ) → length xs ≤ i → remove xs i ≡ xs
remove-past xs i le = ap (λ l. l ++ drop (suc i) xs) (take_all i xs le) ∙ ap (λ l. xs ++ l) (drop_all (suc i) xs (omega arith)) ∙ append-nil xs

map-remove : {X Y : Type 0} (f : X → Y) (xs : List X) (i : ℕ) → map f (remove xs i) ≡ remove (map f xs) i
map-remove f xs i = simp (map-append, take-map, drop-map)

map-insert : {X Y : Type 0} (f : X → Y) (xs : List X) (i : ℕ) (y : X) → map f (insert xs i y) ≡ insert (map f xs) i (f y)
map-insert f xs i y = simp (map-append, take-map, drop-map)

count-map : {X Y : Type 0} (p : Y → Bool) (f : X → Y) (xs : List X) → count_by (λ x. p (f x)) xs ≡ count_by p (map f xs)
count-map p f [] = refl
count-map p f (x ∷ xs) =
    sum_by-cons (λ x. cond (p (f x)) 1 0) x xs ∙ ap (λ n. cond (p (f x)) 1 0 + n) (count-map p f xs) ∙ sym (sum_by-cons (λ y. cond (p y) 1 0) (f x) (map f xs))

none-there : {X Y : Type 0} (p : X → Bool) (q : Y → Bool) (f : X → Y) → ((x : X) → p x ≡ q (f x)) → (xs : List X) → length xs ≤ position_or_len p xs → list_any q (map f xs) ≡ false
none-there p q f agree xs le =
    list_any_none q (map f xs) (All-map (λ y. q y ≡ false) f xs (λ k d h. sym (agree (get_or xs k d)) ∙ fails_before_first p xs k d (omega arith)))

-- ---- names

same_name : (a b : NameId) → is_same_name a b ≡ true → a ≡ b
same_name a b e = let of : ℕ → NameId = λ n. record { 0 = n } in ap of (eqb-true a.0 b.0 e)

same_names : IsEquivalence is_same_name
same_names = record {
  refl = λ x. nat_eq_equiv.refl x.0;
  symm = λ x y. nat_eq_equiv.symm x.0 y.0;
  congr = λ x y z. nat_eq_equiv.congr x.0 y.0 z.0;
}

distinct-remove : (ns : List NameId) (i : ℕ) → i < length ns → IsDistinct is_same_name ns → IsDistinct is_same_name (remove ns i)
distinct-remove ns i lt once =
    let R : NameId → NameId → Type 0 = λ a b. is_same_name a b ≡ false in
    IsDistinct-from_apart is_same_name (remove ns i) (all_pairs_remove R ns i lt (λ j k d below h. apart_from_distinct is_same_name ns j k d once below h))

-- ---- one object

-- to take out a property that is not there leaves the object as it was
pub without-absent : (o : Object) (key : Key) → has_property o key ≡ false → without_property o key ≡ o
without-absent o (Name name) e = ap (λ ns. record o { names = ns }) (remove-past o.names (name_place o name) (past _ o.names (name_place o name) e))
without-absent o (Index index) e = ap (λ es. record o { elements = es }) (remove-past o.elements (element_place o index) (past _ o.elements (element_place o index) e))

well_formed-value : (o : Object) (key : Key) (value : Value) → has_property o key ≡ true → IsWellFormed o → IsWellFormed (with_value o key value)
well_formed-value o (Name name) value e well =
    let at = name_place o name in
    let d : NameId × Value = (name, value) in
    let found : is_same_name (get_or o.names at d).0 name ≡ true = passes_at_first (λ p. is_same_name p.0 name) o.names d (within _ o.names at e) in
    let kept : map (λ p. p.0) (set o.names at d) ≡ map (λ p. p.0) o.names = map-set_same (λ p. p.0) o.names at d d (sym (same_name _ name found)) in
    record {
      once = subst (IsDistinct is_same_name) (sym kept) well.once;
      few = subst (λ n. n ≤ MOST_NAMES) (sym (length-set o.names at d)) well.few;
      rising = well.rising;
    }
well_formed-value o (Index index) value e well =
    let at = element_place o index in
    let d : ℕ × Value = (index, value) in
    let found : ((get_or o.elements at d).0 == index) ≡ true = passes_at_first (λ p. p.0 == index) o.elements d (within _ o.elements at e) in
    let kept : map (λ p. p.0) (set o.elements at d) ≡ map (λ p. p.0) o.elements = map-set_same (λ p. p.0) o.elements at d d (sym (eqb-true _ index found)) in
    record {
      once = well.once;
      few = well.few;
      rising = subst IsStrictlyIncreasing (sym kept) well.rising;
    }

well_formed-property : (o : Object) (key : Key) (value : Value) → has_property o key ≡ false → is_full_for o key ≡ false → IsWellFormed o → IsWellFormed (with_property o key value)
well_formed-property o (Name name) value e room well =
    let new : list_any (λ n. is_same_name name n) (map (λ p. p.0) o.names) ≡ false =
    none-there (λ p. is_same_name p.0 name) (λ n. is_same_name name n) (λ p. p.0) (λ p. nat_eq_equiv.symm p.0.0 name.0) o.names (past _ o.names (name_place o name) e) in
    let last : map (λ p. p.0) (o.names ++ (name, value) ∷ []) ≡ map (λ p. p.0) o.names ++ name ∷ [] = map_push (λ p. p.0) o.names (name, value) in
    let fits : length o.names < MOST_NAMES = leb-false MOST_NAMES (length o.names) room in
    record {
      once = subst (IsDistinct is_same_name) (sym last) (IsDistinct-push same_names (map (λ p. p.0) o.names) name well.once new);
      few = omega (arith, length_push o.names (name, value));
      rising = well.rising;
    }
well_formed-property o (Index index) value e room well =
    let indexes : List ℕ = map (λ p. p.0) o.elements in
    let new : list_any (λ n. n == index) indexes ≡ false = none-there (λ p. p.0 == index) (λ n. n == index) (λ p. p.0) (λ p. refl) o.elements (past _ o.elements (element_place o index) e) in
    let place : count_by (λ p. nat_lt p.0 index) o.elements ≡ count_by (λ n. nat_lt n index) indexes = count-map (λ n. nat_lt n index) (λ p. p.0) o.elements in
    let put : map (λ p. p.0) (insert o.elements (count_by (λ p. nat_lt p.0 index) o.elements) (index, value)) ≡ insert indexes (count_by (λ n. nat_lt n index) indexes) index =
    map-insert (λ p. p.0) o.elements (count_by (λ p. nat_lt p.0 index) o.elements) (index, value) ∙ ap (λ k. insert indexes k index) place in
    record {
      once = well.once;
      few = well.few;
      rising = subst IsStrictlyIncreasing (sym put) (rises-put indexes index well.rising new);
    }

well_formed-without : (o : Object) (key : Key) → has_property o key ≡ true → IsWellFormed o → IsWellFormed (without_property o key)
well_formed-without o (Name name) e well =
    let at = name_place o name in
    let lt : at < length o.names = within _ o.names at e in
    record {
      once = subst (IsDistinct is_same_name) (sym (map-remove (λ p. p.0) o.names at)) (distinct-remove _ at (simp length-map lt) well.once);
      few = omega (arith, length-remove o.names at lt, well.few);
      rising = well.rising;
    }
well_formed-without o (Index index) e well =
    let at = element_place o index in
    let lt : at < length o.elements = within _ o.elements at e in
    record {
      once = well.once;
      few = well.few;
      rising = subst IsStrictlyIncreasing (sym (map-remove (λ p. p.0) o.elements at)) (rises-remove _ at (simp length-map lt) well.rising);
    }

-- ---- what calls do to it

put-cases : (o : Object) (key : Key) (value : Value) (there full : Bool) → has_property o key ≡ there → is_full_for o key ≡ full → IsWellFormed o → IsWellFormed (put_in o key value).0
put-cases o key value true full e f well = rw e (well_formed-value o key value e well)
put-cases o key value false true e f well = rw (e, f) well
put-cases o key value false false e f well = rw (e, f) (well_formed-property o key value e f well)

pub well_formed-put : (o : Object) (key : Key) (value : Value) → IsWellFormed o → IsWellFormed (put_in o key value).0
well_formed-put o key value well = put-cases o key value _ _ refl refl well

-- so does a put that may be refused memory
pub well_formed-tried : {E : Type 0} (old new : Object) (key : Key) (value : Value) (result : Result Reply E) → IfOk result (λ reply. put_in old key value ≡ (new, reply)) → OnErr result (new ≡ old) → IsWellFormed old → IsWellFormed new
well_formed-tried old new key value (Ok reply) done kept well = subst IsWellFormed (ap (λ p. p.0) done) (well_formed-put old key value well)
well_formed-tried old new key value (Err fault) done kept well = subst IsWellFormed (sym kept) well

delete-cases : (o : Object) (key : Key) (there : Bool) → has_property o key ≡ there → IsWellFormed o → IsWellFormed (without_property o key)
delete-cases o key true e well = well_formed-without o key e well
delete-cases o key false e well = subst IsWellFormed (sym (without-absent o key e)) well

pub well_formed-delete : (o : Object) (key : Key) → IsWellFormed o → IsWellFormed (delete_in o key).0
well_formed-delete o key well = delete-cases o key _ refl well

found-there : (o : Object) (key : Key) (expected : Value) (found : Option Value) → property o key ≡ found → is_found_as found expected ≡ true → has_property o key ≡ true
found-there o key expected None e same = absurd (false≢true same)
found-there o key expected (Some value) e same = ap is_some e

cas-cases : (o : Object) (key : Key) (expected desired : Value) (same : Bool) → is_found_as (property o key) expected ≡ same → IsWellFormed o → IsWellFormed (if same then with_value o key desired else o)
cas-cases o key expected desired true e well = well_formed-value o key desired (found-there o key expected _ refl e) well
cas-cases o key expected desired false e well = well

pub well_formed-cas : (o : Object) (key : Key) (expected desired : Value) → IsWellFormed o → IsWellFormed (cas_in o key expected desired).0
well_formed-cas o key expected desired well = cas-cases o key expected desired _ refl well
