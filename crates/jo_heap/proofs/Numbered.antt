-- Each number below that of all words is the number of a word, whose name it tells.
use Rattle.std.proofs.Common.{◌≡◌, ◌≢◌, ◌+◌, ◌-◌, ◌*◌, ◌/◌, ◌%◌, ◌<◌, ◌≤◌, ℕ, zero, suc, true, false, eqb, ltb, refl, sym, subst, ⊎_elim, arith}
use Rattle.std.proofs.lemmas.Bool.{cases_eq, cases_lt, ne_eqb, lt-ltb, le-ltb, and_from}
use Rattle.jo_value.specs.declared.capacities.TheConstants.{MOST_STRUCTURES, INLINE_OFFSETS}
use Rattle.jo_value.specs.declared.limits.TheConstants.{MOST_OBJECTS, MOST_STORAGE}
use Rattle.jo_value.specs.declared.value.ObjId.{ObjId}
use Rattle.jo_value.specs.declared.value.Sid.{Sid}
use Rattle.jo_rule.specs.Names.{WordName, acknowledgement, storage, structures_at, objects_at, storage_at, words_in_all, in_structure, in_object, word_at, is_structure, is_object, is_word, structure_word, object_word, structure_numbered, object_numbered, among_structures, among_objects, word_numbered}

-- the word with a name is there, and has this number
pub record IsNumbered (P : ℕ) (n : WordName) (i : ℕ) : Type 0 where
  pub there : is_word P n ≡ true
  pub number : word_at P n ≡ i

structure_numbers : (P : ℕ) (s : Sid) (j : ℕ) → j < 5 → is_structure P s ≡ true → IsNumbered P (structure_word s j) (in_structure P s j)
structure_numbers P s zero lt is = record { there = is; number = refl }
structure_numbers P s (suc zero) lt is = record { there = is; number = refl }
structure_numbers P s (suc (suc zero)) lt is = record { there = is; number = refl }
structure_numbers P s (suc (suc (suc zero))) lt is = record { there = is; number = refl }
structure_numbers P s (suc (suc (suc (suc zero)))) lt is = record { there = is; number = refl }
structure_numbers P s (suc (suc (suc (suc (suc j))))) lt is = absurd (omega arith)

object_numbers : (P : ℕ) (o : ObjId) (j : ℕ) → j < 5 → is_object P o ≡ true → IsNumbered P (object_word o j) (in_object P o j)
object_numbers P o zero lt is = record { there = is; number = refl }
object_numbers P o (suc j) lt is =
    let f : eqb (suc j) 0 ≡ false = ne_eqb (suc j) 0 (λ e. omega (arith, e)) in
    let e : suc j - 1 ≡ j = omega arith in
    let few : ltb j INLINE_OFFSETS ≡ true = lt-ltb j INLINE_OFFSETS (omega arith) in
    rw (f, e) record { there = and_from (is_object P o) (ltb j INLINE_OFFSETS) is few; number = omega arith }

-- so far behind the beginning of the structures, and of the objects
in_structures : (P d : ℕ) → structures_at P + d < objects_at P → IsNumbered P (among_structures d) (structures_at P + d)
in_structures P d lt =
    let s : Sid = structure_numbered (d / 5) in
    let e : structures_at P + d ≡ in_structure P s (d % 5) = omega arith in
    rw e (structure_numbers P s (d % 5) (omega arith) (lt-ltb (d / 5) (MOST_STRUCTURES * P) (omega arith)))

in_objects : (P d : ℕ) → objects_at P + d < storage_at P → IsNumbered P (among_objects d) (objects_at P + d)
in_objects P d lt =
    let o : ObjId = object_numbered (d / 5) in
    let e : objects_at P + d ≡ in_object P o (d % 5) = omega arith in
    rw e (object_numbers P o (d % 5) (omega arith) (and_from (ltb o.pass P) (ltb o.serial MOST_OBJECTS) (lt-ltb o.pass P (omega arith)) (lt-ltb o.serial MOST_OBJECTS (omega arith))))

-- the name of a number, area by area
acknowledgement_named : (P i : ℕ) → i ≢ 0 → i < structures_at P → word_numbered P i ≡ acknowledgement (i - 1)
acknowledgement_named P i n a =
    let e0 : eqb i 0 ≡ false = ne_eqb i 0 n in
    let e1 : ltb i (structures_at P) ≡ true = lt-ltb i (structures_at P) a in
    rw (e0, e1) refl

structure_named : (P i : ℕ) → structures_at P ≤ i → i < objects_at P → word_numbered P i ≡ among_structures (i - structures_at P)
structure_named P i a b =
    let e0 : eqb i 0 ≡ false = ne_eqb i 0 (λ e. omega (arith, a, e)) in
    let e1 : ltb i (structures_at P) ≡ false = le-ltb i (structures_at P) a in
    let e2 : ltb i (objects_at P) ≡ true = lt-ltb i (objects_at P) b in
    rw (e0, e1, e2) refl

object_named : (P i : ℕ) → objects_at P ≤ i → i < storage_at P → word_numbered P i ≡ among_objects (i - objects_at P)
object_named P i b d =
    let e0 : eqb i 0 ≡ false = ne_eqb i 0 (λ e. omega (arith, b, e)) in
    let e1 : ltb i (structures_at P) ≡ false = le-ltb i (structures_at P) (omega (arith, b)) in
    let e2 : ltb i (objects_at P) ≡ false = le-ltb i (objects_at P) b in
    let e3 : ltb i (storage_at P) ≡ true = lt-ltb i (storage_at P) d in
    rw (e0, e1, e2, e3) refl

storage_named : (P i : ℕ) → storage_at P ≤ i → word_numbered P i ≡ storage (i - storage_at P)
storage_named P i d =
    let e0 : eqb i 0 ≡ false = ne_eqb i 0 (λ e. omega (arith, d, e)) in
    let e1 : ltb i (structures_at P) ≡ false = le-ltb i (structures_at P) (omega (arith, d)) in
    let e2 : ltb i (objects_at P) ≡ false = le-ltb i (objects_at P) (omega (arith, d)) in
    let e3 : ltb i (storage_at P) ≡ false = le-ltb i (storage_at P) d in
    rw (e0, e1, e2, e3) refl

named_so : (P i j : ℕ) (n : WordName) → word_numbered P i ≡ n → j ≡ i → IsNumbered P n j → IsNumbered P (word_numbered P i) i
named_so P i j n e f h = subst (λ (x : WordName × ℕ). IsNumbered P x.0 x.1) (λ k. (sym e k, f k)) h

pub numbered : (P i : ℕ) → i < words_in_all P → IsNumbered P (word_numbered P i) i
numbered P i lt = ⊎_elim
    (λ (e : i ≡ 0). subst (λ (x : ℕ). IsNumbered P (word_numbered P x) x) (sym e) record { there = refl; number = refl })
    (λ (n : i ≢ 0). ⊎_elim
    (λ (a : i < structures_at P). named_so P i i (acknowledgement (i - 1)) (acknowledgement_named P i n a) refl record { there = lt-ltb (i - 1) P (omega arith); number = omega arith })
    (λ (a : structures_at P ≤ i). ⊎_elim
    (λ (b : i < objects_at P).
    let d = i - structures_at P in
    let e : structures_at P + d ≡ i = omega arith in named_so P i (structures_at P + d) (among_structures d) (structure_named P i a b) e (in_structures P d (omega arith)))
    (λ (b : objects_at P ≤ i). ⊎_elim
    (λ (c : i < storage_at P).
    let d = i - objects_at P in
    let e : objects_at P + d ≡ i = omega arith in named_so P i (objects_at P + d) (among_objects d) (object_named P i b c) e (in_objects P d (omega arith)))
    (λ (c : storage_at P ≤ i). named_so P i i (storage (i - storage_at P)) (storage_named P i c) refl record { there = lt-ltb (i - storage_at P) (MOST_STORAGE * P) (omega arith); number = omega arith })
    (cases_lt i (storage_at P))) (cases_lt i (objects_at P))) (cases_lt i (structures_at P))) (cases_eq i 0)
