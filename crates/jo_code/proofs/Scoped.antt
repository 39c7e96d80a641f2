-- The map of a scope has what each name means.
use Rattle.std.proofs.Common.{◌≡◌, ◌<◌, ℕ, suc, ◌-◌, Bool, true, false, cond, List, [], ◌∷◌, ◌++◌, length, reverse, take, drop, get_or, Option, None, Some, refl, sym, ap, ◌∙◌, subst, arith}
use Rattle.std.specs.List.{slice_get}
use Rattle.std.proofs.Math.Seq.{take-suc}
use Rattle.std.proofs.lemmas.List.{length-reverse, reverse-append, take_all}
use Rattle.std.proofs.lemmas.Option.{slice_get_within, slice_get-get_or}
use Rattle.std.specs.Prelude.{nat_eq, if◌then◌else◌}
use Rattle.std.proofs.lemmas.Bool.{eqb-true}
use Rattle.std.specs.HashMap.{get, HashMap}
use Rattle.std.specs.Option.{unwrap_or}
use Rattle.jo_parse_tree.specs.declared.word.Ident.{Ident}
use Rattle.jo_meaning.specs.State.{Environment, variable_of}
use Rattle.jo_code.specs.declared.scope.Declared.{Declared}
use Rattle.jo_code.specs.inner.Scopes.{names_in, slot_of, AreKept, meaning_in, Means}

-- what an identifier means is what the id of its text means
pub variable_of-slot : (environment : Environment) (x : Ident) → variable_of environment x ≡ slot_of environment x.text.0
variable_of-slot [] x = refl
variable_of-slot (name ∷ environment) x = ap (λ v. if nat_eq name x.text.0 then Some (length environment) else v) (variable_of-slot environment x)

-- as many names as are kept
pub names_in-length : (declared : List Declared) → length (names_in declared) ≡ length declared
names_in-length [] = refl
names_in-length (d ∷ declared) = ap suc (names_in-length declared)

-- the map has another meaning of one name, and the others as before
abbrev pub Renews : {S : Type 0} → HashMap ℕ (Option ℕ) S → HashMap ℕ (Option ℕ) S → ℕ → Option ℕ → Type 0
Renews old new name meaning = (q : ℕ) → get nat_eq new q ≡ cond (nat_eq name q) (Some meaning) (get nat_eq old q)

-- one of two meanings that a map has
one_of : (b : Bool) (m : Option ℕ) (old : Option (Option ℕ)) → unwrap_or (cond b (Some m) old) None ≡ (if b then m else unwrap_or old None)
one_of true m old = refl
one_of false m old = refl

-- a name that is declared means its own variable
pub means_put : {S : Type 0} (old new : HashMap ℕ (Option ℕ) S) (environment : Environment) (name slot : ℕ) → Means old environment → slot ≡ length environment
    → Renews old new name (Some slot) → Means new (name ∷ environment)
means_put old new environment name slot means is renews q =
    ap (λ v. unwrap_or v None) (renews q) ∙ one_of (nat_eq name q) (Some slot) (get nat_eq old q)
    ∙ ap (λ v. if nat_eq name q then Some v else meaning_in old q) is
    ∙ ap (λ v. if nat_eq name q then Some (length environment) else v) (means q)

-- the meaning of a name once the innermost one is left
left_at : (b : Bool) (name q : ℕ) (before inside : Option ℕ) (environment : Environment) → (b ≡ true → name ≡ q) → before ≡ slot_of environment name
    → (if b then before else (if b then inside else slot_of environment q)) ≡ slot_of environment q
left_at true name q before inside environment same is = is ∙ ap (slot_of environment) (same refl)
left_at false name q before inside environment same is = refl

-- a name that is left means what it meant before
pub means_left : {S : Type 0} (old new : HashMap ℕ (Option ℕ) S) (environment : Environment) (name : ℕ) (before : Option ℕ) → Means old (name ∷ environment)
    → before ≡ slot_of environment name → Renews old new name before → Means new environment
means_left old new environment name before means is renews q =
    ap (λ v. unwrap_or v None) (renews q) ∙ one_of (nat_eq name q) before (get nat_eq old q)
    ∙ ap (λ v. if nat_eq name q then before else v) (means q)
    ∙ left_at (nat_eq name q) name q before (Some (length environment)) environment (λ e. eqb-true name q e) is

-- ---- names are kept from the outermost to the innermost

-- two that are there are the same
some_same : (x y : Declared) → Some x ≡ Some y → x ≡ y
some_same x y e = cc e

-- the last of them is the innermost
pub last_kept : (items popped : List Declared) (last : Declared) → Some last ≡ slice_get items (length items - 1) → popped ≡ take (length items - 1) items → reverse items ≡ last ∷ reverse popped
last_kept items popped last is rest =
    let k = length items - 1 in
    let within = slice_get_within items k last (sym is) in
    let there : last ≡ get_or items k last = some_same last (get_or items k last) (is ∙ slice_get-get_or items k last within) in
    let whole : items ≡ take k items ++ (last ∷ []) =
    sym (take_all (suc k) items (omega (arith, within))) ∙ take-suc items k last within ∙ ap (λ x. take k items ++ (x ∷ [])) (sym there) in
    ap reverse (whole ∙ ap (λ xs. xs ++ (last ∷ [])) (sym rest)) ∙ reverse-append popped (last ∷ [])

-- what is true of the names once the innermost one is left
pub left_kept : {S : Type 0} (old new : HashMap ℕ (Option ℕ) S) (all kept : List Declared) (last : Declared) → all ≡ last ∷ kept → AreKept all → Means old (names_in all)
    → Renews old new last.name last.before → AreKept kept × Means new (names_in kept)
left_kept old new all kept last e are means renews =
    let inner : AreKept (last ∷ kept) = subst AreKept e are in
    (inner.1, means_left old new (names_in kept) last.name last.before (subst (λ all. Means old (names_in all)) e means) inner.0 renews)

-- and once a name is declared
pub declared_kept : {S : Type 0} (old new : HashMap ℕ (Option ℕ) S) (items reserved pushed : List Declared) (name slot : ℕ) (before : Option ℕ) → reserved ≡ items → pushed ≡ reserved ++ (record { name = name; before = before } ∷ [])
    → AreKept (reverse items) → Means old (names_in (reverse items)) → before ≡ slot_of (names_in (reverse items)) name → slot ≡ length items
    → Renews old new name (Some slot) → AreKept (reverse pushed) × Means new (names_in (reverse pushed))
declared_kept old new items reserved pushed name slot before same e are means is here renews =
    let d : Declared = record { name = name; before = before } in
    let turned : d ∷ reverse items ≡ reverse pushed = sym (ap reverse (e ∙ ap (λ xs. xs ++ (d ∷ [])) same) ∙ reverse-append items (d ∷ [])) in
    let far : slot ≡ length (names_in (reverse items)) = here ∙ sym (names_in-length (reverse items) ∙ length-reverse items) in (
      subst AreKept turned (is, are),
      subst (λ all. Means new (names_in all)) turned (means_put old new (names_in (reverse items)) name slot means far renews),
    )

-- one less to drop of a longer list
less : (n len : ℕ) → len < suc n → suc (n - len) ≡ suc n - len
less n len below = omega (arith, below)

-- leaving one name less
pub left_more : (names : List ℕ) (len : ℕ) → len < length names → drop (length (drop 1 names) - len) (drop 1 names) ≡ drop (length names - len) names
left_more [] len below = absurd (omega (arith, below))
left_more (name ∷ names) len below = ap (λ n. drop n (name ∷ names)) (less (length names) len below)

-- what names mean
pub ruleset meaning = (variable_of-slot, names_in-length)
