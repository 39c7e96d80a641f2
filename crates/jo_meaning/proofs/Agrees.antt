-- The rule on names is the same where a script is judged and where it means something.
use Rattle.std.proofs.Common.{refl, sym, true≢false, subst, ◌∙◌, arith}
use Rattle.std.specs.Prelude.{◌≡◌, ℕ, ◌==◌, ◌≤◌, ◌<◌, Bool, true, false, ◌||◌, if◌then◌else◌, List, [], ◌∷◌, ◌++◌, length, Option, Some}
use Rattle.jo_parse_tree.specs.declared.word.Ident.{Ident}
use Rattle.jo_parse_grammar.specs.Declarations as judged
use Rattle.jo_parse_grammar.specs.Declarations.{Scope}
use Rattle.jo_meaning.specs.State.{variable_of}
use Rattle.jo_meaning.specs.inner.Meant.{around, IsOwn, one_of, IsMeant}

longer : (names outer : List ℕ) → length outer ≤ length (names ++ outer)
longer [] outer = omega arith
longer (name ∷ names) outer = omega (arith, longer names outer)

-- the variable of a block's name stands among those of the block
abbrev pub IsInner : Option ℕ → List ℕ → List ℕ → Type 0
IsInner variable names outer = (k : ℕ) × (variable ≡ Some k) × (length outer ≤ k) × (k < length (names ++ outer))

inner_step : (same : Bool) (name : ℕ) (names outer : List ℕ) (x : Ident) → (same || judged.is_among names x.text.0) ≡ true
    → (judged.is_among names x.text.0 ≡ true → IsInner (variable_of (names ++ outer) x) names outer)
    → IsInner (if same then Some (length (names ++ outer)) else variable_of (names ++ outer) x) (name ∷ names) outer
inner_step true name names outer x h ih = (length (names ++ outer), refl, longer names outer, omega arith)
inner_step false name names outer x h ih =
    let i = ih h in
    let below : i.0 < length (names ++ outer) = i.3 in
    (i.0, i.1, i.2, omega (arith, below))

-- a block that declares the name has the variable that it means
pub inner_is_meant : (names outer : List ℕ) (x : Ident) → judged.is_among names x.text.0 ≡ true → IsInner (variable_of (names ++ outer) x) names outer
inner_is_meant [] outer x h = absurd (true≢false (sym h))
inner_is_meant (name ∷ names) outer x h = inner_step (name == x.text.0) name names outer x h (inner_is_meant names outer x)

outer_step : (same : Bool) (names outer : List ℕ) (x : Ident) → (same || judged.is_among names x.text.0) ≡ false
    → (judged.is_among names x.text.0 ≡ false → variable_of (names ++ outer) x ≡ variable_of outer x)
    → (if same then Some (length (names ++ outer)) else variable_of (names ++ outer) x) ≡ variable_of outer x
outer_step true names outer x h ih = absurd (true≢false h)
outer_step false names outer x h ih = ih h

-- and one that does not leaves it to those outside
pub outer_is_meant : (names outer : List ℕ) (x : Ident) → judged.is_among names x.text.0 ≡ false → variable_of (names ++ outer) x ≡ variable_of outer x
outer_is_meant [] outer x h = refl
outer_is_meant (name ∷ names) outer x h = outer_step (name == x.text.0) names outer x h (outer_is_meant names outer x)

-- a variable, which is that of the innermost scope that declares the name
abbrev pub HasMeaning : List Scope → Ident → Type 0
HasMeaning scopes x = (k : ℕ) × (variable_of (around scopes) x ≡ Some k) × IsMeant scopes x k

bound_step : (here : Bool) (scope : Scope) (outer : List Scope) (x : Ident) → judged.is_among scope.names x.text.0 ≡ here
    → (if here then judged.is_among scope.ended x.text.0 else judged.is_bound outer x.text.0) ≡ true
    → (judged.is_bound outer x.text.0 ≡ true → HasMeaning outer x) → HasMeaning (scope ∷ outer) x
bound_step true scope outer x e h ih =
    let i = inner_is_meant scope.names (around outer) x e in
    (i.0, i.1, subst (λ b. one_of b (IsOwn scope outer i.0) (IsMeant outer x i.0)) (sym e) (i.2, i.3))
bound_step false scope outer x e h ih =
    let i = ih h in
    (i.0, outer_is_meant scope.names (around outer) x e ∙ i.1, subst (λ b. one_of b (IsOwn scope outer i.0) (IsMeant outer x i.0)) (sym e) i.2)

-- a use that is no fault means the variable of the innermost block that declares its name
pub bound_is_meant : (scopes : List Scope) (x : Ident) → judged.is_bound scopes x.text.0 ≡ true → HasMeaning scopes x
bound_is_meant [] x h = absurd (true≢false (sym h))
bound_is_meant (scope ∷ outer) x h = bound_step (judged.is_among scope.names x.text.0) scope outer x refl h (bound_is_meant outer x)
