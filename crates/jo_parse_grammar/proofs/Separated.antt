-- Values with a comma between each two, and the terminal that ends them.
use Rattle.std.proofs.Common.{◌≡◌, ◌≢◌, ◌⊎◌, inl, inr, if◌then◌else◌, suc, ℕ, ◌≤◌, ◌<◌, List, [], ◌∷◌, ◌++◌, Ok, Err, refl, sym, ◌∙◌, ap, subst, append_assoc, arith, length}
use Rattle.jo_lex.specs.declared.punct.Punct.TheVariants as p
use Rattle.jo_parse_grammar.specs.declared.terminal.Terminal.{Terminal}
use Rattle.jo_parse_grammar.specs.declared.terminal.Terminal.TheVariants as t
use Rattle.jo_parse_grammar.specs.Expressions.{Symbol, punct}
use Rattle.jo_parse_grammar.specs.Refusals.{Language, terms, unexpected}
use Rattle.jo_parse_grammar.specs.inner.Read.{Reader, and_then, peek, next, code, sees}
use Rattle.jo_parse_grammar.proofs.Outcome.{Stops, Outcome, bind, outcome-bind, Any, nothing, outcome-pure, one, outcome-fail, outcome-if, join, sees-cons, sees-false, outcome-sees, first-of, some-after, plain-after}
use Rattle.jo_parse_grammar.proofs.Levels.{not-longer}

pub ends-list : {A : Type 0} (x : List A) → x ++ [] ≡ x
ends-list [] = refl
ends-list (a ∷ x) = ap (λ v. a ∷ v) (ends-list x)

module _ {A : Type 0} (L : Language A) (c : Terminal) where
  -- each value after a comma
  abbrev pub elements : List A → List Symbol → Type 0
  elements [] m = m ≡ []
  elements (a ∷ es) m = (x : List Symbol) × (y : List Symbol) × L a x × elements es y × (m ≡ punct p.Comma ∷ (x ++ y))

  -- the rest of a list of which these values were read
  abbrev pub elements_end : List A → Language (List A)
  elements_end found v m = (es : List A) × (y : List Symbol) × elements es y × (v ≡ found ++ es) × (m ≡ y ++ (c, 0) ∷ [])

  abbrev pub an_end : List A → Language (List A)
  an_end found = bind (one c 0) (λ _. nothing found)

  abbrev pub an_element : List A → Language (List A)
  an_element found = bind L (λ a. elements_end (found ++ a ∷ []))

  abbrev pub a_comma : List A → Language (List A)
  a_comma found = bind (one (t.Punct p.Comma) 0) (λ _. an_element found)

  end-to : (found v : List A) (m : List Symbol) → an_end found v m → elements_end found v m
  end-to found v m k = ([], [], refl, k.4.0 ∙ sym (ends-list found), k.5 ∙ join k.3 k.4.1)

  comma-to : (found v : List A) (m : List Symbol) → a_comma found v m → elements_end found v m
  comma-to found v m (u, x, y, l, (a, x', y', k, (es, z, q, g, w), e'), e) = (
    a ∷ es,
    punct p.Comma ∷ (x' ++ z),
    (x', z, k, q, refl),
    g ∙ append_assoc found (a ∷ []) es,
    e ∙ join l (e' ∙ (ap (λ v. x' ++ v) w ∙ sym (append_assoc x' z ((c, 0) ∷ [])))),
  )

  elements-split : (found v : List A) (m : List Symbol) (r : List Terminal) → elements_end found v m
      → ((peek (terms m ++ r) ≡ c) × an_end found v m) ⊎ ((peek (terms m ++ r) ≡ t.Punct p.Comma) × a_comma found v m)
  elements-split found v m r ([], y, q, g, e) =
      let f : m ≡ (c, 0) ∷ [] = e ∙ ap (λ z. z ++ (c, 0) ∷ []) q in
      inl (ap (λ v. peek (terms v ++ r)) f, (tt, (c, 0) ∷ [], [], refl, (g ∙ ends-list found, refl), f))
  elements-split found v m r (a ∷ es, y, q, g, e) =
      let f : m ≡ punct p.Comma ∷ (q.0 ++ (q.1 ++ (c, 0) ∷ [])) = e ∙ (ap (λ z. z ++ (c, 0) ∷ []) q.4 ∙ ap (λ z. punct p.Comma ∷ z) (append_assoc q.0 q.1 ((c, 0) ∷ []))) in
      inr (
        ap (λ v. peek (terms v ++ r)) f,
        (tt, punct p.Comma ∷ [], q.0 ++ (q.1 ++ (c, 0) ∷ []), refl, (a, q.0, q.1 ++ (c, 0) ∷ [], q.2, (es, q.1, q.3, g ∙ sym (append_assoc found (a ∷ []) es), refl), refl), f),
      )

  pub some_elements : (found : List A) → (v : List A) × (m : List Symbol) × elements_end found v m
  some_elements found = (found, (c, 0) ∷ [], ([], [], refl, sym (ends-list found), refl))

  module _ (S : Stops A) (fixed : 5 ≤ code c) (apart : c ≢ t.Punct p.Comma) (ends : (a : A) → S a c) (more : (a : A) → S a (t.Punct p.Comma))
      (some : (a : A) × (m : List Symbol) × L a m) (limit : ℕ) (reader : Reader A) (ih : (ts : List Terminal) → Outcome L S Any limit ts (reader ts)) where
    elements-follow : (found : List A) (a : A) (v : List A) (m : List Symbol) (r : List Terminal) → elements_end found v m → S a (peek (terms m ++ r))
    elements-follow found a v m r k = elim (elements-split found v m r k) [ inl q ↦ subst (λ z. S a z) (sym q.0) (ends a) | inr q ↦ subst (λ z. S a z) (sym q.0) (more a) ]

    -- a value and the rest
    pub outcome-element : (found : A → List A) (f : A → Reader (List A)) (ts : List Terminal)
        → ((a : A) (r : List Terminal) → length r ≤ length ts → Outcome (elements_end (found a)) Any Any limit r (f a r))
        → Outcome (bind L (λ a. elements_end (found a))) Any Any limit ts (and_then (reader ts) f)
    outcome-element found f ts onward =
        outcome-bind L S Any (λ a. elements_end (found a)) Any Any limit (λ a x b y r l k s. elements-follow (found a) a b y r k) (λ a x l. some_elements (found a)) ts (reader ts) f (ih ts)
        (λ a x r l g front. onward a r (not-longer ts r x front))

    -- no terminal at all
    pub outcome-no-element : (found : List A) → code c ≢ 4 → Outcome (elements_end found) Any Any limit [] (Err (unexpected, []))
    outcome-no-element found h = outcome-fail (elements_end found) Any Any limit [] (some_elements found)
        (λ v m r k s e. elim (elements-split found v m r k) [ inl q ↦ h (ap code (sym q.0 ∙ e)) | inr q ↦ let f : t.Punct p.Comma ≡ t.End = sym q.0 ∙ e in cc ])

    some-comma : (found : List A) → (v : List A) × (m : List Symbol) × a_comma found v m
    some-comma found =
        let k = some_elements (found ++ some.0 ∷ []) in
        some-after (t.Punct p.Comma) 0 (an_element found) (k.0, some.1 ++ k.1, (some.0, some.1, k.1, some.2, k.2, refl))

    -- the end, or a comma, a value and the rest
    pub outcome-elements : (found : List A) (f : A → Reader (List A)) (ts : List Terminal)
        → ((a : A) (r : List Terminal) → length r < length ts → Outcome (elements_end (found ++ a ∷ [])) Any Any limit r (f a r))
        → Outcome (elements_end found) Any Any limit ts (if sees c ts then Ok (found, next ts) else (if sees (t.Punct p.Comma) ts then and_then (reader (next ts)) f else Err (unexpected, ts)))
    outcome-elements found f ts onward =
        outcome-sees c (elements_end found) (an_end found) (a_comma found) Any Any limit ts _ _ fixed (end-to found) (comma-to found)
        (λ v m r k s. elim (elements-split found v m r k) [ inl q ↦ inl q | inr q ↦ inr (λ h. apart (sym h ∙ q.0), q.1) ])
        (λ e. plain-after c 0 0 limit ts (nothing found) Any Any (Ok (found, next ts)) e (found, [], (refl, refl)) (outcome-pure found Any Any limit (next ts) tt))
        (λ _. outcome-if (a_comma found) Any Any limit ts (sees (t.Punct p.Comma) ts) _ _
        (λ e. let front = sees-cons (t.Punct p.Comma) ts (omega arith) e in
        let long : length ts ≡ suc (length (next ts)) = ap length front in
        plain-after (t.Punct p.Comma) 0 0 limit ts (an_element found) Any Any _ front (let k = some_elements (found ++ some.0 ∷ []) in (k.0, some.1 ++ k.1, (some.0, some.1, k.1, some.2, k.2, refl)))
        (outcome-element (λ a. found ++ a ∷ []) f (next ts) (λ a r short. onward a r (omega arith))))
        (λ e. outcome-fail (a_comma found) Any Any limit ts (some-comma found)
        (λ v m r k s g. sees-false (t.Punct p.Comma) (peek (terms m ++ r)) ts e g (first-of (t.Punct p.Comma) 0 (an_element found) v m r k))))
