-- Choices by `?` and `:` are read exactly.
use Rattle.std.proofs.Common.{◌≡◌, ◌⊎◌, inl, inr, Bool, if◌then◌else◌, ℕ, ◌+◌, ◌<◌, List, [], ◌∷◌, ◌++◌, Ok, refl, sym, ◌∙◌, ap, subst, arith}
use Rattle.jo_lex.specs.declared.punct.Punct.TheVariants as p
use Rattle.jo_parse_grammar.specs.declared.terminal.Terminal.{Terminal}
use Rattle.jo_parse_grammar.specs.declared.terminal.Terminal.TheVariants as t
use Rattle.jo_parse_tree.specs.Trees.{Tree, number, literal, constant, variable, group, object, cas, member, unary, delete, chain, choose, assign}
use Rattle.jo_parse_grammar.specs.Expressions.{Symbol, punct, IsTarget, MayStand, spelling}
use Rattle.jo_parse_grammar.specs.Refusals.{Language, terms}
use Rattle.jo_parse_grammar.specs.inner.Read.{and_then, open_at, peek, next, sees, rank, Below, chains, choice, condition}
use Rattle.jo_parse_grammar.proofs.Outcome.{Stops, Outcome, bind, outcome-bind, outcome-choose, Any, nothing, outcome-pure, one, outcome-same, mapped, join, first-of, some-after, outcome-sees, opened-after}
use Rattle.jo_parse_grammar.proofs.Levels.{at, Above, ReadsAt, some_tree, nil-right, links-level, MayStand-lower, closed_by, outcome-closed, outcome-inner}
use Rattle.jo_parse_grammar.proofs.Chains.{outcome-chains}

-- what may follow a condition: an operator that assigns only where it is a target
abbrev pub AboveCondition : Bool → Stops Tree
AboveCondition ins v c = (rank ins c < 2) × (rank ins c ≡ 1 → IsTarget v)

-- ---- the languages

-- the rest of a choice, after its `?`
abbrev a_choice : Bool → ℕ → Tree → Language Tree
a_choice ins d a = closed_by ins d (t.Punct p.Colon) (λ b. mapped (choose a b) (at ins 1 d))

abbrev a_question : Bool → ℕ → Tree → Language Tree
a_question ins d a = bind (one (t.Punct p.Question) (d + 1)) (λ _. a_choice ins (d + 1) a)

abbrev condition_rest : Bool → ℕ → Tree → Language Tree
condition_rest ins d a v m = a_question ins d a v m ⊎ nothing a v m

abbrev condition_parts : Bool → ℕ → Language Tree
condition_parts ins d = bind (at ins 3 d) (λ a. condition_rest ins d a)

some_choice : (ins : Bool) (d : ℕ) (a : Tree) → (v : Tree) × (m : List Symbol) × a_choice ins d a v m
some_choice ins d a =
    let b = some_tree ins 1 d in
    let c = some-after (t.Punct p.Colon) 0 (mapped (choose a b.0) (at ins 1 d)) (choose a b.0 b.0, b.1, (b.0, b.2, refl)) in
    (c.0, b.1 ++ c.1, (b.0, b.1, c.1, b.2, c.2, refl))

question-to : (ins : Bool) (d : ℕ) (a v : Tree) (m : List Symbol) → MayStand ins 3 a → a_question ins d a v m → MayStand ins 2 v × (spelling d a ++ m ≡ spelling d v)
question-to ins d a v m f (u, x1, y1, l1, (b, x2, y2, h2, (u', x3, y3, l3, (c, h4, same), e3), e2), e1) = (
  subst (λ z. MayStand ins 2 z) (sym same) (omega arith, f, h2.0, h4.0),
  ap (λ z. spelling d a ++ z) (e1 ∙ join l1 (e2 ∙ join h2.1 (e3 ∙ join l3 h4.1))) ∙ ap (λ z. spelling d z) (sym same),
)

condition-to : (ins : Bool) (d : ℕ) (v : Tree) (m : List Symbol) → condition_parts ins d v m → at ins 2 d v m
condition-to ins d v m (a, x, y, h, inl k, e) =
    let f = question-to ins d a v y h.0 k in
    (f.0, e ∙ ap (λ z. z ++ y) h.1 ∙ f.1)
condition-to ins d v m (a, x, y, h, inr k, e) =
    (subst (λ z. MayStand ins 2 z) (sym k.0) (MayStand-lower ins 2 3 a (omega arith) h.0), e ∙ join h.1 k.1 ∙ nil-right (spelling d a) ∙ ap (λ z. spelling d z) (sym k.0))

condition-alone : (ins : Bool) (d : ℕ) (v : Tree) (m : List Symbol) → at ins 3 d v m → condition_parts ins d v m
condition-alone ins d v m h = (v, m, [], h, inr (refl, refl), sym (nil-right m))

question-from : (ins : Bool) (d : ℕ) (a b c : Tree) → MayStand ins 1 b → MayStand ins 1 c
    → a_question ins d a (choose a b c) ((t.Punct p.Question, d + 1) ∷ (spelling (d + 1) b ++ punct p.Colon ∷ spelling (d + 1) c))
question-from ins d a b c f g = (
  tt,
  (t.Punct p.Question, d + 1) ∷ [],
  spelling (d + 1) b ++ punct p.Colon ∷ spelling (d + 1) c,
  refl,
  (b, spelling (d + 1) b, punct p.Colon ∷ spelling (d + 1) c, (f, refl), (tt, punct p.Colon ∷ [], spelling (d + 1) c, refl, (c, (g, refl), refl), refl), refl),
  refl,
)

condition-from : (ins : Bool) (d : ℕ) (v : Tree) (m : List Symbol) → at ins 2 d v m → condition_parts ins d v m
condition-from ins d (number i) m h = condition-alone ins d (number i) m h
condition-from ins d (literal s) m h = condition-alone ins d (literal s) m h
condition-from ins d (constant w) m h = condition-alone ins d (constant w) m h
condition-from ins d (variable x) m h = condition-alone ins d (variable x) m h
condition-from ins d (group e) m h = condition-alone ins d (group e) m h
condition-from ins d (object ps comma) m h = condition-alone ins d (object ps comma) m h
condition-from ins d (cas o q a b) m h = condition-alone ins d (cas o q a b) m h
condition-from ins d (member e xs) m h = condition-alone ins d (member e xs) m ((omega arith, h.0.1, h.0.2), h.1)
condition-from ins d (unary o e) m h = condition-alone ins d (unary o e) m ((omega arith, h.0.1), h.1)
condition-from ins d (delete e) m h = condition-alone ins d (delete e) m ((omega arith, h.0.1, h.0.2), h.1)
condition-from ins d (chain j e ls) m h = let f = links-level ins j ls h.0.2 in condition-alone ins d (chain j e ls) m ((f.0, h.0.1, h.0.2), h.1)
condition-from ins d (choose a b c) m h =
    (a, spelling d a, (t.Punct p.Question, d + 1) ∷ (spelling (d + 1) b ++ punct p.Colon ∷ spelling (d + 1) c), (h.0.1, refl), inl (question-from ins d a b c h.0.2 h.0.3), h.1)
condition-from ins d (assign o a b) m h = absurd (omega arith)

-- ---- which terminals may follow

choice-stops : (ins : Bool) (v : Tree) (c : Terminal) (a b w : Tree) → v ≡ choose a b w → AboveCondition ins v c → rank ins c < 1
choice-stops ins v c a b w same s =
    let none : rank ins c ≡ 1 → ⊥ = λ h. subst (λ z. IsTarget z) same (s.1 h) in
    omega (arith, s.0)

condition-follow : (ins : Bool) (d : ℕ) (a v : Tree) (m : List Symbol) (r : List Terminal) → condition_rest ins d a v m → AboveCondition ins v (peek r) → rank ins (peek (terms m ++ r)) < 3
condition-follow ins d a v m r (inl k) s = let f : rank ins (peek (terms m ++ r)) ≡ 2 = ap (rank ins) (first-of (t.Punct p.Question) (d + 1) (a_choice ins (d + 1) a) v m r k) in omega arith
condition-follow ins d a v m r (inr k) s = let f : rank ins (peek (terms m ++ r)) ≡ rank ins (peek r) = ap (λ z. rank ins (peek (terms z ++ r))) k.1 in omega (arith, s.0)

condition-split : (ins : Bool) (d : ℕ) (a v : Tree) (m : List Symbol) (r : List Terminal) → condition_rest ins d a v m → AboveCondition ins v (peek r)
    → ((peek (terms m ++ r) ≡ t.Punct p.Question) × a_question ins d a v m) ⊎ ((peek (terms m ++ r) ≡ t.Punct p.Question → ⊥) × nothing a v m)
condition-split ins d a v m r (inl k) s = inl (first-of (t.Punct p.Question) (d + 1) (a_choice ins (d + 1) a) v m r k, k)
condition-split ins d a v m r (inr k) s =
    inr (λ h. let q : rank ins (peek r) ≡ 2 = ap (λ z. rank ins (peek (terms z ++ r))) (sym k.1) ∙ ap (rank ins) h in absurd (omega (arith, s.0)), k)

-- ---- how they are read

module _ (limit d : ℕ) (below : Below) (ih : ReadsAt limit d below) (ins : Bool) where
  outcome-choice : (a : Tree) (ts : List Terminal) → Outcome (a_choice ins d a) (Above ins 1) Any limit ts (choice below ins a ts)
  unfolding choice
  outcome-choice a ts =
      outcome-closed limit d below ih ins (t.Punct p.Colon) (λ b. mapped (choose a b) (at ins 1 d)) (Above ins 1) Any (omega arith) refl
      (λ b. let c = some_tree ins 1 d in (choose a b c.0, c.1, (c.0, c.2, refl))) (λ b r. and_then (below ins 1 r) (λ c r. Ok (choose a b c, r))) ts
      (λ b r short. outcome-inner limit d below ih ins (choose a b) r)

module _ (limit d room : ℕ) (sum : d + room ≡ limit) (below : Below) (ih : 0 < room → ReadsAt limit (d + 1) below) (ins : Bool) where
  condition-after : (a : Tree) (ts : List Terminal)
      → Outcome (condition_rest ins d a) (AboveCondition ins) Any limit ts (if sees (t.Punct p.Question) ts then and_then (open_at room ts) (λ _ r. choice below ins a r) else Ok (a, ts))
  condition-after a ts =
      outcome-sees (t.Punct p.Question) (condition_rest ins d a) (a_question ins d a) (nothing a) (AboveCondition ins) Any limit ts _ _ (omega arith) (λ _ _ k. inl k) (λ _ _ k. inr k)
      (condition-split ins d a)
      (λ e. opened-after (t.Punct p.Question) d room limit ts (a_choice ins (d + 1) a) (AboveCondition ins) Any _ e sum (some_choice ins (d + 1) a)
      (λ pos. outcome-choose (a_choice ins (d + 1) a) (a_choice ins (d + 1) a) (Above ins 1) (AboveCondition ins) Any Any limit (next ts) (λ _ _ k. k) (λ _ _ _ _ _. tt)
      (λ v m r k s e. (k, choice-stops ins v (peek r) a k.0 k.4.4.0 k.4.4.2 s)) _ (outcome-choice limit (d + 1) below (ih pos) ins a (next ts))))
      (λ _. outcome-pure a (AboveCondition ins) Any limit ts tt)

  pub outcome-condition : (ts : List Terminal) → Outcome (at ins 2 d) (AboveCondition ins) Any limit ts (condition room below ins ts)
  unfolding condition
  outcome-condition ts =
      outcome-same (condition_parts ins d) (at ins 2 d) (AboveCondition ins) Any limit ts (condition-to ins d) (condition-from ins d) _
      (outcome-bind (at ins 3 d) (Above ins 3) Any (λ a. condition_rest ins d a) (AboveCondition ins) Any limit
      (λ a x v y r l k s. condition-follow ins d a v y r k s)
      (λ a x l. (a, [], inr (refl, refl))) ts (chains room below ins 6 3 ts) _ (outcome-chains limit d room sum below ih ins 6 3 (omega arith) (omega arith) ts)
      (λ a x r l g front. condition-after a r))
