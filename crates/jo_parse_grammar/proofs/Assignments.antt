-- Assignments are read exactly.
use Rattle.std.proofs.Common.{◌≡◌, ◌==◌, eqb, ◌⊎◌, inl, inr, Bool, true, false, if◌then◌else◌, ◌&&◌, ℕ, ◌+◌, ◌<◌, List, [], ◌∷◌, ◌++◌, Ok, refl, sym, ◌∙◌, ap, subst, arith}
use Rattle.std.proofs.lemmas.Bool.{eqb-true, eq-eqb}
use Rattle.jo_parse_tree.specs.declared.operator.AssignOperator.{AssignOperator}
use Rattle.jo_parse_grammar.specs.declared.terminal.Terminal.{Terminal}
use Rattle.jo_parse_tree.specs.Trees.{Tree, number, literal, constant, variable, group, object, cas, member, unary, delete, chain, choose, assign}
use Rattle.jo_parse_grammar.specs.Operators.{assign_token}
use Rattle.jo_parse_grammar.specs.Expressions.{Symbol, IsTarget, MayStand, spelling}
use Rattle.jo_parse_grammar.specs.Refusals.{Language, terms}
use Rattle.jo_parse_grammar.specs.inner.Read.{and_then, open_at, peek, next, rank, assign_of, Below, condition, is_target, assignment}
use Rattle.jo_parse_grammar.proofs.Outcome.{Outcome, bind, outcome-bind, outcome-choose, Any, nothing, outcome-pure, one, outcome-same, mapped, outcome-if, join, first-of, opened-after}
use Rattle.jo_parse_grammar.proofs.Levels.{at, Above, ReadsAt, some_tree, nil-right, rank-cons, links-level, MayStand-lower, outcome-inner}
use Rattle.jo_parse_grammar.proofs.Tokens.{assign-token-of, assign-of-token, rank-of-assign}
use Rattle.jo_parse_grammar.proofs.Conditions.{AboveCondition, outcome-condition}

-- ---- the languages

-- an operator that assigns, and what it assigns to the target
abbrev an_assignment : Bool → ℕ → Tree → AssignOperator → Terminal → Language Tree
an_assignment ins d a o c = bind (one c (d + 1)) (λ _. mapped (assign o a) (at ins 1 (d + 1)))

abbrev assignment_rest : Bool → ℕ → Tree → Language Tree
assignment_rest ins d a v m = ((o : AssignOperator) × IsTarget a × an_assignment ins d a o (assign_token o) v m) ⊎ nothing a v m

abbrev assignment_parts : Bool → ℕ → Language Tree
assignment_parts ins d = bind (at ins 2 d) (λ a. assignment_rest ins d a)

-- ---- targets

target-fits : (ins : Bool) (a : Tree) → IsTarget a → MayStand ins 2 a → MayStand ins 10 a
target-fits ins (variable x) k f = tt
target-fits ins (member e xs) k f = (omega arith, f.1, f.2)
target-fits ins (number i) k f = tt
target-fits ins _ k f = absurd k

target-true : (a : Tree) → is_target a ≡ true → IsTarget a
target-true (variable x) k = tt
target-true (member e xs) k = tt
target-true (number i) k = cc
target-true _ k = cc

true-target : (a : Tree) → IsTarget a → is_target a ≡ true
true-target (variable x) k = refl
true-target (member e xs) k = refl
true-target (number i) k = absurd k
true-target _ k = absurd k

and-parts : (a b : Bool) → (a && b) ≡ true → (a ≡ true) × (b ≡ true)
and-parts true b e = (refl, e)
and-parts false b e = cc

-- ---- an assignment in parts

assignment-to : (ins : Bool) (d : ℕ) (v : Tree) (m : List Symbol) → assignment_parts ins d v m → at ins 1 d v m
assignment-to ins d v m (a, x, y, h, inl (o, target, (u, x1, y1, l1, (b, h2, same), e1)), e) =
    (subst (λ z. MayStand ins 1 z) (sym same) (omega arith, target, target-fits ins a target h.0, h2.0), e ∙ join h.1 (e1 ∙ join l1 h2.1) ∙ ap (λ z. spelling d z) (sym same))
assignment-to ins d v m (a, x, y, h, inr k, e) =
    (subst (λ z. MayStand ins 1 z) (sym k.0) (MayStand-lower ins 1 2 a (omega arith) h.0), e ∙ join h.1 k.1 ∙ nil-right (spelling d a) ∙ ap (λ z. spelling d z) (sym k.0))

assignment-alone : (ins : Bool) (d : ℕ) (v : Tree) (m : List Symbol) → at ins 2 d v m → assignment_parts ins d v m
assignment-alone ins d v m h = (v, m, [], h, inr (refl, refl), sym (nil-right m))

assignment-from : (ins : Bool) (d : ℕ) (v : Tree) (m : List Symbol) → at ins 1 d v m → assignment_parts ins d v m
assignment-from ins d (number i) m h = assignment-alone ins d (number i) m h
assignment-from ins d (literal s) m h = assignment-alone ins d (literal s) m h
assignment-from ins d (constant w) m h = assignment-alone ins d (constant w) m h
assignment-from ins d (variable x) m h = assignment-alone ins d (variable x) m h
assignment-from ins d (group e) m h = assignment-alone ins d (group e) m h
assignment-from ins d (object ps comma) m h = assignment-alone ins d (object ps comma) m h
assignment-from ins d (cas o q a b) m h = assignment-alone ins d (cas o q a b) m h
assignment-from ins d (member e xs) m h = assignment-alone ins d (member e xs) m ((omega arith, h.0.1, h.0.2), h.1)
assignment-from ins d (unary o e) m h = assignment-alone ins d (unary o e) m ((omega arith, h.0.1), h.1)
assignment-from ins d (delete e) m h = assignment-alone ins d (delete e) m ((omega arith, h.0.1, h.0.2), h.1)
assignment-from ins d (chain j e ls) m h = let f = links-level ins j ls h.0.2 in assignment-alone ins d (chain j e ls) m ((omega arith, h.0.1, h.0.2), h.1)
assignment-from ins d (choose a b c) m h = assignment-alone ins d (choose a b c) m ((omega arith, h.0.1, h.0.2, h.0.3), h.1)
assignment-from ins d (assign o a b) m h = (
  a,
  spelling d a,
  (assign_token o, d + 1) ∷ spelling (d + 1) b,
  (MayStand-lower ins 2 10 a (omega arith) h.0.2, refl),
  inl (o, h.0.1, (tt, (assign_token o, d + 1) ∷ [], spelling (d + 1) b, refl, (b, (h.0.3, refl), refl), refl)),
  h.1,
)

-- ---- which terminals may follow

assignment-follow : (ins : Bool) (d : ℕ) (a v : Tree) (m : List Symbol) (r : List Terminal) → assignment_rest ins d a v m → rank ins (peek r) < 1 → AboveCondition ins a (peek (terms m ++ r))
assignment-follow ins d a v m r (inl (o, target, k)) s =
    let f : rank ins (peek (terms m ++ r)) ≡ 1 = ap (rank ins) (first-of (assign_token o) (d + 1) (mapped (assign o a) (at ins 1 (d + 1))) v m r k) ∙ rank-of-assign ins o in
    (omega arith, λ _. target)
assignment-follow ins d a v m r (inr k) s =
    let f : rank ins (peek (terms m ++ r)) ≡ rank ins (peek r) = ap (λ z. rank ins (peek (terms z ++ r))) k.1 in
    (omega arith, λ h. absurd (omega arith))

-- an assignment by the terminal that stands here is one
here-to : (ins : Bool) (d : ℕ) (a : Tree) (c : Terminal) → IsTarget a → rank ins c ≡ 1 → (v : Tree) (m : List Symbol) → an_assignment ins d a (assign_of c) c v m → assignment_rest ins d a v m
here-to ins d a c target one v m k = inl (assign_of c, target, subst (λ z. an_assignment ins d a (assign_of c) z v m) (sym (assign-token-of ins c one)) k)

here-from : (ins : Bool) (d : ℕ) (a : Tree) (c : Terminal) → rank ins c ≡ 1 → (v : Tree) (m : List Symbol) (r : List Terminal) → assignment_rest ins d a v m → rank ins (peek r) < 1 → peek (terms m ++ r) ≡ c
    → an_assignment ins d a (assign_of c) c v m
here-from ins d a c one v m r (inl (o, target, k)) s e =
    let same : assign_token o ≡ c = sym (first-of (assign_token o) (d + 1) (mapped (assign o a) (at ins 1 (d + 1))) v m r k) ∙ e in
    subst (λ z. an_assignment ins d a (assign_of z) z v m) same (subst (λ q. an_assignment ins d a q (assign_token o) v m) (sym (assign-of-token o)) k)
here-from ins d a c one v m r (inr k) s e =
    let f : rank ins (peek r) ≡ rank ins c = ap (λ z. rank ins (peek (terms z ++ r))) (sym k.1) ∙ ap (rank ins) e in
    absurd (omega arith)

-- where no assignment is read there is none
here-none : (ins : Bool) (d : ℕ) (a : Tree) (c : Terminal) → (is_target a && eqb (rank ins c) 1) ≡ false → (v : Tree) (m : List Symbol) (r : List Terminal) → assignment_rest ins d a v m → peek (terms m ++ r) ≡ c → nothing a v m
here-none ins d a c away v m r (inl (o, target, k)) e =
    let same : assign_token o ≡ c = sym (first-of (assign_token o) (d + 1) (mapped (assign o a) (at ins 1 (d + 1))) v m r k) ∙ e in
    let q : eqb (rank ins c) 1 ≡ true = eq-eqb (rank ins c) 1 (ap (rank ins) (sym same) ∙ rank-of-assign ins o) in
    let g : (is_target a && eqb (rank ins c) 1) ≡ true = ap (λ b. b && eqb (rank ins c) 1) (true-target a target) ∙ q in
    absurd (let f : true ≡ false = sym g ∙ away in cc)
here-none ins d a c away v m r (inr k) e = k

-- ---- how they are read, where d constructs are open and there is room for some more

module _ (limit d room : ℕ) (sum : d + room ≡ limit) (below : Below) (ih : 0 < room → ReadsAt limit (d + 1) below) (ins : Bool) where
  assignment-after : (a : Tree) (ts : List Terminal)
      → Outcome (assignment_rest ins d a) (Above ins 1) Any limit ts
      (if is_target a && (rank ins (peek ts) == 1) then and_then (open_at room ts) (λ _ s. and_then (below ins 1 s) (λ y s. Ok (assign (assign_of (peek ts)) a y, s))) else Ok (a, ts))
  assignment-after a ts =
      outcome-if (assignment_rest ins d a) (Above ins 1) Any limit ts (is_target a && (rank ins (peek ts) == 1)) _ _
      (λ e. let both = and-parts (is_target a) (rank ins (peek ts) == 1) e in
      let o = assign_of (peek ts) in
      let one : rank ins (peek ts) ≡ 1 = eqb-true (rank ins (peek ts)) 1 both.1 in
      outcome-choose (an_assignment ins d a o (peek ts)) (assignment_rest ins d a) (Above ins 1) (Above ins 1) Any Any limit ts (here-to ins d a (peek ts) (target-true a both.0) one) (λ _ _ _ _ _. tt)
      (λ v m r k s f. (here-from ins d a (peek ts) one v m r k s f, s))
      _
      (opened-after (peek ts) d room limit ts (mapped (assign o a) (at ins 1 (d + 1))) (Above ins 1) Any _ (rank-cons ins ts (omega arith)) sum
      (let b = some_tree ins 1 (d + 1) in (assign o a b.0, b.1, (b.0, b.2, refl)))
      (λ pos. outcome-inner limit (d + 1) below (ih pos) ins (assign o a) (next ts))))
      (λ e. outcome-choose (nothing a) (assignment_rest ins d a) (Above ins 1) (Above ins 1) Any Any limit ts (λ _ _ k. inr k) (λ _ _ _ _ _. tt)
      (λ v m r k s f. (here-none ins d a (peek ts) e v m r k f, s))
      (Ok (a, ts)) (outcome-pure a (Above ins 1) Any limit ts tt))

  pub outcome-assignment : (ts : List Terminal) → Outcome (at ins 1 d) (Above ins 1) Any limit ts (assignment room below ins ts)
  unfolding assignment
  outcome-assignment ts =
      outcome-same (assignment_parts ins d) (at ins 1 d) (Above ins 1) Any limit ts (assignment-to ins d) (assignment-from ins d) _
      (outcome-bind (at ins 2 d) (AboveCondition ins) Any (λ a. assignment_rest ins d a) (Above ins 1) Any limit
      (λ a x v y r l k s. assignment-follow ins d a v y r k s)
      (λ a x l. (a, [], inr (refl, refl))) ts (condition room below ins ts) _ (outcome-condition limit d room sum below ih ins ts)
      (λ a x r l g front. assignment-after a r))
