-- Binary operators: each of their levels is read exactly.
use Rattle.std.proofs.Common.{◌≡◌, ◌==◌, eqb, ◌⊎◌, inl, inr, Bool, true, false, zero, suc, ℕ, ◌+◌, ◌≤◌, ◌<◌, List, [], ◌∷◌, ◌++◌, Ok, refl, sym, ◌∙◌, ap, subst, arith, length}
use Rattle.std.proofs.lemmas.Bool.{eqb-true, eq-eqb}
use Rattle.jo_parse_tree.specs.declared.operator.BinaryOperator.{BinaryOperator}
use Rattle.jo_parse_grammar.specs.declared.terminal.Terminal.{Terminal}
use Rattle.jo_parse_tree.specs.Trees.{Tree, number, literal, constant, variable, group, object, cas, member, unary, delete, chain, choose, assign, Links, no_links, link}
use Rattle.jo_parse_grammar.specs.Operators.{binary_token}
use Rattle.jo_parse_grammar.specs.Expressions.{Symbol, MayStand, FitLinks, spelling, links}
use Rattle.jo_parse_grammar.specs.Refusals.{Language, terms}
use Rattle.jo_parse_grammar.specs.inner.Read.{peek, next, rank, binary_of, with_link, Below, prefixed, links_from, chain_of, chains}
use Rattle.jo_parse_grammar.proofs.Outcome.{Outcome, bind, outcome-bind, outcome-choose, Any, nothing, outcome-pure, one, outcome-same, mapped, outcome-map, outcome-if, join, opened-after}
use Rattle.jo_parse_grammar.proofs.Levels.{at, Above, ReadsAt, outcome-below, some_tree, nil-right, not-longer, rank-cons, MayStand-lower}
use Rattle.jo_parse_grammar.proofs.Operands.{outcome-prefixed}
use Rattle.jo_parse_grammar.proofs.Tokens.{rank-is-binary, binary-of-token, rank-of-binary}

-- ---- lists of links

abbrev links_both : Links → Links → Links
links_both no_links ms = ms
links_both (link o e ls) ms = link o e (links_both ls ms)

links_both-none : (ls : Links) → links_both ls no_links ≡ ls
links_both-none no_links = refl
links_both-none (link o e ls) = ap (λ v. link o e v) (links_both-none ls)

links_both-with : (ls ms : Links) (o : BinaryOperator) (e : Tree) → links_both (with_link ls o e) ms ≡ links_both ls (link o e ms)
links_both-with no_links ms o e = refl
links_both-with (link q f ls) ms o e = ap (λ v. link q f v) (links_both-with ls ms o e)

-- ---- the links that follow those already found

abbrev a_links : Bool → ℕ → ℕ → Links → Language Links
a_links ins d k found ls m = (more : Links) × FitLinks ins false k more × (ls ≡ links_both found more) × (m ≡ links d more)

-- an operator, its right operand, and what follows
abbrev a_turn : Bool → ℕ → ℕ → Links → Terminal → Language Links
a_turn ins d k found c = bind (one c (d + 1)) (λ _. bind (at ins (k + 1) (d + 1)) (λ e. a_links ins d k (with_link found (binary_of c) e)))

links-none : (ins : Bool) (d k : ℕ) (found ls : Links) (m : List Symbol) → nothing found ls m → a_links ins d k found ls m
links-none ins d k found ls m q = (no_links, refl, q.0 ∙ sym (links_both-none found), q.1)

some_links : (ins : Bool) (d k : ℕ) (found : Links) → (ls : Links) × (m : List Symbol) × a_links ins d k found ls m
some_links ins d k found = (found, [], links-none ins d k found found [] (refl, refl))

-- one link and the others, as they are read
link-turn : (ins : Bool) (d k : ℕ) (found ls : Links) (m : List Symbol) (o : BinaryOperator) (i : Tree) (more : Links)
    → FitLinks ins false k (link o i more) → ls ≡ links_both found (link o i more) → m ≡ links d (link o i more) → a_turn ins d k found (binary_token o) ls m
link-turn ins d k found ls m o i more f g e =
    let same : links_both (with_link found (binary_of (binary_token o)) i) more ≡ links_both found (link o i more) =
    ap (λ q. links_both (with_link found q i) more) (binary-of-token o) ∙ links_both-with found more o i in (
      tt,
      (binary_token o, d + 1) ∷ [],
      spelling (d + 1) i ++ links d more,
      refl,
      (i, spelling (d + 1) i, links d more, (f.2, refl), (more, f.3, g ∙ sym same, refl), refl),
      e,
    )

links-first : (ins : Bool) (d k : ℕ) (found ls : Links) (m : List Symbol) (r : List Terminal) → a_links ins d k found ls m → rank ins (peek r) < k
    → ((rank ins (peek (terms m ++ r)) ≡ k) × a_turn ins d k found (peek (terms m ++ r)) ls m) ⊎ ((rank ins (peek (terms m ++ r)) < k) × nothing found ls m)
links-first ins d k found ls m r (no_links, f, g, e) s =
    inr (let a : rank ins (peek (terms m ++ r)) ≡ rank ins (peek r) = ap (λ v. rank ins (peek (terms v ++ r))) e in omega arith, (g ∙ links_both-none found, e))
links-first ins d k found ls m r (link o i more, f, g, e) s =
    let here : peek (terms m ++ r) ≡ binary_token o = ap (λ v. peek (terms v ++ r)) e in
    inl (
      ap (rank ins) here ∙ rank-of-binary ins o f.1 ∙ f.0,
      subst (λ z. a_turn ins d k found z ls m) (sym here) (link-turn ins d k found ls m o i more f g e),
    )

turn-to : (ins : Bool) (d k : ℕ) (found : Links) (c : Terminal) → 3 ≤ k → k ≤ 8 → rank ins c ≡ k → (ls : Links) (m : List Symbol) → a_turn ins d k found c ls m → a_links ins d k found ls m
turn-to ins d k found c low high here ls m (u, x, y, l, (i, x', y', a, (more, f, g, w), e'), e) =
    let b = rank-is-binary ins c (omega arith) (omega arith) in (
      link (binary_of c) i more,
      (b.1 ∙ here, b.2, a.0, f),
      g ∙ links_both-with found more (binary_of c) i,
      e ∙ join l (e' ∙ join a.1 w) ∙ ap (λ z. (z, d + 1) ∷ (spelling (d + 1) i ++ links d more)) (sym b.0),
    )

-- what follows an operand of a chain is no operator of a higher level
links-follow : (ins : Bool) (d k : ℕ) (found ls : Links) (m : List Symbol) (r : List Terminal) → a_links ins d k found ls m → rank ins (peek r) < k → rank ins (peek (terms m ++ r)) < k + 1
links-follow ins d k found ls m r q s = elim (links-first ins d k found ls m r q s) [ inl x ↦ omega (arith, x.0) | inr x ↦ omega (arith, x.0) ]

-- ---- a chain in parts

abbrev chain_parts : Bool → ℕ → ℕ → Language Tree
chain_parts ins d k = bind (at ins (k + 1) d) (λ e. mapped (chain_of k e) (a_links ins d k no_links))

chain-to : (ins : Bool) (d k : ℕ) (v : Tree) (m : List Symbol) → chain_parts ins d k v m → at ins k d v m
chain-to ins d k v m (e, x, y, a, (ls, (no_links, f, g, w), h), q) =
    let same : v ≡ e = h ∙ ap (λ z. chain_of k e z) g in
    (subst (λ z. MayStand ins k z) (sym same) (MayStand-lower ins k (k + 1) e (omega arith) a.0), q ∙ join a.1 w ∙ nil-right (spelling d e) ∙ ap (λ z. spelling d z) (sym same))
chain-to ins d k v m (e, x, y, a, (ls, (link o i more, f, g, w), h), q) =
    let same : v ≡ chain k e (link o i more) = h ∙ ap (λ z. chain_of k e z) g in
    (subst (λ z. MayStand ins k z) (sym same) (omega arith, a.0, f), q ∙ join a.1 w ∙ ap (λ z. spelling d z) (sym same))

chain-alone : (ins : Bool) (d k : ℕ) (v : Tree) (m : List Symbol) → at ins (k + 1) d v m → chain_parts ins d k v m
chain-alone ins d k v m h = (v, m, [], h, (no_links, (no_links, refl, refl, refl), refl), sym (nil-right m))

chain-from-at : (ins : Bool) (d k j : ℕ) (e : Tree) (ls : Links) (m : List Symbol) → at ins k d (chain j e ls) m → (b : Bool) → eqb k j ≡ b → chain_parts ins d k (chain j e ls) m
chain-from-at ins d k j e no_links m h b q = let f = h.0.2 in cc
chain-from-at ins d k j e (link o i more) m h true q =
    let same : k ≡ j = eqb-true k j q in
    subst (λ z. chain_parts ins d k (chain z e (link o i more)) m) same (
      e,
      spelling d e,
      links d (link o i more),
      (subst (λ z. MayStand ins (z + 1) e) (sym same) h.0.1, refl),
      (link o i more, (link o i more, subst (λ z. FitLinks ins false z (link o i more)) (sym same) h.0.2, refl, refl), refl),
      h.1,
    )
chain-from-at ins d k j e (link o i more) m h false q =
    let apart : k ≡ j → ⊥ = λ same. let f : eqb k j ≡ true = eq-eqb k j same in cc in
    chain-alone ins d k (chain j e (link o i more)) m ((omega arith, h.0.1, h.0.2), h.1)

chain-from : (ins : Bool) (d k : ℕ) → 3 ≤ k → k ≤ 8 → (v : Tree) (m : List Symbol) → at ins k d v m → chain_parts ins d k v m
chain-from ins d k low high (number i) m h = chain-alone ins d k (number i) m h
chain-from ins d k low high (literal s) m h = chain-alone ins d k (literal s) m h
chain-from ins d k low high (constant w) m h = chain-alone ins d k (constant w) m h
chain-from ins d k low high (variable x) m h = chain-alone ins d k (variable x) m h
chain-from ins d k low high (group e) m h = chain-alone ins d k (group e) m h
chain-from ins d k low high (object ps comma) m h = chain-alone ins d k (object ps comma) m h
chain-from ins d k low high (cas o q a b) m h = chain-alone ins d k (cas o q a b) m h
chain-from ins d k low high (member e xs) m h = chain-alone ins d k (member e xs) m ((omega arith, h.0.1, h.0.2), h.1)
chain-from ins d k low high (unary o e) m h = chain-alone ins d k (unary o e) m ((omega arith, h.0.1), h.1)
chain-from ins d k low high (delete e) m h = chain-alone ins d k (delete e) m ((omega arith, h.0.1, h.0.2), h.1)
chain-from ins d k low high (chain j e ls) m h = chain-from-at ins d k j e ls m h (eqb k j) refl
chain-from ins d k low high (choose a b c) m h = absurd (omega arith)
chain-from ins d k low high (assign o a b) m h = absurd (omega arith)

-- ---- how they are read, where d constructs are open and there is room for some more

module _ (limit d room : ℕ) (sum : d + room ≡ limit) (below : Below) (ih : 0 < room → ReadsAt limit (d + 1) below) (ins : Bool) where
  -- no operator of the level stands here
  links-end : (k : ℕ) (found : Links) (ts : List Terminal) → (rank ins (peek ts) ≡ k → ⊥) → Outcome (a_links ins d k found) (Above ins k) Any limit ts (Ok (found, ts))
  links-end k found ts away = outcome-choose (nothing found) (a_links ins d k found) (Above ins k) (Above ins k) Any Any limit ts (links-none ins d k found) (λ _ _ _ _ _. tt)
      (λ v m r q s e. elim (links-first ins d k found v m r q s) [ inl x ↦ absurd (away (ap (rank ins) (sym e) ∙ x.0)) | inr x ↦ (x.1, s) ])
      (Ok (found, ts)) (outcome-pure found (Above ins k) Any limit ts tt)

  outcome-links : (k : ℕ) → 3 ≤ k → k ≤ 8 → (n : ℕ) (found : Links) (ts : List Terminal) → length ts ≤ n → Outcome (a_links ins d k found) (Above ins k) Any limit ts (links_from room below ins k n found ts)
  unfolding links_from
  outcome-links k low high zero found [] h = links-end k found [] (λ e. omega arith)
  outcome-links k low high zero found (c ∷ r) h = absurd (omega arith)
  outcome-links k low high (suc n) found ts h =
      outcome-if (a_links ins d k found) (Above ins k) Any limit ts (rank ins (peek ts) == k) _ _
      (λ e. let here : rank ins (peek ts) ≡ k = eqb-true (rank ins (peek ts)) k e in
      let front : ts ≡ peek ts ∷ next ts = rank-cons ins ts (omega arith) in
      let long : length ts ≡ suc (length (next ts)) = ap length front in
      let o = binary_of (peek ts) in
      outcome-choose (a_turn ins d k found (peek ts)) (a_links ins d k found) (Above ins k) (Above ins k) Any Any limit ts (turn-to ins d k found (peek ts) low high here) (λ _ _ _ _ _. tt)
      (λ v m r q s e. elim (links-first ins d k found v m r q s) [
        | inl x ↦ (subst (λ z. a_turn ins d k found z v m) e x.1, s)
        | inr x ↦ let f : rank ins (peek (terms m ++ r)) ≡ rank ins (peek ts) = ap (rank ins) e in absurd (omega (arith, x.0))
      ])
      _
      (opened-after (peek ts) d room limit ts (bind (at ins (k + 1) (d + 1)) (λ e. a_links ins d k (with_link found o e))) (Above ins k) Any _ front sum
      (let i = some_tree ins (k + 1) (d + 1) in let q = some_links ins d k (with_link found o i.0) in (q.0, i.1 ++ q.1, (i.0, i.1, q.1, i.2, q.2, refl)))
      (λ pos. outcome-bind (at ins (k + 1) (d + 1)) (Above ins (k + 1)) Any (λ e. a_links ins d k (with_link found o e)) (Above ins k) Any limit
      (λ a x b y r l q s. links-follow ins d k (with_link found o a) b y r q s)
      (λ a x l. some_links ins d k (with_link found o a))
      (next ts) (below ins (k + 1) (next ts)) _ (outcome-below limit (d + 1) below (ih pos) ins (k + 1) (inr (omega arith, omega arith)) (next ts))
      (λ a x r l g f. outcome-links k low high n (with_link found o a) r (let q = not-longer (next ts) r x f in omega arith)))))
      (λ e. links-end k found ts (λ f. let g : eqb (rank ins (peek ts)) k ≡ true = eq-eqb (rank ins (peek ts)) k f in cc))

  pub outcome-chains : (n k : ℕ) → 3 ≤ k → k + n ≡ 9 → (ts : List Terminal) → Outcome (at ins k d) (Above ins k) Any limit ts (chains room below ins n k ts)
  unfolding chains
  outcome-chains zero k low all ts = let nine : 9 ≡ k = omega arith in subst (λ z. Outcome (at ins z d) (Above ins z) Any limit ts (prefixed room below ts)) nine (outcome-prefixed limit d room sum below ih ins ts)
  outcome-chains (suc n) k low all ts =
      outcome-same (chain_parts ins d k) (at ins k d) (Above ins k) Any limit ts (chain-to ins d k) (chain-from ins d k low (omega arith)) _
      (outcome-bind (at ins (k + 1) d) (Above ins (k + 1)) Any (λ e. mapped (chain_of k e) (a_links ins d k no_links)) (Above ins k) Any limit
      (λ a x b y r l q s. links-follow ins d k no_links q.0 y r q.1 s)
      (λ e x l. let q = some_links ins d k no_links in (chain_of k e q.0, q.1, (q.0, q.2, refl))) ts (chains room below ins n (k + 1) ts) _ (outcome-chains n (k + 1) (omega arith) (omega arith) ts)
      (λ e x r l g front. outcome-map (chain_of k e) (a_links ins d k no_links) (Above ins k) Any (Above ins k) Any limit r (λ _ _ _ _ s. s) (λ _ _ _ _ _. tt) _ (outcome-links k low (omega arith) (length r) no_links r (omega arith))))
