-- The languages of the levels, and what follows an expression of each.
use Rattle.std.proofs.Common.{◌≡◌, ◌≢◌, ◌⊎◌, inl, inr, Bool, true, false, suc, ℕ, ◌+◌, ◌≤◌, ◌<◌, List, [], ◌∷◌, ◌++◌, Ok, refl, ◌∙◌, ap, subst, arith, length, length-append}
use Rattle.jo_lex.specs.declared.punct.Punct.{Punct}
use Rattle.jo_lex.specs.declared.punct.Punct.TheVariants as p
use Rattle.jo_parse_tree.specs.declared.keyword.Keyword.{Keyword}
use Rattle.jo_parse_tree.specs.declared.keyword.Keyword.TheVariants as kw
use Rattle.jo_parse_tree.specs.declared.operator.BinaryOperator.{BinaryOperator}
use Rattle.jo_parse_tree.specs.declared.operator.BinaryOperator.TheVariants as bin
use Rattle.jo_parse_grammar.specs.declared.terminal.Terminal.{Terminal}
use Rattle.jo_parse_grammar.specs.declared.terminal.Terminal.TheVariants as t
use Rattle.jo_parse_tree.specs.Trees.{Tree, number, literal, constant, variable, group, object, cas, member, unary, delete, chain, choose, assign, Links, no_links, link}
use Rattle.jo_parse_grammar.specs.Operators.{level_of}
use Rattle.jo_parse_grammar.specs.Expressions.{Symbol, word, IsMember, MayStand, FitLinks, spelling, accesses, links, first}
use Rattle.jo_parse_grammar.specs.Refusals.{Language, terms}
use Rattle.jo_parse_grammar.specs.inner.Read.{Reading, Reader, and_then, peek, next, code, expect, punct_rank, rank, Below}
use Rattle.jo_parse_grammar.proofs.Outcome.{Stops, Outcome, bind, outcome-bind, outcome-choose, outcome-same, Any, one, outcome-expect, mapped, outcome-map, first-of, some-after, terms-split}

-- ---- the languages

-- the expressions of a level, where d constructs are open; the flag says whether `in` may stand outside brackets
abbrev pub at : Bool → ℕ → ℕ → Language Tree
at ins l d e m = MayStand ins l e × (m ≡ spelling d e)

-- those of them that are read where a level is asked for: at 10 properties alone
abbrev pub level_language : Bool → ℕ → ℕ → Language Tree
level_language ins l d e m = (l ≡ 10 → IsMember e) × at ins l d e m

-- the terminals that no expression of the level goes on with
abbrev pub Above : {A : Type 0} → Bool → ℕ → Stops A
Above ins l a c = rank ins c < l

-- the levels that are asked for
abbrev pub IsLevel : ℕ → Type 0
IsLevel l = (l ≡ 1) ⊎ ((4 ≤ l) × (l ≤ 10))

-- reads each level where d constructs are open
abbrev pub ReadsAt : ℕ → ℕ → Below → Type 0
ReadsAt limit d below =
    (ins : Bool) (l : ℕ) → IsLevel l → (ts : List Terminal) → Outcome (level_language ins l d) (Above ins l) Any limit ts (below ins l ts)

pub some_tree : (ins : Bool) (l d : ℕ) → (e : Tree) × (m : List Symbol) × at ins l d e m
some_tree ins l d = (constant kw.True, word kw.True ∷ [], (refl, refl))

-- at another level than 10
pub outcome-at : (ins : Bool) (l d limit : ℕ) (ts : List Terminal) (res : Reading Tree) → l ≢ 10 → Outcome (level_language ins l d) (Above ins l) Any limit ts res → Outcome (at ins l d) (Above ins l) Any limit ts res
outcome-at ins l d limit ts res h k = outcome-same (level_language ins l d) (at ins l d) (Above ins l) Any limit ts (λ _ _ f. f.1) (λ _ _ f. (λ e. absurd (h e), f)) res k

pub at-outcome : (ins : Bool) (l d limit : ℕ) (ts : List Terminal) (res : Reading Tree) → l ≢ 10 → Outcome (at ins l d) (Above ins l) Any limit ts res → Outcome (level_language ins l d) (Above ins l) Any limit ts res
at-outcome ins l d limit ts res h k = outcome-same (at ins l d) (level_language ins l d) (Above ins l) Any limit ts (λ _ _ f. (λ e. absurd (h e), f)) (λ _ _ f. f.1) res k

-- what a reader of a level asks of the levels below it
pub outcome-below : (limit d : ℕ) (below : Below) → ReadsAt limit d below → (ins : Bool) (l : ℕ) → (l ≡ 1) ⊎ ((4 ≤ l) × (l ≤ 9)) → (ts : List Terminal) → Outcome (at ins l d) (Above ins l) Any limit ts (below ins l ts)
outcome-below limit d below ih ins l (inl e) ts = outcome-at ins l d limit ts (below ins l ts) (λ f. omega arith) (ih ins l (inl e) ts)
outcome-below limit d below ih ins l (inr h) ts = outcome-at ins l d limit ts (below ins l ts) (λ f. omega (arith, h.1)) (ih ins l (inr (h.0, omega (arith, h.1))) ts)

-- a rule that lets no terminal follow too many
pub outcome-weaken : {A : Type 0} (L : Language A) (S : Stops A) (limit : ℕ) (ts : List Terminal) (res : Reading A) → Outcome L Any Any limit ts res → Outcome L S Any limit ts res
outcome-weaken L S limit ts res h = outcome-choose L L Any S Any Any limit ts (λ _ _ k. k) (λ _ _ _ _ _. tt) (λ _ _ _ k _ _. (k, tt)) res h

-- ---- lists

pub nil-right : (x : List Symbol) → x ++ [] ≡ x
nil-right [] = refl
nil-right (m ∷ x) = ap (λ v. m ∷ v) (nil-right x)

-- what stands after some terminals is no longer
pub not-longer : (ts r : List Terminal) (x : List Symbol) → ts ≡ terms x ++ r → length r ≤ length ts
not-longer ts r x f = let a : length ts ≡ length (terms x) + length r = ap length f ∙ length-append (terms x) r in omega arith

-- and after a terminal it is shorter
pub bind-shorter : {B : Type 0} (c : Terminal) (o : ℕ) (K : Language B) (b : B) (ts r : List Terminal) (y : List Symbol) → bind (one c o) (λ _. K) b y → ts ≡ terms y ++ r → length r < length ts
bind-shorter c o K b ts r y k f =
    let e : y ≡ (c, o) ∷ k.2 = k.5 ∙ ap (λ v. v ++ k.2) k.3 in
    let a : length ts ≡ suc (length (terms k.2 ++ r)) = ap length (f ∙ ap (λ v. terms v ++ r) e) in
    let b : length (terms k.2 ++ r) ≡ length (terms k.2) + length r = length-append (terms k.2) r in
    omega arith

pub shorter : (c : Terminal) (ts r r' : List Terminal) (x x' : List Symbol) → ts ≡ terms x ++ r → x' ≡ (c, 0) ∷ [] → r ≡ terms x' ++ r' → length r' < length ts
shorter c ts r r' x x' f l g =
    let a : length ts ≡ length (terms x) + length r = ap length f ∙ length-append (terms x) r in
    let b : length r ≡ length (c ∷ r') = ap length g ∙ ap (λ v. length (terms v ++ r')) l in
    omega arith

-- ---- ranks

pub punct-small : (c : Punct) → punct_rank c < 11
punct-small p.Assign = omega arith
punct-small _ = omega arith

pub keyword-small : (ins : Bool) (w : Keyword) → rank ins (t.Keyword w) ≤ 6
keyword-small true kw.In = omega arith
keyword-small true _ = omega arith
keyword-small false w = omega arith

pub rank-small : (ins : Bool) (c : Terminal) → rank ins c < 11
rank-small ins (t.Punct c) = punct-small c
rank-small ins (t.Keyword w) = let h : rank ins (t.Keyword w) ≤ 6 = keyword-small ins w in omega arith
rank-small true (t.Ident x) = omega arith
rank-small true (t.Reserved x) = omega arith
rank-small true (t.Number i) = omega arith
rank-small true (t.Text s) = omega arith
rank-small true t.End = omega arith
rank-small false (t.Ident x) = omega arith
rank-small false (t.Reserved x) = omega arith
rank-small false (t.Number i) = omega arith
rank-small false (t.Text s) = omega arith
rank-small false t.End = omega arith

-- from 9 on the flag does not matter
pub rank-flag : (ins ins' : Bool) (c : Terminal) (l : ℕ) → 9 ≤ l → rank ins c < l → rank ins' c < l
rank-flag ins ins' (t.Punct c) l h k = k
rank-flag ins ins' (t.Keyword w) l h k = let f : rank ins' (t.Keyword w) ≤ 6 = keyword-small ins' w in omega arith
rank-flag ins true (t.Ident x) l h k = omega arith
rank-flag ins true (t.Reserved x) l h k = omega arith
rank-flag ins true (t.Number i) l h k = omega arith
rank-flag ins true (t.Text s) l h k = omega arith
rank-flag ins true t.End l h k = omega arith
rank-flag ins false (t.Ident x) l h k = omega arith
rank-flag ins false (t.Reserved x) l h k = omega arith
rank-flag ins false (t.Number i) l h k = omega arith
rank-flag ins false (t.Text s) l h k = omega arith
rank-flag ins false t.End l h k = omega arith

pub rank-end : (ins : Bool) → rank ins t.End ≡ 0
rank-end true = refl
rank-end false = refl

pub rank-cons : (ins : Bool) (ts : List Terminal) → 0 < rank ins (peek ts) → ts ≡ peek ts ∷ next ts
rank-cons ins [] h = let e : rank ins t.End ≡ 0 = rank-end ins in absurd (omega arith)
rank-cons ins (c ∷ r) h = refl

pub level_of-range : (o : BinaryOperator) → (3 ≤ level_of o) × (level_of o ≤ 8)
level_of-range bin.Or = (omega arith, omega arith)
level_of-range _ = (omega arith, omega arith)

pub links-level : (ins : Bool) (k : ℕ) (ls : Links) → FitLinks ins true k ls → (3 ≤ k) × (k ≤ 8)
links-level ins k no_links h = cc
links-level ins k (link o e ls) h = subst (λ v. (3 ≤ v) × (v ≤ 8)) h.0 (level_of-range o)

-- ---- trees

-- what fits a level fits those before it
pub MayStand-lower : (ins : Bool) (l l' : ℕ) (e : Tree) → l ≤ l' → MayStand ins l' e → MayStand ins l e
MayStand-lower ins l l' (number i) h f = tt
MayStand-lower ins l l' (literal s) h f = tt
MayStand-lower ins l l' (constant w) h f = f
MayStand-lower ins l l' (variable x) h f = tt
MayStand-lower ins l l' (group e) h f = f
MayStand-lower ins l l' (object ps comma) h f = f
MayStand-lower ins l l' (cas o k a b) h f = f
MayStand-lower ins l l' (member e xs) h f = (omega arith, f.1, f.2)
MayStand-lower ins l l' (unary o e) h f = (omega arith, f.1)
MayStand-lower ins l l' (delete e) h f = (omega arith, f.1, f.2)
MayStand-lower ins l l' (chain k e ls) h f = (omega arith, f.1, f.2)
MayStand-lower ins l l' (choose a b c) h f = (omega arith, f.1, f.2, f.3)
MayStand-lower ins l l' (assign o a b) h f = (omega arith, f.1, f.2, f.3)

-- from 9 on the flag does not matter
pub MayStand-flag : (ins ins' : Bool) (l : ℕ) (e : Tree) → 9 ≤ l → MayStand ins l e → MayStand ins' l e
MayStand-flag ins ins' l (number i) h f = tt
MayStand-flag ins ins' l (literal s) h f = tt
MayStand-flag ins ins' l (constant w) h f = f
MayStand-flag ins ins' l (variable x) h f = tt
MayStand-flag ins ins' l (group e) h f = f
MayStand-flag ins ins' l (object ps comma) h f = f
MayStand-flag ins ins' l (cas o k a b) h f = f
MayStand-flag ins ins' l (member e xs) h f = (f.0, MayStand-flag ins ins' 11 e (omega arith) f.1, f.2)
MayStand-flag ins ins' l (unary o e) h f = (f.0, MayStand-flag ins ins' 9 e (omega arith) f.1)
MayStand-flag ins ins' l (delete e) h f = (f.0, f.1, MayStand-flag ins ins' 10 e (omega arith) f.2)
MayStand-flag ins ins' l (chain k e ls) h f = let g = links-level ins k ls f.2 in absurd (omega (arith, f.0, g.1))
MayStand-flag ins ins' l (choose a b c) h f = absurd (omega (arith, f.0))
MayStand-flag ins ins' l (assign o a b) h f = absurd (omega (arith, f.0))

pub at-lower : (ins : Bool) (l l' d : ℕ) (e : Tree) (m : List Symbol) → l ≤ l' → at ins l' d e m → at ins l d e m
at-lower ins l l' d e m h k = (MayStand-lower ins l l' e h k.0, k.1)

-- the terminal that stands first
first-then : (x y : List Symbol) (r : List Terminal) (c : Terminal) → ((r : List Terminal) → peek (terms x ++ r) ≡ c) → peek (terms (x ++ y) ++ r) ≡ c
first-then x y r c h = ap peek (terms-split x y r) ∙ h (terms y ++ r)

pub first-is : (d : ℕ) (e : Tree) (r : List Terminal) → peek (terms (spelling d e) ++ r) ≡ first e
first-is d (number i) r = refl
first-is d (literal s) r = refl
first-is d (constant w) r = refl
first-is d (variable x) r = refl
first-is d (group e) r = refl
first-is d (object ps comma) r = refl
first-is d (cas o k a b) r = refl
first-is d (member e xs) r = first-then (spelling d e) (accesses d xs) r (first e) (λ r. first-is d e r)
first-is d (unary o e) r = refl
first-is d (delete e) r = refl
first-is d (chain k e ls) r = first-then (spelling d e) (links d ls) r (first e) (λ r. first-is d e r)
first-is d (choose a b c) r = first-then (spelling d a) _ r (first a) (λ r. first-is d a r)
first-is d (assign o a b) r = first-then (spelling d a) _ r (first a) (λ r. first-is d a r)

pub first-at : (ins : Bool) (l d : ℕ) (e : Tree) (m : List Symbol) (r : List Terminal) → at ins l d e m → peek (terms m ++ r) ≡ first e
first-at ins l d e m r k = ap (λ v. peek (terms v ++ r)) k.1 ∙ first-is d e r

-- ---- an expression, a terminal, and a value of the expression

abbrev pub closed_by : {A : Type 0} → Bool → ℕ → Terminal → (Tree → Language A) → Language A
closed_by ins d c K = bind (at ins 1 d) (λ e. bind (one c 0) (λ _. K e))

module _ (limit d : ℕ) (below : Below) (ih : ReadsAt limit d below) (ins : Bool) where
  pub outcome-closed : {A : Type 0} (c : Terminal) (K : Tree → Language A) (S G : Stops A) → 5 ≤ code c → rank ins c ≡ 0
      → ((e : Tree) → (a : A) × (m : List Symbol) × K e a m) → (f : Tree → Reader A) → (ts : List Terminal)
      → ((e : Tree) (r : List Terminal) → (length r < length ts) → Outcome (K e) S G limit r (f e r))
      → Outcome (closed_by ins d c K) S G limit ts (and_then (below ins 1 ts) (λ e r. and_then (expect c r) (λ _ r. f e r)))
  outcome-closed c K S G h flat some f ts more =
      outcome-bind (at ins 1 d) (Above ins 1) Any (λ e. bind (one c 0) (λ _. K e)) S G limit
      (λ a x b y r l m s. let e : rank ins (peek (terms y ++ r)) ≡ rank ins c = ap (λ v. rank ins v) (first-of c 0 (K a) b y r m) in omega arith)
      (λ a x l. some-after c 0 (K a) (some a))
      ts (below ins 1 ts) _ (outcome-below limit d below ih ins 1 (inl refl) ts)
      (λ e x r l g front. outcome-bind (one c 0) Any Any (λ _. K e) S G limit (λ _ _ _ _ _ _ _ _. tt) (λ _ _ _. some e) r (expect c r) _ (outcome-expect c limit r h)
      (λ _ x' r' l' g' front'. more e r' (shorter c ts r r' x x' front l' front')))

  -- an expression that makes the whole value
  pub outcome-inner : {A : Type 0} (f : Tree → A) (ts : List Terminal) → Outcome (mapped f (at ins 1 d)) (Above ins 1) Any limit ts (and_then (below ins 1 ts) (λ e r. Ok (f e, r)))
  outcome-inner f ts = outcome-map f (at ins 1 d) (Above ins 1) Any (Above ins 1) Any limit ts (λ _ _ _ _ s. s) (λ _ _ _ _ _. tt) (below ins 1 ts) (outcome-below limit d below ih ins 1 (inl refl) ts)
