-- What a reader answers, against the language that it reads.
use Rattle.std.proofs.Common.{◌≡◌, ◌≢◌, ◌==◌, ◌⊎◌, inl, inr, Bool, true, false, if◌then◌else◌, get_or, zero, suc, ℕ, ◌+◌, ◌≤◌, ◌<◌, List, [], ◌∷◌, ◌++◌, Option, None, Some, Ok, Err, refl, sym, ◌∙◌, ap, subst, append_assoc, arith}
use Rattle.std.proofs.lemmas.Bool.{eqb-true, eq-eqb}
use Rattle.jo_lex.specs.declared.punct.Punct.TheVariants as p
use Rattle.jo_parse_tree.specs.declared.keyword.Keyword.TheVariants as kw
use Rattle.jo_parse_grammar.specs.declared.terminal.Terminal.{Terminal}
use Rattle.jo_parse_grammar.specs.declared.terminal.Terminal.TheVariants as t
use Rattle.jo_parse_tree.specs.declared.word.Ident.{Ident}
use Rattle.jo_parse_tree.specs.declared.word.Literal.{Literal}
use Rattle.jo_parse_tree.specs.declared.word.Name.{Name}
use Rattle.jo_parse_tree.specs.declared.word.Name.TheVariants as n
use Rattle.jo_parse_tree.specs.declared.word.PropKey.{PropKey}
use Rattle.jo_parse_tree.specs.declared.word.PropKey.TheVariants as q
use Rattle.jo_parse_grammar.specs.Operators.{name_token, key_token, reads_proto}
use Rattle.jo_parse_grammar.specs.Expressions.{Symbol, plain}
use Rattle.jo_parse_grammar.specs.Refusals.{Language, terms, Within, Fault, unexpected, too_deep}
use Rattle.jo_parse_grammar.specs.inner.Read.{Reading, and_then, peek, next, code, sees, expect, open_at, enter, take, name_of, name, key_of, key}

-- ---- lists of terminals

pub terms-append : (x y : List Symbol) → terms (x ++ y) ≡ terms x ++ terms y
terms-append [] y = refl
terms-append (m ∷ x) y = ap (λ z. m.0 ∷ z) (terms-append x y)

pub terms-split : (x y : List Symbol) (r : List Terminal) → terms (x ++ y) ++ r ≡ terms x ++ (terms y ++ r)
terms-split x y r = ap (λ z. z ++ r) (terms-append x y) ∙ append_assoc (terms x) (terms y) r

pub Within-append : (n : ℕ) (x y : List Symbol) → Within n x → Within n y → Within n (x ++ y)
Within-append n [] y h k = k
Within-append n (m ∷ x) y h k = (h.0, Within-append n x y h.1 k)

pub peek-same : (x : List Symbol) (r r' : List Terminal) → peek r ≡ peek r' → peek (terms x ++ r) ≡ peek (terms x ++ r')
peek-same [] r r' e = e
peek-same (m ∷ x) r r' e = refl

pub cancel : {A : Type 0} (x : List A) {r r' : List A} → x ++ r ≡ x ++ r' → r ≡ r'
cancel [] e = e
cancel (a ∷ x) {r} {r'} e = let f : x ++ r ≡ x ++ r' = cc in cancel x f

-- which terminal may follow a value
abbrev pub Stops : Type 0 → Type 1
Stops A = A → Terminal → Type 0

-- The terminals begin with this value, and with no other.
pub record Whole {A : Type 0} (L : Language A) (S G : Stops A) (limit : ℕ) (ts : List Terminal) (a : A) (r : List Terminal) : Type 0 where
  pub word : List Symbol
  pub spelled : L a word
  pub front : ts ≡ terms word ++ r
  pub within : Within limit word
  pub stops : G a (peek r)
  pub only : (a' : A) (m : List Symbol) (r' r'' : List Terminal) → peek r'' ≡ peek r → L a' m → S a' (peek r') → terms m ++ r' ≡ terms word ++ r'' → (a' ≡ a) × (m ≡ word)

-- The terminals before r go on to some value, and no value goes on with the next one.
pub record Stuck {A : Type 0} (L : Language A) (S : Stops A) (limit : ℕ) (ts : List Terminal) (r : List Terminal) : Type 0 where
  pub word : List Symbol
  pub front : ts ≡ terms word ++ r
  pub within : Within limit word
  pub live : (a : A) × (m : List Symbol) × (q : List Symbol) × L a m × (m ≡ word ++ q)
  pub dead : (a' : A) (m : List Symbol) (r' r'' : List Terminal) → peek r'' ≡ peek r → L a' m → S a' (peek r') → terms m ++ r' ≡ terms word ++ r'' → ⊥

-- The terminals before c go on to some value with c, and in each such value c opens one construct too many.
pub record Deep {A : Type 0} (L : Language A) (S : Stops A) (limit : ℕ) (ts : List Terminal) (c : Terminal) (r : List Terminal) : Type 0 where
  pub word : List Symbol
  pub front : ts ≡ terms word ++ (c ∷ r)
  pub within : Within limit word
  pub opens : ℕ
  pub above : limit < opens
  pub live : (a : A) × (m : List Symbol) × (q : List Symbol) × L a m × (m ≡ word ++ ((c, opens) ∷ q))
  pub forced : (a' : A) (m : List Symbol) (r' r'' : List Terminal) → peek r'' ≡ c → L a' m → S a' (peek r') → terms m ++ r' ≡ terms word ++ r'' → (q : List Symbol) × (m ≡ word ++ ((c, opens) ∷ q))

abbrev pub Failing : {A : Type 0} (L : Language A) (S : Stops A) (limit : ℕ) (ts : List Terminal) → Fault → List Terminal → Type 0
Failing L S limit ts unexpected r = Stuck L S limit ts r
Failing L S limit ts too_deep [] = ⊥
Failing L S limit ts too_deep (c ∷ r) = Deep L S limit ts c r

abbrev pub Outcome : {A : Type 0} (L : Language A) (S G : Stops A) (limit : ℕ) (ts : List Terminal) → Reading A → Type 0
Outcome L S G limit ts (Ok p) = Whole L S G limit ts p.0 p.1
Outcome L S G limit ts (Err e) = Failing L S limit ts e.0 e.1

-- ---- one value after another

abbrev pub bind : {A B : Type 0} → Language A → (A → Language B) → Language B
bind {A} L K b m = (a : A) × (x : List Symbol) × (y : List Symbol) × L a x × K a b y × (m ≡ x ++ y)

module _ {A B : Type 0} (L : Language A) (S G : Stops A) (K : A → Language B) (S' G' : Stops B) (limit : ℕ)
    (follow : (a : A) (x : List Symbol) (b : B) (y : List Symbol) (r : List Terminal) → L a x → K a b y → S' b (peek r) → S a (peek (terms y ++ r)))
    (some : (a : A) (x : List Symbol) → L a x → (b : B) × (y : List Symbol) × K a b y) (ts : List Terminal) where
  -- what a competitor says once its first part is known
  bind_first : (a : A) (r : List Terminal) (w : Whole L S G limit ts a r) (z : List Symbol) (r2 : List Terminal) → r ≡ terms z ++ r2
      → (b' : B) (m : List Symbol) (r' r'' : List Terminal) → peek r'' ≡ peek r2 → bind L K b' m → S' b' (peek r') → terms m ++ r' ≡ terms (w.word ++ z) ++ r''
      → (y : List Symbol) × K a b' y × (m ≡ w.word ++ y) × (terms y ++ r' ≡ terms z ++ r'')
  bind_first a r w z r2 front b' m r' r'' same k s e =
      let x = k.1 in
      let y = k.2 in
      let apart : terms x ++ (terms y ++ r') ≡ terms w.word ++ (terms z ++ r'') =
      sym (terms-split x y r') ∙ (ap (λ v. terms v ++ r') (sym k.5) ∙ (e ∙ terms-split w.word z r'')) in
      let heads : peek (terms z ++ r'') ≡ peek r = peek-same z r'' r2 same ∙ ap peek (sym front) in
      let one = w.only k.0 x (terms y ++ r') (terms z ++ r'') heads k.3 (follow k.0 x b' y r' k.3 k.4 s) apart in
      let rest : terms y ++ r' ≡ terms z ++ r'' = cancel (terms w.word) (ap (λ v. terms v ++ (terms y ++ r')) (sym one.1) ∙ apart) in
      (y, subst (λ v. K v b' y) one.0 k.4, k.5 ∙ ap (λ v. v ++ y) one.1, rest)

  bind_ok : (a : A) (r : List Terminal) → Whole L S G limit ts a r → (res : Reading B) → Outcome (K a) S' G' limit r res → Outcome (bind L K) S' G' limit ts res
  bind_ok a r w (Ok p) h = record {
    word = w.word ++ h.word;
    spelled = (a, w.word, h.word, w.spelled, h.spelled, refl);
    front = w.front ∙ (ap (λ v. terms w.word ++ v) h.front ∙ sym (terms-split w.word h.word p.1));
    within = Within-append limit w.word h.word w.within h.within;
    stops = h.stops;
    only = λ b' m r' r'' same k s e.
        let f = bind_first a r w h.word p.1 h.front b' m r' r'' same k s e in
        let o = h.only b' f.0 r' r'' same f.1 s f.3 in
        (o.0, f.2 ∙ ap (λ v. w.word ++ v) o.1);
  }
  bind_ok a r w (Err (unexpected, r2)) h = record {
    word = w.word ++ h.word;
    front = w.front ∙ (ap (λ v. terms w.word ++ v) h.front ∙ sym (terms-split w.word h.word r2));
    within = Within-append limit w.word h.word w.within h.within;
    live = (h.live.0, w.word ++ h.live.1, h.live.2, (a, w.word, h.live.1, w.spelled, h.live.3, refl), ap (λ v. w.word ++ v) h.live.4 ∙ sym (append_assoc w.word h.word h.live.2));
    dead = λ b' m r' r'' same k s e.
        let f = bind_first a r w h.word r2 h.front b' m r' r'' same k s e in
        h.dead b' f.0 r' r'' same f.1 s f.3;
  }
  bind_ok a r w (Err (too_deep, [])) h = h
  bind_ok a r w (Err (too_deep, c ∷ r2)) h = record {
    word = w.word ++ h.word;
    front = w.front ∙ (ap (λ v. terms w.word ++ v) h.front ∙ sym (terms-split w.word h.word (c ∷ r2)));
    within = Within-append limit w.word h.word w.within h.within;
    opens = h.opens;
    above = h.above;
    live = (h.live.0, w.word ++ h.live.1, h.live.2, (a, w.word, h.live.1, w.spelled, h.live.3, refl), ap (λ v. w.word ++ v) h.live.4 ∙ sym (append_assoc w.word h.word ((c, h.opens) ∷ h.live.2)));
    forced = λ b' m r' r'' same k s e.
        let f = bind_first a r w h.word (c ∷ r2) h.front b' m r' r'' same k s e in
        let q = h.forced b' f.0 r' r'' same f.1 s f.3 in
        (q.0, f.2 ∙ (ap (λ v. w.word ++ v) q.1 ∙ sym (append_assoc w.word h.word ((c, h.opens) ∷ q.0))));
  }

  pub outcome-bind : (ra : Reading A) (f : A → List Terminal → Reading B) → Outcome L S G limit ts ra
      → ((a : A) (x : List Symbol) (r : List Terminal) → L a x → G a (peek r) → ts ≡ terms x ++ r → Outcome (K a) S' G' limit r (f a r))
      → Outcome (bind L K) S' G' limit ts (and_then ra f)
  outcome-bind (Ok p) f w next = bind_ok p.0 p.1 w (f p.0 p.1) (next p.0 w.word p.1 w.spelled w.stops w.front)
  outcome-bind (Err (unexpected, r2)) f h next = record {
    word = h.word;
    front = h.front;
    within = h.within;
    live = let b = some h.live.0 h.live.1 h.live.3 in
        (b.0, h.live.1 ++ b.1, h.live.2 ++ b.1, (h.live.0, h.live.1, b.1, h.live.3, b.2, refl), ap (λ v. v ++ b.1) h.live.4 ∙ append_assoc h.word h.live.2 b.1);
    dead = λ b' m r' r'' same k s e.
        h.dead k.0 k.1 (terms k.2 ++ r') r'' same k.3 (follow k.0 k.1 b' k.2 r' k.3 k.4 s) (sym (terms-split k.1 k.2 r') ∙ (ap (λ v. terms v ++ r') (sym k.5) ∙ e));
  }
  outcome-bind (Err (too_deep, [])) f h next = h
  outcome-bind (Err (too_deep, c ∷ r2)) f h next = record {
    word = h.word;
    front = h.front;
    within = h.within;
    opens = h.opens;
    above = h.above;
    live = let b = some h.live.0 h.live.1 h.live.3 in
        (b.0, h.live.1 ++ b.1, h.live.2 ++ b.1, (h.live.0, h.live.1, b.1, h.live.3, b.2, refl), ap (λ v. v ++ b.1) h.live.4 ∙ append_assoc h.word ((c, h.opens) ∷ h.live.2) b.1);
    forced = λ b' m r' r'' same k s e.
        let q = h.forced k.0 k.1 (terms k.2 ++ r') r'' same k.3 (follow k.0 k.1 b' k.2 r' k.3 k.4 s) (sym (terms-split k.1 k.2 r') ∙ (ap (λ v. terms v ++ r') (sym k.5) ∙ e)) in
        (q.0 ++ k.2, k.5 ∙ (ap (λ v. v ++ k.2) q.1 ∙ append_assoc h.word ((c, h.opens) ∷ q.0) k.2));
  }

-- ---- another language with the same values here

module _ {A : Type 0} (L L' : Language A) (S S' G G' : Stops A) (limit : ℕ) (ts : List Terminal)
    (within' : (a : A) (m : List Symbol) → L a m → L' a m) (stop : (a : A) (m : List Symbol) (c : Terminal) → L a m → G a c → G' a c)
    (pick : (a : A) (m : List Symbol) (r : List Terminal) → L' a m → S' a (peek r) → peek (terms m ++ r) ≡ peek ts → L a m × S a (peek r)) where
  same_head : (w : List Symbol) (r r' r'' : List Terminal) (m : List Symbol) → ts ≡ terms w ++ r → peek r'' ≡ peek r → terms m ++ r' ≡ terms w ++ r'' → peek (terms m ++ r') ≡ peek ts
  same_head w r r' r'' m front same e = ap peek e ∙ (peek-same w r'' r same ∙ ap peek (sym front))

  pub outcome-choose : (res : Reading A) → Outcome L S G limit ts res → Outcome L' S' G' limit ts res
  outcome-choose (Ok p) h = record {
    word = h.word;
    spelled = within' p.0 h.word h.spelled;
    front = h.front;
    within = h.within;
    stops = stop p.0 h.word (peek p.1) h.spelled h.stops;
    only = λ a' m r' r'' same k s e.
        let i = pick a' m r' k s (same_head h.word p.1 r' r'' m h.front same e) in
        h.only a' m r' r'' same i.0 i.1 e;
  }
  outcome-choose (Err (unexpected, r)) h = record {
    word = h.word;
    front = h.front;
    within = h.within;
    live = (h.live.0, h.live.1, h.live.2, within' h.live.0 h.live.1 h.live.3, h.live.4);
    dead = λ a' m r' r'' same k s e.
        let i = pick a' m r' k s (same_head h.word r r' r'' m h.front same e) in
        h.dead a' m r' r'' same i.0 i.1 e;
  }
  outcome-choose (Err (too_deep, [])) h = h
  outcome-choose (Err (too_deep, c ∷ r)) h = record {
    word = h.word;
    front = h.front;
    within = h.within;
    opens = h.opens;
    above = h.above;
    live = (h.live.0, h.live.1, h.live.2, within' h.live.0 h.live.1 h.live.3, h.live.4);
    forced = λ a' m r' r'' same k s e.
        let i = pick a' m r' k s (same_head h.word (c ∷ r) r' r'' m h.front same e) in
        h.forced a' m r' r'' same i.0 i.1 e;
  }

-- ---- the smallest rules

-- always holds
abbrev pub Any : {A : Type 0} → Stops A
Any a c = Unit {0}

abbrev pub nothing : {A : Type 0} → A → Language A
nothing v a m = (a ≡ v) × (m ≡ [])

pub outcome-pure : {A : Type 0} (v : A) (S G : Stops A) (limit : ℕ) (ts : List Terminal) → G v (peek ts) → Outcome (nothing v) S G limit ts (Ok (v, ts))
outcome-pure v S G limit ts g = record { word = []; spelled = (refl, refl); front = refl; within = tt; stops = g; only = λ a' m r' r'' same k s e. k }

-- one terminal, which makes o constructs open
abbrev pub one : Terminal → ℕ → Language (Unit {0})
one c o u m = m ≡ (c, o) ∷ []

pub outcome-token : (c : Terminal) (o limit : ℕ) (r : List Terminal) → o ≤ limit → Outcome (one c o) Any Any limit (c ∷ r) (Ok (tt, r))
outcome-token c o limit r h = record { word = (c, o) ∷ []; spelled = refl; front = refl; within = (h, tt); stops = tt; only = λ a' m r' r'' same k s e. (refl, k) }

-- a terminal that opens a construct, and what comes after it
pub outcome-token-then : {B : Type 0} (c : Terminal) (o limit : ℕ) (r : List Terminal) (K : Language B) (S' G' : Stops B) (res : Reading B) → o ≤ limit
    → ((b : B) × (y : List Symbol) × K b y) → Outcome K S' G' limit r res → Outcome (bind (one c o) (λ _. K)) S' G' limit (c ∷ r) res
outcome-token-then c o limit r K S' G' res h some more =
    bind_ok (one c o) Any Any (λ _. K) S' G' limit (λ _ _ _ _ _ _ _ _. tt) (λ _ _ _. some) (c ∷ r) tt r (outcome-token c o limit r h) res more

-- the same where no construct more may be open
pub outcome-deep : {B : Type 0} (c : Terminal) (o limit : ℕ) (r : List Terminal) (K : Language B) (S' G' : Stops B) → limit < o
    → ((b : B) × (y : List Symbol) × K b y) → Outcome (bind (one c o) (λ _. K)) S' G' limit (c ∷ r) (Err (too_deep, c ∷ r))
outcome-deep c o limit r K S' G' h some = record {
  word = [];
  front = refl;
  within = tt;
  opens = o;
  above = h;
  live = (some.0, (c, o) ∷ some.1, some.1, (tt, (c, o) ∷ [], some.1, refl, some.2, refl), refl);
  forced = λ a' m r' r'' same k s e. (k.2, k.5 ∙ ap (λ v. v ++ k.2) k.3);
}

-- no value begins so
pub outcome-fail : {A : Type 0} (L : Language A) (S G : Stops A) (limit : ℕ) (ts : List Terminal) → ((a : A) × (m : List Symbol) × L a m)
    → ((a : A) (m : List Symbol) (r : List Terminal) → L a m → S a (peek r) → peek (terms m ++ r) ≡ peek ts → ⊥) → Outcome L S G limit ts (Err (unexpected, ts))
outcome-fail L S G limit ts some never = record {
  word = [];
  front = refl;
  within = tt;
  live = (some.0, some.1, some.1, some.2, refl);
  dead = λ a' m r' r'' same k s e. never a' m r' k s (ap peek e ∙ same);
}

-- a language by the terminal that stands first
pub outcome-branch : {A : Type 0} (branch : Terminal → Language A) (L : Language A) (S G : Stops A) (limit : ℕ) (ts : List Terminal) (c : Terminal) → peek ts ≡ c
    → ((a : A) (m : List Symbol) → branch c a m → L a m)
    → ((a : A) (m : List Symbol) (r : List Terminal) → L a m → S a (peek r) → branch (peek (terms m ++ r)) a m)
    → (res : Reading A) → Outcome (branch c) S G limit ts res → Outcome L S G limit ts res
outcome-branch branch L S G limit ts c first to from res h =
    outcome-choose (branch c) L S S G G limit ts to (λ _ _ _ _ g. g) (λ a m r k s e. (subst (λ c. branch c a m) (e ∙ first) (from a m r k s), s)) res h

-- another way to say the same language
pub outcome-same : {A : Type 0} (L L' : Language A) (S G : Stops A) (limit : ℕ) (ts : List Terminal)
    → ((a : A) (m : List Symbol) → L a m → L' a m) → ((a : A) (m : List Symbol) → L' a m → L a m)
    → (res : Reading A) → Outcome L S G limit ts res → Outcome L' S G limit ts res
outcome-same L L' S G limit ts to from res h =
    outcome-choose L L' S S G G limit ts to (λ _ _ _ _ g. g) (λ a m r k s e. (from a m k, s)) res h

-- a value made of the one that is read
abbrev pub mapped : {A B : Type 0} → (A → B) → Language A → Language B
mapped {A} f L b m = (a : A) × L a m × (b ≡ f a)

pub outcome-map : {A B : Type 0} (f : A → B) (L : Language A) (S G : Stops A) (S' G' : Stops B) (limit : ℕ) (ts : List Terminal)
    → ((a : A) (m : List Symbol) (c : Terminal) → L a m → S' (f a) c → S a c) → ((a : A) (m : List Symbol) (c : Terminal) → L a m → G a c → G' (f a) c)
    → (ra : Reading A) → Outcome L S G limit ts ra → Outcome (mapped f L) S' G' limit ts (and_then ra (λ a r. Ok (f a, r)))
outcome-map f L S G S' G' limit ts follow stop (Ok p) h = record {
  word = h.word;
  spelled = (p.0, h.spelled, refl);
  front = h.front;
  within = h.within;
  stops = stop p.0 h.word (peek p.1) h.spelled h.stops;
  only = λ b m r' r'' same k s e.
      let o = h.only k.0 m r' r'' same k.1 (follow k.0 m (peek r') k.1 (subst (λ v. S' v (peek r')) k.2 s)) e in
      (k.2 ∙ ap f o.0, o.1);
}
outcome-map f L S G S' G' limit ts follow stop (Err (unexpected, r)) h = record {
  word = h.word;
  front = h.front;
  within = h.within;
  live = (f h.live.0, h.live.1, h.live.2, (h.live.0, h.live.3, refl), h.live.4);
  dead = λ b m r' r'' same k s e. h.dead k.0 m r' r'' same k.1 (follow k.0 m (peek r') k.1 (subst (λ v. S' v (peek r')) k.2 s)) e;
}
outcome-map f L S G S' G' limit ts follow stop (Err (too_deep, [])) h = h
outcome-map f L S G S' G' limit ts follow stop (Err (too_deep, c ∷ r)) h = record {
  word = h.word;
  front = h.front;
  within = h.within;
  opens = h.opens;
  above = h.above;
  live = (f h.live.0, h.live.1, h.live.2, (h.live.0, h.live.3, refl), h.live.4);
  forced = λ b m r' r'' same k s e. h.forced k.0 m r' r'' same k.1 (follow k.0 m (peek r') k.1 (subst (λ v. S' v (peek r')) k.2 s)) e;
}

pub outcome-if : {A : Type 0} (L : Language A) (S G : Stops A) (limit : ℕ) (ts : List Terminal) (b : Bool) (x y : Reading A)
    → (b ≡ true → Outcome L S G limit ts x) → (b ≡ false → Outcome L S G limit ts y) → Outcome L S G limit ts (if b then x else y)
outcome-if L S G limit ts true x y f g = f refl
outcome-if L S G limit ts false x y f g = g refl

pub join : {x x' y y' : List Symbol} → x ≡ x' → y ≡ y' → x ++ y ≡ x' ++ y'
join {x} {x'} {y} {y'} p q = ap (λ v. v ++ y) p ∙ ap (λ v. x' ++ v) q

-- ---- the next terminal

table : List Terminal
table =
    t.End ∷ t.End ∷ t.End ∷ t.End ∷ t.End
    ∷ t.Punct p.OpenBrace ∷ t.Punct p.CloseBrace ∷ t.Punct p.OpenParen ∷ t.Punct p.CloseParen ∷ t.Punct p.OpenBracket ∷ t.Punct p.CloseBracket ∷ t.Punct p.Dot ∷ t.Punct p.Semicolon ∷ t.Punct p.Comma
    ∷ t.Punct p.Less ∷ t.Punct p.Greater ∷ t.Punct p.LessEqual ∷ t.Punct p.GreaterEqual ∷ t.Punct p.Same ∷ t.Punct p.NotSame ∷ t.Punct p.Plus ∷ t.Punct p.Minus ∷ t.Punct p.Star
    ∷ t.Punct p.Percent ∷ t.Punct p.Bang ∷ t.Punct p.AndAnd ∷ t.Punct p.OrOr ∷ t.Punct p.Question ∷ t.Punct p.Colon ∷ t.Punct p.Assign ∷ t.Punct p.PlusAssign ∷ t.Punct p.MinusAssign
    ∷ t.Keyword kw.Break ∷ t.Keyword kw.Cas ∷ t.Keyword kw.Continue ∷ t.Keyword kw.Delete ∷ t.Keyword kw.Else ∷ t.Keyword kw.False ∷ t.Keyword kw.For ∷ t.Keyword kw.If ∷ t.Keyword kw.In
    ∷ t.Keyword kw.Let ∷ t.Keyword kw.Null ∷ t.Keyword kw.Print ∷ t.Keyword kw.PrintNames ∷ t.Keyword kw.Shared ∷ t.Keyword kw.True ∷ t.Keyword kw.Undefined ∷ t.Keyword kw.While
    ∷ []

token_of : ℕ → Terminal
unfolding table
token_of i = get_or table i t.End

token_of-code : (c : Terminal) → 5 ≤ code c → token_of (code c) ≡ c
unfolding token_of table
token_of-code (t.Ident x) h = absurd (omega arith)
token_of-code (t.Reserved x) h = absurd (omega arith)
token_of-code (t.Number i) h = absurd (omega arith)
token_of-code (t.Text s) h = absurd (omega arith)
token_of-code t.End h = absurd (omega arith)
token_of-code (t.Punct p.OpenBrace) h = refl
token_of-code (t.Punct p.CloseBrace) h = refl
token_of-code (t.Punct p.OpenParen) h = refl
token_of-code (t.Punct p.CloseParen) h = refl
token_of-code (t.Punct p.OpenBracket) h = refl
token_of-code (t.Punct p.CloseBracket) h = refl
token_of-code (t.Punct p.Dot) h = refl
token_of-code (t.Punct p.Semicolon) h = refl
token_of-code (t.Punct p.Comma) h = refl
token_of-code (t.Punct p.Less) h = refl
token_of-code (t.Punct p.Greater) h = refl
token_of-code (t.Punct p.LessEqual) h = refl
token_of-code (t.Punct p.GreaterEqual) h = refl
token_of-code (t.Punct p.Same) h = refl
token_of-code (t.Punct p.NotSame) h = refl
token_of-code (t.Punct p.Plus) h = refl
token_of-code (t.Punct p.Minus) h = refl
token_of-code (t.Punct p.Star) h = refl
token_of-code (t.Punct p.Percent) h = refl
token_of-code (t.Punct p.Bang) h = refl
token_of-code (t.Punct p.AndAnd) h = refl
token_of-code (t.Punct p.OrOr) h = refl
token_of-code (t.Punct p.Question) h = refl
token_of-code (t.Punct p.Colon) h = refl
token_of-code (t.Punct p.Assign) h = refl
token_of-code (t.Punct p.PlusAssign) h = refl
token_of-code (t.Punct p.MinusAssign) h = refl
token_of-code (t.Keyword kw.Break) h = refl
token_of-code (t.Keyword kw.Cas) h = refl
token_of-code (t.Keyword kw.Continue) h = refl
token_of-code (t.Keyword kw.Delete) h = refl
token_of-code (t.Keyword kw.Else) h = refl
token_of-code (t.Keyword kw.False) h = refl
token_of-code (t.Keyword kw.For) h = refl
token_of-code (t.Keyword kw.If) h = refl
token_of-code (t.Keyword kw.In) h = refl
token_of-code (t.Keyword kw.Let) h = refl
token_of-code (t.Keyword kw.Null) h = refl
token_of-code (t.Keyword kw.Print) h = refl
token_of-code (t.Keyword kw.PrintNames) h = refl
token_of-code (t.Keyword kw.Shared) h = refl
token_of-code (t.Keyword kw.True) h = refl
token_of-code (t.Keyword kw.Undefined) h = refl
token_of-code (t.Keyword kw.While) h = refl

-- a punctuator or keyword is known by its code
pub code-same : (b c : Terminal) → 5 ≤ code c → code b ≡ code c → b ≡ c
code-same b c h e =
    let many : 5 ≤ code b = omega arith in
    sym (token_of-code b many) ∙ (ap token_of e ∙ token_of-code c h)

pub sees-true : (c : Terminal) (ts : List Terminal) → 5 ≤ code c → sees c ts ≡ true → peek ts ≡ c
sees-true c ts h e = code-same (peek ts) c h (eqb-true (code (peek ts)) (code c) e)

pub peek-cons : (c : Terminal) (ts : List Terminal) → code c ≢ 4 → peek ts ≡ c → ts ≡ c ∷ next ts
peek-cons c [] h e = absurd (h (ap code (sym e)))
peek-cons c (b ∷ r) h e = ap (λ v. v ∷ r) e

pub sees-cons : (c : Terminal) (ts : List Terminal) → 5 ≤ code c → sees c ts ≡ true → ts ≡ c ∷ next ts
sees-cons c ts h e = peek-cons c ts (λ f. omega arith) (sees-true c ts h e)

pub sees-false : (c b : Terminal) (ts : List Terminal) → sees c ts ≡ false → b ≡ peek ts → b ≡ c → ⊥
sees-false c b ts e same here = let f : sees c ts ≡ true = ap (λ v. code v == code c) (sym same ∙ here) ∙ eq-eqb (code c) (code c) refl in cc

-- a choice by whether the next terminal is c
pub outcome-sees : {A : Type 0} (c : Terminal) (L L₁ L₂ : Language A) (S G : Stops A) (limit : ℕ) (ts : List Terminal) (x y : Reading A) → 5 ≤ code c
    → ((a : A) (m : List Symbol) → L₁ a m → L a m) → ((a : A) (m : List Symbol) → L₂ a m → L a m)
    → ((a : A) (m : List Symbol) (r : List Terminal) → L a m → S a (peek r) → ((peek (terms m ++ r) ≡ c) × L₁ a m) ⊎ ((peek (terms m ++ r) ≡ c → ⊥) × L₂ a m))
    → (ts ≡ c ∷ next ts → Outcome L₁ S G limit ts x) → ((peek ts ≡ c → ⊥) → Outcome L₂ S G limit ts y) → Outcome L S G limit ts (if sees c ts then x else y)
outcome-sees c L L₁ L₂ S G limit ts x y h to₁ to₂ split there apart =
    outcome-if L S G limit ts (sees c ts) x y
    (λ e. outcome-choose L₁ L S S G G limit ts to₁ (λ _ _ _ _ g. g)
    (λ a m r l s f. (elim (split a m r l s) [ inl k ↦ k.1 | inr k ↦ absurd (k.0 (f ∙ sees-true c ts h e)) ], s)) x (there (sees-cons c ts h e)))
    (λ e. outcome-choose L₂ L S S G G limit ts to₂ (λ _ _ _ _ g. g)
    (λ a m r l s f. (elim (split a m r l s) [ inl k ↦ absurd (sees-false c (peek (terms m ++ r)) ts e f k.0) | inr k ↦ k.1 ], s)) y (apart (λ f. sees-false c (peek ts) ts e refl f)))

-- what is read after a terminal stands after that terminal
pub first-of : {B : Type 0} (c : Terminal) (o : ℕ) (K : Language B) (b : B) (y : List Symbol) (r : List Terminal) → bind (one c o) (λ _. K) b y → peek (terms y ++ r) ≡ c
first-of c o K b y r k = ap (λ v. peek (terms v ++ r)) (k.5 ∙ ap (λ v. v ++ k.2) k.3)

pub some-after : {B : Type 0} (c : Terminal) (o : ℕ) (K : Language B) → ((b : B) × (y : List Symbol) × K b y) → (b : B) × (y : List Symbol) × bind (one c o) (λ _. K) b y
some-after c o K k = (k.0, (c, o) ∷ k.1, (tt, (c, o) ∷ [], k.1, refl, k.2, refl))

pub outcome-expect : (c : Terminal) (limit : ℕ) (ts : List Terminal) → 5 ≤ code c → Outcome (one c 0) Any Any limit ts (expect c ts)
unfolding expect
outcome-expect c limit ts h =
    outcome-if (one c 0) Any Any limit ts (sees c ts) _ _
    (λ e. subst (λ v. Outcome (one c 0) Any Any limit v (Ok (tt, next ts))) (sym (sees-cons c ts h e)) (outcome-token c 0 limit (next ts) (omega arith)))
    (λ e. outcome-fail (one c 0) Any Any limit ts (tt, (c, 0) ∷ [], refl) (λ a m r l s f. sees-false c (peek (terms m ++ r)) ts e f (ap (λ v. peek (terms v ++ r)) l)))

-- a terminal that opens a construct, read after a test, with the room that it leaves
module _ {B : Type 0} (c : Terminal) (d room limit : ℕ) (ts : List Terminal) (K : Language B) (S G : Stops B) where
  opened-with-cons : (f : ℕ → List Terminal → Reading B) → (r : List Terminal) → (left : ℕ) → d + left ≡ limit → ((b : B) × (y : List Symbol) × K b y)
      → ((inner : ℕ) → d + 1 + inner ≡ limit → Outcome K S G limit r (f inner r)) → Outcome (bind (one c (d + 1)) (λ _. K)) S G limit (c ∷ r) (and_then (open_at left (c ∷ r)) f)
  opened-with-cons f r zero sum some more = outcome-deep c (d + 1) limit r K S G (omega arith) some
  opened-with-cons f r (suc i) sum some more = outcome-token-then c (d + 1) limit r K S G (f i r) (omega arith) some (more i (omega arith))

  pub opened-with : (f : ℕ → List Terminal → Reading B) → ts ≡ c ∷ next ts → d + room ≡ limit → ((b : B) × (y : List Symbol) × K b y)
      → ((inner : ℕ) → d + 1 + inner ≡ limit → Outcome K S G limit (next ts) (f inner (next ts))) → Outcome (bind (one c (d + 1)) (λ _. K)) S G limit ts (and_then (open_at room ts) f)
  opened-with f e sum some more =
      subst (λ v. Outcome (bind (one c (d + 1)) (λ _. K)) S G limit v (and_then (open_at room v) f)) (sym e) (opened-with-cons f (next ts) room sum some more)

  pub opened-after : (f : List Terminal → Reading B) → ts ≡ c ∷ next ts → d + room ≡ limit → ((b : B) × (y : List Symbol) × K b y) → (0 < room → Outcome K S G limit (next ts) (f (next ts)))
      → Outcome (bind (one c (d + 1)) (λ _. K)) S G limit ts (and_then (open_at room ts) (λ _ r. f r))
  opened-after f e sum some more = opened-with (λ _ r. f r) e sum some (λ inner de. more (omega arith))

  pub plain-after : (res : Reading B) → ts ≡ c ∷ next ts → ((b : B) × (y : List Symbol) × K b y) → Outcome K S G limit (next ts) res → Outcome (bind (one c 0) (λ _. K)) S G limit ts res
  plain-after res e some more =
      subst (λ v. Outcome (bind (one c 0) (λ _. K)) S G limit v res) (sym e) (outcome-token-then c 0 limit (next ts) K S G res (omega arith) some more)

  enter-by : (f : ℕ → List Terminal → Reading B) → 5 ≤ code c → d + room ≡ limit → ((b : B) × (y : List Symbol) × K b y)
      → ((inner : ℕ) → d + 1 + inner ≡ limit → Outcome K S G limit (next ts) (f inner (next ts)))
      → (b : Bool) → sees c ts ≡ b → Outcome (bind (one c (d + 1)) (λ _. K)) S G limit ts (and_then (if b then open_at room ts else Err (unexpected, ts)) f)
  enter-by f h sum some more true e = opened-with f (sees-cons c ts h e) sum some more
  enter-by f h sum some more false e =
      outcome-fail (bind (one c (d + 1)) (λ _. K)) S G limit ts (some-after c (d + 1) K some) (λ a m r k s g. sees-false c (peek (terms m ++ r)) ts e g (first-of c (d + 1) K a m r k))

  -- this terminal, where it may stand or not
  pub outcome-enter : (f : ℕ → List Terminal → Reading B) → 5 ≤ code c → d + room ≡ limit → ((b : B) × (y : List Symbol) × K b y)
      → ((inner : ℕ) → d + 1 + inner ≡ limit → Outcome K S G limit (next ts) (f inner (next ts))) → Outcome (bind (one c (d + 1)) (λ _. K)) S G limit ts (and_then (enter c room ts) f)
  unfolding enter
  outcome-enter f h sum some more = enter-by f h sum some more (sees c ts) refl

-- ---- one terminal that stands for a value

-- the terminals of the values of a kind, where the terminal tells the value
module _ {A : Type 0} (Good : A → Type 0) (token : A → Terminal) where
  abbrev pub a_token : Language A
  a_token a m = Good a × (m ≡ plain (token a) ∷ [])

  module _ (of : Terminal → Option A) (sound : (c : Terminal) (a : A) → of c ≡ Some a → Good a × (token a ≡ c)) (found : (a : A) → Good a → of (token a) ≡ Some a) (none : of t.End ≡ None)
      (one_value : (a : A) × Good a) where
    take-by : (limit : ℕ) (ts : List Terminal) (o : Option A) → of (peek ts) ≡ o → Outcome a_token Any Any limit ts (take o ts)
    take-by limit [] (Some a) e = let f : None ≡ Some a = sym none ∙ e in cc
    take-by limit (c ∷ r) (Some a) e =
        let here = sound c a e in
        record {
          word = plain (token a) ∷ [];
          spelled = (here.0, refl);
          front = ap (λ v. v ∷ r) (sym here.1);
          within = (omega arith, tt);
          stops = tt;
          only = λ a' m r' r'' same k s f.
              let heads : token a' ≡ token a = ap (λ v. peek (terms v ++ r')) (sym k.1) ∙ ap peek f in
              let both : Some a' ≡ Some a = sym (found a' k.0) ∙ (ap of heads ∙ found a here.0) in
              let g : a' ≡ a = cc in
              (g, k.1 ∙ ap (λ v. plain (token v) ∷ []) g);
        }
    take-by limit ts None e =
        outcome-fail a_token Any Any limit ts (one_value.0, plain (token one_value.0) ∷ [], (one_value.1, refl))
        (λ a m r k s f.
        let heads : token a ≡ peek ts = ap (λ v. peek (terms v ++ r)) (sym k.1) ∙ f in
        let g : Some a ≡ None = sym (found a k.0) ∙ (ap of heads ∙ e) in cc)

    pub outcome-take : (limit : ℕ) (ts : List Terminal) → Outcome a_token Any Any limit ts (take (of (peek ts)) ts)
    outcome-take limit ts = take-by limit ts (of (peek ts)) refl

-- a name of a property
abbrev pub a_name : Language Name
a_name x m = m ≡ plain (name_token x) ∷ []

abbrev any_name : Language Name
any_name = a_token (λ _. Unit {0}) name_token

name-sound : (c : Terminal) (x : Name) → name_of c ≡ Some x → Unit {0} × (name_token x ≡ c)
name-sound (t.Ident i) x e = let f : n.Ident i ≡ x = cc in (tt, ap name_token (sym f))
name-sound (t.Keyword w) x e = let f : n.Keyword w ≡ x = cc in (tt, ap name_token (sym f))
name-sound (t.Reserved w) x e = let f : n.Reserved w ≡ x = cc in (tt, ap name_token (sym f))
name-sound (t.Number i) x e = cc
name-sound (t.Text s) x e = cc
name-sound (t.Punct c) x e = cc
name-sound t.End x e = cc

name-found : (x : Name) → Unit {0} → name_of (name_token x) ≡ Some x
name-found (n.Ident i) u = refl
name-found (n.Keyword w) u = refl
name-found (n.Reserved w) u = refl

abbrev pub some_name : Name
some_name = n.Keyword kw.In

pub outcome-name : (limit : ℕ) (ts : List Terminal) → Outcome a_name Any Any limit ts (name ts)
unfolding name
outcome-name limit ts = outcome-same any_name a_name Any Any limit ts (λ _ _ k. k.1) (λ _ _ k. (tt, k)) _
    (outcome-take (λ _. Unit {0}) name_token name_of name-sound name-found refl (some_name, tt) limit ts)

-- a key of an object literal
abbrev pub IsKey : PropKey → Type 0
IsKey k = reads_proto (key_token k) ≡ false

abbrev pub a_key : Language PropKey
a_key k m = IsKey k × (m ≡ plain (key_token k) ∷ [])

key-ident : (i : Ident) (k : PropKey) (b : Bool) → i.is_proto ≡ b → (let o : Option PropKey = if b then None else Some (q.Name (n.Ident i)) in o ≡ Some k) → IsKey k × (key_token k ≡ t.Ident i)
key-ident i k true h e = cc
key-ident i k false h e = let f : q.Name (n.Ident i) ≡ k = cc in (subst (λ v. IsKey v) f h, ap key_token (sym f))

key-text : (s : Literal) (k : PropKey) (b : Bool) → s.is_proto ≡ b → (let o : Option PropKey = if b then None else Some (q.Text s) in o ≡ Some k) → IsKey k × (key_token k ≡ t.Text s)
key-text s k true h e = cc
key-text s k false h e = let f : q.Text s ≡ k = cc in (subst (λ v. IsKey v) f h, ap key_token (sym f))

key-sound : (c : Terminal) (k : PropKey) → key_of c ≡ Some k → IsKey k × (key_token k ≡ c)
key-sound (t.Ident i) k e = key-ident i k i.is_proto refl e
key-sound (t.Keyword w) k e = let f : q.Name (n.Keyword w) ≡ k = cc in (subst (λ v. IsKey v) f refl, ap key_token (sym f))
key-sound (t.Reserved w) k e = let f : q.Name (n.Reserved w) ≡ k = cc in (subst (λ v. IsKey v) f refl, ap key_token (sym f))
key-sound (t.Number i) k e = let f : q.Number i ≡ k = cc in (subst (λ v. IsKey v) f refl, ap key_token (sym f))
key-sound (t.Text s) k e = key-text s k s.is_proto refl e
key-sound (t.Punct c) k e = cc
key-sound t.End k e = cc

key-found : (k : PropKey) → IsKey k → key_of (key_token k) ≡ Some k
key-found (q.Name (n.Ident i)) h = ap (λ b. if b then None else Some (q.Name (n.Ident i))) h
key-found (q.Name (n.Keyword w)) h = refl
key-found (q.Name (n.Reserved w)) h = refl
key-found (q.Text s) h = ap (λ b. if b then None else Some (q.Text s)) h
key-found (q.Number i) h = refl

pub outcome-key : (limit : ℕ) (ts : List Terminal) → Outcome a_key Any Any limit ts (key ts)
unfolding key
outcome-key limit ts = outcome-take IsKey key_token key_of key-sound key-found refl (q.Name some_name, refl) limit ts
