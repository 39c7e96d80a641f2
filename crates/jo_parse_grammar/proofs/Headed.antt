-- A language of which the first terminal is known.
use Rattle.std.proofs.Common.{◌≡◌, ℕ, List, [], ◌∷◌, ◌++◌, Ok, Err, refl, sym, ◌∙◌, ap}
use Rattle.jo_parse_grammar.specs.declared.terminal.Terminal.{Terminal}
use Rattle.jo_parse_grammar.specs.Expressions.{Symbol}
use Rattle.jo_parse_grammar.specs.Refusals.{Language, terms, Within, unexpected, too_deep}
use Rattle.jo_parse_grammar.specs.inner.Read.{Reading, peek}
use Rattle.jo_parse_grammar.proofs.Outcome.{Stops, Stuck, Outcome}

-- what the first language has from this terminal on is in the second, and there is nothing else in the second
module _ {A : Type 0} (L L' : Language A) (S S' G G' : Stops A) (limit : ℕ) (ts : List Terminal)
    (some : (a : A) × (m : List Symbol) × L' a m)
    (to : (a : A) (m : List Symbol) (r : List Terminal) → L a m → peek (terms m ++ r) ≡ peek ts → L' a m) (stop : (a : A) (m : List Symbol) (c : Terminal) → L a m → G a c → G' a c)
    (pick : (a : A) (m : List Symbol) (r : List Terminal) → L' a m → S' a (peek r) → peek (terms m ++ r) ≡ peek ts → L a m × S a (peek r)) where
  stuck : (r : List Terminal) (w : List Symbol) → ts ≡ terms w ++ r → Within limit w → ((a : A) × (m : List Symbol) × (q : List Symbol) × L a m × (m ≡ w ++ q))
      → ((a' : A) (m : List Symbol) (r' r'' : List Terminal) → peek r'' ≡ peek r → L a' m → S a' (peek r') → terms m ++ r' ≡ terms w ++ r'' → ⊥) → Stuck L' S' limit ts r
  stuck r [] front within live dead = record {
    word = [];
    front = front;
    within = within;
    live = (some.0, some.1, some.1, some.2, refl);
    dead = λ a' m r' r'' same k s e.
        let i = pick a' m r' k s (ap peek e ∙ (same ∙ sym (ap peek front))) in
        dead a' m r' r'' same i.0 i.1 e;
  }
  stuck r (m0 ∷ w) front within live dead = record {
    word = m0 ∷ w;
    front = front;
    within = within;
    live = (live.0, live.1, live.2, to live.0 live.1 [] live.3 (ap (λ v. peek (terms v ++ [])) live.4 ∙ sym (ap peek front)), live.4);
    dead = λ a' m r' r'' same k s e.
        let i = pick a' m r' k s (ap peek e ∙ sym (ap peek front)) in
        dead a' m r' r'' same i.0 i.1 e;
  }

  deep-head : (w : List Symbol) (c : Terminal) (o : ℕ) (q : List Symbol) (r r'' : List Terminal) → ts ≡ terms w ++ (c ∷ r) → peek (terms (w ++ (c, o) ∷ q) ++ r'') ≡ peek ts
  deep-head [] c o q r r'' front = sym (ap peek front)
  deep-head (m0 ∷ w) c o q r r'' front = sym (ap peek front)

  any-head : (w : List Symbol) (r r'' : List Terminal) → ts ≡ terms w ++ r → peek r'' ≡ peek r → peek (terms w ++ r'') ≡ peek ts
  any-head [] r r'' front same = same ∙ sym (ap peek front)
  any-head (m0 ∷ w) r r'' front same = sym (ap peek front)

  pub outcome-headed : (res : Reading A) → Outcome L S G limit ts res → Outcome L' S' G' limit ts res
  outcome-headed (Ok p) h = record {
    word = h.word;
    spelled = to p.0 h.word p.1 h.spelled (sym (ap peek h.front));
    front = h.front;
    within = h.within;
    stops = stop p.0 h.word (peek p.1) h.spelled h.stops;
    only = λ a' m r' r'' same k s e.
        let i = pick a' m r' k s (ap peek e ∙ any-head h.word p.1 r'' h.front same) in
        h.only a' m r' r'' same i.0 i.1 e;
  }
  outcome-headed (Err (unexpected, r)) h = stuck r h.word h.front h.within h.live h.dead
  outcome-headed (Err (too_deep, [])) h = h
  outcome-headed (Err (too_deep, c ∷ r)) h = record {
    word = h.word;
    front = h.front;
    within = h.within;
    opens = h.opens;
    above = h.above;
    live = (h.live.0, h.live.1, h.live.2, to h.live.0 h.live.1 [] h.live.3 (ap (λ v. peek (terms v ++ [])) h.live.4 ∙ deep-head h.word c h.opens h.live.2 r [] h.front), h.live.4);
    forced = λ a' m r' r'' same k s e.
        let i = pick a' m r' k s (ap peek e ∙ any-head h.word (c ∷ r) r'' h.front same) in
        h.forced a' m r' r'' same i.0 i.1 e;
  }
