-- Terminals get one answer: where they are accepted they are not refused, and they are refused in one way at one place.
use Rattle.std.proofs.Common.{◌≡◌, ◌⊎◌, inl, inr, ℕ, ◌+◌, ◌≤◌, ◌<◌, List, [], ◌∷◌, ◌++◌, Result, Ok, Err, refl, sym, ◌∙◌, ap, subst, append_assoc, arith, length, length-append}
use Rattle.jo_parse_grammar.specs.declared.terminal.Terminal.{Terminal}
use Rattle.jo_parse_grammar.specs.Expressions.{Symbol}
use Rattle.jo_parse_grammar.specs.Refusals.{Language, terms, Within, BeginsWithin, Never, OpensTooMany, EachOpensTooMany, IsAccepted, Fault, unexpected, too_deep, IsRefused}
use Rattle.jo_parse_grammar.proofs.Outcome.{terms-append}
use Rattle.jo_parse_grammar.proofs.Accepted.{list-end, Answers}

-- ---- lists

-- x is the longer of two beginnings of a list
abbrev Longer : List Terminal → List Terminal → List Terminal → Type 0
Longer x y s = (c : Terminal) × (q : List Terminal) × (r : List Terminal) × (x ≡ y ++ c ∷ q) × (s ≡ c ∷ r)

abbrev Compared : List Terminal → List Terminal → List Terminal → List Terminal → Type 0
Compared x r y s = Longer y x r ⊎ (((x ≡ y) × (r ≡ s)) ⊎ Longer x y s)

compared-cons : (c b : Terminal) (x r y s : List Terminal) → c ≡ b → Compared x r y s → Compared (c ∷ x) r (b ∷ y) s
compared-cons c b x r y s e (inl (h, q, p, f, g)) = inl (h, q, p, ap (λ v. b ∷ v) f ∙ ap (λ v. v ∷ (x ++ h ∷ q)) (sym e), g)
compared-cons c b x r y s e (inr (inl k)) = inr (inl (ap (λ v. v ∷ x) e ∙ ap (λ v. b ∷ v) k.0, k.1))
compared-cons c b x r y s e (inr (inr (h, q, p, f, g))) = inr (inr (h, q, p, ap (λ v. c ∷ v) f ∙ ap (λ v. v ∷ (y ++ h ∷ q)) e, g))

compared : (x r y s : List Terminal) → x ++ r ≡ y ++ s → Compared x r y s
compared [] r [] s e = inr (inl (refl, e))
compared [] r (b ∷ y) s e = inl (b, y, y ++ s, refl, e)
compared (c ∷ x) r [] s e = inr (inr (c, x, x ++ r, refl, sym e))
compared (c ∷ x) r (b ∷ y) s e =
    let head : c ≡ b = cc in
    let tail : x ++ r ≡ y ++ s = cc in
    compared-cons c b x r y s head (compared x r y s tail)

length-terms : (w : List Symbol) → length (terms w) ≡ length w
length-terms [] = refl
length-terms (m ∷ w) = let e = length-terms w in omega arith

-- a symbol in a part that keeps within the limit does so
within-front : (limit : ℕ) (w q x : List Symbol) (m : Symbol) (y : List Symbol) → w ++ q ≡ x ++ m ∷ y → length x < length w → Within limit w → m.1 ≤ limit
within-front limit [] q x m y e h k = absurd (omega arith)
within-front limit (a ∷ w) q [] m y e h k = let f : a ≡ m = cc in subst (λ v. v.1 ≤ limit) f k.0
within-front limit (a ∷ w) q (b ∷ x) m y e h k = let f : w ++ q ≡ x ++ m ∷ y = cc in within-front limit w q x m y f (omega arith) k.1

within-whole : (limit : ℕ) (x : List Symbol) (m : Symbol) (y : List Symbol) → Within limit (x ++ m ∷ y) → m.1 ≤ limit
within-whole limit [] m y k = k.0
within-whole limit (a ∷ x) m y k = within-whole limit x m y k.1

-- ---- answers

module _ {A : Type 0} (L : Language A) (limit : ℕ) where
  -- the terminals that a spelling begins with
  begins-terms : (before : List Terminal) (c : Terminal) (s : List Terminal) (b : BeginsWithin L limit (before ++ c ∷ s)) → terms (b.1 ++ b.2) ≡ before ++ c ∷ (s ++ terms b.2)
  begins-terms before c s b = terms-append b.1 b.2 ∙ (ap (λ v. v ++ terms b.2) b.4 ∙ append_assoc before (c ∷ s) (terms b.2))

  -- no spelling goes on past a refusal
  never-past : (before : List Terminal) (c : Terminal) (r s : List Terminal) → Never L before (c ∷ r) → BeginsWithin L limit (before ++ c ∷ s) → ⊥
  never-past before c r s h b = h (b.0, s ++ terms b.2, (b.1 ++ b.2, b.3, begins-terms before c s b ∙ sym (append_assoc before (c ∷ []) (s ++ terms b.2))))

  deep-past : (before : List Terminal) (c : Terminal) (r s : List Terminal) → EachOpensTooMany L limit before (c ∷ r) → BeginsWithin L limit (before ++ c ∷ s) → ⊥
  deep-past before c r s h b =
      let f = h b.0 (b.1 ++ b.2) (s ++ terms b.2) b.3 (begins-terms before c s b) in
      let long : length (terms b.1) ≡ length before + length (c ∷ s) = ap length b.4 ∙ length-append before (c ∷ s) in
      let all = length-terms b.1 in
      let front = length-terms f.0 in
      let same : length (terms f.0) ≡ length before = ap length f.4 in
      let small : f.1 ≤ limit = within-front limit b.1 b.2 f.0 (c, f.1) f.2 f.3 (omega arith) b.5 in
      omega (arith, f.5)

  deep-begins : (before r : List Terminal) → OpensTooMany L limit before r → BeginsWithin L limit before
  deep-begins before [] h = elim h [ ]
  deep-begins before (c ∷ r) h = (h.0, h.1, (c, h.2) ∷ h.3, h.4, h.5, h.6)

  -- where a terminal may stand that opens too many, it is not unexpected
  never-deep : (before r : List Terminal) → Never L before r → OpensTooMany L limit before r → ⊥
  never-deep before [] h k = elim k [ ]
  never-deep before (c ∷ r) h k =
      let whole : terms (k.1 ++ (c, k.2) ∷ k.3) ≡ before ++ c ∷ terms k.3 = terms-append k.1 ((c, k.2) ∷ k.3) ∙ ap (λ v. v ++ c ∷ terms k.3) k.5 in
      h (k.0, terms k.3, (k.1 ++ (c, k.2) ∷ k.3, k.4, whole ∙ sym (append_assoc before (c ∷ []) (terms k.3))))

  -- what stops the reading at a refusal
  abbrev Blocked : Fault → List Terminal → List Terminal → Type 0
  Blocked unexpected before r = Never L before r
  Blocked too_deep before r = OpensTooMany L limit before r × EachOpensTooMany L limit before r

  abbrev Parts : Fault → List Terminal → List Terminal → Type 0
  Parts f ts r = (before : List Terminal) × (ts ≡ before ++ r) × BeginsWithin L limit before × Blocked f before r

  parts : (f : Fault) (ts r : List Terminal) → IsRefused L limit f ts r → Parts f ts r
  parts unexpected ts r h = h
  parts too_deep ts r h = (h.0, h.1, deep-begins h.0 r h.2, (h.2, h.3))

  blocked-past : (f : Fault) (before r later : List Terminal) → Blocked f before r → BeginsWithin L limit later → Longer later before r → ⊥
  blocked-past unexpected before r later h b k =
      never-past before k.0 k.2 k.1 (subst (λ v. Never L before v) k.4 h) (subst (λ v. BeginsWithin L limit v) k.3 b)
  blocked-past too_deep before r later h b k =
      deep-past before k.0 k.2 k.1 (subst (λ v. EachOpensTooMany L limit before v) k.4 h.1) (subst (λ v. BeginsWithin L limit v) k.3 b)

  blocked-once : (f g : Fault) (before r : List Terminal) → Blocked f before r → Blocked g before r → f ≡ g
  blocked-once unexpected unexpected before r h k = refl
  blocked-once unexpected too_deep before r h k = absurd (never-deep before r h k.0)
  blocked-once too_deep unexpected before r h k = absurd (never-deep before r k h.0)
  blocked-once too_deep too_deep before r h k = refl

  same-place : (f g : Fault) (ts r s : List Terminal) (h : Parts f ts r) (k : Parts g ts s) → Compared h.0 r k.0 s → (f ≡ g) × (r ≡ s)
  same-place f g ts r s h k (inl longer) = absurd (blocked-past f h.0 r k.0 h.3 k.2 longer)
  same-place f g ts r s h k (inr (inl same)) =
      let b : Blocked g h.0 r = subst (λ v. Blocked g v r) (sym same.0) (subst (λ v. Blocked g k.0 v) (sym same.1) k.3) in
      (blocked-once f g h.0 r h.3 b, same.1)
  same-place f g ts r s h k (inr (inr longer)) = absurd (blocked-past g k.0 s h.0 k.3 h.2 longer)

  -- terminals are refused in one way and at one place
  pub refused-once : (f g : Fault) (ts r s : List Terminal) → IsRefused L limit f ts r → IsRefused L limit g ts s → (f ≡ g) × (r ≡ s)
  refused-once f g ts r s h k =
      let a = parts f ts r h in
      let b = parts g ts s k in
      same-place f g ts r s a b (compared a.0 r b.0 s (sym a.1 ∙ b.1))

  -- a spelling that keeps within the limit is not refused
  pub kept-not-refused : (f : Fault) (ts r : List Terminal) (a : A) (m : List Symbol) → L a m → terms m ≡ ts → Within limit m → IsRefused L limit f ts r → ⊥
  kept-not-refused unexpected ts [] a m k e w h = h.3 a (m, k, e ∙ (h.1 ∙ list-end h.0))
  kept-not-refused unexpected ts (c ∷ r) a m k e w h = h.3 (a, r, (m, k, e ∙ (h.1 ∙ sym (append_assoc h.0 (c ∷ []) r))))
  kept-not-refused too_deep ts [] a m k e w h = elim h.2 [ ]
  kept-not-refused too_deep ts (c ∷ r) a m k e w h =
      let f = h.3 a m r k (e ∙ h.1) in
      let small : f.1 ≤ limit = within-whole limit f.0 (c, f.1) f.2 (subst (λ v. Within limit v) f.3 w) in
      omega (arith, f.5)

  pub accepted-not-refused : (f : Fault) (ts r : List Terminal) (a : A) → IsAccepted L limit ts a → IsRefused L limit f ts r → ⊥
  accepted-not-refused f ts r a k h = kept-not-refused f ts r a k.0 k.1 k.2 k.3 h

  -- and what is accepted parses as one tree
  pub accepted-once : (ts : List Terminal) (a b : A) → IsAccepted L limit ts a → IsAccepted L limit ts b → a ≡ b
  accepted-once ts a b h k = k.4 a (h.0, h.1, h.2)

  -- there is one answer for terminals
  pub answer-once : (ts : List Terminal) (x y : Result A (Fault × List Terminal)) → Answers L limit ts x → Answers L limit ts y → x ≡ y
  answer-once ts (Ok a) (Ok b) h k = ap (λ v. Ok v) (accepted-once ts a b h k)
  answer-once ts (Ok a) (Err f) h k = absurd (accepted-not-refused f.0 ts f.1 a h k)
  answer-once ts (Err f) (Ok b) h k = absurd (accepted-not-refused f.0 ts f.1 b k h)
  answer-once ts (Err f) (Err g) h k = let e = refused-once f.0 g.0 ts f.1 g.1 h k in ap (λ v. Err (v, f.1)) e.0 ∙ ap (λ v. Err (g.0, v)) e.1

  -- and for a spelling that keeps within the limit it is its tree
  pub answer-kept : (ts : List Terminal) (a : A) (m : List Symbol) → L a m → terms m ≡ ts → Within limit m → (x : Result A (Fault × List Terminal)) → Answers L limit ts x → x ≡ Ok a
  answer-kept ts a m k e w (Ok b) h = ap (λ v. Ok v) (sym (h.4 a (m, k, e)))
  answer-kept ts a m k e w (Err f) h = absurd (kept-not-refused f.0 ts f.1 a m k e w h)
