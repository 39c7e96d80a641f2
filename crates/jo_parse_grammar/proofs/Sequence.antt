-- What is answered for terminals in two parts, of which the first is read exactly.
use Rattle.std.proofs.Common.{◌≡◌, ℕ, List, [], ◌∷◌, ◌++◌, Result, Ok, Err, refl, sym, ◌∙◌, ap, subst, append_assoc}
use Rattle.jo_parse_grammar.specs.declared.terminal.Terminal.{Terminal}
use Rattle.jo_parse_grammar.specs.Expressions.{Symbol}
use Rattle.jo_parse_grammar.specs.Refusals.{Language, terms, BeginsWithin, Never, OpensTooMany, EachOpensTooMany, Fault, unexpected, too_deep, IsRefused}
use Rattle.jo_parse_grammar.specs.inner.Read.{peek}
use Rattle.jo_parse_grammar.proofs.Outcome.{terms-append, Within-append, cancel, Stops, Whole, Stuck, Deep, Failing, bind}
use Rattle.jo_parse_grammar.proofs.Accepted.{list-end, Answers}

-- ---- another language with the same spellings here

-- the second language has the spellings of the first, and of those that are good no others
module _ {A : Type 0} (L L' : Language A) (Good : List Terminal → Type 0) (longer : (x : List Terminal) (c : Terminal) (q : List Terminal) → Good (x ++ c ∷ q)) (to : (a : A) (m : List Symbol) → L a m → L' a m)
    (from : (a : A) (m : List Symbol) → L' a m → Good (terms m) → L a m) (limit : ℕ) where
  same-begins : (ts : List Terminal) → BeginsWithin L limit ts → BeginsWithin L' limit ts
  same-begins ts b = (b.0, b.1, b.2, to b.0 (b.1 ++ b.2) b.3, b.4, b.5)

  same-never : (before r : List Terminal) → Good (before ++ r) → Never L before r → Never L' before r
  same-never before [] good h = λ a k. h a (k.0, from a k.0 k.1 (subst (λ v. Good v) (list-end before ∙ sym k.2) good), k.2)
  same-never before (c ∷ r) good h = λ b.
      let e : terms b.2.0 ≡ before ++ c ∷ b.1 = b.2.2 ∙ append_assoc before (c ∷ []) b.1 in
      h (b.0, b.1, (b.2.0, from b.0 b.2.0 b.2.1 (subst (λ v. Good v) (sym e) (longer before c b.1)), b.2.2))

  pub answers-same : (ts : List Terminal) → Good ts → (res : Result A (Fault × List Terminal)) → Answers L limit ts res → Answers L' limit ts res
  answers-same ts good (Ok a) h = (h.0, to a h.0 h.1, h.2, h.3, λ other k. h.4 other (k.0, from other k.0 k.1 (subst (λ v. Good v) (sym k.2) good), k.2))
  answers-same ts good (Err (unexpected, r)) h = (h.0, h.1, same-begins h.0 h.2, same-never h.0 r (subst (λ v. Good v) h.1 good) h.3)
  answers-same ts good (Err (too_deep, [])) h = elim h.2 [ ]
  answers-same ts good (Err (too_deep, c ∷ r)) h = (
    h.0,
    h.1,
    (h.2.0, h.2.1, h.2.2, h.2.3, to h.2.0 (h.2.1 ++ (c, h.2.2) ∷ h.2.3) h.2.4, h.2.5, h.2.6, h.2.7),
    λ a m q k e. h.3 a m q (from a m k (subst (λ v. Good v) (sym e) (longer h.0 c q))) e,
  )

-- ---- one part after another

peek-list : (x : List Terminal) (c : Terminal) (q r : List Terminal) → peek (x ++ c ∷ q) ≡ peek (x ++ c ∷ r)
peek-list [] c q r = refl
peek-list (b ∷ x) c q r = refl

module _ {A B : Type 0} (L : Language A) (S G : Stops A) (K : A → Language B) (follow : (a : A) (x : List Symbol) (b : B) (y : List Symbol) → L a x → K a b y → S a (peek (terms y)))
    (some : (a : A) (x : List Symbol) → L a x → (b : B) × (y : List Symbol) × K a b y) (limit : ℕ) (ts : List Terminal) where
  module _ (a : A) (r : List Terminal) (w : Whole L S G limit ts a r) where
    -- what another spelling says once its first part is known
    first-part : (r'' : List Terminal) → peek r'' ≡ peek r → (b : B) (m : List Symbol) → bind L K b m → terms m ≡ terms w.word ++ r'' → (y : List Symbol) × K a b y × (m ≡ w.word ++ y) × (terms y ≡ r'')
    first-part r'' same b m k e =
        let x = k.1 in
        let y = k.2 in
        let apart : terms x ++ terms y ≡ terms w.word ++ r'' = sym (terms-append x y) ∙ (ap terms (sym k.5) ∙ e) in
        let one = w.only k.0 x (terms y) r'' same k.3 (follow k.0 x b y k.3 k.4) apart in
        let rest : terms y ≡ r'' = cancel (terms w.word) (ap (λ v. terms v ++ terms y) (sym one.1) ∙ apart) in
        (y, subst (λ v. K v b y) one.0 k.4, k.5 ∙ ap (λ v. v ++ y) one.1, rest)

    -- the first part stands before
    in-front : (b : B) (y : List Symbol) → K a b y → bind L K b (w.word ++ y)
    in-front b y k = (a, w.word, y, w.spelled, k, refl)

    begins-front : (before : List Terminal) → BeginsWithin (K a) limit before → BeginsWithin (bind L K) limit (terms w.word ++ before)
    begins-front before h = (
      h.0,
      w.word ++ h.1,
      h.2,
      subst (λ v. bind L K h.0 v) (sym (append_assoc w.word h.1 h.2)) (in-front h.0 (h.1 ++ h.2) h.3),
      terms-append w.word h.1 ∙ ap (λ v. terms w.word ++ v) h.4,
      Within-append limit w.word h.1 w.within h.5,
    )

    never-front : (before r2 : List Terminal) → r ≡ before ++ r2 → Never (K a) before r2 → Never (bind L K) (terms w.word ++ before) r2
    never-front before [] front h = λ b k.
        let f = first-part before (ap peek (sym (list-end before) ∙ sym front)) b k.0 k.1 k.2 in
        h b (f.0, f.1, f.3)
    never-front before (c ∷ r2) front h = λ b.
        let q = b.1 in
        let rest = before ++ c ∷ q in
        let e : terms b.2.0 ≡ terms w.word ++ rest = b.2.2 ∙ (ap (λ v. v ++ q) (append_assoc (terms w.word) before (c ∷ [])) ∙ (append_assoc (terms w.word) (before ++ c ∷ []) q ∙ ap (λ v. terms w.word ++ v) (append_assoc before (c ∷ []) q))) in
        let f = first-part rest (peek-list before c q r2 ∙ ap peek (sym front)) b.0 b.2.0 b.2.1 e in
        h (b.0, q, (f.0, f.1, f.3 ∙ sym (append_assoc before (c ∷ []) q)))

    front-of : (before r2 : List Terminal) → r ≡ before ++ r2 → ts ≡ (terms w.word ++ before) ++ r2
    front-of before r2 e = w.front ∙ (ap (λ v. terms w.word ++ v) e ∙ sym (append_assoc (terms w.word) before r2))

    deep-front : (before : List Terminal) (c : Terminal) (r2 : List Terminal) → OpensTooMany (K a) limit before (c ∷ r2) → OpensTooMany (bind L K) limit (terms w.word ++ before) (c ∷ r2)
    deep-front before c r2 h = (
      h.0,
      w.word ++ h.1,
      h.2,
      h.3,
      subst (λ v. bind L K h.0 v) (sym (append_assoc w.word h.1 ((c, h.2) ∷ h.3))) (in-front h.0 (h.1 ++ (c, h.2) ∷ h.3) h.4),
      terms-append w.word h.1 ∙ ap (λ v. terms w.word ++ v) h.5,
      Within-append limit w.word h.1 w.within h.6,
      h.7,
    )

    each-front : (before : List Terminal) (c : Terminal) (r2 : List Terminal) → r ≡ before ++ c ∷ r2 → EachOpensTooMany (K a) limit before (c ∷ r2) → EachOpensTooMany (bind L K) limit (terms w.word ++ before) (c ∷ r2)
    each-front before c r2 front h b m q k e =
        let rest = before ++ c ∷ q in
        let f = first-part rest (peek-list before c q r2 ∙ ap peek (sym front)) b m k (e ∙ append_assoc (terms w.word) before (c ∷ q)) in
        let g = h b f.0 q f.1 f.3 in (
          w.word ++ g.0,
          g.1,
          g.2,
          f.2 ∙ (ap (λ v. w.word ++ v) g.3 ∙ sym (append_assoc w.word g.0 ((c, g.1) ∷ g.2))),
          terms-append w.word g.0 ∙ ap (λ v. terms w.word ++ v) g.4,
          g.5,
        )

    pub answers-then : (res : Result B (Fault × List Terminal)) → Answers (K a) limit r res → Answers (bind L K) limit ts res
    answers-then (Ok b) h = (
      w.word ++ h.0,
      in-front b h.0 h.1,
      terms-append w.word h.0 ∙ (ap (λ v. terms w.word ++ v) h.2 ∙ sym w.front),
      Within-append limit w.word h.0 w.within h.3,
      λ other k. let f = first-part r refl other k.0 k.1 (k.2 ∙ w.front) in h.4 other (f.0, f.1, f.3),
    )
    answers-then (Err (unexpected, r2)) h = (terms w.word ++ h.0, front-of h.0 r2 h.1, begins-front h.0 h.2, never-front h.0 r2 h.1 h.3)
    answers-then (Err (too_deep, [])) h = elim h.2 [ ]
    answers-then (Err (too_deep, c ∷ r2)) h = (terms w.word ++ h.0, front-of h.0 (c ∷ r2) h.1, deep-front h.0 c r2 h.2, each-front h.0 c r2 h.1 h.3)

  -- where the first part is refused
  other-part : (w : List Symbol) (b : B) (m : List Symbol) (k : bind L K b m) (r'' : List Terminal) → terms m ≡ terms w ++ r'' → terms k.1 ++ terms k.2 ≡ terms w ++ r''
  other-part w b m k r'' e = sym (terms-append k.1 k.2) ∙ (ap terms (sym k.5) ∙ e)

  dead-never : (r : List Terminal) (h : Stuck L S limit ts r) → Never (bind L K) (terms h.word) r
  dead-never [] h = λ b k. h.dead k.1.0 k.1.1 (terms k.1.2) [] refl k.1.3 (follow k.1.0 k.1.1 b k.1.2 k.1.3 k.1.4) (other-part h.word b k.0 k.1 [] (k.2 ∙ sym (list-end (terms h.word))))
  dead-never (c ∷ r) h = λ b.
      let k = b.2.1 in
      h.dead k.0 k.1 (terms k.2) (c ∷ b.1) refl k.3 (follow k.0 k.1 b.0 k.2 k.3 k.4) (other-part h.word b.0 b.2.0 k (c ∷ b.1) (b.2.2 ∙ append_assoc (terms h.word) (c ∷ []) b.1))

  forced-each : (c : Terminal) (r : List Terminal) (h : Deep L S limit ts c r) → EachOpensTooMany (bind L K) limit (terms h.word) (c ∷ r)
  forced-each c r h b m q k e =
      let f = h.forced k.0 k.1 (terms k.2) (c ∷ q) refl k.3 (follow k.0 k.1 b k.2 k.3 k.4) (other-part h.word b m k (c ∷ q) e) in
      (h.word, h.opens, f.0 ++ k.2, k.5 ∙ (ap (λ v. v ++ k.2) f.1 ∙ append_assoc h.word ((c, h.opens) ∷ f.0) k.2), refl, h.above)

  pub answers-failed : (f : Fault) (r : List Terminal) → Failing L S limit ts f r → IsRefused (bind L K) limit f ts r
  answers-failed unexpected r h =
      let b = some h.live.0 h.live.1 h.live.3 in (
        terms h.word,
        h.front,
        (b.0, h.word, h.live.2 ++ b.1, (h.live.0, h.live.1, b.1, h.live.3, b.2, sym (append_assoc h.word h.live.2 b.1) ∙ ap (λ v. v ++ b.1) (sym h.live.4)), refl, h.within),
        dead-never r h,
      )
  answers-failed too_deep [] h = elim h [ ]
  answers-failed too_deep (c ∷ r) h =
      let b = some h.live.0 h.live.1 h.live.3 in (
        terms h.word,
        h.front,
        (
          b.0,
          h.word,
          h.opens,
          h.live.2 ++ b.1,
          (h.live.0, h.live.1, b.1, h.live.3, b.2, sym (append_assoc h.word ((c, h.opens) ∷ h.live.2) b.1) ∙ ap (λ v. v ++ b.1) (sym h.live.4)),
          refl,
          h.within,
          h.above,
        ),
        forced-each c r h,
      )
