-- Each input has at most one answer: one accepted set, or one refusal at one place.
use Rattle.std.proofs.Common.{◌≡◌, inl, inr, ℕ, List, Ok, Err, refl, ap}
use Rattle.jo_value.specs.Texts.{Table}
use Rattle.jo_lex.specs.declared.refusal.Refusal.{Refusal}
use Rattle.jo_lex.specs.declared.refusal.RefusalKind.{RefusalKind}
use Rattle.jo_lex.specs.declared.refusal.RefusalKind.TheVariants as kind
use Rattle.jo_lex.specs.declared.token.Token.{Token}
use Rattle.jo_parse_tree.specs.Trees.{Items}
use Rattle.jo_parse_grammar.specs.Sets.{IsCut, IsLexed, IsParsed, IsAcceptedSet, IsRefusalOf, IsRefusal}
use Rattle.jo_parse_grammar.proofs.SetStages.{Answer, Lexed, Spelled, Named, Answers, answers-once}

-- ---- what goes through a stage has the answer of the next one

after-cut : (bytes : List ℕ) (x : Answer) → IsCut bytes → Lexed bytes x → Answers bytes x
after-cut bytes x cut h = inr (tt, cut.utf8, inr (tt, cut.few, h))

after-lexed : (bytes : List ℕ) (lists : List (List Token)) (texts : Table) (x : Answer) → IsLexed bytes lists texts → Spelled lists texts x → Answers bytes x
after-lexed bytes lists texts x lexed h = after-cut bytes x lexed.cut (inr ((lists, texts), lexed.read, inr (tt, lexed.something, h)))

after-parsed : (bytes : List ℕ) (scripts : List Items) (texts : Table) (x : Answer) → IsParsed bytes scripts texts → Named texts scripts x → Answers bytes x
after-parsed bytes scripts texts x parsed h = after-lexed bytes parsed.lists texts x parsed.lexed (inr (scripts, parsed.spelled, h))

-- ---- sets and refusals are answers

set-answers : (bytes : List ℕ) (scripts : List Items) (texts : Table) → IsAcceptedSet bytes scripts texts → Answers bytes (Ok (scripts, texts))
set-answers bytes scripts texts set = after-parsed bytes scripts texts (Ok (scripts, texts)) set.parsed (inr (tt, set.named, refl))

refusal-answers : (bytes : List ℕ) (r : Refusal) (k : RefusalKind) → r.kind ≡ k → IsRefusalOf bytes k r → Answers bytes (Err r)
refusal-answers bytes r kind.NotUtf8 e h = inl (e, h.0, h.1)
refusal-answers bytes r kind.TooManyScripts e h = inr (tt, h.0, inl (e, h.1))
refusal-answers bytes r kind.BadToken e h = after-cut bytes (Err r) h.0 (inl h.1)
refusal-answers bytes r kind.NumberTooLarge e h = after-cut bytes (Err r) h.0 (inl h.1)
refusal-answers bytes r kind.TooManyTexts e h = after-cut bytes (Err r) h.0 (inl h.1)
refusal-answers bytes r kind.NoScript e h = after-cut bytes (Err r) h.0 (inr ((h.1, h.2), h.3, inl (e, h.4, h.5)))
refusal-answers bytes r kind.Unexpected e h = after-lexed bytes h.0 h.1 (Err r) h.2 (inl h.3)
refusal-answers bytes r kind.NestedTooDeep e h = after-lexed bytes h.0 h.1 (Err r) h.2 (inl h.3)
refusal-answers bytes r kind.Undeclared e h = after-parsed bytes h.0 h.1 (Err r) h.2 (inl (h.3, h.4, h.5))
refusal-answers bytes r kind.Twice e h = after-parsed bytes h.0 h.1 (Err r) h.2 (inl (h.3, h.4, h.5))

-- ---- one answer

sets-equal : (a b : List Items × Table) → ◌≡◌ {A = Answer} (Ok a) (Ok b) → a ≡ b
sets-equal a b e = cc

-- accepted bytes are one set, with one table
pub one_set : (bytes : List ℕ) (s s' : List Items) (t t' : Table) → IsAcceptedSet bytes s t → IsAcceptedSet bytes s' t' → (s ≡ s') × (t ≡ t')
one_set bytes s s' t t' h k =
    let e = sets-equal (s, t) (s', t') (answers-once bytes (Ok (s, t)) (Ok (s', t')) (set-answers bytes s t h) (set-answers bytes s' t' k)) in
    (ap (λ v. v.0) e, ap (λ v. v.1) e)

set-is-no-refusal : (a : List Items × Table) (r : Refusal) → ◌≡◌ {A = Answer} (Ok a) (Err r) → ⊥
set-is-no-refusal a r e = absurd cc

-- and are not refused
pub set_or_refused : (bytes : List ℕ) (s : List Items) (t : Table) (r : Refusal) → IsAcceptedSet bytes s t → IsRefusal bytes r → ⊥
set_or_refused bytes s t r h k =
    set-is-no-refusal (s, t) r (answers-once bytes (Ok (s, t)) (Err r) (set-answers bytes s t h) (refusal-answers bytes r r.kind refl k))

refusals-equal : (q r : Refusal) → ◌≡◌ {A = Answer} (Err q) (Err r) → q ≡ r
refusals-equal q r e = cc

-- refused bytes are refused in one way at one place
pub one_refusal : (bytes : List ℕ) (r r' : Refusal) → IsRefusal bytes r → IsRefusal bytes r' → r ≡ r'
one_refusal bytes r r' h k =
    refusals-equal r r' (answers-once bytes (Err r) (Err r') (refusal-answers bytes r r.kind refl h) (refusal-answers bytes r' r'.kind refl k))
