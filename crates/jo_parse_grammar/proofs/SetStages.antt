-- What each stage of reading a set refuses and hands on, and that all stages together have one answer.
use Rattle.std.proofs.Common.{◌≡◌, ℕ, ◌≤◌, ◌<◌, ◌-◌, true, false, List, [], length, Option, Some, Result, Ok, IsUtf8, refl, sym, ◌∙◌, ap, subst, true≢false, arith, slice_get}
use Rattle.std.specs.Str.Lossy.{utf8_valid_len}
use Rattle.jo_value.specs.declared.limits.TheConstants.{MOST_SCRIPTS}
use Rattle.jo_value.specs.Texts.{Table}
use Rattle.jo_lex.specs.declared.token.Token.{Token}
use Rattle.jo_lex.specs.declared.refusal.Refusal.{Refusal}
use Rattle.jo_lex.specs.declared.refusal.RefusalKind.TheVariants as kind
use Rattle.jo_parse_tree.specs.Trees.{Items}
use Rattle.jo_parse_grammar.specs.Declarations.{Found, first_of_faults}
use Rattle.jo_parse_grammar.specs.NameRefusals.{refusal_for}
use Rattle.jo_parse_grammar.specs.Cuts.{Section, sections_of, end_of, IsOneTooMany}
use Rattle.jo_parse_grammar.specs.Sets.{AreRead, IsFirstUnread, is_nothing, AreScripts, IsFirstMisspelled, faults_of_all}
use Rattle.jo_parse_grammar.proofs.Stages.{Once, Decides, Stage, stage-once}
use Rattle.jo_parse_grammar.proofs.ReadOnce.{same-refusal, read-once, read-or-unread, unread-once}
use Rattle.jo_parse_grammar.proofs.SpelledOnce.{spelled-once, spelled-or-first, first-once}

-- a set with its table, or a refusal
abbrev pub Answer : Type 0
Answer = Result (List Items × Table) Refusal

-- ---- what each stage refuses

-- with the kind where the stage before it does not say it
abbrev pub IsNoText : List ℕ → Refusal → Type 0
IsNoText bytes r = (r.kind ≡ kind.NotUtf8) × (IsUtf8 bytes → ⊥) × (r.place ≡ utf8_valid_len bytes)

abbrev pub AreTooMany : List ℕ → Refusal → Type 0
AreTooMany bytes r = (r.kind ≡ kind.TooManyScripts) × IsOneTooMany (sections_of bytes) r.place

abbrev pub IsNothing : List (List Token) → Refusal → Type 0
IsNothing lists r = (r.kind ≡ kind.NoScript) × (is_nothing lists ≡ true) × (r.place ≡ 0)

abbrev pub AreMisnamed : List Items → Refusal → Type 0
AreMisnamed scripts r = (found : Found) × (first_of_faults (faults_of_all scripts) ≡ Some found) × (r ≡ refusal_for found)

-- ---- the stages, the last one first

abbrev pub Named : Table → List Items → Answer → Type 0
Named texts scripts = Stage (AreMisnamed scripts) (λ (u : Unit {0}). faults_of_all scripts ≡ []) (λ u answer. answer ≡ Ok (scripts, texts))

abbrev pub Spelled : List (List Token) → Table → Answer → Type 0
Spelled lists texts = Stage (IsFirstMisspelled texts lists) (AreScripts texts lists) (Named texts)

abbrev pub Something : List (List Token) → Table → Answer → Type 0
Something lists texts = Stage (IsNothing lists) (λ (u : Unit {0}). is_nothing lists ≡ false) (λ u. Spelled lists texts)

abbrev pub Lexed : List ℕ → Answer → Type 0
Lexed bytes = Stage (IsFirstUnread [] (sections_of bytes)) (λ (p : List (List Token) × Table). AreRead [] (sections_of bytes) p.0 p.1) (λ p. Something p.0 p.1)

abbrev pub Cut : List ℕ → Answer → Type 0
Cut bytes = Stage (AreTooMany bytes) (λ (u : Unit {0}). length (sections_of bytes) ≤ MOST_SCRIPTS) (λ u. Lexed bytes)

-- the answer that the bytes have
abbrev pub Answers : List ℕ → Answer → Type 0
Answers bytes = Stage (IsNoText bytes) (λ (u : Unit {0}). IsUtf8 bytes) (λ u. Cut bytes)

-- ---- each stage decides

some-once : {A : Type 0} (x : Option A) (a b : A) → x ≡ Some a → x ≡ Some b → a ≡ b
some-once x a b e f = cc

first-of-none : (found : Found) → first_of_faults [] ≡ Some found → ⊥
first-of-none found e = absurd cc

named-decides : (scripts : List Items) → Decides (AreMisnamed scripts) (λ (u : Unit {0}). faults_of_all scripts ≡ [])
named-decides scripts = record {
  stops = λ q r h k. h.2 ∙ (ap refusal_for (some-once (first_of_faults (faults_of_all scripts)) h.0 k.0 h.1 k.1) ∙ sym k.2);
  goes = λ x y h k. refl;
  apart = λ r x h k. first-of-none h.0 (subst (λ v. first_of_faults v ≡ Some h.0) k h.1);
}

spelled-decides : (lists : List (List Token)) (texts : Table) → Decides (IsFirstMisspelled texts lists) (AreScripts texts lists)
spelled-decides lists texts = record {
  stops = first-once texts lists;
  goes = spelled-once texts lists;
  apart = λ r scripts h k. spelled-or-first texts lists scripts r k h;
}

something-decides : (lists : List (List Token)) → Decides (IsNothing lists) (λ (u : Unit {0}). is_nothing lists ≡ false)
something-decides lists = record {
  stops = λ q r h k. same-refusal q r (h.0 ∙ sym k.0) (h.2 ∙ sym k.2);
  goes = λ x y h k. refl;
  apart = λ r x h k. true≢false (sym h.1 ∙ k);
}

lexed-decides : (bytes : List ℕ) → Decides (IsFirstUnread [] (sections_of bytes)) (λ (p : List (List Token) × Table). AreRead [] (sections_of bytes) p.0 p.1)
lexed-decides bytes = record {
  stops = unread-once [] (sections_of bytes);
  goes = λ x y h k. let e = read-once [] (sections_of bytes) x.0 y.0 x.1 y.1 h k in ap (λ v. (v, x.1)) e.0 ∙ ap (λ v. (y.0, v)) e.1;
  apart = λ r p h k. read-or-unread [] (sections_of bytes) p.0 p.1 r k h;
}

too-many-once : (sections : List Section) (m n : ℕ) → IsOneTooMany sections m → IsOneTooMany sections n → m ≡ n
too-many-once sections m n h k = h.3 ∙ (ap end_of (some-once (slice_get sections (MOST_SCRIPTS - 1)) h.1 k.1 h.2 k.2) ∙ sym k.3)

few-or-many : (n : ℕ) → n ≤ MOST_SCRIPTS → MOST_SCRIPTS < n → ⊥
few-or-many n h k = omega (arith, h, k)

cut-decides : (bytes : List ℕ) → Decides (AreTooMany bytes) (λ (u : Unit {0}). length (sections_of bytes) ≤ MOST_SCRIPTS)
cut-decides bytes = record {
  stops = λ q r h k. same-refusal q r (h.0 ∙ sym k.0) (too-many-once (sections_of bytes) q.place r.place h.1 k.1);
  goes = λ x y h k. refl;
  apart = λ r x h k. few-or-many (length (sections_of bytes)) k h.1.0;
}

text-decides : (bytes : List ℕ) → Decides (IsNoText bytes) (λ (u : Unit {0}). IsUtf8 bytes)
text-decides bytes = record {
  stops = λ q r h k. same-refusal q r (h.0 ∙ sym k.0) (h.2 ∙ sym k.2);
  goes = λ x y h k. refl;
  apart = λ r x h k. h.1 k;
}

-- ---- so the answer is one

named-answer : (texts : Table) (scripts : List Items) → Once (Named texts scripts)
named-answer texts scripts = stage-once _ _ _ (named-decides scripts) (λ u a b h k. h ∙ sym k)

spelled-answer : (lists : List (List Token)) (texts : Table) → Once (Spelled lists texts)
spelled-answer lists texts = stage-once _ _ _ (spelled-decides lists texts) (named-answer texts)

something-answer : (lists : List (List Token)) (texts : Table) → Once (Something lists texts)
something-answer lists texts = stage-once _ _ _ (something-decides lists) (λ u. spelled-answer lists texts)

lexed-answer : (bytes : List ℕ) → Once (Lexed bytes)
lexed-answer bytes = stage-once _ _ _ (lexed-decides bytes) (λ p. something-answer p.0 p.1)

cut-answer : (bytes : List ℕ) → Once (Cut bytes)
cut-answer bytes = stage-once _ _ _ (cut-decides bytes) (λ u. lexed-answer bytes)

-- the bytes have one answer
pub answers-once : (bytes : List ℕ) → Once (Answers bytes)
answers-once bytes = stage-once _ _ _ (text-decides bytes) (λ u. cut-answer bytes)
