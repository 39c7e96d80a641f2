-- The tokens of a set parse as one tree for each script, or are refused in one way at one place.
use Rattle.std.proofs.Common.{◌≡◌, inl, inr, List, [], ◌∷◌, refl, sym, ◌∙◌, ap}
use Rattle.jo_value.specs.declared.limits.TheConstants.{MOST_OPEN}
use Rattle.jo_value.specs.Texts.{Table}
use Rattle.jo_lex.specs.declared.token.Token.{Token}
use Rattle.jo_lex.specs.declared.refusal.Refusal.{Refusal}
use Rattle.jo_parse_tree.specs.Trees.{Items}
use Rattle.jo_parse_grammar.specs.Statements.{IsScript}
use Rattle.jo_parse_grammar.specs.Refusals.{IsAccepted}
use Rattle.jo_parse_grammar.proofs.Exclusive.{refused-once, accepted-not-refused, accepted-once}
use Rattle.jo_parse_grammar.specs.Terminals.{terminals_of}
use Rattle.jo_parse_grammar.specs.TokenRefusals.{refusal_of}
use Rattle.jo_parse_grammar.specs.Sets.{AreScripts, IsMisspelled, IsFirstMisspelled}

-- ---- one script

spelled-or-misspelled : (texts : Table) (tokens : List Token) (script : Items) (r : Refusal) → IsAccepted IsScript MOST_OPEN (terminals_of texts tokens) script → IsMisspelled texts tokens r → ⊥
spelled-or-misspelled texts tokens script r h k = accepted-not-refused IsScript MOST_OPEN k.0 (terminals_of texts tokens) k.1 script h k.2

refusal-once : (texts : Table) (tokens : List Token) (q r : Refusal) → IsMisspelled texts tokens q → IsMisspelled texts tokens r → q ≡ r
refusal-once texts tokens q r h k =
    let ts = terminals_of texts tokens in
    let e = refused-once IsScript MOST_OPEN h.0 k.0 ts h.1 k.1 h.2 k.2 in
    h.3 ∙ (ap (λ v. refusal_of tokens ts v h.1) e.0 ∙ (ap (λ v. refusal_of tokens ts k.0 v) e.1 ∙ sym k.3))

-- ---- one script after another

pub spelled-once : (texts : Table) (lists : List (List Token)) (a b : List Items) → AreScripts texts lists a → AreScripts texts lists b → a ≡ b
spelled-once texts [] [] [] h k = refl
spelled-once texts [] [] (t ∷ b) h k = elim k [ ]
spelled-once texts [] (s ∷ a) b h k = elim h [ ]
spelled-once texts (l ∷ ls) [] b h k = elim h [ ]
spelled-once texts (l ∷ ls) (s ∷ a) [] h k = elim k [ ]
spelled-once texts (l ∷ ls) (s ∷ a) (t ∷ b) h k =
    let e = accepted-once IsScript MOST_OPEN (terminals_of texts l) s t h.0 k.0 in
    ap (λ v. v ∷ a) e ∙ ap (λ v. t ∷ v) (spelled-once texts ls a b h.1 k.1)

pub spelled-or-first : (texts : Table) (lists : List (List Token)) (a : List Items) (r : Refusal) → AreScripts texts lists a → IsFirstMisspelled texts lists r → ⊥
spelled-or-first texts [] a r h k = k
spelled-or-first texts (l ∷ ls) [] r h k = h
spelled-or-first texts (l ∷ ls) (s ∷ a) r h (inl k) = spelled-or-misspelled texts l s r h.0 k
spelled-or-first texts (l ∷ ls) (s ∷ a) r h (inr k) = spelled-or-first texts ls a r h.1 k.2

pub first-once : (texts : Table) (lists : List (List Token)) (q r : Refusal) → IsFirstMisspelled texts lists q → IsFirstMisspelled texts lists r → q ≡ r
first-once texts [] q r h k = elim h [ ]
first-once texts (l ∷ ls) q r (inl h) (inl k) = refusal-once texts l q r h k
first-once texts (l ∷ ls) q r (inl h) (inr k) = absurd (spelled-or-misspelled texts l k.0 q k.1 h)
first-once texts (l ∷ ls) q r (inr h) (inl k) = absurd (spelled-or-misspelled texts l h.0 r h.1 k)
first-once texts (l ∷ ls) q r (inr h) (inr k) = first-once texts ls q r h.2 k.2
