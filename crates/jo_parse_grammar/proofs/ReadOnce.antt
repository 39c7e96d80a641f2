-- The scripts of a set are read in one way: into one list of tokens each and one table, or refused in one way at one place.
use Rattle.std.proofs.Common.{◌≡◌, inl, inr, List, [], ◌∷◌, refl, sym, ◌∙◌, ap, subst}
use Rattle.jo_value.specs.Texts.{Table}
use Rattle.jo_lex.specs.declared.token.Token.{Token}
use Rattle.jo_lex.specs.declared.refusal.Refusal.{Refusal}
use Rattle.jo_lex.specs.declared.refusal.RefusalKind.{RefusalKind}
use Rattle.jo_lex.specs.Tokens.{Progress, Advance, ended, refused, onward, next, last, IsRead, StopsAt}
use Rattle.jo_parse_grammar.specs.Cuts.{Section}
use Rattle.jo_parse_grammar.specs.Sets.{begun, AreRead, IsFirstUnread}

-- ---- one script

tokens-once : (s : Progress) (a b : List Token) (x y : Table) → IsRead s a x → IsRead s b y → (a ≡ b) × (x ≡ y)
tokens-once s a b x y h k = (h.tokens_are ∙ sym k.tokens_are, h.table_is ∙ sym k.table_is)

ended≢refused : (n : Advance) (k : RefusalKind) → n ≡ ended → n ≡ refused k → ⊥
ended≢refused ended k e f = absurd cc
ended≢refused (refused j) k e f = absurd cc
ended≢refused (onward t) k e f = absurd cc

read-or-refused : (s : Progress) (a : List Token) (x : Table) (r : Refusal) (y : Table) → IsRead s a x → StopsAt s r y → ⊥
read-or-refused s a x r y h k = ended≢refused (next (last s)) r.kind h.ends k.kind_is

kinds-once : (n : Advance) (j k : RefusalKind) → n ≡ refused j → n ≡ refused k → j ≡ k
kinds-once n j k e f = cc

pub same-refusal : (r s : Refusal) → r.kind ≡ s.kind → r.place ≡ s.place → r ≡ s
same-refusal r s e f = ap (λ v. record { kind = v; place = r.place }) e ∙ ap (λ v. record { kind = s.kind; place = v }) f

refused-once : (s : Progress) (q r : Refusal) (x y : Table) → StopsAt s q x → StopsAt s r y → q ≡ r
refused-once s q r x y h k = same-refusal q r (kinds-once (next (last s)) q.kind r.kind h.kind_is k.kind_is) (h.place_is ∙ sym k.place_is)

-- ---- one script after another

pub read-once : (texts : Table) (sections : List Section) (a b : List (List Token)) (x y : Table) → AreRead texts sections a x → AreRead texts sections b y → (a ≡ b) × (x ≡ y)
read-once texts [] [] [] x y h k = (refl, h ∙ sym k)
read-once texts [] [] (t ∷ b) x y h k = elim k [ ]
read-once texts [] (t ∷ a) b x y h k = elim h [ ]
read-once texts (p ∷ ps) [] b x y h k = elim h [ ]
read-once texts (p ∷ ps) (t ∷ a) [] x y h k = elim k [ ]
read-once texts (p ∷ ps) (t ∷ a) (u ∷ b) x y h k =
    let e = tokens-once (begun texts p) t u h.0 k.0 h.1 k.1 in
    let f = read-once h.0 ps a b x y h.2 (subst (λ v. AreRead v ps b y) (sym e.1) k.2) in
    (ap (λ v. v ∷ a) e.0 ∙ ap (λ v. u ∷ v) f.0, f.1)

pub read-or-unread : (texts : Table) (sections : List Section) (a : List (List Token)) (x : Table) (r : Refusal) → AreRead texts sections a x → IsFirstUnread texts sections r → ⊥
read-or-unread texts [] a x r h k = k
read-or-unread texts (p ∷ ps) [] x r h k = h
read-or-unread texts (p ∷ ps) (t ∷ a) x r h (inl k) = read-or-refused (begun texts p) t h.0 r k.0 h.1 k.1
read-or-unread texts (p ∷ ps) (t ∷ a) x r h (inr k) =
    let e = tokens-once (begun texts p) t k.0 h.0 k.1 h.1 k.2 in
    read-or-unread h.0 ps a x r h.2 (subst (λ v. IsFirstUnread v ps r) (sym e.1) k.3)

pub unread-once : (texts : Table) (sections : List Section) (q r : Refusal) → IsFirstUnread texts sections q → IsFirstUnread texts sections r → q ≡ r
unread-once texts [] q r h k = elim h [ ]
unread-once texts (p ∷ ps) q r (inl h) (inl k) = refused-once (begun texts p) q r h.0 k.0 h.1 k.1
unread-once texts (p ∷ ps) q r (inl h) (inr k) = absurd (read-or-refused (begun texts p) k.0 k.1 q h.0 k.2 h.1)
unread-once texts (p ∷ ps) q r (inr h) (inl k) = absurd (read-or-refused (begun texts p) h.0 h.1 r k.0 h.2 k.1)
unread-once texts (p ∷ ps) q r (inr h) (inr k) =
    let e = tokens-once (begun texts p) h.0 k.0 h.1 k.1 h.2 k.2 in
    unread-once h.1 ps q r h.3 (subst (λ v. IsFirstUnread v ps r) (sym e.1) k.3)
