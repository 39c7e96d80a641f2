-- The operands of binary operators.
use Rattle.std.proofs.Common.{◌≡◌, ◌≢◌, ◌⊎◌, inl, inr, Bool, true, false, if◌then◌else◌, zero, suc, ℕ, ◌+◌, ◌≤◌, ◌<◌, List, [], ◌∷◌, ◌++◌, Ok, Err, refl, sym, ◌∙◌, ap, subst, append_assoc, arith, length}
use Rattle.jo_lex.specs.declared.punct.Punct.{Punct}
use Rattle.jo_lex.specs.declared.punct.Punct.TheVariants as p
use Rattle.jo_parse_tree.specs.declared.keyword.Keyword.{Keyword}
use Rattle.jo_parse_tree.specs.declared.keyword.Keyword.TheVariants as kw
use Rattle.jo_parse_tree.specs.declared.operator.UnaryOperator.{UnaryOperator}
use Rattle.jo_parse_tree.specs.declared.operator.UnaryOperator.TheVariants as u
use Rattle.jo_parse_grammar.specs.declared.terminal.Terminal.{Terminal}
use Rattle.jo_parse_grammar.specs.declared.terminal.Terminal.TheVariants as t
use Rattle.jo_parse_tree.specs.declared.word.Name.{Name}
use Rattle.jo_parse_tree.specs.Trees.{Tree, number, literal, constant, variable, group, object, cas, member, unary, delete, chain, choose, assign, Accesses, no_accesses, field, index}
use Rattle.jo_parse_grammar.specs.Operators.{unary_token, name_token, is_constant}
use Rattle.jo_parse_grammar.specs.Expressions.{Symbol, plain, punct, word, IsMember, MayStand, FitAccesses, comma_at_end, spelling, props, accesses, first}
use Rattle.jo_parse_grammar.specs.Refusals.{Language, terms, unexpected, too_deep}
use Rattle.jo_parse_grammar.specs.inner.Read.{Reading, Reader, and_then, peek, next, code, sees, open_at, name, rank, is_sign, sign_of, with_field, with_index, Below, cas_after, keyword_at, bracket_at, primary_at, primary, index_at, accesses_from, member_of, postfix, is_member, only_member, prefixed}
use Rattle.jo_parse_grammar.proofs.Outcome.{Stops, Whole, Outcome, bind, outcome-bind, outcome-choose, Any, nothing, outcome-pure, one, outcome-fail, outcome-branch, outcome-same, mapped, outcome-map, outcome-if, join, peek-cons, first-of, some-after, outcome-sees, opened-after, plain-after, outcome-enter, a_name, some_name, outcome-name}
use Rattle.jo_parse_grammar.proofs.Levels.{at, level_language, Above, ReadsAt, some_tree, outcome-below, outcome-weaken, nil-right, not-longer, bind-shorter, rank-small, rank-flag, links-level, MayStand-lower, MayStand-flag, at-lower, first-at}
use Rattle.jo_parse_grammar.proofs.Bracketed.{an_ended, some_ended, a_group, some_group, a_cas, some_cas, an_object, some_object, outcome-ended, outcome-group, outcome-cas, outcome-object}

-- ---- primary expressions

abbrev a_leaf : Tree → Terminal → Language Tree
a_leaf v c w m = (w ≡ v) × (m ≡ plain c ∷ [])

abbrev whole_group : ℕ → Language Tree
whole_group d = bind (one (t.Punct p.OpenParen) (d + 1)) (λ _. a_group (d + 1))

abbrev whole_object : ℕ → Language Tree
whole_object d = bind (one (t.Punct p.OpenBrace) (d + 1)) (λ _. an_object (d + 1))

abbrev cas_bracket : ℕ → Language Tree
cas_bracket d = bind (one (t.Punct p.OpenParen) (d + 1)) (λ _. a_cas (d + 1))

abbrev whole_cas : ℕ → Language Tree
whole_cas d = bind (one (t.Keyword kw.Cas) 0) (λ _. cas_bracket d)

-- the primary expressions that begin with a keyword, a bracket or any terminal
abbrev keyword_branch : ℕ → Keyword → Language Tree
keyword_branch d w v m = ((is_constant w ≡ true) × a_leaf (constant w) (t.Keyword w) v m) ⊎ ((w ≡ kw.Cas) × whole_cas d v m)

abbrev bracket_branch : ℕ → Punct → Language Tree
bracket_branch d p.OpenParen v m = whole_group d v m
bracket_branch d p.OpenBrace v m = whole_object d v m
bracket_branch d _ v m = ⊥

abbrev primary_branch : ℕ → Terminal → Language Tree
primary_branch d (t.Number i) v m = a_leaf (number i) (t.Number i) v m
primary_branch d (t.Text s) v m = a_leaf (literal s) (t.Text s) v m
primary_branch d (t.Ident x) v m = a_leaf (variable x) (t.Ident x) v m
primary_branch d (t.Keyword w) v m = keyword_branch d w v m
primary_branch d (t.Punct c) v m = bracket_branch d c v m
primary_branch d _ v m = ⊥

ended-join : (x : List Symbol) (c : Punct) {y y' : List Symbol} → y ≡ y' → (x ++ punct c ∷ []) ++ y ≡ x ++ punct c ∷ y'
ended-join x c {y} {y'} e = append_assoc x (punct c ∷ []) y ∙ ap (λ v. x ++ punct c ∷ v) e

abbrev cas_tokens : ℕ → Tree → Tree → Tree → Tree → List Symbol
cas_tokens d o k a b = spelling d o ++ punct p.Comma ∷ (spelling d k ++ punct p.Comma ∷ (spelling d a ++ punct p.Comma ∷ (spelling d b ++ punct p.CloseParen ∷ [])))

cas-from : (d : ℕ) (o k a b : Tree) → MayStand true 1 o × MayStand true 1 k × MayStand true 1 a × MayStand true 1 b → a_cas d (cas o k a b) (cas_tokens d o k a b)
cas-from d o k a b f =
    let fourth = spelling d b ++ punct p.CloseParen ∷ [] in
    let third = spelling d a ++ punct p.Comma ∷ fourth in
    let second = spelling d k ++ punct p.Comma ∷ third in (
      o,
      spelling d o ++ punct p.Comma ∷ [],
      second,
      (f.0, refl),
      (
        k,
        spelling d k ++ punct p.Comma ∷ [],
        third,
        (f.1, refl),
        (a, spelling d a ++ punct p.Comma ∷ [], fourth, (f.2, refl), (b, (f.3, refl), refl), sym (ended-join (spelling d a) p.Comma refl)),
        sym (ended-join (spelling d k) p.Comma refl),
      ),
      sym (ended-join (spelling d o) p.Comma refl),
    )

cas-to : (ins : Bool) (d : ℕ) (v : Tree) (m : List Symbol) → whole_cas d v m → at ins 11 d v m
cas-to ins d v m (u, x, y, l, (u', x', y', l', (o, x1, y1, e1, (k, x2, y2, e2, (a, x3, y3, e3, (b, e4, same), w3), w2), w1), w'), w) = (
  subst (λ z. MayStand ins 11 z) (sym same) (e1.0, e2.0, e3.0, e4.0),
  w ∙ join l (w' ∙ join l' (w1 ∙ join e1.1 (w2 ∙ join e2.1 (w3 ∙ join e3.1 e4.1)) ∙ ended-join (spelling (d + 1) o) p.Comma (ended-join (spelling (d + 1) k) p.Comma (ended-join (spelling (d + 1) a) p.Comma refl))))
      ∙ ap (λ z. spelling d z) (sym same),
)

primary-here : (ins : Bool) (d : ℕ) (v : Tree) (r : List Terminal) → MayStand ins 11 v → primary_branch d (peek (terms (spelling d v) ++ r)) v (spelling d v)
primary-here ins d (number i) r f = (refl, refl)
primary-here ins d (literal s) r f = (refl, refl)
primary-here ins d (constant w) r f = inl (f, (refl, refl))
primary-here ins d (variable x) r f = (refl, refl)
primary-here ins d (group e) r f = (tt, (t.Punct p.OpenParen, d + 1) ∷ [], spelling (d + 1) e ++ punct p.CloseParen ∷ [], refl, (e, (f, refl), refl), refl)
primary-here ins d (object ps comma) r f = (tt, (t.Punct p.OpenBrace, d + 1) ∷ [], props (d + 1) ps ++ (comma_at_end comma ++ punct p.CloseBrace ∷ []), refl, (ps, comma, f, refl, refl), refl)
primary-here ins d (cas o k a b) r f =
    inr (refl, (tt, word kw.Cas ∷ [], (t.Punct p.OpenParen, d + 1) ∷ cas_tokens (d + 1) o k a b, refl, (tt, (t.Punct p.OpenParen, d + 1) ∷ [], cas_tokens (d + 1) o k a b, refl, cas-from (d + 1) o k a b f, refl), refl))
primary-here ins d (member e xs) r f = absurd (omega (arith, f.0))
primary-here ins d (unary o e) r f = absurd (omega (arith, f.0))
primary-here ins d (delete e) r f = absurd (omega (arith, f.0))
primary-here ins d (chain k e ls) r f = let h = links-level ins k ls f.2 in absurd (omega (arith, f.0, h.1))
primary-here ins d (choose a b c) r f = absurd (omega (arith, f.0))
primary-here ins d (assign o a b) r f = absurd (omega (arith, f.0))

primary-split : (ins : Bool) (d : ℕ) (v : Tree) (m : List Symbol) (r : List Terminal) → at ins 11 d v m → primary_branch d (peek (terms m ++ r)) v m
primary-split ins d v m r k = subst (λ w. primary_branch d (peek (terms w ++ r)) v w) (sym k.1) (primary-here ins d v r k.0)

constant-to : (ins : Bool) (d : ℕ) (w : Keyword) (v : Tree) (m : List Symbol) → is_constant w ≡ true → a_leaf (constant w) (t.Keyword w) v m → at ins 11 d v m
constant-to ins d w v m h k = (subst (λ z. MayStand ins 11 z) (sym k.0) h, k.1 ∙ ap (λ z. spelling d z) (sym k.0))

bracket-to : (ins : Bool) (d : ℕ) (c : Punct) (v : Tree) (m : List Symbol) → bracket_branch d c v m → at ins 11 d v m
bracket-to ins d p.OpenParen v m (u, x, y, l, (e, k, same), f) = (subst (λ z. MayStand ins 11 z) (sym same) k.0, f ∙ join l k.1 ∙ ap (λ z. spelling d z) (sym same))
bracket-to ins d p.OpenBrace v m (u, x, y, l, (ps, comma, k, same, e), f) = (subst (λ z. MayStand ins 11 z) (sym same) k, f ∙ join l e ∙ ap (λ z. spelling d z) (sym same))
bracket-to ins d _ v m k = absurd k

primary-to : (ins : Bool) (d : ℕ) (c : Terminal) (v : Tree) (m : List Symbol) → primary_branch d c v m → at ins 11 d v m
primary-to ins d (t.Number i) v m k = (subst (λ z. MayStand ins 11 z) (sym k.0) tt, k.1 ∙ ap (λ z. spelling d z) (sym k.0))
primary-to ins d (t.Text s) v m k = (subst (λ z. MayStand ins 11 z) (sym k.0) tt, k.1 ∙ ap (λ z. spelling d z) (sym k.0))
primary-to ins d (t.Ident x) v m k = (subst (λ z. MayStand ins 11 z) (sym k.0) tt, k.1 ∙ ap (λ z. spelling d z) (sym k.0))
primary-to ins d (t.Keyword w) v m (inl k) = constant-to ins d w v m k.0 k.1
primary-to ins d (t.Keyword w) v m (inr k) = cas-to ins d v m k.1
primary-to ins d (t.Punct c) v m k = bracket-to ins d c v m k
primary-to ins d (t.Reserved x) v m k = absurd k
primary-to ins d t.End v m k = absurd k

-- ---- accesses

abbrev accesses_both : Accesses → Accesses → Accesses
accesses_both no_accesses ys = ys
accesses_both (field x xs) ys = field x (accesses_both xs ys)
accesses_both (index e xs) ys = index e (accesses_both xs ys)

accesses_both-none : (xs : Accesses) → accesses_both xs no_accesses ≡ xs
accesses_both-none no_accesses = refl
accesses_both-none (field x xs) = ap (λ v. field x v) (accesses_both-none xs)
accesses_both-none (index e xs) = ap (λ v. index e v) (accesses_both-none xs)

accesses_both-field : (xs ys : Accesses) (x : Name) → accesses_both (with_field xs x) ys ≡ accesses_both xs (field x ys)
accesses_both-field no_accesses ys x = refl
accesses_both-field (field y xs) ys x = ap (λ v. field y v) (accesses_both-field xs ys x)
accesses_both-field (index e xs) ys x = ap (λ v. index e v) (accesses_both-field xs ys x)

accesses_both-index : (xs ys : Accesses) (i : Tree) → accesses_both (with_index xs i) ys ≡ accesses_both xs (index i ys)
accesses_both-index no_accesses ys i = refl
accesses_both-index (field y xs) ys i = ap (λ v. field y v) (accesses_both-index xs ys i)
accesses_both-index (index e xs) ys i = ap (λ v. index e v) (accesses_both-index xs ys i)

-- the accesses after those that were read
abbrev some_more : ℕ → Accesses → Language Accesses
some_more d found xs m = (more : Accesses) × FitAccesses false more × (xs ≡ accesses_both found more) × (m ≡ accesses d more)

abbrev named_more : ℕ → Accesses → Language Accesses
named_more d found = bind a_name (λ x. some_more d (with_field found x))

abbrev a_field : ℕ → Accesses → Language Accesses
a_field d found = bind (one (t.Punct p.Dot) 0) (λ _. named_more d found)

abbrev a_bracket : ℕ → Language Tree
a_bracket d = bind (one (t.Punct p.OpenBracket) (d + 1)) (λ _. an_ended (d + 1) p.CloseBracket)

abbrev an_index : ℕ → Accesses → Language Accesses
an_index d found = bind (a_bracket d) (λ e. some_more d (with_index found e))

abbrev after_field : ℕ → Accesses → Language Accesses
after_field d found xs m = an_index d found xs m ⊎ nothing found xs m

bracket-first : (d : ℕ) (found xs : Accesses) (m : List Symbol) (r : List Terminal) → an_index d found xs m → peek (terms m ++ r) ≡ t.Punct p.OpenBracket
bracket-first d found xs m r (i, x, y, (u, x', y', l, k, e'), k', e) = ap (λ v. peek (terms v ++ r)) (e ∙ join (e' ∙ join l refl) refl)

accesses-split : (ins : Bool) (d : ℕ) (found xs : Accesses) (m : List Symbol) (r : List Terminal) → some_more d found xs m → rank ins (peek r) < 10
    → ((peek (terms m ++ r) ≡ t.Punct p.Dot) × a_field d found xs m) ⊎ ((peek (terms m ++ r) ≡ t.Punct p.Dot → ⊥) × after_field d found xs m)
accesses-split ins d found xs m r (no_accesses, f, g, e) s =
    inr (λ h. let a : rank ins (peek r) ≡ 10 = ap (λ v. rank ins (peek (terms v ++ r))) (sym e) ∙ ap (λ v. rank ins v) h in absurd (omega arith), inr (g ∙ accesses_both-none found, e))
accesses-split ins d found xs m r (field x more, f, g, e) s =
    inl (
      ap (λ v. peek (terms v ++ r)) e,
      (tt, punct p.Dot ∷ [], plain (name_token x) ∷ accesses d more, refl, (x, plain (name_token x) ∷ [], accesses d more, refl, (more, f, g ∙ sym (accesses_both-field found more x), refl), refl), e),
    )
accesses-split ins d found xs m r (index i more, f, g, e) s =
    let key = spelling (d + 1) i ++ punct p.CloseBracket ∷ [] in
    inr (
      λ h. let a : t.Punct p.OpenBracket ≡ t.Punct p.Dot = ap (λ v. peek (terms v ++ r)) (sym e) ∙ h in cc,
      inl (
        i,
        (t.Punct p.OpenBracket, d + 1) ∷ key,
        accesses d more,
        (tt, (t.Punct p.OpenBracket, d + 1) ∷ [], key, refl, (f.0, refl), refl),
        (more, f.1, g ∙ sym (accesses_both-index found more i), refl),
        e ∙ ap (λ v. (t.Punct p.OpenBracket, d + 1) ∷ v) (sym (ended-join (spelling (d + 1) i) p.CloseBracket refl)),
      ),
    )

field-to : (d : ℕ) (found xs : Accesses) (m : List Symbol) → a_field d found xs m → some_more d found xs m
field-to d found xs m (u, x, y, l, (i, x', y', l', (more, f, g, w), e'), e) = (field i more, f, g ∙ accesses_both-field found more i, e ∙ join l (e' ∙ join l' w))

index-to : (d : ℕ) (found xs : Accesses) (m : List Symbol) → after_field d found xs m → some_more d found xs m
index-to d found xs m (inl (i, x, y, (u, x', y', l, k, e'), (more, f, g, w), e)) = (
  index i more,
  (k.0, f),
  g ∙ accesses_both-index found more i,
  e ∙ join (e' ∙ join l k.1) w ∙ ap (λ v. (t.Punct p.OpenBracket, d + 1) ∷ v) (ended-join (spelling (d + 1) i) p.CloseBracket refl),
)
index-to d found xs m (inr k) = (no_accesses, refl, k.0 ∙ sym (accesses_both-none found), k.1)

any_more : (d : ℕ) (found : Accesses) → (xs : Accesses) × (m : List Symbol) × some_more d found xs m
any_more d found = (found, [], (no_accesses, refl, sym (accesses_both-none found), refl))

-- ---- postfix expressions

abbrev postfix_parts : Bool → ℕ → Language Tree
postfix_parts ins d = bind (at ins 11 d) (λ e. mapped (member_of e) (some_more d no_accesses))

postfix-to : (ins : Bool) (d : ℕ) (v : Tree) (m : List Symbol) → postfix_parts ins d v m → at ins 10 d v m
postfix-to ins d v m (e, x, y, k, (xs, (no_accesses, f, g, w), h), i) =
    let same : v ≡ e = h ∙ ap (λ z. member_of e z) g in
    (subst (λ z. MayStand ins 10 z) (sym same) (MayStand-lower ins 10 11 e (omega arith) k.0), i ∙ join k.1 w ∙ nil-right (spelling d e) ∙ ap (λ z. spelling d z) (sym same))
postfix-to ins d v m (e, x, y, k, (xs, (field j more, f, g, w), h), i) =
    let same : v ≡ member e (field j more) = h ∙ ap (λ z. member_of e z) g in
    (subst (λ z. MayStand ins 10 z) (sym same) (omega arith, k.0, f), i ∙ join k.1 w ∙ ap (λ z. spelling d z) (sym same))
postfix-to ins d v m (e, x, y, k, (xs, (index j more, f, g, w), h), i) =
    let same : v ≡ member e (index j more) = h ∙ ap (λ z. member_of e z) g in
    (subst (λ z. MayStand ins 10 z) (sym same) (omega arith, k.0, f), i ∙ join k.1 w ∙ ap (λ z. spelling d z) (sym same))

postfix-alone : (ins : Bool) (d : ℕ) (v : Tree) (m : List Symbol) → at ins 11 d v m → postfix_parts ins d v m
postfix-alone ins d v m k = (v, m, [], k, (no_accesses, (no_accesses, refl, refl, refl), refl), sym (nil-right m))

postfix-from : (ins : Bool) (d : ℕ) (v : Tree) (m : List Symbol) → at ins 10 d v m → postfix_parts ins d v m
postfix-from ins d (number i) m k = postfix-alone ins d (number i) m k
postfix-from ins d (literal s) m k = postfix-alone ins d (literal s) m k
postfix-from ins d (constant w) m k = postfix-alone ins d (constant w) m k
postfix-from ins d (variable x) m k = postfix-alone ins d (variable x) m k
postfix-from ins d (group e) m k = postfix-alone ins d (group e) m k
postfix-from ins d (object ps comma) m k = postfix-alone ins d (object ps comma) m k
postfix-from ins d (cas o i a b) m k = postfix-alone ins d (cas o i a b) m k
postfix-from ins d (member e no_accesses) m k = let h = k.0.2 in cc
postfix-from ins d (member e (field x xs)) m k = (e, spelling d e, accesses d (field x xs), (k.0.1, refl), (field x xs, (field x xs, k.0.2, refl, refl), refl), k.1)
postfix-from ins d (member e (index i xs)) m k = (e, spelling d e, accesses d (index i xs), (k.0.1, refl), (index i xs, (index i xs, k.0.2, refl, refl), refl), k.1)
postfix-from ins d (unary o e) m k = absurd (omega (arith, k.0.0))
postfix-from ins d (delete e) m k = absurd (omega (arith, k.0.0))
postfix-from ins d (chain j e ls) m k = let h = links-level ins j ls k.0.2 in absurd (omega (arith, k.0.0, h.1))
postfix-from ins d (choose a b c) m k = absurd (omega (arith, k.0.0))
postfix-from ins d (assign o a b) m k = absurd (omega (arith, k.0.0))

-- no postfix expression begins with an operator
postfix-sign : (ins : Bool) (e : Tree) → MayStand ins 10 e → is_sign (first e) ≡ false
postfix-sign ins (number i) f = refl
postfix-sign ins (literal s) f = refl
postfix-sign ins (constant w) f = refl
postfix-sign ins (variable x) f = refl
postfix-sign ins (group e) f = refl
postfix-sign ins (object ps comma) f = refl
postfix-sign ins (cas o k a b) f = refl
postfix-sign ins (member e xs) f = postfix-sign ins e (MayStand-lower ins 10 11 e (omega arith) f.1)
postfix-sign ins (unary o e) f = absurd (omega (arith, f.0))
postfix-sign ins (delete e) f = absurd (omega (arith, f.0))
postfix-sign ins (chain k e ls) f = let h = links-level ins k ls f.2 in absurd (omega (arith, f.0, h.1))
postfix-sign ins (choose a b c) f = absurd (omega (arith, f.0))
postfix-sign ins (assign o a b) f = absurd (omega (arith, f.0))

not-delete : (w : Keyword) → is_constant w ≡ true → t.Keyword w ≡ t.Keyword kw.Delete → ⊥
not-delete w f h = let g : w ≡ kw.Delete = cc in let e : is_constant kw.Delete ≡ true = subst (λ v. is_constant v ≡ true) g f in cc

postfix-delete : (ins : Bool) (e : Tree) → MayStand ins 10 e → first e ≡ t.Keyword kw.Delete → ⊥
postfix-delete ins (number i) f h = cc
postfix-delete ins (literal s) f h = cc
postfix-delete ins (constant w) f h = not-delete w f h
postfix-delete ins (variable x) f h = cc
postfix-delete ins (group e) f h = cc
postfix-delete ins (object ps comma) f h = cc
postfix-delete ins (cas o k a b) f h = cc
postfix-delete ins (member e xs) f h = postfix-delete ins e (MayStand-lower ins 10 11 e (omega arith) f.1) h
postfix-delete ins (unary o e) f h = absurd (omega (arith, f.0))
postfix-delete ins (delete e) f h = absurd (omega (arith, f.0))
postfix-delete ins (chain k e ls) f h = let g = links-level ins k ls f.2 in absurd (omega (arith, f.0, g.1))
postfix-delete ins (choose a b c) f h = absurd (omega (arith, f.0))
postfix-delete ins (assign o a b) f h = absurd (omega (arith, f.0))

-- ---- operators before an operand

abbrev signed : ℕ → UnaryOperator → Language Tree
signed d o = mapped (unary o) (at true 9 (d + 1))

abbrev a_sign : ℕ → Terminal → Language Tree
a_sign d c = bind (one c (d + 1)) (λ _. signed d (sign_of c))

abbrev deleted : ℕ → Language Tree
deleted d = mapped delete (level_language true 10 (d + 1))

abbrev a_delete : ℕ → Language Tree
a_delete d = bind (one (t.Keyword kw.Delete) (d + 1)) (λ _. deleted d)

-- what begins with no sign
abbrev unsigned : Bool → ℕ → Language Tree
unsigned ins d v m = a_delete d v m ⊎ at ins 10 d v m

sign-true : (o : UnaryOperator) → is_sign (unary_token o) ≡ true
sign-true u.Minus = refl
sign-true u.Not = refl

sign-again : (o : UnaryOperator) → sign_of (unary_token o) ≡ o
sign-again u.Minus = refl
sign-again u.Not = refl

sign-token : (c : Terminal) → is_sign c ≡ true → unary_token (sign_of c) ≡ c
sign-token (t.Punct p.Minus) h = refl
sign-token (t.Punct p.Bang) h = refl
sign-token (t.Punct _) h = cc
sign-token (t.Ident x) h = cc
sign-token (t.Keyword w) h = cc
sign-token (t.Reserved x) h = cc
sign-token (t.Number i) h = cc
sign-token (t.Text s) h = cc
sign-token t.End h = cc

sign-cons : (ts : List Terminal) → is_sign (peek ts) ≡ true → ts ≡ peek ts ∷ next ts
sign-cons [] h = cc
sign-cons (c ∷ r) h = refl

-- the kinds of operands, by the terminal that stands first
abbrev Kinds : Bool → ℕ → Tree → List Symbol → Terminal → Type 0
Kinds ins d v m c = ((is_sign c ≡ true) × a_sign d c v m) ⊎ ((is_sign c ≡ false) × unsigned ins d v m)

kinds-postfix : (ins : Bool) (d : ℕ) (v : Tree) (m : List Symbol) (r : List Terminal) → at ins 10 d v m → Kinds ins d v m (peek (terms m ++ r))
kinds-postfix ins d v m r k = inr (ap is_sign (first-at ins 10 d v m r k) ∙ postfix-sign ins v k.0, inr k)

kinds-sign : (ins : Bool) (d : ℕ) (o : UnaryOperator) (e : Tree) (m : List Symbol) (r : List Terminal) → at ins 9 d (unary o e) m → Kinds ins d (unary o e) m (peek (terms m ++ r))
kinds-sign ins d o e m r k =
    let here : peek (terms m ++ r) ≡ unary_token o = ap (λ v. peek (terms v ++ r)) k.1 in
    inl (
      ap is_sign here ∙ sign-true o,
      subst (λ c. a_sign d c (unary o e) m) (sym here)
          (tt, (unary_token o, d + 1) ∷ [], spelling (d + 1) e, refl, (e, (MayStand-flag ins true 9 e (omega arith) k.0.1, refl), ap (λ v. unary v e) (sym (sign-again o))), k.1),
    )

kinds-delete : (ins : Bool) (d : ℕ) (e : Tree) (m : List Symbol) (r : List Terminal) → at ins 9 d (delete e) m → Kinds ins d (delete e) m (peek (terms m ++ r))
kinds-delete ins d e m r k =
    inr (
      ap (λ v. is_sign (peek (terms v ++ r))) k.1,
      inl (tt, (t.Keyword kw.Delete, d + 1) ∷ [], spelling (d + 1) e, refl, (e, (λ _. k.0.1, (MayStand-flag ins true 10 e (omega arith) k.0.2, refl)), refl), k.1),
    )

kinds : (ins : Bool) (d : ℕ) (v : Tree) (m : List Symbol) (r : List Terminal) → at ins 9 d v m → Kinds ins d v m (peek (terms m ++ r))
kinds ins d (number i) m r k = kinds-postfix ins d (number i) m r k
kinds ins d (literal s) m r k = kinds-postfix ins d (literal s) m r k
kinds ins d (constant w) m r k = kinds-postfix ins d (constant w) m r k
kinds ins d (variable x) m r k = kinds-postfix ins d (variable x) m r k
kinds ins d (group e) m r k = kinds-postfix ins d (group e) m r k
kinds ins d (object ps comma) m r k = kinds-postfix ins d (object ps comma) m r k
kinds ins d (cas o i a b) m r k = kinds-postfix ins d (cas o i a b) m r k
kinds ins d (member e xs) m r k = kinds-postfix ins d (member e xs) m r ((omega arith, k.0.1, k.0.2), k.1)
kinds ins d (unary o e) m r k = kinds-sign ins d o e m r k
kinds ins d (delete e) m r k = kinds-delete ins d e m r k
kinds ins d (chain j e ls) m r k = let h = links-level ins j ls k.0.2 in absurd (omega (arith, k.0.0, h.1))
kinds ins d (choose a b c) m r k = absurd (omega (arith, k.0.0))
kinds ins d (assign o a b) m r k = absurd (omega (arith, k.0.0))

sign-to : (ins : Bool) (d : ℕ) (c : Terminal) → is_sign c ≡ true → (v : Tree) (m : List Symbol) → a_sign d c v m → at ins 9 d v m
sign-to ins d c h v m (i, x, y, l, (e, k, same), f) = (
  subst (λ z. MayStand ins 9 z) (sym same) (omega arith, MayStand-flag true ins 9 e (omega arith) k.0),
  f ∙ join l k.1 ∙ ap (λ z. (z, d + 1) ∷ spelling (d + 1) e) (sym (sign-token c h)) ∙ ap (λ z. spelling d z) (sym same),
)

unsigned-to : (ins : Bool) (d : ℕ) (v : Tree) (m : List Symbol) → unsigned ins d v m → at ins 9 d v m
unsigned-to ins d v m (inl (i, x, y, l, (e, k, same), f)) =
    (subst (λ z. MayStand ins 9 z) (sym same) (omega arith, k.0 refl, MayStand-flag true ins 10 e (omega arith) k.1.0), f ∙ join l k.1.1 ∙ ap (λ z. spelling d z) (sym same))
unsigned-to ins d v m (inr k) = at-lower ins 9 10 d v m (omega arith) k

-- a property that a postfix expression is, or that begins with it
longer : (ins : Bool) (d : ℕ) (e : Tree) (m : List Symbol) → at ins 11 d e m → (v : Tree) × (y : List Symbol) × level_language ins 10 d v (m ++ y)
longer ins d e m k =
    let xs = field some_name no_accesses in
    (member e xs, accesses d xs, (λ _. tt, ((omega arith, k.0, refl), ap (λ v. v ++ accesses d xs) k.1)))

longer-member : (ins : Bool) (d : ℕ) (e : Tree) (m : List Symbol) → at ins 10 d e m → (v : Tree) × (y : List Symbol) × level_language ins 10 d v (m ++ y)
longer-member ins d (number i) m k = longer ins d (number i) m k
longer-member ins d (literal s) m k = longer ins d (literal s) m k
longer-member ins d (constant w) m k = longer ins d (constant w) m k
longer-member ins d (variable x) m k = longer ins d (variable x) m k
longer-member ins d (group e) m k = longer ins d (group e) m k
longer-member ins d (object ps comma) m k = longer ins d (object ps comma) m k
longer-member ins d (cas o i a b) m k = longer ins d (cas o i a b) m k
longer-member ins d (member e xs) m k = (member e xs, [], (λ _. tt, (k.0, nil-right m ∙ k.1)))
longer-member ins d (unary o e) m k = absurd (omega (arith, k.0.0))
longer-member ins d (delete e) m k = absurd (omega (arith, k.0.0))
longer-member ins d (chain j e ls) m k = let h = links-level ins j ls k.0.2 in absurd (omega (arith, k.0.0, h.1))
longer-member ins d (choose a b c) m k = absurd (omega (arith, k.0.0))
longer-member ins d (assign o a b) m k = absurd (omega (arith, k.0.0))

member-true : (e : Tree) → is_member e ≡ true → IsMember e
member-true (member e xs) h = tt
member-true (number i) h = cc
member-true (literal s) h = cc
member-true (constant w) h = cc
member-true (variable x) h = cc
member-true (group e) h = cc
member-true (object ps comma) h = cc
member-true (cas o k a b) h = cc
member-true (unary o e) h = cc
member-true (delete e) h = cc
member-true (chain k e ls) h = cc
member-true (choose a b c) h = cc
member-true (assign o a b) h = cc

true-member : (e : Tree) → IsMember e → is_member e ≡ true
true-member (member e xs) h = refl
true-member (number i) h = absurd h
true-member (literal s) h = absurd h
true-member (constant w) h = absurd h
true-member (variable x) h = absurd h
true-member (group e) h = absurd h
true-member (object ps comma) h = absurd h
true-member (cas o k a b) h = absurd h
true-member (unary o e) h = absurd h
true-member (delete e) h = absurd h
true-member (chain k e ls) h = absurd h
true-member (choose a b c) h = absurd h
true-member (assign o a b) h = absurd h

-- ---- some of the values that are read, where each can be continued to one of them

module _ {A : Type 0} (L L' : Language A) (S G : Stops A) (limit : ℕ) (ts : List Terminal) (test : A → Bool)
    (sub : (a : A) (m : List Symbol) → L' a m → L a m) (pass : (a : A) (m : List Symbol) → L a m → test a ≡ true → L' a m) (only_pass : (a : A) (m : List Symbol) → L' a m → test a ≡ true)
    (more : (a : A) (m : List Symbol) → L a m → (b : A) × (y : List Symbol) × L' b (m ++ y)) where
  narrow-by : (a : A) (r : List Terminal) → Whole L S G limit ts a r → (b : Bool) → test a ≡ b → Outcome L' S G limit ts (if b then Ok (a, r) else Err (unexpected, r))
  narrow-by a r h true e = record { word = h.word; spelled = pass a h.word h.spelled e; front = h.front; within = h.within; stops = h.stops; only = λ a' m r' r'' same k s f. h.only a' m r' r'' same (sub a' m k) s f }
  narrow-by a r h false e = record {
    word = h.word;
    front = h.front;
    within = h.within;
    live = let b = more a h.word h.spelled in (b.0, h.word ++ b.1, b.1, b.2, refl);
    dead = λ a' m r' r'' same k s f.
        let o = h.only a' m r' r'' same (sub a' m k) s f in
        let g : test a ≡ true = ap test (sym o.0) ∙ only_pass a' m k in cc;
  }

  outcome-narrow : (res : Reading A) → Outcome L S G limit ts res → Outcome L' S G limit ts (and_then res (λ a r. if test a then Ok (a, r) else Err (unexpected, r)))
  outcome-narrow (Ok x) h = narrow-by x.0 x.1 h (test x.0) refl
  outcome-narrow (Err (unexpected, r)) h = record {
    word = h.word;
    front = h.front;
    within = h.within;
    live = let b = more h.live.0 h.live.1 h.live.3 in (b.0, h.live.1 ++ b.1, h.live.2 ++ b.1, b.2, ap (λ v. v ++ b.1) h.live.4 ∙ append_assoc h.word h.live.2 b.1);
    dead = λ a' m r' r'' same k s f. h.dead a' m r' r'' same (sub a' m k) s f;
  }
  outcome-narrow (Err (too_deep, [])) h = h
  outcome-narrow (Err (too_deep, c ∷ r)) h = record {
    word = h.word;
    front = h.front;
    within = h.within;
    opens = h.opens;
    above = h.above;
    live = let b = more h.live.0 h.live.1 h.live.3 in (b.0, h.live.1 ++ b.1, h.live.2 ++ b.1, b.2, ap (λ v. v ++ b.1) h.live.4 ∙ append_assoc h.word ((c, h.opens) ∷ h.live.2) b.1);
    forced = λ a' m r' r'' same k s f. h.forced a' m r' r'' same (sub a' m k) s f;
  }

-- ---- readers, where d constructs are open and there is room for some more

module _ (limit d room : ℕ) (sum : d + room ≡ limit) (below : Below) (ih : 0 < room → ReadsAt limit (d + 1) below) (ins : Bool) where
  outcome-leaf : (v : Tree) (c : Terminal) (ts : List Terminal) → code c ≢ 4 → peek ts ≡ c → Outcome (a_leaf v c) (Above ins 11) Any limit ts (Ok (v, next ts))
  outcome-leaf v c ts h e = record { word = plain c ∷ []; spelled = (refl, refl); front = peek-cons c ts h e; within = (omega arith, tt); stops = tt; only = λ a' m r' r'' same k s f. k }

  outcome-constant : (w : Keyword) (ts : List Terminal) → (w ≡ kw.Cas → ⊥) → peek ts ≡ t.Keyword w
      → Outcome (at ins 11 d) (Above ins 11) Any limit ts (if is_constant w then Ok (constant w, next ts) else Err (unexpected, ts))
  outcome-constant w ts other e =
      outcome-if (at ins 11 d) (Above ins 11) Any limit ts (is_constant w) _ _
      (λ h. outcome-choose (a_leaf (constant w) (t.Keyword w)) (at ins 11 d) (Above ins 11) (Above ins 11) Any Any limit ts (λ v m k. constant-to ins d w v m h k) (λ _ _ _ _ g. g)
      (λ v m r k s f. elim (subst (λ c. primary_branch d c v m) (f ∙ e) (primary-split ins d v m r k)) [ inl g ↦ (g.1, s) | inr g ↦ absurd (other g.0) ])
      (Ok (constant w, next ts)) (outcome-leaf (constant w) (t.Keyword w) ts (λ f. omega arith) e))
      (λ h. outcome-fail (at ins 11 d) (Above ins 11) Any limit ts (some_tree ins 11 d)
      (λ v m r k s f. elim (subst (λ c. primary_branch d c v m) (f ∙ e) (primary-split ins d v m r k)) [ inl g ↦ let z = g.0 in cc | inr g ↦ other g.0 ]))

  -- a primary expression by the terminal that it begins with
  outcome-first : (c : Terminal) (ts : List Terminal) (res : Reading Tree) → peek ts ≡ c → Outcome (primary_branch d c) (Above ins 11) Any limit ts res → Outcome (at ins 11 d) (Above ins 11) Any limit ts res
  outcome-first c ts res e h = outcome-branch (primary_branch d) (at ins 11 d) (Above ins 11) Any limit ts c e (primary-to ins d c) (λ v m r k s. primary-split ins d v m r k) res h

  outcome-keyword : (w : Keyword) (ts : List Terminal) → peek ts ≡ t.Keyword w → Outcome (at ins 11 d) (Above ins 11) Any limit ts (keyword_at room below w ts)
  outcome-keyword kw.Cas ts e =
      outcome-first (t.Keyword kw.Cas) ts _ e
      (outcome-choose (whole_cas d) (primary_branch d (t.Keyword kw.Cas)) Any (Above ins 11) Any Any limit ts (λ _ _ k. inr (refl, k)) (λ _ _ _ _ g. g)
      (λ v m r k s f. (elim k [ inl g ↦ let z = g.0 in cc | inr g ↦ g.1 ], tt)) _
      (plain-after (t.Keyword kw.Cas) d room limit ts (cas_bracket d) Any Any _ (peek-cons (t.Keyword kw.Cas) ts (λ f. omega arith) e) (some-after (t.Punct p.OpenParen) (d + 1) (a_cas (d + 1)) (some_cas (d + 1)))
      (outcome-enter (t.Punct p.OpenParen) d room limit (next ts) (a_cas (d + 1)) Any Any (λ _ r. cas_after below r) (omega arith) sum (some_cas (d + 1))
      (λ inner de. outcome-cas limit (d + 1) below (ih (omega arith)) (next (next ts))))))
  outcome-keyword w ts e = outcome-constant w ts (λ f. cc) e

  outcome-bracket : (c : Punct) (ts : List Terminal) → peek ts ≡ t.Punct c → Outcome (at ins 11 d) (Above ins 11) Any limit ts (bracket_at room below c ts)
  outcome-bracket p.OpenParen ts e =
      outcome-first (t.Punct p.OpenParen) ts _ e
      (outcome-weaken (whole_group d) (Above ins 11) limit ts _
      (opened-after (t.Punct p.OpenParen) d room limit ts (a_group (d + 1)) Any Any _ (peek-cons (t.Punct p.OpenParen) ts (λ f. omega arith) e) sum (some_group (d + 1))
      (λ pos. outcome-group limit (d + 1) below (ih pos) (next ts))))
  outcome-bracket p.OpenBrace ts e =
      outcome-first (t.Punct p.OpenBrace) ts _ e
      (outcome-weaken (whole_object d) (Above ins 11) limit ts _
      (opened-after (t.Punct p.OpenBrace) d room limit ts (an_object (d + 1)) Any Any _ (peek-cons (t.Punct p.OpenBrace) ts (λ f. omega arith) e) sum (some_object (d + 1))
      (λ pos. outcome-object limit (d + 1) below (ih pos) (next ts))))
  outcome-bracket c ts e = outcome-fail (at ins 11 d) (Above ins 11) Any limit ts (some_tree ins 11 d) (λ v m r k s f. subst (λ z. primary_branch d z v m) (f ∙ e) (primary-split ins d v m r k))

  outcome-primary-at : (c : Terminal) (ts : List Terminal) → peek ts ≡ c → Outcome (at ins 11 d) (Above ins 11) Any limit ts (primary_at room below c ts)
  outcome-primary-at (t.Number i) ts e = outcome-first (t.Number i) ts (Ok (number i, next ts)) e (outcome-leaf (number i) (t.Number i) ts (λ f. omega arith) e)
  outcome-primary-at (t.Text s) ts e = outcome-first (t.Text s) ts (Ok (literal s, next ts)) e (outcome-leaf (literal s) (t.Text s) ts (λ f. omega arith) e)
  outcome-primary-at (t.Ident x) ts e = outcome-first (t.Ident x) ts (Ok (variable x, next ts)) e (outcome-leaf (variable x) (t.Ident x) ts (λ f. omega arith) e)
  outcome-primary-at (t.Keyword w) ts e = outcome-keyword w ts e
  outcome-primary-at (t.Punct c) ts e = outcome-bracket c ts e
  outcome-primary-at (t.Reserved x) ts e = outcome-fail (at ins 11 d) (Above ins 11) Any limit ts (some_tree ins 11 d) (λ v m r k s f. subst (λ z. primary_branch d z v m) (f ∙ e) (primary-split ins d v m r k))
  outcome-primary-at t.End ts e = outcome-fail (at ins 11 d) (Above ins 11) Any limit ts (some_tree ins 11 d) (λ v m r k s f. subst (λ z. primary_branch d z v m) (f ∙ e) (primary-split ins d v m r k))

  pub outcome-primary : (ts : List Terminal) → Outcome (at ins 11 d) (Above ins 11) Any limit ts (primary room below ts)
  unfolding primary
  outcome-primary ts = outcome-primary-at (peek ts) ts refl

  outcome-index : (ts : List Terminal) → ts ≡ t.Punct p.OpenBracket ∷ next ts → Outcome (a_bracket d) Any Any limit ts (index_at room below ts)
  unfolding index_at
  outcome-index ts e =
      opened-after (t.Punct p.OpenBracket) d room limit ts (an_ended (d + 1) p.CloseBracket) Any Any _ e sum (some_ended (d + 1) p.CloseBracket)
      (λ pos. outcome-ended limit (d + 1) below (ih pos) p.CloseBracket refl (next ts))

  -- nothing more
  outcome-last : (found : Accesses) (ts : List Terminal) → Outcome (nothing found) (Above ins 10) Any limit ts (Ok (found, ts))
  outcome-last found ts = outcome-pure found (Above ins 10) Any limit ts tt

  outcome-named : (found : Accesses) (ts : List Terminal) (f : Name → Reader Accesses)
      → ((x : Name) (r : List Terminal) → length r ≤ length ts → Outcome (some_more d (with_field found x)) (Above ins 10) Any limit r (f x r))
      → Outcome (named_more d found) (Above ins 10) Any limit ts (and_then (name ts) f)
  outcome-named found ts f more =
      outcome-bind a_name Any Any (λ x. some_more d (with_field found x)) (Above ins 10) Any limit (λ _ _ _ _ _ _ _ _. tt) (λ x _ _. any_more d (with_field found x)) ts (name ts) f (outcome-name limit ts)
      (λ x y r l g front. more x r (not-longer ts r y front))

  outcome-indexed : (found : Accesses) (ts : List Terminal) (f : Tree → Reader Accesses) → ts ≡ t.Punct p.OpenBracket ∷ next ts
      → ((e : Tree) (r : List Terminal) → length r < length ts → Outcome (some_more d (with_index found e)) (Above ins 10) Any limit r (f e r))
      → Outcome (an_index d found) (Above ins 10) Any limit ts (and_then (index_at room below ts) f)
  outcome-indexed found ts f e more =
      outcome-bind (a_bracket d) Any Any (λ i. some_more d (with_index found i)) (Above ins 10) Any limit (λ _ _ _ _ _ _ _ _. tt) (λ i _ _. any_more d (with_index found i)) ts (index_at room below ts) f (outcome-index ts e)
      (λ i y r l g front. more i r (bind-shorter (t.Punct p.OpenBracket) (d + 1) (an_ended (d + 1) p.CloseBracket) i ts r y l front))

  after-field-split : (found xs : Accesses) (m : List Symbol) (r : List Terminal) → after_field d found xs m → rank ins (peek r) < 10
      → ((peek (terms m ++ r) ≡ t.Punct p.OpenBracket) × an_index d found xs m) ⊎ ((peek (terms m ++ r) ≡ t.Punct p.OpenBracket → ⊥) × nothing found xs m)
  after-field-split found xs m r (inl k) s = inl (bracket-first d found xs m r k, k)
  after-field-split found xs m r (inr k) s = inr (λ h. let a : rank ins (peek r) ≡ 10 = ap (λ v. rank ins (peek (terms v ++ r))) (sym k.1) ∙ ap (λ c. rank ins c) h in absurd (omega arith), k)

  outcome-accesses : (i : ℕ) (found : Accesses) (ts : List Terminal) → length ts ≤ i → Outcome (some_more d found) (Above ins 10) Any limit ts (accesses_from room below i found ts)
  unfolding accesses_from
  outcome-accesses zero found [] h =
      outcome-choose (nothing found) (some_more d found) (Above ins 10) (Above ins 10) Any Any limit [] (λ xs m k. index-to d found xs m (inr k)) (λ _ _ _ _ _. tt)
      (λ xs m r k s e. elim (accesses-split ins d found xs m r k s) [
        | inl f ↦ let g : t.Punct p.Dot ≡ t.End = sym f.0 ∙ e in cc
        | inr f ↦ elim f.1 [ inl g ↦ let z : t.Punct p.OpenBracket ≡ t.End = sym (bracket-first d found xs m r g) ∙ e in cc | inr g ↦ (g, s) ]
      ])
      (Ok (found, [])) (outcome-last found [])
  outcome-accesses zero found (c ∷ r) h = absurd (omega arith)
  outcome-accesses (suc i) found ts h =
      outcome-sees (t.Punct p.Dot) (some_more d found) (a_field d found) (after_field d found) (Above ins 10) Any limit ts _ _ (omega arith)
      (field-to d found) (index-to d found) (λ xs m r k s. accesses-split ins d found xs m r k s)
      (λ e. let long : length ts ≡ suc (length (next ts)) = ap length e in
      plain-after (t.Punct p.Dot) d room limit ts (named_more d found) (Above ins 10) Any _ e
      (let k = any_more d (with_field found some_name) in (k.0, plain (name_token some_name) ∷ k.1, (some_name, plain (name_token some_name) ∷ [], k.1, refl, k.2, refl)))
      (outcome-named found (next ts) _ (λ x r short. outcome-accesses i (with_field found x) r (omega arith))))
      (λ away. outcome-sees (t.Punct p.OpenBracket) (after_field d found) (an_index d found) (nothing found) (Above ins 10) Any limit ts _ _ (omega arith)
      (λ _ _ k. inl k) (λ _ _ k. inr k) (λ xs m r k s. after-field-split found xs m r k s)
      (λ e. outcome-indexed found ts _ e (λ j r short. outcome-accesses i (with_index found j) r (omega arith)))
      (λ _. outcome-last found ts))

  pub outcome-postfix : (ts : List Terminal) → Outcome (at ins 10 d) (Above ins 10) Any limit ts (postfix room below ts)
  unfolding postfix
  outcome-postfix ts =
      outcome-same (postfix_parts ins d) (at ins 10 d) (Above ins 10) Any limit ts (postfix-to ins d) (postfix-from ins d) _
      (outcome-bind (at ins 11 d) (Above ins 11) Any (λ e. mapped (member_of e) (some_more d no_accesses)) (Above ins 10) Any limit (λ a x b y r l k s. rank-small ins (peek (terms y ++ r)))
      (λ e x l. let k = any_more d no_accesses in (member_of e k.0, k.1, (k.0, k.2, refl))) ts (primary room below ts) _ (outcome-primary ts)
      (λ e x r l g front. outcome-map (member_of e) (some_more d no_accesses) (Above ins 10) Any (Above ins 10) Any limit r (λ _ _ _ _ s. s) (λ _ _ _ _ _. tt) _ (outcome-accesses (length r) no_accesses r (omega arith))))

  pub outcome-only_member : (ts : List Terminal) → Outcome (level_language ins 10 d) (Above ins 10) Any limit ts (only_member room below ts)
  unfolding only_member
  outcome-only_member ts =
      outcome-narrow (at ins 10 d) (level_language ins 10 d) (Above ins 10) Any limit ts is_member (λ _ _ k. k.1) (λ e m k h. (λ _. member-true e h, k)) (λ e m k. true-member e (k.0 refl)) (longer-member ins d)
      (postfix room below ts) (outcome-postfix ts)

  outcome-signed : (o : UnaryOperator) (ts : List Terminal) → 0 < room → Outcome (signed d o) (Above ins 9) Any limit ts (and_then (below true 9 ts) (λ e r. Ok (unary o e, r)))
  outcome-signed o ts pos =
      outcome-map (unary o) (at true 9 (d + 1)) (Above true 9) Any (Above ins 9) Any limit ts (λ a m c k s. rank-flag ins true c 9 (omega arith) s) (λ _ _ _ _ _. tt)
      (below true 9 ts) (outcome-below limit (d + 1) below (ih pos) true 9 (inr (omega arith, omega arith)) ts)

  outcome-deleted : (ts : List Terminal) → 0 < room → Outcome (deleted d) (Above ins 9) Any limit ts (and_then (below true 10 ts) (λ e r. Ok (delete e, r)))
  outcome-deleted ts pos =
      outcome-map delete (level_language true 10 (d + 1)) (Above true 10) Any (Above ins 9) Any limit ts
      (λ a m c k s. let h : rank true c < 9 = rank-flag ins true c 9 (omega arith) s in omega arith) (λ _ _ _ _ _. tt)
      (below true 10 ts) (ih pos true 10 (inr (omega arith, omega arith)) ts)

  some_signed : (o : UnaryOperator) → (v : Tree) × (m : List Symbol) × signed d o v m
  some_signed o = let i = some_tree true 9 (d + 1) in (unary o i.0, i.1, (i.0, i.2, refl))

  some_deleted : (v : Tree) × (m : List Symbol) × deleted d v m
  some_deleted = let i = some_tree true 11 (d + 1) in let e = longer true (d + 1) i.0 i.1 i.2 in (delete e.0, i.1 ++ e.1, (e.0, e.2, refl))

  outcome-unsigned : (ts : List Terminal)
      → Outcome (unsigned ins d) (Above ins 9) Any limit ts (if sees (t.Keyword kw.Delete) ts then and_then (open_at room ts) (λ _ r. and_then (below true 10 r) (λ e r. Ok (delete e, r))) else postfix room below ts)
  outcome-unsigned ts =
      outcome-sees (t.Keyword kw.Delete) (unsigned ins d) (a_delete d) (at ins 10 d) (Above ins 9) Any limit ts _ _ (omega arith) (λ _ _ k. inl k) (λ _ _ k. inr k)
      (λ v m r k s. elim k [ inl f ↦ inl (first-of (t.Keyword kw.Delete) (d + 1) (deleted d) v m r f, f) | inr f ↦ inr (λ h. postfix-delete ins v f.0 (sym (first-at ins 10 d v m r f) ∙ h), f) ])
      (λ e. opened-after (t.Keyword kw.Delete) d room limit ts (deleted d) (Above ins 9) Any _ e sum some_deleted (λ pos. outcome-deleted (next ts) pos))
      (λ _. outcome-choose (at ins 10 d) (at ins 10 d) (Above ins 10) (Above ins 9) Any Any limit ts (λ _ _ k. k) (λ _ _ _ _ _. tt) (λ v m r k s e. (k, omega arith)) _ (outcome-postfix ts))

  pub outcome-prefixed : (ts : List Terminal) → Outcome (at ins 9 d) (Above ins 9) Any limit ts (prefixed room below ts)
  unfolding prefixed
  outcome-prefixed ts =
      outcome-if (at ins 9 d) (Above ins 9) Any limit ts (is_sign (peek ts)) _ _
      (λ e. outcome-choose (a_sign d (peek ts)) (at ins 9 d) (Above ins 9) (Above ins 9) Any Any limit ts (sign-to ins d (peek ts) e) (λ _ _ _ _ g. g)
      (λ v m r k s f. (elim (kinds ins d v m r k) [ inl h ↦ subst (λ c. a_sign d c v m) f h.1 | inr h ↦ absurd (let g : is_sign (peek (terms m ++ r)) ≡ true = ap is_sign f ∙ e in let z = h.0 in cc) ], s))
      _ (opened-after (peek ts) d room limit ts (signed d (sign_of (peek ts))) (Above ins 9) Any _ (sign-cons ts e) sum (some_signed (sign_of (peek ts))) (λ pos. outcome-signed (sign_of (peek ts)) (next ts) pos)))
      (λ e. outcome-choose (unsigned ins d) (at ins 9 d) (Above ins 9) (Above ins 9) Any Any limit ts (unsigned-to ins d) (λ _ _ _ _ g. g)
      (λ v m r k s f. (elim (kinds ins d v m r k) [ inl h ↦ absurd (let g : is_sign (peek (terms m ++ r)) ≡ false = ap is_sign f ∙ e in let z = h.0 in cc) | inr h ↦ h.1 ], s))
      _ (outcome-unsigned ts))
