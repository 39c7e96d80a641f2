-- Declarations are read as the grammar has them.
use Rattle.std.proofs.Common.{◌≡◌, ◌⊎◌, inl, inr, Bool, true, false, zero, suc, ℕ, ◌+◌, ◌≤◌, ◌<◌, List, [], ◌∷◌, ◌++◌, length, Option, None, Some, refl, sym, ◌∙◌, ap, subst, append_assoc, arith}
use Rattle.jo_lex.specs.declared.punct.Punct.TheVariants as p
use Rattle.jo_parse_grammar.specs.declared.terminal.Terminal.{Terminal}
use Rattle.jo_parse_grammar.specs.declared.terminal.Terminal.TheVariants as t
use Rattle.jo_parse_tree.specs.declared.word.Ident.{Ident}
use Rattle.jo_parse_tree.specs.Trees.{Tree, Binding}
use Rattle.jo_parse_grammar.specs.Expressions.{Symbol, punct, plain, spelling}
use Rattle.jo_parse_grammar.specs.Statements.{FitOptional, FitBindings, initial, binding, more_bindings, bindings}
use Rattle.jo_parse_grammar.specs.Refusals.{Language, terms}
use Rattle.jo_parse_grammar.specs.inner.Read.{peek, next, rank, read}
use Rattle.jo_parse_grammar.specs.inner.ReadStatements.{ident_of, ident, initial_at, binding_at, bindings_from, let_after}
use Rattle.jo_parse_grammar.proofs.Outcome.{Outcome, bind, outcome-bind, Any, nothing, outcome-pure, one, outcome-same, mapped, outcome-map, join, outcome-sees, opened-with, a_token, outcome-take}
use Rattle.jo_parse_grammar.proofs.Levels.{at, Above, some_tree, outcome-inner}
use Rattle.jo_parse_grammar.proofs.Exact.{outcome-read}
use Rattle.jo_parse_grammar.proofs.Separated.{elements, elements_end, outcome-element, outcome-no-element, outcome-elements}

-- ---- words

abbrev pub an_ident : Language Ident
an_ident x m = m ≡ plain (t.Ident x) ∷ []

abbrev some_ident : Ident
some_ident = record { text = record { 0 = 0 }; place = 0; is_proto = false }

ident-sound : (c : Terminal) (x : Ident) → ident_of c ≡ Some x → Unit {0} × (t.Ident x ≡ c)
ident-sound (t.Ident i) x e = let f : i ≡ x = cc in (tt, ap t.Ident (sym f))
ident-sound (t.Keyword w) x e = cc
ident-sound (t.Reserved w) x e = cc
ident-sound (t.Number i) x e = cc
ident-sound (t.Text s) x e = cc
ident-sound (t.Punct c) x e = cc
ident-sound t.End x e = cc

pub outcome-ident : (limit : ℕ) (ts : List Terminal) → Outcome an_ident Any Any limit ts (ident ts)
unfolding ident
outcome-ident limit ts = outcome-same (a_token (λ _. Unit {0}) t.Ident) an_ident Any Any limit ts (λ _ _ k. k.1) (λ _ _ k. (tt, k)) _
    (outcome-take (λ _. Unit {0}) t.Ident ident_of ident-sound (λ _ _. refl) refl (some_ident, tt) limit ts)

-- ---- a binding, where d constructs are open

abbrev pub an_initial : Bool → ℕ → Language (Option Tree)
an_initial ins d v m = FitOptional ins v × (m ≡ initial d v)

abbrev assigned : Bool → ℕ → Language (Option Tree)
assigned ins d = bind (one (t.Punct p.Assign) (d + 1)) (λ _. mapped Some (at ins 1 (d + 1)))

assigned-to : (ins : Bool) (d : ℕ) (v : Option Tree) (m : List Symbol) → assigned ins d v m → an_initial ins d v m
assigned-to ins d v m (u, x, y, l, (e, k, same), f) = (subst (λ z. FitOptional ins z) (sym same) k.0, f ∙ join l k.1 ∙ ap (λ z. initial d z) (sym same))

none-to : (ins : Bool) (d : ℕ) (v : Option Tree) (m : List Symbol) → nothing None v m → an_initial ins d v m
none-to ins d v m k = (subst (λ z. FitOptional ins z) (sym k.0) tt, k.1 ∙ ap (λ z. initial d z) (sym k.0))

rank-assign : (ins : Bool) → rank ins (t.Punct p.Assign) ≡ 1
rank-assign true = refl
rank-assign false = refl

initial-split : (ins : Bool) (d : ℕ) (v : Option Tree) (m : List Symbol) (r : List Terminal) → an_initial ins d v m → rank ins (peek r) < 1
    → ((peek (terms m ++ r) ≡ t.Punct p.Assign) × assigned ins d v m) ⊎ ((peek (terms m ++ r) ≡ t.Punct p.Assign → ⊥) × nothing None v m)
initial-split ins d None m r k s =
    inr (
      λ h. let f : rank ins (peek r) ≡ 1 = ap (λ z. rank ins (peek (terms z ++ r))) (sym k.1) ∙ (ap (λ z. rank ins z) h ∙ rank-assign ins) in omega arith,
      (refl, k.1),
    )
initial-split ins d (Some e) m r k s =
    inl (ap (λ z. peek (terms z ++ r)) k.1, (tt, (t.Punct p.Assign, d + 1) ∷ [], spelling (d + 1) e, refl, (e, (k.0, refl), refl), k.1))

abbrev pub a_binding : Bool → ℕ → Language Binding
a_binding ins d b m = FitOptional ins b.1 × (m ≡ binding d b)

binding_parts : Bool → ℕ → Language Binding
binding_parts ins d = bind an_ident (λ x. mapped (λ v. (x, v)) (an_initial ins d))

binding-to : (ins : Bool) (d : ℕ) (b : Binding) (m : List Symbol) → binding_parts ins d b m → a_binding ins d b m
unfolding binding_parts
binding-to ins d b m (x, y, z, l, (v, k, same), e) = (subst (λ w. FitOptional ins w.1) (sym same) k.0, e ∙ join l k.1 ∙ ap (λ w. binding d w) (sym same))

binding-from : (ins : Bool) (d : ℕ) (b : Binding) (m : List Symbol) → a_binding ins d b m → binding_parts ins d b m
unfolding binding_parts
binding-from ins d b m k = (b.0, plain (t.Ident b.0) ∷ [], initial d b.1, refl, (b.1, (k.0, refl), refl), k.1)

pub some_binding : (ins : Bool) (d : ℕ) → (b : Binding) × (m : List Symbol) × a_binding ins d b m
some_binding ins d = ((some_ident, None), plain (t.Ident some_ident) ∷ [], (tt, refl))

-- ---- bindings after `let`

abbrev pub a_let : Bool → ℕ → Language (List Binding)
a_let ins d bs m = FitBindings ins true bs × (m ≡ bindings d bs ++ punct p.Semicolon ∷ [])

abbrev let_parts : Bool → ℕ → Language (List Binding)
let_parts ins d = bind (a_binding ins d) (λ b. elements_end (a_binding ins d) (t.Punct p.Semicolon) (b ∷ []))

more-to : (ins : Bool) (d : ℕ) (bs : List Binding) (m : List Symbol) → elements (a_binding ins d) (t.Punct p.Semicolon) bs m → FitBindings ins false bs × (m ≡ more_bindings d bs)
more-to ins d [] m k = (refl, k)
more-to ins d (b ∷ bs) m k = let f = more-to ins d bs k.1 k.3 in ((k.2.0, f.0), k.4 ∙ ap (λ z. punct p.Comma ∷ z) (join k.2.1 f.1))

more-from : (ins : Bool) (d : ℕ) (bs : List Binding) → FitBindings ins false bs → elements (a_binding ins d) (t.Punct p.Semicolon) bs (more_bindings d bs)
more-from ins d [] k = refl
more-from ins d (b ∷ bs) k = (binding d b, more_bindings d bs, (k.0, refl), more-from ins d bs k.1, refl)

let-to : (ins : Bool) (d : ℕ) (v : List Binding) (m : List Symbol) → let_parts ins d v m → a_let ins d v m
let-to ins d v m (b, x, y, l, (bs, z, k, same, w), e) =
    let f = more-to ins d bs z k in (
      subst (λ q. FitBindings ins true q) (sym same) (l.0, f.0),
      e ∙ (join l.1 (w ∙ ap (λ q. q ++ punct p.Semicolon ∷ []) f.1) ∙ (sym (append_assoc (binding d b) (more_bindings d bs) (punct p.Semicolon ∷ [])) ∙ ap (λ q. bindings d q ++ punct p.Semicolon ∷ []) (sym same))),
    )

let-from : (ins : Bool) (d : ℕ) (v : List Binding) (m : List Symbol) → a_let ins d v m → let_parts ins d v m
let-from ins d [] m k = let h = k.0 in cc
let-from ins d (b ∷ bs) m k = (
  b,
  binding d b,
  more_bindings d bs ++ punct p.Semicolon ∷ [],
  (k.0.0, refl),
  (bs, more_bindings d bs, more-from ins d bs k.0.1, refl, refl),
  k.1 ∙ append_assoc (binding d b) (more_bindings d bs) (punct p.Semicolon ∷ []),
)

pub some_let : (ins : Bool) (d : ℕ) → (bs : List Binding) × (m : List Symbol) × a_let ins d bs m
unfolding some_binding
some_let ins d = let b = some_binding ins d in (b.0 ∷ [], b.1 ++ punct p.Semicolon ∷ [], ((b.2.0, refl), refl))

-- ---- how they are read

module _ (limit d room : ℕ) (sum : d + room ≡ limit) (ins : Bool) where
  pub outcome-initial : (ts : List Terminal) → Outcome (an_initial ins d) (Above ins 1) Any limit ts (initial_at room ins ts)
  unfolding initial_at
  outcome-initial ts =
      outcome-sees (t.Punct p.Assign) (an_initial ins d) (assigned ins d) (nothing None) (Above ins 1) Any limit ts _ _ (omega arith) (assigned-to ins d) (none-to ins d) (λ v m r k s. initial-split ins d v m r k s)
      (λ e. opened-with (t.Punct p.Assign) d room limit ts (mapped Some (at ins 1 (d + 1))) (Above ins 1) Any _ e sum (let i = some_tree ins 1 (d + 1) in (Some i.0, i.1, (i.0, i.2, refl)))
      (λ inner deep. outcome-inner limit (d + 1) (read inner) (outcome-read inner limit (d + 1) deep) ins Some (next ts)))
      (λ _. outcome-pure None (Above ins 1) Any limit ts tt)

  pub outcome-binding : (ts : List Terminal) → Outcome (a_binding ins d) (Above ins 1) Any limit ts (binding_at room ins ts)
  unfolding binding_at binding_parts
  outcome-binding ts = outcome-same (binding_parts ins d) (a_binding ins d) (Above ins 1) Any limit ts (binding-to ins d) (binding-from ins d) _
      (outcome-bind an_ident Any Any (λ x. mapped (λ v. (x, v)) (an_initial ins d)) (Above ins 1) Any limit (λ _ _ _ _ _ _ _ _. tt)
      (λ x _ _. ((x, None), [], (None, (tt, refl), refl))) ts (ident ts) _ (outcome-ident limit ts)
      (λ x y r l g front. outcome-map (λ v. (x, v)) (an_initial ins d) (Above ins 1) Any (Above ins 1) Any limit r (λ _ _ _ _ s. s) (λ _ _ _ _ _. tt) (initial_at room ins r) (outcome-initial r)))

  flat : (c : Terminal) → rank ins c ≡ 0 → rank ins c < 1
  flat c e = omega arith

  pub outcome-bindings : (n : ℕ) (found : List Binding) (ts : List Terminal) → length ts ≤ n
      → Outcome (elements_end (a_binding ins d) (t.Punct p.Semicolon) found) Any Any limit ts (bindings_from room ins n found ts)
  unfolding bindings_from
  outcome-bindings zero found [] h =
      outcome-no-element (a_binding ins d) (t.Punct p.Semicolon) (Above ins 1) (omega arith) (λ e. cc) (λ _. flat (t.Punct p.Semicolon) refl) (λ _. flat (t.Punct p.Comma) refl) (some_binding ins d) limit
      (λ r. binding_at room ins r) outcome-binding found (λ e. omega arith)
  outcome-bindings zero found (c ∷ r) h = absurd (omega arith)
  outcome-bindings (suc n) found ts h =
      outcome-elements (a_binding ins d) (t.Punct p.Semicolon) (Above ins 1) (omega arith) (λ e. cc) (λ _. flat (t.Punct p.Semicolon) refl) (λ _. flat (t.Punct p.Comma) refl) (some_binding ins d) limit
      (λ r. binding_at room ins r) outcome-binding found (λ b r. bindings_from room ins n (found ++ b ∷ []) r) ts (λ b r short. outcome-bindings n (found ++ b ∷ []) r (omega arith))

  pub outcome-let : (ts : List Terminal) → Outcome (a_let ins d) Any Any limit ts (let_after room ins ts)
  unfolding let_after
  outcome-let ts = outcome-same (let_parts ins d) (a_let ins d) Any Any limit ts (let-to ins d) (let-from ins d) _
      (outcome-element (a_binding ins d) (t.Punct p.Semicolon) (Above ins 1) (omega arith) (λ e. cc) (λ _. flat (t.Punct p.Semicolon) refl) (λ _. flat (t.Punct p.Comma) refl) (some_binding ins d) limit
      (λ r. binding_at room ins r) outcome-binding (λ b. b ∷ []) _ ts (λ b r short. outcome-bindings (length r) (b ∷ []) r (omega arith)))
