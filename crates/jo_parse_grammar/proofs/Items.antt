-- The items of a block or of a script are read as the grammar has them.
use Rattle.std.proofs.Common.{◌≡◌, ◌≢◌, ◌⊎◌, inl, inr, Bool, true, false, zero, suc, ℕ, ◌+◌, ◌≤◌, List, [], ◌∷◌, ◌++◌, length, Ok, refl, sym, ◌∙◌, ap, subst, append_assoc, arith, length-append}
use Rattle.jo_lex.specs.declared.punct.Punct.TheVariants as p
use Rattle.jo_parse_tree.specs.declared.keyword.Keyword.TheVariants as kw
use Rattle.jo_parse_grammar.specs.declared.terminal.Terminal.{Terminal}
use Rattle.jo_parse_grammar.specs.declared.terminal.Terminal.TheVariants as t
use Rattle.jo_parse_tree.specs.Trees.{Statement, Items, no_items, declare, perform}
use Rattle.jo_parse_grammar.specs.Expressions.{Symbol, punct, word}
use Rattle.jo_parse_grammar.specs.Statements.{FitBindings, IsClosed, FitStatement, FitItems, bindings, declaration, statement, items}
use Rattle.jo_parse_grammar.specs.Refusals.{Language, terms}
use Rattle.jo_parse_grammar.specs.inner.Read.{Reader, peek, next}
use Rattle.jo_parse_grammar.specs.inner.ReadStatements.{Item, a_declaration, a_statement, with_item, item_at, block_from}
use Rattle.jo_parse_grammar.proofs.Outcome.{Stops, Outcome, bind, outcome-bind, Any, nothing, outcome-pure, one, outcome-fail, mapped, outcome-map, join, terms-split, outcome-sees, plain-after}
use Rattle.jo_parse_grammar.proofs.First.{begins_statement, statement-begins, statement_language, not-statement}
use Rattle.jo_parse_grammar.proofs.Declarations.{a_let, some_let, outcome-let}

-- an `else` follows only a closed statement
abbrev pub Open : Stops Statement
Open s c = c ≡ t.Keyword kw.Else → IsClosed s

abbrev pub OpenItem : Stops Item
OpenItem (a_declaration bs) c = Unit {0}
OpenItem (a_statement s) c = Open s c

-- ---- one item

abbrev pub FitItem : Bool → Item → Type 0
FitItem loops (a_declaration bs) = FitBindings true true bs
FitItem loops (a_statement s) = FitStatement loops s

abbrev pub item_word : ℕ → Item → List Symbol
item_word d (a_declaration bs) = declaration d bs
item_word d (a_statement s) = statement d s

abbrev pub item_language : Bool → ℕ → Language Item
item_language loops d x m = FitItem loops x × (m ≡ item_word d x)

-- some item begins with the terminal
abbrev pub begins_item : Terminal → Bool
begins_item (t.Keyword kw.Let) = true
begins_item c = begins_statement c

statement-is-item : (c : Terminal) → begins_statement c ≡ true → begins_item c ≡ true
statement-is-item (t.Keyword kw.Let) h = refl
statement-is-item _ h = h

item-begins : (loops : Bool) (d : ℕ) (x : Item) (m : List Symbol) (r : List Terminal) → item_language loops d x m → begins_item (peek (terms m ++ r)) ≡ true
item-begins loops d (a_declaration bs) m r k = ap (λ v. begins_item (peek (terms v ++ r))) k.1
item-begins loops d (a_statement s) m r k = ap (λ v. begins_item (peek (terms v ++ r))) k.1 ∙ statement-is-item (peek (terms (statement d s) ++ r)) (statement-begins loops d s r k.0)

pub not-item : (c : Terminal) → begins_item c ≡ false → (loops : Bool) (d : ℕ) (x : Item) (m : List Symbol) (r : List Terminal) → item_language loops d x m → peek (terms m ++ r) ≡ c → ⊥
not-item c h loops d x m r k g = let f : true ≡ false = sym (item-begins loops d x m r k) ∙ (ap begins_item g ∙ h) in cc

begins-long : (m : List Symbol) → begins_item (peek (terms m ++ [])) ≡ true → 1 ≤ length (terms m)
begins-long [] h = cc
begins-long (a ∷ m) h = omega arith

pub item-long : (loops : Bool) (d : ℕ) (x : Item) (m : List Symbol) → item_language loops d x m → 1 ≤ length (terms m)
item-long loops d x m k = begins-long m (item-begins loops d x m [] k)

abbrev let_item : ℕ → Language Item
let_item d = bind (one (t.Keyword kw.Let) 0) (λ _. mapped a_declaration (a_let true d))

abbrev statement_item : Bool → ℕ → Language Item
statement_item loops d = mapped a_statement (statement_language loops d)

let-to : (loops : Bool) (d : ℕ) (x : Item) (m : List Symbol) → let_item d x m → item_language loops d x m
let-to loops d x m (u, y, z, l, (bs, k, same), w) = (subst (λ v. FitItem loops v) (sym same) k.0, w ∙ join l k.1 ∙ ap (λ v. item_word d v) (sym same))

statement-to : (loops : Bool) (d : ℕ) (x : Item) (m : List Symbol) → statement_item loops d x m → item_language loops d x m
statement-to loops d x m (s, k, same) = (subst (λ v. FitItem loops v) (sym same) k.0, k.1 ∙ ap (λ v. item_word d v) (sym same))

item-split : (loops : Bool) (d : ℕ) (x : Item) (m : List Symbol) (r : List Terminal) → item_language loops d x m
    → ((peek (terms m ++ r) ≡ t.Keyword kw.Let) × let_item d x m) ⊎ ((peek (terms m ++ r) ≡ t.Keyword kw.Let → ⊥) × statement_item loops d x m)
item-split loops d (a_declaration bs) m r k = inl (ap (λ z. peek (terms z ++ r)) k.1, (tt, word kw.Let ∷ [], bindings d bs ++ punct p.Semicolon ∷ [], refl, (bs, (k.0, refl), refl), k.1))
item-split loops d (a_statement s) m r k = inr (λ h. not-statement (t.Keyword kw.Let) refl loops d s m r k h, (s, k, refl))

-- ---- items

-- the items of two lists
abbrev pub items_both : Items → Items → Items
items_both no_items js = js
items_both (declare bs is) js = declare bs (items_both is js)
items_both (perform s is) js = perform s (items_both is js)

abbrev pub cons_item : Item → Items → Items
cons_item (a_declaration bs) is = declare bs is
cons_item (a_statement s) is = perform s is

pub items_both-none : (is : Items) → items_both is no_items ≡ is
items_both-none no_items = refl
items_both-none (declare bs is) = ap (λ v. declare bs v) (items_both-none is)
items_both-none (perform s is) = ap (λ v. perform s v) (items_both-none is)

pub items_both-with : (is js : Items) (x : Item) → items_both (with_item is x) js ≡ items_both is (cons_item x js)
items_both-with no_items js (a_declaration bs) = refl
items_both-with no_items js (a_statement s) = refl
items_both-with (declare bs is) js x = ap (λ v. declare bs v) (items_both-with is js x)
items_both-with (perform s is) js x = ap (λ v. perform s v) (items_both-with is js x)

fit-cons : (loops : Bool) (x : Item) (is : Items) → FitItem loops x → FitItems loops is → FitItems loops (cons_item x is)
fit-cons loops (a_declaration bs) is f g = (f, g)
fit-cons loops (a_statement s) is f g = (f, g)

items-cons : (d : ℕ) (x : Item) (is : Items) → items d (cons_item x is) ≡ item_word d x ++ items d is
items-cons d (a_declaration bs) is = refl
items-cons d (a_statement s) is = refl

-- the rest of some items of which these were read, and what ends them
abbrev pub items_end : Bool → ℕ → List Symbol → Items → Language Items
items_end loops d end found v m = (is : Items) × FitItems loops is × (v ≡ items_both found is) × (m ≡ items d is ++ end)

abbrev pub an_item : Bool → ℕ → List Symbol → Items → Language Items
an_item loops d end found = bind (item_language loops d) (λ x. items_end loops d end (with_item found x))

pub item-to : (loops : Bool) (d : ℕ) (end : List Symbol) (found v : Items) (m : List Symbol) → an_item loops d end found v m → items_end loops d end found v m
item-to loops d end found v m (x, y, z, l, (is, f, g, w), e) = (
  cons_item x is,
  fit-cons loops x is l.0 f,
  g ∙ items_both-with found is x,
  e ∙ (join l.1 w ∙ (sym (append_assoc (item_word d x) (items d is) end) ∙ ap (λ q. q ++ end) (sym (items-cons d x is)))),
)

-- one item at the front
item-front : (loops : Bool) (d : ℕ) (end : List Symbol) (found : Items) (x : Item) (is : Items) (v : Items) (m : List Symbol) → FitItem loops x → FitItems loops is → v ≡ items_both found (cons_item x is)
    → m ≡ (item_word d x ++ items d is) ++ end → an_item loops d end found v m
item-front loops d end found x is v m f g same e = (
  x,
  item_word d x,
  items d is ++ end,
  (f, refl),
  (is, g, same ∙ sym (items_both-with found is x), refl),
  e ∙ append_assoc (item_word d x) (items d is) end,
)

-- no item, or one at the front
pub items-split : (loops : Bool) (d : ℕ) (end : List Symbol) (found v : Items) (m : List Symbol) → items_end loops d end found v m → ((v ≡ found) × (m ≡ end)) ⊎ an_item loops d end found v m
items-split loops d end found v m (no_items, f, g, e) = inl (g ∙ items_both-none found, e)
items-split loops d end found v m (declare bs is, f, g, e) = inr (item-front loops d end found (a_declaration bs) is v m f.0 f.1 g e)
items-split loops d end found v m (perform s is, f, g, e) = inr (item-front loops d end found (a_statement s) is v m f.0 f.1 g e)

pub item-not-first : (c : Terminal) → begins_item c ≡ false → (loops : Bool) (d : ℕ) (end : List Symbol) (found v : Items) (m : List Symbol) (r : List Terminal) → an_item loops d end found v m → peek (terms m ++ r) ≡ c → ⊥
item-not-first c h loops d end found v m r k g =
    not-item c h loops d k.0 k.1 (terms k.2 ++ r) k.3 (ap peek (sym (terms-split k.1 k.2 r)) ∙ (ap (λ z. peek (terms z ++ r)) (sym k.5) ∙ g))

-- ---- up to a closing brace

abbrev pub brace : List Symbol
brace = punct p.CloseBrace ∷ []

abbrev a_brace : Items → Language Items
a_brace found = bind (one (t.Punct p.CloseBrace) 0) (λ _. nothing found)

brace-to : (loops : Bool) (d : ℕ) (found v : Items) (m : List Symbol) → a_brace found v m → items_end loops d brace found v m
brace-to loops d found v m k = (no_items, tt, k.4.0 ∙ sym (items_both-none found), k.5 ∙ join k.3 k.4.1)

brace-split : (loops : Bool) (d : ℕ) (found v : Items) (m : List Symbol) (r : List Terminal) → items_end loops d brace found v m
    → ((peek (terms m ++ r) ≡ t.Punct p.CloseBrace) × a_brace found v m) ⊎ ((peek (terms m ++ r) ≡ t.Punct p.CloseBrace → ⊥) × an_item loops d brace found v m)
brace-split loops d found v m r k = elim (items-split loops d brace found v m k) [
  | inl q ↦ inl (ap (λ z. peek (terms z ++ r)) q.1, (tt, brace, [], refl, (q.0, refl), q.1))
  | inr q ↦ inr (λ h. item-not-first (t.Punct p.CloseBrace) refl loops d brace found v m r q h, q)
]

-- no `else` follows an item, and the terminals do not end there
brace-first : (c : Terminal) → begins_item c ≡ false → c ≢ t.Punct p.CloseBrace → (loops : Bool) (d : ℕ) (found v : Items) (m : List Symbol) (r : List Terminal) → items_end loops d brace found v m → peek (terms m ++ r) ≡ c → ⊥
brace-first c h other loops d found v m r k g = elim (items-split loops d brace found v m k) [
  | inl q ↦ other (sym g ∙ ap (λ z. peek (terms z ++ r)) q.1)
  | inr q ↦ item-not-first c h loops d brace found v m r q g
]

pub some_items : (loops : Bool) (d : ℕ) (end : List Symbol) (found : Items) → (v : Items) × (m : List Symbol) × items_end loops d end found v m
some_items loops d end found = (found, end, (no_items, tt, sym (items_both-none found), refl))

pub open-item : (x : Item) (c : Terminal) → (c ≡ t.Keyword kw.Else → ⊥) → OpenItem x c
open-item (a_declaration bs) c h = tt
open-item (a_statement s) c h = λ e. absurd (h e)

-- ---- how they are read

module _ (limit : ℕ) (loops : Bool) (d room : ℕ) (sum : d + room ≡ limit) (reader : Reader Statement) (ih : (ts : List Terminal) → Outcome (statement_language loops d) Open Open limit ts (reader ts)) where
  pub outcome-item : (ts : List Terminal) → Outcome (item_language loops d) OpenItem OpenItem limit ts (item_at room reader ts)
  unfolding item_at
  outcome-item ts =
      outcome-sees (t.Keyword kw.Let) (item_language loops d) (let_item d) (statement_item loops d) OpenItem OpenItem limit ts _ _ (omega arith) (let-to loops d) (statement-to loops d) (λ x m r k s. item-split loops d x m r k)
      (λ e. plain-after (t.Keyword kw.Let) d 0 limit ts (mapped a_declaration (a_let true d)) OpenItem OpenItem _ e (let b = some_let true d in (a_declaration b.0, b.1, (b.0, b.2, refl)))
      (outcome-map a_declaration (a_let true d) Any Any OpenItem OpenItem limit (next ts) (λ _ _ _ _ s. tt) (λ _ _ _ _ g. tt) _ (outcome-let limit d room sum true (next ts))))
      (λ _. outcome-map a_statement (statement_language loops d) Open Open OpenItem OpenItem limit ts (λ _ _ _ _ s. s) (λ _ _ _ _ g. g) (reader ts) (ih ts))

  pub outcome-items : (n : ℕ) (found : Items) (ts : List Terminal) → length ts ≤ n → Outcome (items_end loops d brace found) Any Any limit ts (block_from room reader n found ts)
  unfolding block_from
  outcome-items zero found [] h = outcome-fail (items_end loops d brace found) Any Any limit [] (some_items loops d brace found) (λ v m r k s e. brace-first t.End refl (λ e. cc) loops d found v m r k e)
  outcome-items zero found (c ∷ r) h = absurd (omega arith)
  outcome-items (suc n) found ts h =
      outcome-sees (t.Punct p.CloseBrace) (items_end loops d brace found) (a_brace found) (an_item loops d brace found) Any Any limit ts _ _ (omega arith) (brace-to loops d found) (item-to loops d brace found)
      (λ v m r k s. brace-split loops d found v m r k)
      (λ e. plain-after (t.Punct p.CloseBrace) d 0 limit ts (nothing found) Any Any (Ok (found, next ts)) e (found, [], (refl, refl)) (outcome-pure found Any Any limit (next ts) tt))
      (λ _. outcome-bind (item_language loops d) OpenItem OpenItem (λ x. items_end loops d brace (with_item found x)) Any Any limit
      (λ x y v z r l k s. open-item x (peek (terms z ++ r)) (λ e. brace-first (t.Keyword kw.Else) refl (λ e. cc) loops d (with_item found x) v z r k e)) (λ x y l. some_items loops d brace (with_item found x)) ts
      (item_at room reader ts) _ (outcome-item ts)
      (λ x y r l g front. outcome-items n (with_item found x) r
      (let a : length ts ≡ length (terms y) + length r = ap length front ∙ length-append (terms y) r in
      let b = item-long loops d x y l in omega arith)))
