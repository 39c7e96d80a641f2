-- The names that a block declares, as they are counted from item to item.
use Rattle.std.proofs.Common.{◌≡◌, ◌<◌, ◌+◌, ℕ, Bool, true, false, List, [], ◌∷◌, ◌++◌, length, drop, get_or, refl, ap, sym, ◌∙◌, append-nil, subst}
use Rattle.std.specs.Prelude.{nat_eq, ◌||◌}
use Rattle.jo_parse_tree.specs.declared.script.Binding.{Binding}
use Rattle.jo_parse_tree.specs.declared.script.Item.{Item}
use Rattle.jo_parse_tree.specs.declared.script.Item.TheVariants as i
use Rattle.jo_parse_tree.specs.Blocks.{names_of, declared_in}
use Rattle.jo_parse_tree.specs.ScriptViews.{bindings_list, items_list}
use Rattle.jo_parse_grammar.specs.Declarations.{Scope, is_among, at_beginning}
use Rattle.jo_parse_names.specs.inner.Blocks.{HasSame, IsAlike, Declares, DeclaresAll, with_names, item_names}
use Rattle.jo_parse_names.proofs.Turns.{drop-at}

either-swap : (a b c : Bool) → (a || (b || c)) ≡ (b || (a || c))
either-swap true true c = refl
either-swap true false c = refl
either-swap false b c = refl

pub put-front : (x : ℕ) (rest names : List ℕ) (n : ℕ) → is_among (rest ++ x ∷ names) n ≡ is_among (x ∷ (rest ++ names)) n
put-front x [] names n = refl
put-front x (y ∷ rest) names n =
    ap (λ b. nat_eq y n || b) (put-front x rest names n) ∙ either-swap (nat_eq y n) (nat_eq x n) (is_among (rest ++ names) n)

put-all-front : (names rest old : List ℕ) (n : ℕ) → is_among (rest ++ (names ++ old)) n ≡ is_among ((names ++ rest) ++ old) n
put-all-front [] rest old n = refl
put-all-front (x ∷ names) rest old n = put-front x rest (names ++ old) n ∙ ap (λ b. nat_eq x n || b) (put-all-front names rest old n)

scope_after-same : (rest names others : List ℕ) → HasSame names others → HasSame (rest ++ names) (rest ++ others)
scope_after-same [] names others same n = same n
scope_after-same (x ∷ rest) names others same n = ap (λ b. nat_eq x n || b) (scope_after-same rest names others same n)

pub declares-turn : (s t new : Scope) (bindings : List Binding) (i : ℕ) (b : Binding) → i < length bindings → b ≡ get_or bindings i b
    → IsAlike (with_names s (names_of (bindings_list (drop i bindings)))) t → Declares s b.ident.text.0 new
    → IsAlike (with_names new (names_of (bindings_list (drop (i + 1) bindings)))) t
declares-turn s t new bindings i b below is h d =
    let rest = names_of (bindings_list (drop (i + 1) bindings)) in (
      (λ n. scope_after-same rest new.names (b.ident.text.0 ∷ s.names) d.0 n ∙ (put-front b.ident.text.0 rest s.names n
          ∙ (ap (λ v. is_among (names_of (bindings_list v) ++ s.names) n) (sym (drop-at bindings i b below is)) ∙ h.0 n))),
      (λ n. d.1 n ∙ h.1 n),
    )

declared_in-item : (x : Item) (xs : List Item) → declared_in (items_list (x ∷ xs)) ≡ item_names x ++ declared_in (items_list xs)
declared_in-item (i.Let l) xs = refl
declared_in-item (i.Statement x) xs = refl

pub items-declare-turn : (s t new : Scope) (items : List Item) (i : ℕ) (x : Item) → i < length items → x ≡ get_or items i x
    → IsAlike (with_names s (declared_in (items_list (drop i items)))) t → DeclaresAll s (item_names x) new
    → IsAlike (with_names new (declared_in (items_list (drop (i + 1) items)))) t
items-declare-turn s t new items i x below is h d =
    let rest = declared_in (items_list (drop (i + 1) items)) in
    let whole = ap (λ v. declared_in (items_list v)) (drop-at items i x below is) ∙ declared_in-item x (drop (i + 1) items) in (
      (λ n. scope_after-same rest new.names (item_names x ++ s.names) d.0 n ∙ (put-all-front (item_names x) rest s.names n
          ∙ (ap (λ v. is_among (v ++ s.names) n) (sym whole) ∙ h.0 n))),
      (λ n. d.1 n ∙ h.1 n),
    )

pub begun : (names : List ℕ) → IsAlike (with_names (at_beginning []) names) (at_beginning names)
begun names = ((λ n. ap (λ v. is_among v n) (append-nil names)), (λ n. refl))

pub begun-all : (scope block : Scope) (names : List ℕ) → scope ≡ at_beginning [] → DeclaresAll scope names block → IsAlike block (at_beginning names)
begun-all scope block names new d =
    let h = subst (λ s. DeclaresAll s names block) new d in
    ((λ n. h.0 n ∙ ap (λ v. is_among v n) (append-nil names)), h.1)

pub ruleset counting = (begun-all)
