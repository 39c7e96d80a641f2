-- The whole of the terminals of a script is answered exactly.
use Rattle.std.proofs.Common.{◌≡◌, ◌≢◌, inl, inr, false, zero, suc, ℕ, ◌+◌, ◌≤◌, ◌<◌, List, [], ◌∷◌, ◌++◌, length, Ok, Err, refl, sym, ◌∙◌, ap, subst, arith, length-append}
use Rattle.jo_parse_tree.specs.declared.keyword.Keyword.TheVariants as kw
use Rattle.jo_parse_grammar.specs.declared.terminal.Terminal.{Terminal}
use Rattle.jo_parse_grammar.specs.declared.terminal.Terminal.TheVariants as t
use Rattle.jo_parse_tree.specs.Trees.{Items, no_items}
use Rattle.jo_parse_grammar.specs.Expressions.{Symbol}
use Rattle.jo_parse_grammar.specs.Statements.{FitItems, items, IsScript}
use Rattle.jo_parse_grammar.specs.Refusals.{Language, terms, Within, IsAccepted, Fault, IsRefused}
use Rattle.jo_parse_grammar.specs.inner.Read.{Reading, peek}
use Rattle.jo_parse_grammar.specs.inner.ReadStatements.{Item, with_item, item_at, read_statement, Answer, item_then, script_from, whole_script}
use Rattle.jo_parse_grammar.proofs.Outcome.{Outcome}
use Rattle.jo_parse_grammar.proofs.Levels.{nil-right}
use Rattle.jo_parse_grammar.proofs.Accepted.{list-end, Answers}
use Rattle.jo_parse_grammar.proofs.Exclusive.{answer-once, answer-kept}
use Rattle.jo_parse_grammar.proofs.Items.{OpenItem, begins_item, item_language, item-long, items_both-none, items_end, an_item, item-to, items-split, item-not-first, some_items, open-item, outcome-item}
use Rattle.jo_parse_grammar.proofs.Sequence.{answers-same, answers-then, answers-failed}
use Rattle.jo_parse_grammar.proofs.StatementsExact.{outcome-statement}

-- the rest of a script of which these items were read
abbrev script_rest : Items → Language Items
script_rest found = items_end false 0 [] found

abbrev some_text : List Terminal → Type 0
some_text ts = ts ≢ []

text-longer : (x : List Terminal) (c : Terminal) (q : List Terminal) → some_text (x ++ c ∷ q)
text-longer [] c q e = cc
text-longer (b ∷ x) c q e = cc

rest-item : (found v : Items) (m : List Symbol) → script_rest found v m → some_text (terms m) → an_item false 0 [] found v m
rest-item found v m k h = elim (items-split false 0 [] found v m k) [ inl q ↦ absurd (h (ap terms q.1)) | inr q ↦ q ]

-- no item begins with the end or with `else`
rest-first : (c : Terminal) → begins_item c ≡ false → c ≢ t.End → (found v : Items) (m : List Symbol) → script_rest found v m → peek (terms m) ≡ c → ⊥
rest-first c h other found v m k g = elim (items-split false 0 [] found v m k) [
  | inl q ↦ other (sym g ∙ ap (λ z. peek (terms z)) q.1)
  | inr q ↦ item-not-first c h false 0 [] found v m [] q (ap peek (list-end (terms m)) ∙ g)
]

rest-end : (found : Items) (limit : ℕ) → IsAccepted (script_rest found) limit [] found
rest-end found limit = (
  [],
  (no_items, tt, sym (items_both-none found), refl),
  refl,
  tt,
  λ other k. elim (items-split false 0 [] found other k.0 k.1) [
    | inl q ↦ q.0
    | inr q ↦ absurd (item-not-first t.End refl false 0 [] found other k.0 [] q (ap peek (list-end (terms k.0) ∙ k.2)))
  ],
)

module _ (limit : ℕ) where
  rest-follow : (found : Items) (x : Item) (y : List Symbol) (v : Items) (z : List Symbol) → item_language false 0 x y → script_rest (with_item found x) v z → OpenItem x (peek (terms z))
  rest-follow found x y v z l k = open-item x (peek (terms z)) (λ e. rest-first (t.Keyword kw.Else) refl (λ e. cc) (with_item found x) v z k e)

  -- an item and the rest
  item-answers : (found : Items) (ts : List Terminal) (res : Reading Item) → Outcome (item_language false 0) OpenItem OpenItem limit ts res → (f : Item → List Terminal → Answer)
      → ((x : Item) (r : List Terminal) → length r < length ts → Answers (script_rest (with_item found x)) limit r (f x r)) → Answers (an_item false 0 [] found) limit ts (item_then res f)
  item-answers found ts (Ok x) w f more =
      answers-then (item_language false 0) OpenItem OpenItem (λ x. script_rest (with_item found x)) (rest-follow found) (λ x y l. some_items false 0 [] (with_item found x)) limit ts x.0 x.1 w (f x.0 x.1)
      (more x.0 x.1
      (let a : length ts ≡ length (terms w.word) + length x.1 = ap length w.front ∙ length-append (terms w.word) x.1 in
      let b = item-long false 0 x.0 w.word w.spelled in omega arith))
  item-answers found ts (Err e) h f more =
      answers-failed (item_language false 0) OpenItem OpenItem (λ x. script_rest (with_item found x)) (rest-follow found) (λ x y l. some_items false 0 [] (with_item found x)) limit ts e.0 e.1 h

  script-from : (n : ℕ) (found : Items) (ts : List Terminal) → length ts ≤ n → Answers (script_rest found) limit ts (script_from limit n found ts)
  unfolding script_from
  script-from n found [] h = rest-end found limit
  script-from zero found (c ∷ r) h = absurd (omega arith)
  script-from (suc n) found (c ∷ r) h =
      answers-same (an_item false 0 [] found) (script_rest found) some_text text-longer (item-to false 0 [] found) (rest-item found) limit (c ∷ r) (λ e. cc) _
      (item-answers found (c ∷ r) (item_at limit (read_statement limit false) (c ∷ r))
      (outcome-item limit false 0 limit (omega arith) (read_statement limit false) (λ ts. outcome-statement limit limit 0 (omega arith) false ts) (c ∷ r))
      (λ x r. script_from limit n (with_item found x) r) (λ x s short. script-from n (with_item found x) s (omega arith)))

-- ---- the whole, and no other answer

rest-script : (s : Items) (m : List Symbol) → script_rest no_items s m → IsScript s m
rest-script s m (is, f, same, e) = (subst (λ v. FitItems false v) (sym same) f, e ∙ (nil-right (items 0 is) ∙ ap (λ v. items 0 v) (sym same)))

script-rest : (s : Items) (m : List Symbol) → IsScript s m → script_rest no_items s m
script-rest s m k = (s, k.0, refl, k.1 ∙ sym (nil-right (items 0 s)))

pub script-answers : (limit : ℕ) (ts : List Terminal) → Answers IsScript limit ts (whole_script limit ts)
unfolding whole_script
script-answers limit ts =
    answers-same (script_rest no_items) IsScript (λ _. Unit {0}) (λ _ _ _. tt) rest-script (λ s m k _. script-rest s m k) limit ts tt (script_from limit (length ts) no_items ts) (script-from limit (length ts) no_items ts (omega arith))

-- by what the reader answers
pub script-accepted : (limit : ℕ) (ts : List Terminal) (s : Items) → whole_script limit ts ≡ Ok s → IsAccepted IsScript limit ts s
script-accepted limit ts s e = subst (λ v. Answers IsScript limit ts v) e (script-answers limit ts)

pub script-refused : (limit : ℕ) (ts : List Terminal) (f : Fault) (r : List Terminal) → whole_script limit ts ≡ Err (f, r) → IsRefused IsScript limit f ts r
script-refused limit ts f r e = subst (λ v. Answers IsScript limit ts v) e (script-answers limit ts)

-- a script that keeps within the limit is answered
pub script-kept : (limit : ℕ) (ts : List Terminal) (s : Items) (m : List Symbol) → IsScript s m → terms m ≡ ts → Within limit m → whole_script limit ts ≡ Ok s
script-kept limit ts s m k same within = answer-kept IsScript limit ts s m k same within (whole_script limit ts) (script-answers limit ts)

pub accepted-script : (limit : ℕ) (ts : List Terminal) (s : Items) → IsAccepted IsScript limit ts s → whole_script limit ts ≡ Ok s
accepted-script limit ts s h = answer-once IsScript limit ts (whole_script limit ts) (Ok s) (script-answers limit ts) h

pub refused-script : (limit : ℕ) (ts : List Terminal) (f : Fault) (r : List Terminal) → IsRefused IsScript limit f ts r → whole_script limit ts ≡ Err (f, r)
refused-script limit ts f r h = answer-once IsScript limit ts (whole_script limit ts) (Err (f, r)) (script-answers limit ts) h
