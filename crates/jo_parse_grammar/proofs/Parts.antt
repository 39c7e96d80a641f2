-- The parts of statements are read as the grammar has them.
use Rattle.std.proofs.Common.{◌≡◌, ◌≢◌, ◌⊎◌, inl, inr, Bool, true, false, zero, suc, ℕ, ◌+◌, ◌≤◌, ◌<◌, List, [], ◌∷◌, ◌++◌, length, Option, None, Some, Ok, refl, sym, ◌∙◌, ap, subst, append_assoc, arith}
use Rattle.jo_lex.specs.declared.punct.Punct.{Punct}
use Rattle.jo_lex.specs.declared.punct.Punct.TheVariants as p
use Rattle.jo_parse_tree.specs.declared.keyword.Keyword.TheVariants as kw
use Rattle.jo_parse_grammar.specs.declared.terminal.Terminal.{Terminal}
use Rattle.jo_parse_grammar.specs.declared.terminal.Terminal.TheVariants as t
use Rattle.jo_parse_tree.specs.Trees.{Tree, Head, declares, begins}
use Rattle.jo_parse_grammar.specs.Expressions.{Symbol, punct, word, MayStand, spelling}
use Rattle.jo_parse_grammar.specs.Statements.{FitOptional, FitAll, FitHead, optional, bindings, head, more_arguments, arguments, bracketed}
use Rattle.jo_parse_grammar.specs.Refusals.{Language, terms}
use Rattle.jo_parse_grammar.specs.inner.Read.{peek, next, punct_rank, rank, read}
use Rattle.jo_parse_grammar.specs.inner.ReadStatements.{in_brackets_at, optional_ended, head_at, arguments_from, arguments_after}
use Rattle.jo_parse_grammar.proofs.Outcome.{Outcome, bind, Any, nothing, outcome-pure, one, outcome-same, mapped, outcome-map, join, terms-split, outcome-sees, plain-after, outcome-enter}
use Rattle.jo_parse_grammar.proofs.Levels.{at, Above, some_tree, outcome-below, closed_by, outcome-closed}
use Rattle.jo_parse_grammar.proofs.Exact.{outcome-read}
use Rattle.jo_parse_grammar.proofs.Bracketed.{an_ended, some_ended, outcome-ended}
use Rattle.jo_parse_grammar.proofs.First.{begins_tree, not-first}
use Rattle.jo_parse_grammar.proofs.Separated.{elements, elements_end, outcome-element, outcome-no-element, outcome-elements}
use Rattle.jo_parse_grammar.proofs.Declarations.{a_let, some_let, outcome-let}

-- ---- an expression in round brackets, where d constructs are open

abbrev pub in_brackets : ℕ → Language Tree
in_brackets d e m = MayStand true 1 e × (m ≡ bracketed d (spelling (d + 1) e))

abbrev brackets_parts : ℕ → Language Tree
brackets_parts d = bind (one (t.Punct p.OpenParen) (d + 1)) (λ _. an_ended (d + 1) p.CloseParen)

brackets-to : (d : ℕ) (e : Tree) (m : List Symbol) → brackets_parts d e m → in_brackets d e m
brackets-to d e m (u, x, y, l, k, w) = (k.0, w ∙ join l k.1)

brackets-from : (d : ℕ) (e : Tree) (m : List Symbol) → in_brackets d e m → brackets_parts d e m
brackets-from d e m k = (tt, (t.Punct p.OpenParen, d + 1) ∷ [], spelling (d + 1) e ++ punct p.CloseParen ∷ [], refl, (k.0, refl), k.1)

pub some_brackets : (d : ℕ) → (e : Tree) × (m : List Symbol) × in_brackets d e m
some_brackets d = let i = some_tree true 1 (d + 1) in (i.0, bracketed d (spelling (d + 1) i.0), (i.2.0, refl))

-- ---- an expression or none, and the terminal that ends it

abbrev pub an_optional : Bool → ℕ → Punct → Language (Option Tree)
an_optional ins d c v m = FitOptional ins v × (m ≡ optional d v ++ punct c ∷ [])

abbrev only_end : Punct → Language (Option Tree)
only_end c = bind (one (t.Punct c) 0) (λ _. nothing None)

abbrev tree_end : Bool → ℕ → Punct → Language (Option Tree)
tree_end ins d c = closed_by ins d (t.Punct c) (λ e. nothing (Some e))

end-to : (ins : Bool) (d : ℕ) (c : Punct) (v : Option Tree) (m : List Symbol) → only_end c v m → an_optional ins d c v m
end-to ins d c v m k = (subst (λ z. FitOptional ins z) (sym k.4.0) tt, k.5 ∙ join k.3 k.4.1 ∙ ap (λ z. optional d z ++ punct c ∷ []) (sym k.4.0))

tree-to : (ins : Bool) (d : ℕ) (c : Punct) (v : Option Tree) (m : List Symbol) → tree_end ins d c v m → an_optional ins d c v m
tree-to ins d c v m (e, x, y, k, (u, x', y', l, (same, none), w'), w) =
    (subst (λ z. FitOptional ins z) (sym same) k.0, w ∙ join k.1 (w' ∙ join l none) ∙ ap (λ z. optional d z ++ punct c ∷ []) (sym same))

optional-split : (ins : Bool) (d : ℕ) (c : Punct) → begins_tree (t.Punct c) ≡ false → (v : Option Tree) (m : List Symbol) (r : List Terminal) → an_optional ins d c v m
    → ((peek (terms m ++ r) ≡ t.Punct c) × only_end c v m) ⊎ ((peek (terms m ++ r) ≡ t.Punct c → ⊥) × tree_end ins d c v m)
optional-split ins d c h None m r k = inl (ap (λ z. peek (terms z ++ r)) k.1, (tt, punct c ∷ [], [], refl, (refl, refl), k.1))
optional-split ins d c h (Some e) m r k =
    inr (
      λ g. not-first (t.Punct c) h ins 1 d e (spelling d e) (terms (punct c ∷ []) ++ r) (k.0, refl) (ap peek (sym (terms-split (spelling d e) (punct c ∷ []) r)) ∙ (ap (λ z. peek (terms z ++ r)) (sym k.1) ∙ g)),
      (e, spelling d e, punct c ∷ [], (k.0, refl), (tt, punct c ∷ [], [], refl, (refl, refl), refl), k.1),
    )

pub some_optional : (ins : Bool) (d : ℕ) (c : Punct) → (v : Option Tree) × (m : List Symbol) × an_optional ins d c v m
some_optional ins d c = (None, punct c ∷ [], (tt, refl))

-- ---- the first part of the head of a `for`

abbrev pub a_head : ℕ → Language Head
a_head d h m = FitHead h × (m ≡ head d h)

abbrev head_let : ℕ → Language Head
head_let d = bind (one (t.Keyword kw.Let) 0) (λ _. mapped declares (a_let false d))

abbrev head_tree : ℕ → Language Head
head_tree d = mapped begins (an_optional false d p.Semicolon)

head-let-to : (d : ℕ) (h : Head) (m : List Symbol) → head_let d h m → a_head d h m
head-let-to d h m (u, x, y, l, (bs, k, same), w) = (subst (λ z. FitHead z) (sym same) k.0, w ∙ join l k.1 ∙ ap (λ z. head d z) (sym same))

head-tree-to : (d : ℕ) (h : Head) (m : List Symbol) → head_tree d h m → a_head d h m
head-tree-to d h m (v, k, same) = (subst (λ z. FitHead z) (sym same) k.0, k.1 ∙ ap (λ z. head d z) (sym same))

optional-no-let : (ins : Bool) (d : ℕ) (v : Option Tree) (r : List Terminal) → FitOptional ins v → peek (terms (optional d v ++ punct p.Semicolon ∷ []) ++ r) ≢ t.Keyword kw.Let
optional-no-let ins d None r k g = cc
optional-no-let ins d (Some e) r k g = not-first (t.Keyword kw.Let) refl ins 1 d e (spelling d e) (terms (punct p.Semicolon ∷ []) ++ r) (k, refl) (ap peek (sym (terms-split (spelling d e) (punct p.Semicolon ∷ []) r)) ∙ g)

head-split : (d : ℕ) (h : Head) (m : List Symbol) (r : List Terminal) → a_head d h m
    → ((peek (terms m ++ r) ≡ t.Keyword kw.Let) × head_let d h m) ⊎ ((peek (terms m ++ r) ≡ t.Keyword kw.Let → ⊥) × head_tree d h m)
head-split d (declares bs) m r k = inl (ap (λ z. peek (terms z ++ r)) k.1, (tt, word kw.Let ∷ [], bindings d bs ++ punct p.Semicolon ∷ [], refl, (bs, (k.0, refl), refl), k.1))
head-split d (begins v) m r k = inr (λ g. optional-no-let false d v r k.0 (ap (λ z. peek (terms z ++ r)) (sym k.1) ∙ g), (v, k, refl))

pub some_head : (d : ℕ) → (h : Head) × (m : List Symbol) × a_head d h m
some_head d = (begins None, punct p.Semicolon ∷ [], (tt, refl))

-- ---- arguments after their bracket

abbrev pub all_arguments : ℕ → Language (List Tree)
all_arguments d es m = FitAll es × (m ≡ arguments d es ++ punct p.CloseParen ∷ [])

abbrev no_arguments : Language (List Tree)
no_arguments = bind (one (t.Punct p.CloseParen) 0) (λ _. nothing [])

abbrev first_argument : ℕ → Language (List Tree)
first_argument d = bind (at true 1 d) (λ e. elements_end (at true 1 d) (t.Punct p.CloseParen) (e ∷ []))

more-to : (d : ℕ) (es : List Tree) (m : List Symbol) → elements (at true 1 d) (t.Punct p.CloseParen) es m → FitAll es × (m ≡ more_arguments d es)
more-to d [] m k = (tt, k)
more-to d (e ∷ es) m k = let f = more-to d es k.1 k.3 in ((k.2.0, f.0), k.4 ∙ ap (λ z. punct p.Comma ∷ z) (join k.2.1 f.1))

more-from : (d : ℕ) (es : List Tree) → FitAll es → elements (at true 1 d) (t.Punct p.CloseParen) es (more_arguments d es)
more-from d [] k = refl
more-from d (e ∷ es) k = (spelling d e, more_arguments d es, (k.0, refl), more-from d es k.1, refl)

none-to : (d : ℕ) (v : List Tree) (m : List Symbol) → no_arguments v m → all_arguments d v m
none-to d v m k = (subst (λ z. FitAll z) (sym k.4.0) tt, k.5 ∙ join k.3 k.4.1 ∙ ap (λ z. arguments d z ++ punct p.CloseParen ∷ []) (sym k.4.0))

first-to : (d : ℕ) (v : List Tree) (m : List Symbol) → first_argument d v m → all_arguments d v m
first-to d v m (e, x, y, k, (es, z, q, same, w'), w) =
    let f = more-to d es z q in (
      subst (λ s. FitAll s) (sym same) (k.0, f.0),
      w ∙ (join k.1 (w' ∙ ap (λ s. s ++ punct p.CloseParen ∷ []) f.1) ∙ (sym (append_assoc (spelling d e) (more_arguments d es) (punct p.CloseParen ∷ [])) ∙ ap (λ s. arguments d s ++ punct p.CloseParen ∷ []) (sym same))),
    )

arguments-split : (d : ℕ) (v : List Tree) (m : List Symbol) (r : List Terminal) → all_arguments d v m
    → ((peek (terms m ++ r) ≡ t.Punct p.CloseParen) × no_arguments v m) ⊎ ((peek (terms m ++ r) ≡ t.Punct p.CloseParen → ⊥) × first_argument d v m)
arguments-split d [] m r k = inl (ap (λ z. peek (terms z ++ r)) k.1, (tt, punct p.CloseParen ∷ [], [], refl, (refl, refl), k.1))
arguments-split d (e ∷ es) m r k =
    let end = punct p.CloseParen ∷ [] in
    let parts : m ≡ spelling d e ++ (more_arguments d es ++ end) = k.1 ∙ append_assoc (spelling d e) (more_arguments d es) end in
    inr (
      λ g. not-first (t.Punct p.CloseParen) refl true 1 d e (spelling d e) (terms (more_arguments d es ++ end) ++ r) (k.0.0, refl)
          (ap peek (sym (terms-split (spelling d e) (more_arguments d es ++ end) r)) ∙ (ap (λ z. peek (terms z ++ r)) (sym parts) ∙ g)),
      (e, spelling d e, more_arguments d es ++ end, (k.0.0, refl), (es, more_arguments d es, more-from d es k.0.1, refl, refl), parts),
    )

pub some_arguments : (d : ℕ) → (es : List Tree) × (m : List Symbol) × all_arguments d es m
some_arguments d = ([], punct p.CloseParen ∷ [], (tt, refl))

-- ---- how they are read

flat-rank : (ins : Bool) (c : Punct) → punct_rank c ≡ 0 → rank ins (t.Punct c) ≡ 0
flat-rank true c h = h
flat-rank false c h = h

flat-below : (c : Punct) → punct_rank c ≡ 0 → rank true (t.Punct c) < 1
flat-below c h = omega arith

module _ (limit d room : ℕ) (sum : d + room ≡ limit) where
  pub outcome-brackets : (ts : List Terminal) → Outcome (in_brackets d) Any Any limit ts (in_brackets_at room ts)
  unfolding in_brackets_at
  outcome-brackets ts = outcome-same (brackets_parts d) (in_brackets d) Any Any limit ts (brackets-to d) (brackets-from d) _
      (outcome-enter (t.Punct p.OpenParen) d room limit ts (an_ended (d + 1) p.CloseParen) Any Any _ (omega arith) sum (some_ended (d + 1) p.CloseParen)
      (λ inner deep. outcome-ended limit (d + 1) (read inner) (outcome-read inner limit (d + 1) deep) p.CloseParen refl (next ts)))

  pub outcome-optional : (ins : Bool) (c : Punct) → begins_tree (t.Punct c) ≡ false → punct_rank c ≡ 0 → (ts : List Terminal) → Outcome (an_optional ins d c) Any Any limit ts (optional_ended room ins c ts)
  unfolding optional_ended
  outcome-optional ins c h flat ts =
      outcome-sees (t.Punct c) (an_optional ins d c) (only_end c) (tree_end ins d c) Any Any limit ts _ _ (omega arith) (end-to ins d c) (tree-to ins d c) (λ v m r k s. optional-split ins d c h v m r k)
      (λ e. plain-after (t.Punct c) d 0 limit ts (nothing None) Any Any (Ok (None, next ts)) e (None, [], (refl, refl)) (outcome-pure None Any Any limit (next ts) tt))
      (λ _. outcome-closed limit d (read room) (outcome-read room limit d sum) ins (t.Punct c) (λ e. nothing (Some e)) Any Any (omega arith) (flat-rank ins c flat) (λ e. (Some e, [], (refl, refl))) (λ e r. Ok (Some e, r)) ts
      (λ e r short. outcome-pure (Some e) Any Any limit r tt))

  pub outcome-head : (ts : List Terminal) → Outcome (a_head d) Any Any limit ts (head_at room ts)
  unfolding head_at
  outcome-head ts =
      outcome-sees (t.Keyword kw.Let) (a_head d) (head_let d) (head_tree d) Any Any limit ts _ _ (omega arith) (head-let-to d) (head-tree-to d) (λ h m r k s. head-split d h m r k)
      (λ e. plain-after (t.Keyword kw.Let) d 0 limit ts (mapped declares (a_let false d)) Any Any _ e (let b = some_let false d in (declares b.0, b.1, (b.0, b.2, refl)))
      (outcome-map declares (a_let false d) Any Any Any Any limit (next ts) (λ _ _ _ _ s. s) (λ _ _ _ _ g. g) _ (outcome-let limit d room sum false (next ts))))
      (λ _. outcome-map begins (an_optional false d p.Semicolon) Any Any Any Any limit ts (λ _ _ _ _ s. s) (λ _ _ _ _ g. g) _ (outcome-optional false p.Semicolon refl refl ts))

  one_argument : (ts : List Terminal) → Outcome (at true 1 d) (Above true 1) Any limit ts (read room true 1 ts)
  one_argument ts = outcome-below limit d (read room) (outcome-read room limit d sum) true 1 (inl refl) ts

  pub outcome-arguments-from : (n : ℕ) (found : List Tree) (ts : List Terminal) → length ts ≤ n
      → Outcome (elements_end (at true 1 d) (t.Punct p.CloseParen) found) Any Any limit ts (arguments_from room n found ts)
  unfolding arguments_from
  outcome-arguments-from zero found [] h =
      outcome-no-element (at true 1 d) (t.Punct p.CloseParen) (Above true 1) (omega arith) (λ e. cc) (λ _. flat-below p.CloseParen refl) (λ _. flat-below p.Comma refl) (some_tree true 1 d) limit
      (λ r. read room true 1 r) one_argument found (λ e. omega arith)
  outcome-arguments-from zero found (c ∷ r) h = absurd (omega arith)
  outcome-arguments-from (suc n) found ts h =
      outcome-elements (at true 1 d) (t.Punct p.CloseParen) (Above true 1) (omega arith) (λ e. cc) (λ _. flat-below p.CloseParen refl) (λ _. flat-below p.Comma refl) (some_tree true 1 d) limit
      (λ r. read room true 1 r) one_argument found (λ e r. arguments_from room n (found ++ e ∷ []) r) ts (λ e r short. outcome-arguments-from n (found ++ e ∷ []) r (omega arith))

  pub outcome-arguments : (ts : List Terminal) → Outcome (all_arguments d) Any Any limit ts (arguments_after room ts)
  unfolding arguments_after
  outcome-arguments ts =
      outcome-sees (t.Punct p.CloseParen) (all_arguments d) no_arguments (first_argument d) Any Any limit ts _ _ (omega arith) (none-to d) (first-to d) (λ v m r k s. arguments-split d v m r k)
      (λ e. plain-after (t.Punct p.CloseParen) d 0 limit ts (nothing []) Any Any (Ok ([], next ts)) e ([], [], (refl, refl)) (outcome-pure [] Any Any limit (next ts) tt))
      (λ _. outcome-element (at true 1 d) (t.Punct p.CloseParen) (Above true 1) (omega arith) (λ e. cc) (λ _. flat-below p.CloseParen refl) (λ _. flat-below p.Comma refl) (some_tree true 1 d) limit
      (λ r. read room true 1 r) one_argument (λ e. e ∷ []) _ ts (λ e r short. outcome-arguments-from (length r) (e ∷ []) r (omega arith)))
