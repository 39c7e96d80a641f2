-- The kinds of statements, each by its first terminal and in the parts that are read.
use Rattle.std.proofs.Common.{◌≡◌, ◌≢◌, ◌⊎◌, inl, inr, Bool, true, ℕ, ◌+◌, List, [], ◌∷◌, ◌++◌, Option, refl, sym, ◌∙◌, ap, subst}
use Rattle.jo_lex.specs.declared.punct.Punct.TheVariants as p
use Rattle.jo_parse_tree.specs.declared.keyword.Keyword.{Keyword}
use Rattle.jo_parse_tree.specs.declared.keyword.Keyword.TheVariants as kw
use Rattle.jo_parse_grammar.specs.declared.terminal.Terminal.{Terminal}
use Rattle.jo_parse_grammar.specs.declared.terminal.Terminal.TheVariants as t
use Rattle.jo_parse_tree.specs.Trees.{Tree, Head, Statement, empty, block, when, either, while, for, break, continue, print, print_names, evaluate, no_items}
use Rattle.jo_parse_grammar.specs.Expressions.{Symbol, punct, word, MayStand, spelling, first}
use Rattle.jo_parse_grammar.specs.Statements.{FitStatement, IsClosed, optional, head, arguments, bracketed, statement, items}
use Rattle.jo_parse_grammar.specs.Refusals.{Language, terms}
use Rattle.jo_parse_grammar.specs.inner.Read.{peek}
use Rattle.jo_parse_grammar.proofs.Outcome.{bind, nothing, one, mapped, join}
use Rattle.jo_parse_grammar.proofs.Levels.{nil-right, closed_by}
use Rattle.jo_parse_grammar.proofs.First.{begins_tree, first-begins, run-is, statement_language}
use Rattle.jo_parse_grammar.proofs.Parts.{in_brackets, an_optional, a_head, all_arguments}
use Rattle.jo_parse_grammar.proofs.Items.{items_end, brace}

-- ---- the languages, where d constructs are open

abbrev pub an_empty : Language Statement
an_empty v m = (v ≡ empty) × (m ≡ punct p.Semicolon ∷ [])

abbrev pub a_block : Bool → ℕ → Language Statement
a_block loops d = bind (one (t.Punct p.OpenBrace) (d + 1)) (λ _. mapped block (items_end loops (d + 1) brace no_items))

-- the semicolon after a statement
abbrev pub semicolon : Statement → Language Statement
semicolon s = bind (one (t.Punct p.Semicolon) 0) (λ _. nothing s)

abbrev pub a_leave : Keyword → Statement → Language Statement
a_leave w s = bind (one (t.Keyword w) 0) (λ _. semicolon s)

abbrev pub print_arguments : ℕ → Language Statement
print_arguments d = bind (all_arguments (d + 1)) (λ es. semicolon (print es))

abbrev pub print_parts : ℕ → Language Statement
print_parts d = bind (one (t.Punct p.OpenParen) (d + 1)) (λ _. print_arguments d)

abbrev pub a_print : ℕ → Language Statement
a_print d = bind (one (t.Keyword kw.Print) 0) (λ _. print_parts d)

abbrev pub names_parts : ℕ → Language Statement
names_parts d = bind (in_brackets d) (λ e. semicolon (print_names e))

abbrev pub a_print_names : ℕ → Language Statement
a_print_names d = bind (one (t.Keyword kw.PrintNames) 0) (λ _. names_parts d)

abbrev pub else_part : Bool → ℕ → Tree → Statement → Language Statement
else_part loops d c a = bind (one (t.Keyword kw.Else) 0) (λ _. mapped (either c a) (statement_language loops d))

abbrev pub else_rest : Bool → ℕ → Tree → Statement → Language Statement
else_rest loops d c a v m = (IsClosed a × else_part loops d c a v m) ⊎ nothing (when c a) v m

abbrev pub then_part : Bool → ℕ → Tree → Language Statement
then_part loops d c = bind (statement_language loops d) (λ a. else_rest loops d c a)

abbrev pub if_parts : Bool → ℕ → Language Statement
if_parts loops d = bind (in_brackets d) (λ c. then_part loops d c)

abbrev pub an_if : Bool → ℕ → Language Statement
an_if loops d = bind (one (t.Keyword kw.If) (d + 1)) (λ _. if_parts loops (d + 1))

abbrev pub while_parts : ℕ → Language Statement
while_parts d = bind (in_brackets d) (λ c. mapped (while c) (statement_language true d))

abbrev pub a_while : ℕ → Language Statement
a_while d = bind (one (t.Keyword kw.While) (d + 1)) (λ _. while_parts (d + 1))

abbrev pub for_body : ℕ → Head → Option Tree → Option Tree → Language Statement
for_body d h c u = mapped (for h c u) (statement_language true d)

abbrev pub for_step : ℕ → Head → Option Tree → Language Statement
for_step d h c = bind (an_optional true (d + 1) p.CloseParen) (λ u. for_body d h c u)

abbrev pub for_condition : ℕ → Head → Language Statement
for_condition d h = bind (an_optional true (d + 1) p.Semicolon) (λ c. for_step d h c)

abbrev pub for_head : ℕ → Language Statement
for_head d = bind (a_head (d + 1)) (λ h. for_condition d h)

abbrev pub for_parts : ℕ → Language Statement
for_parts d = bind (one (t.Punct p.OpenParen) (d + 1)) (λ _. for_head d)

abbrev pub a_for : ℕ → Language Statement
a_for d = bind (one (t.Keyword kw.For) (d + 1)) (λ _. for_parts (d + 1))

-- an expression as a statement, also one that begins with a brace
abbrev pub a_run : ℕ → Language Statement
a_run d = closed_by true d (t.Punct p.Semicolon) (λ e. nothing (evaluate e))

abbrev pub a_run_flat : ℕ → Language Statement
a_run_flat d v m = (e : Tree) × MayStand true 1 e × (v ≡ evaluate e) × (m ≡ spelling d e ++ punct p.Semicolon ∷ [])

-- the kind that begins with the terminal
abbrev pub kind : Bool → ℕ → Terminal → Language Statement
kind loops d (t.Keyword kw.If) v m = an_if loops d v m
kind loops d (t.Keyword kw.While) v m = a_while d v m
kind loops d (t.Keyword kw.For) v m = a_for d v m
kind loops d (t.Keyword kw.Break) v m = (loops ≡ true) × a_leave kw.Break break v m
kind loops d (t.Keyword kw.Continue) v m = (loops ≡ true) × a_leave kw.Continue continue v m
kind loops d (t.Keyword kw.Print) v m = a_print d v m
kind loops d (t.Keyword kw.PrintNames) v m = a_print_names d v m
kind loops d (t.Punct p.Semicolon) v m = an_empty v m
kind loops d (t.Punct p.OpenBrace) v m = a_block loops d v m
kind loops d _ v m = a_run_flat d v m

-- ---- from a statement to its kind

-- a terminal that begins an expression and is no brace begins no other kind
run-kind : (loops : Bool) (d : ℕ) (c : Terminal) (v : Statement) (m : List Symbol) → begins_tree c ≡ true → c ≢ t.Punct p.OpenBrace → a_run_flat d v m → kind loops d c v m
run-kind loops d (t.Keyword kw.If) v m h away k = cc
run-kind loops d (t.Keyword kw.While) v m h away k = cc
run-kind loops d (t.Keyword kw.For) v m h away k = cc
run-kind loops d (t.Keyword kw.Break) v m h away k = cc
run-kind loops d (t.Keyword kw.Continue) v m h away k = cc
run-kind loops d (t.Keyword kw.Print) v m h away k = cc
run-kind loops d (t.Keyword kw.PrintNames) v m h away k = cc
run-kind loops d (t.Punct p.Semicolon) v m h away k = cc
run-kind loops d (t.Punct p.OpenBrace) v m h away k = absurd (away refl)
run-kind loops d _ v m h away k = k

brackets-then : (d : ℕ) (e : Tree) (r : List Symbol) (K : Tree → Language Statement) (v : Statement) → MayStand true 1 e → K e v r → bind (in_brackets d) K v (bracketed d (spelling (d + 1) e) ++ r)
brackets-then d e r K v f k = (e, bracketed d (spelling (d + 1) e), r, (f, refl), k, refl)

-- the words of a `for` as they are read
words-optional : (c u r : List Symbol) (x y : Symbol) → ((c ++ x ∷ u) ++ y ∷ []) ++ r ≡ (c ++ x ∷ []) ++ ((u ++ y ∷ []) ++ r)
words-optional [] u r x y = refl
words-optional (a ∷ c) u r x y = ap (λ v. a ∷ v) (words-optional c u r x y)

words-for : (h c u r : List Symbol) (x y : Symbol) → ((h ++ (c ++ x ∷ u)) ++ y ∷ []) ++ r ≡ h ++ ((c ++ x ∷ []) ++ ((u ++ y ∷ []) ++ r))
words-for [] c u r x y = words-optional c u r x y
words-for (a ∷ h) c u r x y = ap (λ v. a ∷ v) (words-for h c u r x y)

abbrev for_words : ℕ → Head → Option Tree → Option Tree → List Symbol → List Symbol
for_words d h c u r = head (d + 1) h ++ ((optional (d + 1) c ++ punct p.Semicolon ∷ []) ++ ((optional (d + 1) u ++ punct p.CloseParen ∷ []) ++ r))

for-words : (d : ℕ) (h : Head) (c u : Option Tree) (r : List Symbol)
    → bracketed d (head (d + 1) h ++ (optional (d + 1) c ++ punct p.Semicolon ∷ optional (d + 1) u)) ++ r ≡ (t.Punct p.OpenParen, d + 1) ∷ for_words d h c u r
for-words d h c u r = ap (λ v. (t.Punct p.OpenParen, d + 1) ∷ v) (words-for (head (d + 1) h) (optional (d + 1) c) (optional (d + 1) u) r (punct p.Semicolon) (punct p.CloseParen))

for-kind : (d : ℕ) (h : Head) (c u : Option Tree) (s : Statement) → FitStatement true (for h c u s) → a_for d (for h c u s) (statement d (for h c u s))
for-kind d h c u s f = (
  tt,
  (t.Keyword kw.For, d + 1) ∷ [],
  (t.Punct p.OpenParen, d + 1 + 1) ∷ for_words (d + 1) h c u (statement (d + 1) s),
  refl,
  (
    tt,
    (t.Punct p.OpenParen, d + 1 + 1) ∷ [],
    for_words (d + 1) h c u (statement (d + 1) s),
    refl,
    (
      h,
      head (d + 1 + 1) h,
      (optional (d + 1 + 1) c ++ punct p.Semicolon ∷ []) ++ ((optional (d + 1 + 1) u ++ punct p.CloseParen ∷ []) ++ statement (d + 1) s),
      (f.0, refl),
      (
        c,
        optional (d + 1 + 1) c ++ punct p.Semicolon ∷ [],
        (optional (d + 1 + 1) u ++ punct p.CloseParen ∷ []) ++ statement (d + 1) s,
        (f.1, refl),
        (u, optional (d + 1 + 1) u ++ punct p.CloseParen ∷ [], statement (d + 1) s, (f.2, refl), (s, (f.3, refl), refl), refl),
        refl,
      ),
      refl,
    ),
    refl,
  ),
  ap (λ v. (t.Keyword kw.For, d + 1) ∷ v) (for-words (d + 1) h c u (statement (d + 1) s)),
)

kind-here : (loops : Bool) (d : ℕ) (v : Statement) (r : List Terminal) → FitStatement loops v → kind loops d (peek (terms (statement d v) ++ r)) v (statement d v)
kind-here loops d empty r f = (refl, refl)
kind-here loops d (block ss) r f = (tt, (t.Punct p.OpenBrace, d + 1) ∷ [], items (d + 1) ss ++ brace, refl, (ss, (ss, f, refl, refl), refl), refl)
kind-here loops d (when c s) r f = (
  tt,
  (t.Keyword kw.If, d + 1) ∷ [],
  bracketed (d + 1) (spelling (d + 1 + 1) c) ++ statement (d + 1) s,
  refl,
  brackets-then (d + 1) c (statement (d + 1) s) (λ c. then_part loops (d + 1) c) (when c s) f.0 (s, statement (d + 1) s, [], (f.1, refl), inr (refl, refl), sym (nil-right (statement (d + 1) s))),
  refl,
)
kind-here loops d (either c a b) r f = (
  tt,
  (t.Keyword kw.If, d + 1) ∷ [],
  bracketed (d + 1) (spelling (d + 1 + 1) c) ++ (statement (d + 1) a ++ word kw.Else ∷ statement (d + 1) b),
  refl,
  brackets-then (d + 1) c (statement (d + 1) a ++ word kw.Else ∷ statement (d + 1) b) (λ c. then_part loops (d + 1) c) (either c a b) f.0
      (a, statement (d + 1) a, word kw.Else ∷ statement (d + 1) b, (f.1, refl), inl (f.2, (tt, word kw.Else ∷ [], statement (d + 1) b, refl, (b, (f.3, refl), refl), refl)), refl),
  refl,
)
kind-here loops d (while c s) r f = (
  tt,
  (t.Keyword kw.While, d + 1) ∷ [],
  bracketed (d + 1) (spelling (d + 1 + 1) c) ++ statement (d + 1) s,
  refl,
  brackets-then (d + 1) c (statement (d + 1) s) (λ c. mapped (while c) (statement_language true (d + 1))) (while c s) f.0 (s, (f.1, refl), refl),
  refl,
)
kind-here loops d (for h c u s) r f = for-kind d h c u s f
kind-here loops d break r f = (f, (tt, word kw.Break ∷ [], punct p.Semicolon ∷ [], refl, (tt, punct p.Semicolon ∷ [], [], refl, (refl, refl), refl), refl))
kind-here loops d continue r f = (f, (tt, word kw.Continue ∷ [], punct p.Semicolon ∷ [], refl, (tt, punct p.Semicolon ∷ [], [], refl, (refl, refl), refl), refl))
kind-here loops d (print es) r f = (
  tt,
  word kw.Print ∷ [],
  bracketed d (arguments (d + 1) es) ++ punct p.Semicolon ∷ [],
  refl,
  (
    tt,
    (t.Punct p.OpenParen, d + 1) ∷ [],
    (arguments (d + 1) es ++ punct p.CloseParen ∷ []) ++ punct p.Semicolon ∷ [],
    refl,
    (es, arguments (d + 1) es ++ punct p.CloseParen ∷ [], punct p.Semicolon ∷ [], (f, refl), (tt, punct p.Semicolon ∷ [], [], refl, (refl, refl), refl), refl),
    refl,
  ),
  refl,
)
kind-here loops d (print_names e) r f = (
  tt,
  word kw.PrintNames ∷ [],
  bracketed d (spelling (d + 1) e) ++ punct p.Semicolon ∷ [],
  refl,
  brackets-then d e (punct p.Semicolon ∷ []) (λ e. semicolon (print_names e)) (print_names e) f (tt, punct p.Semicolon ∷ [], [], refl, (refl, refl), refl),
  refl,
)
kind-here loops d (evaluate e) r f =
    subst (λ c. kind loops d c (evaluate e) (spelling d e ++ punct p.Semicolon ∷ [])) (sym (run-is d e r))
    (run-kind loops d (first e) (evaluate e) (spelling d e ++ punct p.Semicolon ∷ []) (first-begins true 1 e f.0) f.1 (e, f.0, refl, refl))

pub kind-at : (loops : Bool) (d : ℕ) (v : Statement) (m : List Symbol) (r : List Terminal) → statement_language loops d v m → kind loops d (peek (terms m ++ r)) v m
kind-at loops d v m r k = subst (λ w. kind loops d (peek (terms w ++ r)) v w) (sym k.1) (kind-here loops d v r k.0)

-- ---- from a kind to its statement

module _ (loops : Bool) (d : ℕ) (v : Statement) (m : List Symbol) where
  -- a statement with these words
  is-statement : (s : Statement) → v ≡ s → FitStatement loops s → m ≡ statement d s → statement_language loops d v m
  is-statement s same f e = (subst (λ z. FitStatement loops z) (sym same) f, e ∙ ap (λ z. statement d z) (sym same))

  pub empty-to : an_empty v m → statement_language loops d v m
  empty-to k = is-statement empty k.0 tt k.1

  pub block-to : a_block loops d v m → statement_language loops d v m
  block-to (u, x, y, l, (ss, (is, f, g, w), same), e) = is-statement (block is) (same ∙ ap (λ z. block z) g) f (e ∙ join l w)

  pub break-to : (loops ≡ true) × a_leave kw.Break break v m → statement_language loops d v m
  break-to (h, (u, x, y, l, (u', x', y', l', (same, none), e'), e)) = is-statement break same h (e ∙ join l (e' ∙ join l' none))

  pub continue-to : (loops ≡ true) × a_leave kw.Continue continue v m → statement_language loops d v m
  continue-to (h, (u, x, y, l, (u', x', y', l', (same, none), e'), e)) = is-statement continue same h (e ∙ join l (e' ∙ join l' none))

  pub print-to : a_print d v m → statement_language loops d v m
  print-to (u, x, y, l, (u', x', y', l', (es, x2, y2, k, (u3, x3, y3, l3, (same, none), e3), e2), e'), e) =
      is-statement (print es) same k.0 (e ∙ join l (e' ∙ join l' (e2 ∙ join k.1 (e3 ∙ join l3 none))))

  pub names-to : a_print_names d v m → statement_language loops d v m
  names-to (u, x, y, l, (c, x2, y2, k, (u3, x3, y3, l3, (same, none), e3), e2), e) = is-statement (print_names c) same k.0 (e ∙ join l (e2 ∙ join k.1 (e3 ∙ join l3 none)))

  pub if-to : an_if loops d v m → statement_language loops d v m
  if-to (u, x, y, l, (c, x1, y1, k1, (a, x2, y2, k2, inl (closed, (u3, x3, y3, l3, (b, k4, same), e3)), e2), e1), e) =
      is-statement (either c a b) same (k1.0, k2.0, closed, k4.0) (e ∙ join l (e1 ∙ join k1.1 (e2 ∙ join k2.1 (e3 ∙ join l3 k4.1))))
  if-to (u, x, y, l, (c, x1, y1, k1, (a, x2, y2, k2, inr (same, none), e2), e1), e) =
      is-statement (when c a) same (k1.0, k2.0) (e ∙ join l (e1 ∙ join k1.1 (e2 ∙ join k2.1 none ∙ nil-right (statement (d + 1) a))))

  pub while-to : a_while d v m → statement_language loops d v m
  while-to (u, x, y, l, (c, x1, y1, k1, (s, k2, same), e1), e) = is-statement (while c s) same (k1.0, k2.0) (e ∙ join l (e1 ∙ join k1.1 k2.1))

  pub for-to : a_for d v m → statement_language loops d v m
  for-to (u, x, y, l, (u1, x1, y1, l1, (h, x2, y2, k2, (c, x3, y3, k3, (i, x4, y4, k4, (s, k5, same), e4), e3), e2), e1), e) =
      is-statement (for h c i s) same (k2.0, k3.0, k4.0, k5.0)
      (e ∙ join l (e1 ∙ join l1 (e2 ∙ join k2.1 (e3 ∙ join k3.1 (e4 ∙ join k4.1 k5.1))) ∙ sym (for-words (d + 1) h c i (statement (d + 1) s))))

  pub run-flat : a_run d v m → a_run_flat d v m
  run-flat (e, x, y, k, (u, x1, y1, l1, (same, none), e1), f) = (e, k.0, same, f ∙ join k.1 (e1 ∙ join l1 none))

  pub flat-run : a_run_flat d v m → a_run d v m
  flat-run (e, f, same, w) = (e, spelling d e, punct p.Semicolon ∷ [], (f, refl), (tt, punct p.Semicolon ∷ [], [], refl, (same, refl), refl), w)

  pub run-to : (r : List Terminal) → peek (terms m ++ r) ≢ t.Punct p.OpenBrace → a_run d v m → statement_language loops d v m
  run-to r away k =
      let f = run-flat k in
      let here : peek (terms m ++ r) ≡ first f.0 = ap (λ z. peek (terms z ++ r)) f.3 ∙ run-is d f.0 r in
      is-statement (evaluate f.0) f.2 (f.1, λ h. away (here ∙ h)) f.3
