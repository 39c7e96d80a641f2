-- Worked cases of acceptance and refusal, each with all that the definition asks for: no other tree has the terminals, and no spelling goes on.
use Rattle.std.proofs.Common.{refl, sym, ap, ◌∙◌, true≢false, arith}
use Rattle.std.proofs.lemmas.List.{append_assoc}
use Rattle.std.specs.Prelude.{◌≡◌, ℕ, zero, suc, ◌+◌, Bool, true, false, List, [], ◌∷◌, ◌++◌, replicate, drop}
use Rattle.jo_lex.specs.declared.punct.Punct.TheVariants as p
use Rattle.jo_parse_tree.specs.declared.keyword.Keyword.TheVariants as kw
use Rattle.jo_parse_tree.specs.declared.operator.UnaryOperator.TheVariants as un
use Rattle.jo_parse_grammar.specs.declared.terminal.Terminal.{Terminal}
use Rattle.jo_parse_grammar.specs.declared.terminal.Terminal.TheVariants as t
use Rattle.jo_parse_tree.specs.Trees.{Tree, number, literal, constant, variable, group, object, cas, member, unary, delete, chain, choose, assign, empty, block, when, either, while, for, break, continue, print, print_names, evaluate, Items, no_items, declare, perform}
use Rattle.jo_parse_grammar.specs.Expressions.{Symbol, punct, MayStand, spelling, first}
use Rattle.jo_parse_grammar.specs.Statements.{FitItems, IsScript, items}
use Rattle.jo_parse_grammar.specs.Refusals.{terms, IsAccepted, IsRefused, unexpected, too_deep}
use Rattle.jo_parse_grammar.proofs.Edges.{IsLedBy, led_further, led_by_first, IsBracketed, bracketed_further, bracketed_by_first}
use Rattle.jo_parse_grammar.proofs.Worked.{word_, round, semicolon, alone, deep, opened, opened_within, deep_fits}

-- The words of the cases.

abbrev bracket : Terminal
bracket = t.Punct p.OpenParen

-- `break;`
abbrev a_break : List Terminal
a_break = t.Keyword kw.Break ∷ t.Punct p.Semicolon ∷ []

abbrev top : List Terminal → Terminal
top [] = t.End
top (c ∷ cs) = c

abbrev is_empty : List Terminal → Bool
is_empty [] = true
is_empty (c ∷ cs) = false

-- How spellings begin.

first_of_text : (d : ℕ) (e : Tree) (s : List Symbol) (c : Terminal) (q : List Terminal) → terms (spelling d e ++ s) ≡ c ∷ q → first e ≡ c
first_of_text d e s c q h =
    let led : IsLedBy (first e) (spelling d e ++ s) = led_further (first e) (spelling d e) s (led_by_first d e) in
    sym (ap (λ k. top (terms k)) led.2) ∙ ap top h

-- each expression has a terminal
some_token : (d : ℕ) (e : Tree) (s : List Symbol) → terms (spelling d e ++ s) ≡ [] → ⊥
some_token d e s h =
    let led : IsLedBy (first e) (spelling d e ++ s) = led_further (first e) (spelling d e) s (led_by_first d e) in
    true≢false (sym (ap is_empty h) ∙ ap (λ k. is_empty (terms k)) led.2)

bracketed_text : (d : ℕ) (e : Tree) (s : List Symbol) (q : List Terminal) → terms (spelling d e ++ s) ≡ bracket ∷ q → IsBracketed d (spelling d e ++ s)
bracketed_text d e s q h = bracketed_further d (spelling d e) s (bracketed_by_first d e (first_of_text d e s bracket q h))

after_bracket : (d : ℕ) (m k l : List Symbol) → m ≡ (bracket, d + 1) ∷ k → k ≡ l → m ≡ (bracket, d + 1) ∷ l
after_bracket d m k l text inside = text ∙ ap (λ x. (bracket, d + 1) ∷ x) inside

-- each of the brackets that a spelling begins with opens one construct more
brackets_count : (n d : ℕ) (e : Tree) (s : List Symbol) (q : List Terminal) → terms (spelling d e ++ s) ≡ replicate n bracket ++ bracket ∷ q
    → (w : List Symbol) × (o : ℕ) × (r : List Symbol) × (spelling d e ++ s ≡ w ++ (bracket, o) ∷ r) × (terms w ≡ replicate n bracket) × (o ≡ d + n + 1)
brackets_count zero d e s q h =
    let text : IsBracketed d (spelling d e ++ s) = bracketed_text d e s q h in
    ([], d + 1, spelling (d + 1) text.0 ++ text.1, text.2, refl, omega arith)
brackets_count (suc n) d e s q h =
    let text : IsBracketed d (spelling d e ++ s) = bracketed_text d e s (replicate n bracket ++ bracket ∷ q) h in
    let inside : terms (spelling (d + 1) text.0 ++ text.1) ≡ replicate n bracket ++ bracket ∷ q = ap (drop 1) (sym (ap terms text.2) ∙ h) in
    let deeper : (w : List Symbol) × (o : ℕ) × (r : List Symbol) × (spelling (d + 1) text.0 ++ text.1 ≡ w ++ (bracket, o) ∷ r) × (terms w ≡ replicate n bracket) × (o ≡ d + 1 + n + 1)
    = brackets_count n (d + 1) text.0 text.1 q inside in (
      (bracket, d + 1) ∷ deeper.0,
      deeper.1,
      deeper.2,
      after_bracket d (spelling d e ++ s) (spelling (d + 1) text.0 ++ text.1) (deeper.0 ++ (bracket, deeper.1) ∷ deeper.2) text.2 deeper.3,
      ap (λ k. bracket ∷ k) deeper.4,
      omega (arith, deeper.5),
    )

-- no spelling has opening brackets alone
brackets_close : (n d : ℕ) (e : Tree) (s : List Symbol) → terms (spelling d e ++ s) ≡ replicate n bracket → ⊥
brackets_close zero d e s h = some_token d e s h
brackets_close (suc n) d e s h =
    let text : IsBracketed d (spelling d e ++ s) = bracketed_text d e s (replicate n bracket) h in
    brackets_close n (d + 1) text.0 text.1 (ap (drop 1) (sym (ap terms text.2) ∙ h))

-- a script that begins with a bracket begins with an expression
abbrev BeginsWithExpression : Items → Type 0
BeginsWithExpression s = (e : Tree) × (r : List Symbol) × (items 0 s ≡ spelling 0 e ++ r)

bracket_begins_expression : (s : Items) (q : List Terminal) → terms (items 0 s) ≡ bracket ∷ q → BeginsWithExpression s
bracket_begins_expression no_items q h = let no : t.End ≡ bracket = ap top h in absurd cc
bracket_begins_expression (declare bs is) q h = let no : t.Keyword kw.Let ≡ bracket = ap top h in absurd cc
bracket_begins_expression (perform empty is) q h = let no : t.Punct p.Semicolon ≡ bracket = ap top h in absurd cc
bracket_begins_expression (perform (block ss) is) q h = let no : t.Punct p.OpenBrace ≡ bracket = ap top h in absurd cc
bracket_begins_expression (perform (when c s) is) q h = let no : t.Keyword kw.If ≡ bracket = ap top h in absurd cc
bracket_begins_expression (perform (either c s u) is) q h = let no : t.Keyword kw.If ≡ bracket = ap top h in absurd cc
bracket_begins_expression (perform (while c s) is) q h = let no : t.Keyword kw.While ≡ bracket = ap top h in absurd cc
bracket_begins_expression (perform (for i c u s) is) q h = let no : t.Keyword kw.For ≡ bracket = ap top h in absurd cc
bracket_begins_expression (perform break is) q h = let no : t.Keyword kw.Break ≡ bracket = ap top h in absurd cc
bracket_begins_expression (perform continue is) q h = let no : t.Keyword kw.Continue ≡ bracket = ap top h in absurd cc
bracket_begins_expression (perform (print es) is) q h = let no : t.Keyword kw.Print ≡ bracket = ap top h in absurd cc
bracket_begins_expression (perform (print_names e) is) q h = let no : t.Keyword kw.PrintNames ≡ bracket = ap top h in absurd cc
bracket_begins_expression (perform (evaluate e) is) q h = (e, punct p.Semicolon ∷ [] ++ items 0 is, append_assoc (spelling 0 e) (punct p.Semicolon ∷ []) (items 0 is))

-- Brackets.

-- 65 brackets are refused at the last one, which opens a construct too many
pub the_65th_bracket_is_refused : IsRefused IsScript 64 too_deep (replicate 65 bracket) (bracket ∷ [])
the_65th_bracket_is_refused = (
  replicate 64 bracket,
  refl,
  (
    alone (evaluate (deep 65)),
    opened 0 64,
    65,
    word_ 0 ∷ (replicate 65 round ++ semicolon ∷ []),
    (((deep_fits 65, λ h. cc), tt), refl),
    refl,
    opened_within 64 0 64 (omega arith),
    omega arith,
  ),
  λ s m q fits same.
      let text : terms (items 0 s) ≡ replicate 64 bracket ++ bracket ∷ q = sym (ap terms fits.1) ∙ same in
      let begins : BeginsWithExpression s = bracket_begins_expression s (replicate 63 bracket ++ bracket ∷ q) text in
      let counted : (w : List Symbol) × (o : ℕ) × (r : List Symbol) × (spelling 0 begins.0 ++ begins.1 ≡ w ++ (bracket, o) ∷ r) × (terms w ≡ replicate 64 bracket) × (o ≡ 0 + 64 + 1)
      = brackets_count 64 0 begins.0 begins.1 q (sym (ap terms begins.2) ∙ text) in
      (counted.0, counted.1, counted.2, fits.1 ∙ begins.2 ∙ counted.3, counted.4, omega (arith, counted.5)),
)

-- 64 brackets are refused at their end, where none is closed
pub sixty_four_brackets_are_refused_at_their_end : IsRefused IsScript 64 unexpected (replicate 64 bracket) []
sixty_four_brackets_are_refused_at_their_end = (
  replicate 64 bracket,
  refl,
  (
    alone (evaluate (deep 64)),
    opened 0 64,
    word_ 0 ∷ (replicate 64 round ++ semicolon ∷ []),
    (((deep_fits 64, λ h. cc), tt), refl),
    refl,
    opened_within 64 0 64 (omega arith),
  ),
  λ s spelled.
      let text : terms (items 0 s) ≡ replicate 64 bracket = sym (ap terms spelled.1.1) ∙ spelled.2 in
      let begins : BeginsWithExpression s = bracket_begins_expression s (replicate 63 bracket) text in
      brackets_close 64 0 begins.0 begins.1 (sym (ap terms begins.2) ∙ text),
)

-- Statements.

-- no expression begins with `break`
break_begins_no_expression : (with_in : Bool) (l : ℕ) (e : Tree) → MayStand with_in l e → first e ≡ t.Keyword kw.Break → ⊥
break_begins_no_expression with_in l (number i) fits h = cc
break_begins_no_expression with_in l (literal s) fits h = cc
break_begins_no_expression with_in l (constant kw.Break) fits h = true≢false (sym fits)
break_begins_no_expression with_in l (constant w) fits h = cc
break_begins_no_expression with_in l (variable x) fits h = cc
break_begins_no_expression with_in l (group e) fits h = cc
break_begins_no_expression with_in l (object ps comma) fits h = cc
break_begins_no_expression with_in l (cas o k a b) fits h = cc
break_begins_no_expression with_in l (member e xs) fits h = break_begins_no_expression with_in 11 e fits.1 h
break_begins_no_expression with_in l (unary un.Minus e) fits h = cc
break_begins_no_expression with_in l (unary un.Not e) fits h = cc
break_begins_no_expression with_in l (delete e) fits h = cc
break_begins_no_expression with_in l (chain k e ls) fits h = break_begins_no_expression with_in (k + 1) e fits.1 h
break_begins_no_expression with_in l (choose a b c) fits h = break_begins_no_expression with_in 3 a fits.1 h
break_begins_no_expression with_in l (assign o a b) fits h = break_begins_no_expression with_in 10 a fits.2 h

-- nor a script
break_begins_no_script : (s : Items) (q : List Terminal) → FitItems false s → terms (items 0 s) ≡ t.Keyword kw.Break ∷ q → ⊥
break_begins_no_script no_items q fits h = let no : t.End ≡ t.Keyword kw.Break = ap top h in cc
break_begins_no_script (declare bs is) q fits h = let no : t.Keyword kw.Let ≡ t.Keyword kw.Break = ap top h in cc
break_begins_no_script (perform empty is) q fits h = let no : t.Punct p.Semicolon ≡ t.Keyword kw.Break = ap top h in cc
break_begins_no_script (perform (block ss) is) q fits h = let no : t.Punct p.OpenBrace ≡ t.Keyword kw.Break = ap top h in cc
break_begins_no_script (perform (when c s) is) q fits h = let no : t.Keyword kw.If ≡ t.Keyword kw.Break = ap top h in cc
break_begins_no_script (perform (either c s u) is) q fits h = let no : t.Keyword kw.If ≡ t.Keyword kw.Break = ap top h in cc
break_begins_no_script (perform (while c s) is) q fits h = let no : t.Keyword kw.While ≡ t.Keyword kw.Break = ap top h in cc
break_begins_no_script (perform (for i c u s) is) q fits h = let no : t.Keyword kw.For ≡ t.Keyword kw.Break = ap top h in cc
break_begins_no_script (perform break is) q fits h = true≢false (sym fits.0)
break_begins_no_script (perform continue is) q fits h = let no : t.Keyword kw.Continue ≡ t.Keyword kw.Break = ap top h in cc
break_begins_no_script (perform (print es) is) q fits h = let no : t.Keyword kw.Print ≡ t.Keyword kw.Break = ap top h in cc
break_begins_no_script (perform (print_names e) is) q fits h = let no : t.Keyword kw.PrintNames ≡ t.Keyword kw.Break = ap top h in cc
break_begins_no_script (perform (evaluate e) is) q fits h =
    break_begins_no_expression true 1 e fits.0.0
    (first_of_text 0 e (punct p.Semicolon ∷ [] ++ items 0 is) (t.Keyword kw.Break) q
    (sym (ap terms (append_assoc (spelling 0 e) (punct p.Semicolon ∷ []) (items 0 is))) ∙ h))

-- `break;` alone is refused at its first terminal
pub a_break_outside_a_loop_is_refused : IsRefused IsScript 64 unexpected a_break a_break
a_break_outside_a_loop_is_refused = (
  [],
  refl,
  (no_items, [], [], (tt, refl), refl, tt),
  λ (s, q, spelled). break_begins_no_script s q spelled.1.0 (sym (ap terms spelled.1.1) ∙ spelled.2),
)

-- a script without terminals is the empty one
no_tokens_no_items : (s : Items) → terms (items 0 s) ≡ [] → s ≡ no_items
no_tokens_no_items no_items h = refl
no_tokens_no_items (declare bs is) h = absurd (true≢false (sym (ap is_empty h)))
no_tokens_no_items (perform empty is) h = absurd (true≢false (sym (ap is_empty h)))
no_tokens_no_items (perform (block ss) is) h = absurd (true≢false (sym (ap is_empty h)))
no_tokens_no_items (perform (when c s) is) h = absurd (true≢false (sym (ap is_empty h)))
no_tokens_no_items (perform (either c s u) is) h = absurd (true≢false (sym (ap is_empty h)))
no_tokens_no_items (perform (while c s) is) h = absurd (true≢false (sym (ap is_empty h)))
no_tokens_no_items (perform (for i c u s) is) h = absurd (true≢false (sym (ap is_empty h)))
no_tokens_no_items (perform break is) h = absurd (true≢false (sym (ap is_empty h)))
no_tokens_no_items (perform continue is) h = absurd (true≢false (sym (ap is_empty h)))
no_tokens_no_items (perform (print es) is) h = absurd (true≢false (sym (ap is_empty h)))
no_tokens_no_items (perform (print_names e) is) h = absurd (true≢false (sym (ap is_empty h)))
no_tokens_no_items (perform (evaluate e) is) h =
    absurd (some_token 0 e (punct p.Semicolon ∷ [] ++ items 0 is) (sym (ap terms (append_assoc (spelling 0 e) (punct p.Semicolon ∷ []) (items 0 is))) ∙ h))

-- no terminal at all is an accepted script
pub the_empty_script_is_accepted : IsAccepted IsScript 64 [] no_items
the_empty_script_is_accepted = ([], (tt, refl), refl, tt, λ s spelled. no_tokens_no_items s (sym (ap terms spelled.1.1) ∙ spelled.2))
