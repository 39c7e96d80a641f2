-- Statements are read as the grammar has them.
use Rattle.std.proofs.Common.{◌≡◌, ◌≢◌, inl, inr, Bool, true, false, zero, suc, ℕ, ◌+◌, ◌<◌, List, [], ◌∷◌, ◌++◌, length, Option, Ok, refl, sym, ◌∙◌, ap, subst, arith}
use Rattle.jo_lex.specs.declared.punct.Punct.{Punct}
use Rattle.jo_lex.specs.declared.punct.Punct.TheVariants as p
use Rattle.jo_parse_tree.specs.declared.keyword.Keyword.{Keyword}
use Rattle.jo_parse_tree.specs.declared.keyword.Keyword.TheVariants as kw
use Rattle.jo_parse_grammar.specs.declared.terminal.Terminal.{Terminal}
use Rattle.jo_parse_grammar.specs.declared.terminal.Terminal.TheVariants as t
use Rattle.jo_parse_tree.specs.Trees.{Tree, Head, Statement, empty, block, when, either, while, for, break, continue, print, print_names, evaluate, no_items}
use Rattle.jo_parse_grammar.specs.Expressions.{Symbol, punct}
use Rattle.jo_parse_grammar.specs.Statements.{IsClosed}
use Rattle.jo_parse_grammar.specs.Refusals.{Language, terms}
use Rattle.jo_parse_grammar.specs.inner.Read.{Reading, and_then, peek, next, sees, expect, read}
use Rattle.jo_parse_grammar.specs.inner.ReadStatements.{Within, in_brackets_at, optional_ended, head_at, arguments_after, run_at, print_after, print_names_after, leave_at, else_after, if_after, while_after, for_after, block_after, keyword_statement, punct_statement, statement_at, nothing_within, read_statement}
use Rattle.jo_parse_grammar.proofs.Outcome.{Outcome, bind, outcome-bind, outcome-choose, Any, nothing, outcome-pure, one, outcome-fail, outcome-if, mapped, outcome-map, sees-true, sees-cons, sees-false, peek-cons, first-of, some-after, outcome-expect, opened-with, plain-after, outcome-enter}
use Rattle.jo_parse_grammar.proofs.Levels.{outcome-closed}
use Rattle.jo_parse_grammar.proofs.Exact.{outcome-read}
use Rattle.jo_parse_grammar.proofs.First.{statement_language}
use Rattle.jo_parse_grammar.proofs.Parts.{in_brackets, some_brackets, an_optional, some_optional, a_head, some_head, all_arguments, some_arguments, outcome-brackets, outcome-optional, outcome-head, outcome-arguments}
use Rattle.jo_parse_grammar.proofs.Items.{Open, items_end, some_items, brace, outcome-items}
use Rattle.jo_parse_grammar.proofs.Headed.{outcome-headed}
use Rattle.jo_parse_grammar.proofs.StatementKinds.{an_empty, a_block, semicolon, a_leave, print_arguments, print_parts, a_print, names_parts, a_print_names, else_part, else_rest, then_part, if_parts, while_parts, for_body, for_step, for_condition, for_head, for_parts, a_run, a_run_flat, kind, kind-at, empty-to, block-to, break-to, continue-to, print-to, names-to, if-to, while-to, for-to, run-flat, flat-run, run-to}

-- ---- examples

pub some_statement : (loops : Bool) (d : ℕ) → (s : Statement) × (m : List Symbol) × statement_language loops d s m
some_statement loops d = (empty, punct p.Semicolon ∷ [], (tt, refl))

some_semicolon : (s : Statement) → (v : Statement) × (m : List Symbol) × semicolon s v m
some_semicolon s = (s, punct p.Semicolon ∷ [], (tt, punct p.Semicolon ∷ [], [], refl, (refl, refl), refl))

some_then : (loops : Bool) (d : ℕ) (c : Tree) → (v : Statement) × (m : List Symbol) × then_part loops d c v m
some_then loops d c = (when c empty, punct p.Semicolon ∷ [], (empty, punct p.Semicolon ∷ [], [], (tt, refl), inr (refl, refl), refl))

-- a first part and what may follow it
some-bind : {A : Type 0} (L : Language A) (K : A → Language Statement) → ((a : A) × (m : List Symbol) × L a m) → ((a : A) → (v : Statement) × (m : List Symbol) × K a v m) → (v : Statement) × (m : List Symbol) × bind L K v m
some-bind L K a k = let b = k a.0 in (b.0, a.1 ++ b.1, (a.0, a.1, b.1, a.2, b.2, refl))

some_if : (loops : Bool) (d : ℕ) → (v : Statement) × (m : List Symbol) × if_parts loops d v m
some_if loops d = some-bind (in_brackets d) (λ c. then_part loops d c) (some_brackets d) (some_then loops d)

some_while_body : (d : ℕ) (c : Tree) → (v : Statement) × (m : List Symbol) × mapped (while c) (statement_language true d) v m
some_while_body d c = let s = some_statement true d in (while c s.0, s.1, (s.0, s.2, refl))

some_while : (d : ℕ) → (v : Statement) × (m : List Symbol) × while_parts d v m
some_while d = some-bind (in_brackets d) (λ c. mapped (while c) (statement_language true d)) (some_brackets d) (some_while_body d)

some_for_body : (d : ℕ) (h : Head) (c u : Option Tree) → (v : Statement) × (m : List Symbol) × for_body d h c u v m
some_for_body d h c u = let s = some_statement true d in (for h c u s.0, s.1, (s.0, s.2, refl))

some_for_step : (d : ℕ) (h : Head) (c : Option Tree) → (v : Statement) × (m : List Symbol) × for_step d h c v m
some_for_step d h c = some-bind (an_optional true (d + 1) p.CloseParen) (λ u. for_body d h c u) (some_optional true (d + 1) p.CloseParen) (some_for_body d h c)

some_for_condition : (d : ℕ) (h : Head) → (v : Statement) × (m : List Symbol) × for_condition d h v m
some_for_condition d h = some-bind (an_optional true (d + 1) p.Semicolon) (λ c. for_step d h c) (some_optional true (d + 1) p.Semicolon) (some_for_step d h)

some_for_head : (d : ℕ) → (v : Statement) × (m : List Symbol) × for_head d v m
some_for_head d = some-bind (a_head (d + 1)) (λ h. for_condition d h) (some_head (d + 1)) (some_for_condition d)

some_for : (d : ℕ) → (v : Statement) × (m : List Symbol) × for_parts d v m
some_for d = some-after (t.Punct p.OpenParen) (d + 1) (for_head d) (some_for_head d)

some_print : (d : ℕ) → (v : Statement) × (m : List Symbol) × print_arguments d v m
some_print d = some-bind (all_arguments (d + 1)) (λ es. semicolon (print es)) (some_arguments (d + 1)) (λ es. some_semicolon (print es))

some_names : (d : ℕ) → (v : Statement) × (m : List Symbol) × names_parts d v m
some_names d = some-bind (in_brackets d) (λ e. semicolon (print_names e)) (some_brackets d) (λ e. some_semicolon (print_names e))

some_block : (loops : Bool) (d : ℕ) → (v : Statement) × (m : List Symbol) × mapped block (items_end loops d brace no_items) v m
some_block loops d = let b = some_items loops d brace no_items in (block b.0, b.1, (b.0, b.2, refl))

-- ---- statements after which an `else` may stand

when-not : (v : Statement) (c : Tree) (a : Statement) (h : Terminal) → v ≡ when c a → Open v h → h ≡ t.Keyword kw.Else → ⊥
when-not v c a h same s e = subst (λ z. IsClosed z) same (s e)

closed-as : (v s : Statement) → v ≡ s → IsClosed s → IsClosed v
closed-as v s same k = subst (λ z. IsClosed z) (sym same) k

print-closed : (d : ℕ) (v : Statement) (m : List Symbol) → a_print d v m → IsClosed v
print-closed d v m (u, x, y, l, (u', x', y', l', (es, x2, y2, k, (u3, x3, y3, l3, (same, none), e3), e2), e'), e) = closed-as v (print es) same tt

names-closed : (d : ℕ) (v : Statement) (m : List Symbol) → a_print_names d v m → IsClosed v
names-closed d v m (u, x, y, l, (c, x2, y2, k, (u3, x3, y3, l3, (same, none), e3), e2), e) = closed-as v (print_names c) same tt

block-closed : (loops : Bool) (d : ℕ) (v : Statement) (m : List Symbol) → a_block loops d v m → IsClosed v
block-closed loops d v m (u, x, y, l, (is, k, same), e) = closed-as v (block is) same tt

leave-closed : (w : Keyword) (s v : Statement) (m : List Symbol) → IsClosed s → a_leave w s v m → IsClosed v
leave-closed w s v m h (u, x, y, l, (u', x', y', l', (same, none), e'), e) = closed-as v s same h

run-closed : (d : ℕ) (v : Statement) (m : List Symbol) → a_run d v m → IsClosed v
run-closed d v m k = let f = run-flat true d v m k in closed-as v (evaluate f.0) f.2 tt

-- ---- a semicolon

outcome-semicolon : (s : Statement) (limit : ℕ) (ts : List Terminal) → Outcome (semicolon s) Any Any limit ts (and_then (expect (t.Punct p.Semicolon) ts) (λ _ r. Ok (s, r)))
outcome-semicolon s limit ts = outcome-bind (one (t.Punct p.Semicolon) 0) Any Any (λ _. nothing s) Any Any limit (λ _ _ _ _ _ _ _ _. tt) (λ _ _ _. (s, [], (refl, refl))) ts (expect (t.Punct p.Semicolon) ts) _ (outcome-expect (t.Punct p.Semicolon) limit ts (omega arith))
    (λ _ x r l g front. outcome-pure s Any Any limit r tt)

-- ---- what stands within a statement, where d constructs are open

module _ (limit d room : ℕ) (sum : d + room ≡ limit) where
  -- `print` after its word
  outcome-print : (ts : List Terminal) → Outcome (print_parts d) Any Any limit ts (print_after room ts)
  unfolding print_after
  outcome-print ts = outcome-enter (t.Punct p.OpenParen) d room limit ts (print_arguments d) Any Any _ (omega arith) sum (some_print d)
      (λ inner deep. outcome-bind (all_arguments (d + 1)) Any Any (λ es. semicolon (print es)) Any Any limit (λ _ _ _ _ _ _ _ _. tt) (λ es _ _. some_semicolon (print es)) (next ts) (arguments_after inner (next ts)) _
      (outcome-arguments limit (d + 1) inner deep (next ts)) (λ es x r l g front. outcome-semicolon (print es) limit r))

  outcome-names : (ts : List Terminal) → Outcome (names_parts d) Any Any limit ts (print_names_after room ts)
  unfolding print_names_after
  outcome-names ts = outcome-bind (in_brackets d) Any Any (λ e. semicolon (print_names e)) Any Any limit (λ _ _ _ _ _ _ _ _. tt) (λ e _ _. some_semicolon (print_names e)) ts (in_brackets_at room ts) _
      (outcome-brackets limit d room sum ts) (λ e x r l g front. outcome-semicolon (print_names e) limit r)

  outcome-run : (ts : List Terminal) → Outcome (a_run d) Any Any limit ts (run_at room ts)
  unfolding run_at
  outcome-run ts = outcome-closed limit d (read room) (outcome-read room limit d sum) true (t.Punct p.Semicolon) (λ e. nothing (evaluate e)) Any Any (omega arith) refl (λ e. (evaluate e, [], (refl, refl))) (λ e r. Ok (evaluate e, r)) ts
      (λ e r short. outcome-pure (evaluate e) Any Any limit r tt)

  module _ (within : Within) (ih : (loops : Bool) (ts : List Terminal) → Outcome (statement_language loops d) Open Open limit ts (within loops ts)) where
    outcome-else : (loops : Bool) (c : Tree) (a : Statement) (ts : List Terminal) → Open a (peek ts) → Outcome (else_rest loops d c a) Open Open limit ts (else_after within loops c a ts)
    unfolding else_after
    outcome-else loops c a ts ends =
        outcome-if (else_rest loops d c a) Open Open limit ts (sees (t.Keyword kw.Else) ts) _ _
        (λ e. let closed = ends (sees-true (t.Keyword kw.Else) ts (omega arith) e) in
        outcome-choose (else_part loops d c a) (else_rest loops d c a) Open Open Open Open limit ts (λ _ _ k. inl (closed, k)) (λ _ _ _ _ g. g)
        (λ v m r k s f. elim k [
          | inl q ↦ (q.1, s)
          | inr q ↦ absurd (when-not v c a (peek r) q.0 s (ap (λ z. peek (terms z ++ r)) (sym q.1) ∙ (f ∙ sees-true (t.Keyword kw.Else) ts (omega arith) e)))
        ])
        _ (plain-after (t.Keyword kw.Else) d 0 limit ts (mapped (either c a) (statement_language loops d)) Open Open _ (sees-cons (t.Keyword kw.Else) ts (omega arith) e)
        (let b = some_statement loops d in (either c a b.0, b.1, (b.0, b.2, refl)))
        (outcome-map (either c a) (statement_language loops d) Open Open Open Open limit (next ts) (λ _ _ _ _ s. s) (λ _ _ _ _ g. g) (within loops (next ts)) (ih loops (next ts)))))
        (λ e. outcome-choose (nothing (when c a)) (else_rest loops d c a) Open Open Open Open limit ts (λ _ _ k. inr k) (λ _ _ _ _ g. g)
        (λ v m r k s f. elim k [
          | inl q ↦ absurd (sees-false (t.Keyword kw.Else) (peek (terms m ++ r)) ts e f (first-of (t.Keyword kw.Else) 0 (mapped (either c a) (statement_language loops d)) v m r q.1))
          | inr q ↦ (q, s)
        ])
        (Ok (when c a, ts)) (outcome-pure (when c a) Open Open limit ts (λ h. absurd (sees-false (t.Keyword kw.Else) (peek ts) ts e refl h))))

    outcome-then : (loops : Bool) (c : Tree) (ts : List Terminal) → Outcome (then_part loops d c) Open Open limit ts (and_then (within loops ts) (λ a r. else_after within loops c a r))
    outcome-then loops c ts = outcome-bind (statement_language loops d) Open Open (λ a. else_rest loops d c a) Open Open limit
        (λ a x v y r l k s h. elim k [ inl q ↦ q.0 | inr q ↦ absurd (when-not v c a (peek r) q.0 s (ap (λ z. peek (terms z ++ r)) (sym q.1) ∙ h)) ])
        (λ a x l. (when c a, [], inr (refl, refl))) ts (within loops ts) _ (ih loops ts) (λ a x r l g front. outcome-else loops c a r g)

    outcome-if-after : (loops : Bool) (ts : List Terminal) → Outcome (if_parts loops d) Open Open limit ts (if_after room within loops ts)
    unfolding if_after
    outcome-if-after loops ts = outcome-bind (in_brackets d) Any Any (λ c. then_part loops d c) Open Open limit (λ _ _ _ _ _ _ _ _. tt) (λ c _ _. some_then loops d c) ts (in_brackets_at room ts) _
        (outcome-brackets limit d room sum ts) (λ c x r l g front. outcome-then loops c r)

    -- the body of a loop
    outcome-body : (f : Statement → Statement) → ((s : Statement) (c : Terminal) → Open (f s) c → Open s c) → ((s : Statement) (c : Terminal) → Open s c → Open (f s) c) → (ts : List Terminal)
        → Outcome (mapped f (statement_language true d)) Open Open limit ts (and_then (within true ts) (λ s r. Ok (f s, r)))
    outcome-body f inward outward ts = outcome-map f (statement_language true d) Open Open Open Open limit ts (λ a _ c _ s. inward a c s) (λ a _ c _ g. outward a c g) (within true ts) (ih true ts)

    outcome-while-after : (ts : List Terminal) → Outcome (while_parts d) Open Open limit ts (while_after room within ts)
    unfolding while_after
    outcome-while-after ts = outcome-bind (in_brackets d) Any Any (λ c. mapped (while c) (statement_language true d)) Open Open limit (λ _ _ _ _ _ _ _ _. tt) (λ c _ _. some_while_body d c) ts (in_brackets_at room ts) _
        (outcome-brackets limit d room sum ts) (λ c x r l g front. outcome-body (while c) (λ _ _ s. s) (λ _ _ s. s) r)

    outcome-for-after : (ts : List Terminal) → Outcome (for_parts d) Open Open limit ts (for_after room within ts)
    unfolding for_after
    outcome-for-after ts = outcome-enter (t.Punct p.OpenParen) d room limit ts (for_head d) Open Open _ (omega arith) sum (some_for_head d)
        (λ deep de. outcome-bind (a_head (d + 1)) Any Any (λ h. for_condition d h) Open Open limit (λ _ _ _ _ _ _ _ _. tt) (λ h _ _. some_for_condition d h) (next ts) (head_at deep (next ts)) _
        (outcome-head limit (d + 1) deep de (next ts))
        (λ h x r l g front. outcome-bind (an_optional true (d + 1) p.Semicolon) Any Any (λ c. for_step d h c) Open Open limit (λ _ _ _ _ _ _ _ _. tt) (λ c _ _. some_for_step d h c) r (optional_ended deep true p.Semicolon r) _
        (outcome-optional limit (d + 1) deep de true p.Semicolon refl refl r)
        (λ c x r l g front. outcome-bind (an_optional true (d + 1) p.CloseParen) Any Any (λ u. for_body d h c u) Open Open limit (λ _ _ _ _ _ _ _ _. tt) (λ u _ _. some_for_body d h c u) r (optional_ended deep true p.CloseParen r) _
        (outcome-optional limit (d + 1) deep de true p.CloseParen refl refl r)
        (λ u x r l g front. outcome-body (for h c u) (λ _ _ s. s) (λ _ _ s. s) r))))

    outcome-block : (loops : Bool) (ts : List Terminal) → Outcome (mapped block (items_end loops d brace no_items)) Any Any limit ts (block_after room (within loops) ts)
    unfolding block_after
    outcome-block loops ts = outcome-map block (items_end loops d brace no_items) Any Any Any Any limit ts (λ _ _ _ _ _. tt) (λ _ _ _ _ _. tt) _
        (outcome-items limit loops d room sum (within loops) (ih loops) (length ts) no_items ts (omega arith))

-- ---- a statement by its first terminal, where d constructs are open

module _ (limit d room : ℕ) (sum : d + room ≡ limit) (within : Within)
    (ih : 0 < room → (loops : Bool) (ts : List Terminal) → Outcome (statement_language loops (d + 1)) Open Open limit ts (within loops ts)) (loops : Bool) where
  module _ (ts : List Terminal) (c : Terminal) (here : peek ts ≡ c) where
    kind-of : (v : Statement) (m : List Symbol) (r : List Terminal) → statement_language loops d v m → peek (terms m ++ r) ≡ peek ts → kind loops d c v m
    kind-of v m r k f = subst (λ c. kind loops d c v m) (f ∙ here) (kind-at loops d v m r k)

    -- a kind that may end with an `if`
    open-kind : (res : Reading Statement) → ((v : Statement) (m : List Symbol) → kind loops d c v m → statement_language loops d v m) → Outcome (kind loops d c) Open Open limit ts res → Outcome (statement_language loops d) Open Open limit ts res
    open-kind res to h = outcome-choose (kind loops d c) (statement_language loops d) Open Open Open Open limit ts to (λ _ _ _ _ g. g) (λ v m r k s f. (kind-of v m r k f, s)) res h

    -- a kind that does not
    closed-kind : (res : Reading Statement) → ((v : Statement) (m : List Symbol) → kind loops d c v m → statement_language loops d v m) → ((v : Statement) (m : List Symbol) → kind loops d c v m → IsClosed v) → Outcome (kind loops d c) Any Any limit ts res → Outcome (statement_language loops d) Open Open limit ts res
    closed-kind res to closed h = outcome-choose (kind loops d c) (statement_language loops d) Any Open Any Open limit ts to (λ v m _ k _ _. closed v m k) (λ v m r k s f. (kind-of v m r k f, tt)) res h

    other-kind : c ≢ t.Punct p.OpenBrace → ((v : Statement) (m : List Symbol) → kind loops d c v m → a_run_flat d v m) → Outcome (statement_language loops d) Open Open limit ts (run_at room ts)
    other-kind away from =
        outcome-headed (a_run d) (statement_language loops d) Any Open Any Open limit ts (some_statement loops d)
        (λ v m r k f. run-to loops d v m r (λ h. away (sym here ∙ (sym f ∙ h))) k) (λ v m _ k _ _. run-closed d v m k)
        (λ v m r k s f. (flat-run loops d v m (from v m (kind-of v m r k f)), tt))
        (run_at room ts) (outcome-run limit d room sum ts)

  -- `break` or `continue`
  outcome-leave : (w : Keyword) (s : Statement) → IsClosed s → ((v : Statement) (m : List Symbol) → (loops ≡ true) × a_leave w s v m → statement_language loops d v m)
      → ((v : Statement) (m : List Symbol) → kind loops d (t.Keyword w) v m → (loops ≡ true) × a_leave w s v m) → (ts : List Terminal) → peek ts ≡ t.Keyword w → Outcome (statement_language loops d) Open Open limit ts (leave_at s loops ts)
  unfolding leave_at
  outcome-leave w s closed to from ts here =
      outcome-if (statement_language loops d) Open Open limit ts loops _ _
      (λ h. outcome-choose (a_leave w s) (statement_language loops d) Any Open Any Open limit ts (λ v m k. to v m (h, k)) (λ v m _ k _ _. leave-closed w s v m closed k)
      (λ v m r k g f. ((from v m (kind-of ts (t.Keyword w) here v m r k f)).1, tt)) _
      (plain-after (t.Keyword w) d 0 limit ts (semicolon s) Any Any _ (peek-cons (t.Keyword w) ts (λ e. omega arith) here) (some_semicolon s) (outcome-semicolon s limit (next ts))))
      (λ h. outcome-fail (statement_language loops d) Open Open limit ts (some_statement loops d)
      (λ v m r k g f. let q = from v m (kind-of ts (t.Keyword w) here v m r k f) in let z : true ≡ false = sym q.0 ∙ h in cc))

  keyword-here : (w : Keyword) (ts : List Terminal) → peek ts ≡ t.Keyword w → Outcome (statement_language loops d) Open Open limit ts (keyword_statement room within loops w ts)
  keyword-here kw.If ts here = open-kind ts (t.Keyword kw.If) here _ (if-to loops d)
      (opened-with (t.Keyword kw.If) d room limit ts (if_parts loops (d + 1)) Open Open _ (peek-cons (t.Keyword kw.If) ts (λ e. omega arith) here) sum (some_if loops (d + 1))
      (λ inner deep. outcome-if-after limit (d + 1) inner deep within (ih (omega arith)) loops (next ts)))
  keyword-here kw.While ts here = open-kind ts (t.Keyword kw.While) here _ (while-to loops d)
      (opened-with (t.Keyword kw.While) d room limit ts (while_parts (d + 1)) Open Open _ (peek-cons (t.Keyword kw.While) ts (λ e. omega arith) here) sum (some_while (d + 1))
      (λ inner deep. outcome-while-after limit (d + 1) inner deep within (ih (omega arith)) (next ts)))
  keyword-here kw.For ts here = open-kind ts (t.Keyword kw.For) here _ (for-to loops d)
      (opened-with (t.Keyword kw.For) d room limit ts (for_parts (d + 1)) Open Open _ (peek-cons (t.Keyword kw.For) ts (λ e. omega arith) here) sum (some_for (d + 1))
      (λ inner deep. outcome-for-after limit (d + 1) inner deep within (ih (omega arith)) (next ts)))
  keyword-here kw.Break ts here = outcome-leave kw.Break break tt (break-to loops d) (λ v m k. k) ts here
  keyword-here kw.Continue ts here = outcome-leave kw.Continue continue tt (continue-to loops d) (λ v m k. k) ts here
  keyword-here kw.Print ts here = closed-kind ts (t.Keyword kw.Print) here _ (print-to loops d) (print-closed d)
      (plain-after (t.Keyword kw.Print) d 0 limit ts (print_parts d) Any Any _ (peek-cons (t.Keyword kw.Print) ts (λ e. omega arith) here) (some-after (t.Punct p.OpenParen) (d + 1) (print_arguments d) (some_print d))
      (outcome-print limit d room sum (next ts)))
  keyword-here kw.PrintNames ts here = closed-kind ts (t.Keyword kw.PrintNames) here _ (names-to loops d) (names-closed d)
      (plain-after (t.Keyword kw.PrintNames) d 0 limit ts (names_parts d) Any Any _ (peek-cons (t.Keyword kw.PrintNames) ts (λ e. omega arith) here) (some_names d) (outcome-names limit d room sum (next ts)))
  keyword-here w ts here = other-kind ts (t.Keyword w) here (λ e. cc) (λ v m k. k)

  outcome-empty : (ts : List Terminal) → peek ts ≡ t.Punct p.Semicolon → Outcome an_empty Any Any limit ts (Ok (empty, next ts))
  outcome-empty ts here = record {
    word = punct p.Semicolon ∷ [];
    spelled = (refl, refl);
    front = peek-cons (t.Punct p.Semicolon) ts (λ e. omega arith) here;
    within = (omega arith, tt);
    stops = tt;
    only = λ a' m r' r'' same k s f. k;
  }

  punct-here : (c : Punct) (ts : List Terminal) → peek ts ≡ t.Punct c → Outcome (statement_language loops d) Open Open limit ts (punct_statement room within loops c ts)
  punct-here p.Semicolon ts here = closed-kind ts (t.Punct p.Semicolon) here (Ok (empty, next ts)) (empty-to loops d) (λ v m k. closed-as v empty k.0 tt) (outcome-empty ts here)
  punct-here p.OpenBrace ts here = closed-kind ts (t.Punct p.OpenBrace) here _ (block-to loops d) (block-closed loops d)
      (opened-with (t.Punct p.OpenBrace) d room limit ts (mapped block (items_end loops (d + 1) brace no_items)) Any Any _ (peek-cons (t.Punct p.OpenBrace) ts (λ e. omega arith) here) sum (some_block loops (d + 1))
      (λ inner deep. outcome-block limit (d + 1) inner deep within (ih (omega arith)) loops (next ts)))
  punct-here c ts here = other-kind ts (t.Punct c) here (λ e. cc) (λ v m k. k)

  statement-here : (c : Terminal) (ts : List Terminal) → peek ts ≡ c → Outcome (statement_language loops d) Open Open limit ts (statement_at room within loops c ts)
  statement-here (t.Keyword w) ts here = keyword-here w ts here
  statement-here (t.Punct c) ts here = punct-here c ts here
  statement-here c ts here = other-kind ts c here (λ e. cc) (λ v m k. k)

-- ---- as deep as there is room

module _ (limit : ℕ) where
  pub outcome-statement : (room d : ℕ) → d + room ≡ limit → (loops : Bool) (ts : List Terminal) → Outcome (statement_language loops d) Open Open limit ts (read_statement room loops ts)
  unfolding read_statement
  outcome-statement zero d sum loops ts = statement-here limit d zero sum nothing_within (λ pos. absurd (omega arith)) loops (peek ts) ts refl
  outcome-statement (suc n) d sum loops ts = statement-here limit d (suc n) sum (read_statement n) (λ pos loops ts. outcome-statement n (d + 1) (omega arith) loops ts) loops (peek ts) ts refl
