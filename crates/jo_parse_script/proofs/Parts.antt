-- Readings that methods do in parts.
use Rattle.std.specs.Prelude.{if◌then◌else◌}
use Rattle.std.proofs.Common.{◌≡◌, ◌∙◌, ℕ, zero, suc, Bool, true, false, List, None, Some, Result, Ok, Err, refl, sym, ap}
use Rattle.jo_lex.specs.declared.punct.Punct.TheVariants as p
use Rattle.jo_parse_tree.specs.declared.keyword.Keyword.TheVariants as kw
use Rattle.jo_parse_tree.specs.Trees.{Tree, Statement, choose, when, either}
use Rattle.jo_parse_tree.specs.ScriptViews.{if_tree}
use Rattle.jo_parse_grammar.specs.declared.terminal.Terminal.{Terminal}
use Rattle.jo_parse_grammar.specs.declared.terminal.Terminal.TheVariants as t
use Rattle.jo_parse_grammar.specs.inner.Read.{Reading, Below, and_then, expect, next, open_at, sees, choice}
use Rattle.jo_parse_grammar.specs.inner.ReadStatements.{Within, else_after}
use Rattle.jo_parse_script.specs.inner.Outcomes.{Makes, Reads, choices}
use Rattle.jo_parse_script.specs.declared.stop.Stop.{Stop}
use Rattle.jo_parse_script.specs.declared.stop.Stop.TheVariants as s
use Rattle.jo_parse_script.specs.inner.ScriptOutcomes.{else_at}

-- ---- a choice

with-last : (x y : Tree) (w : Reading Tree) → and_then w (λ z r. Ok (choose x y z, r)) ≡ and_then {A = Tree × Tree} (and_then w (λ z r. Ok ((y, z), r))) (λ both r. Ok (choose x both.0 both.1, r))
with-last x y (Ok (z, r)) = refl
with-last x y (Err e) = refl

with-colon : (below : Below) (ins : Bool) (x y : Tree) (w : Reading (Unit {0}))
    → and_then w (λ _ r. and_then (below ins 1 r) (λ z r. Ok (choose x y z, r)))
    ≡ and_then {A = Tree × Tree} (and_then w (λ _ r. and_then (below ins 1 r) (λ z r. Ok ((y, z), r)))) (λ both r. Ok (choose x both.0 both.1, r))
with-colon below ins x y (Ok (u, r)) = with-last x y (below ins 1 r)
with-colon below ins x y (Err e) = refl

with-first : (below : Below) (ins : Bool) (x : Tree) (w : Reading Tree)
    → and_then w (λ y r. and_then (expect (t.Punct p.Colon) r) (λ _ r. and_then (below ins 1 r) (λ z r. Ok (choose x y z, r))))
    ≡ and_then {A = Tree × Tree} (and_then w (λ y r. and_then (expect (t.Punct p.Colon) r) (λ _ r. and_then (below ins 1 r) (λ z r. Ok ((y, z), r))))) (λ both r. Ok (choose x both.0 both.1, r))
with-first below ins x (Ok (y, r)) = with-colon below ins x y (expect (t.Punct p.Colon) r)
with-first below ins x (Err e) = refl

pub choice-in-parts : (room : ℕ) (below : Below) (ins : Bool) (x : Tree) (ts : List Terminal)
    → and_then (open_at room ts) (λ _ r. choice below ins x r) ≡ and_then (choices room below ins ts) (λ both r. Ok (choose x both.0 both.1, r))
unfolding choice
choice-in-parts zero below ins x ts = refl
choice-in-parts (suc n) below ins x ts = with-first below ins x (below ins 1 (next ts))

-- ---- an `else`

with-else : (c : Tree) (x : Statement) (w : Reading Statement) → and_then w (λ y r. Ok (either c x y, r)) ≡ and_then (and_then w (λ y r. Ok (Some y, r))) (λ o r. Ok (if_tree c x o, r))
with-else c x (Ok (y, r)) = refl
with-else c x (Err e) = refl

else-seen : (within : Within) (loops : Bool) (c : Tree) (x : Statement) (ts : List Terminal) (b : Bool)
    → (if b then and_then (within loops (next ts)) (λ y r. Ok (either c x y, r)) else Ok (when c x, ts))
    ≡ and_then (if b then and_then (within loops (next ts)) (λ y r. Ok (Some y, r)) else Ok (None, ts)) (λ o r. Ok (if_tree c x o, r))
else-seen within loops c x ts true = with-else c x (within loops (next ts))
else-seen within loops c x ts false = refl

pub else-in-parts : (within : Within) (loops : Bool) (c : Tree) (x : Statement) (ts : List Terminal)
    → else_after within loops c x ts ≡ and_then (else_at within loops ts) (λ o r. Ok (if_tree c x o, r))
unfolding else_after
else-in-parts within loops c x ts = else-seen within loops c x ts (sees (t.Keyword kw.Else) ts)

-- ---- a tree that is made at the end

pub makes-reads : {X : Type 0} (view : X → Tree) (outcome : Reading Tree) (tree : Tree) (new : List Terminal) (r : Result X Stop) → Makes view tree r → outcome ≡ Ok (tree, new) → Reads view outcome r new
makes-reads view outcome tree new (Ok x) m e = e ∙ ap (λ v. Ok (v, new)) (sym m)
makes-reads view outcome tree new (Err s.Memory) m e = tt
makes-reads view outcome tree new (Err s.Unexpected) m e = cc
makes-reads view outcome tree new (Err s.NestedTooDeep) m e = cc
