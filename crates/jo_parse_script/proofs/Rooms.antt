-- How many constructs more may be open, and how many turns a loop has left.
use Rattle.std.specs.Prelude.{if◌then◌else◌, ◌==◌}
use Rattle.std.proofs.lemmas.Bool.{ne_eqb}
use Rattle.jo_parse_tree.specs.Trees.{Tree}
use Rattle.std.proofs.Common.{◌≡◌, ℕ, zero, suc, ◌+◌, ◌-◌, ◌<◌, ◌≤◌, ap, ◌∙◌, arith, refl, List, Bool, true, false, Ok, Err}
use Rattle.jo_parse_grammar.specs.declared.terminal.Terminal.{Terminal}
use Rattle.jo_parse_grammar.specs.inner.Read.{Reading, open_at, under, read, next, assignment, only_member, chains, prefixed, enter, sees}
use Rattle.jo_parse_grammar.specs.Refusals.{unexpected}

pub one_more : {X : Type 0} {x : X} (f : ℕ → X) (n at : ℕ) → at < n → x ≡ f (n - at) → x ≡ f (suc (n - (at + 1)))
one_more f n at below e = let turn : n - at ≡ suc (n - (at + 1)) = omega arith in e ∙ ap f turn

given : Reading ℕ → ℕ
given (Ok p) = p.0
given (Err e) = 0

pub first : (inner n : ℕ) (r s : List Terminal) → (let x : Reading ℕ = Ok (inner, r) in x ≡ Ok (n, s)) → inner ≡ n
unfolding given
first inner n r s e = ap given e

pub open-under : (room inner : ℕ) (ts r : List Terminal) → open_at room ts ≡ Ok (inner, r) → under room ≡ read inner
open-under zero inner ts r e = cc
open-under (suc n) inner ts r e = ap (λ v. read v) (first n inner (next ts) r e)

pub open-less : (room inner : ℕ) (ts r : List Terminal) → open_at room ts ≡ Ok (inner, r) → inner < room
open-less zero inner ts r e = cc
open-less (suc n) inner ts r e = let f : n ≡ inner = first n inner (next ts) r e in omega arith

pub read-expression : (room : ℕ) (ins : Bool) (ts : List Terminal) → read room ins 1 ts ≡ assignment room (under room) ins ts
unfolding read
read-expression zero ins ts = refl
read-expression (suc n) ins ts = refl

pub read-member : (room : ℕ) (ins : Bool) (ts : List Terminal) → read room ins 10 ts ≡ only_member room (under room) ts
unfolding read
read-member zero ins ts = refl
read-member (suc n) ins ts = refl

pub read-unary : (room : ℕ) (ins : Bool) (ts : List Terminal) → read room ins 9 ts ≡ prefixed room (under room) ts
unfolding read chains
read-unary zero ins ts = refl
read-unary (suc n) ins ts = refl

between : (b c : Bool) (x y z : Reading Tree) → b ≡ false → c ≡ false → (if b then x else (if c then y else z)) ≡ z
between true c x y z e f = cc
between false true x y z e f = cc
between false false x y z e f = refl

-- an operand of a level from 4 to 9
pub read-chain : (room : ℕ) (ins : Bool) (l : ℕ) (ts : List Terminal) → 4 ≤ l → l ≤ 9 → read room ins l ts ≡ chains room (under room) ins (9 - l) l ts
unfolding read
read-chain zero ins l ts low high = between (l == 1) (l == 10) _ _ _ (ne_eqb l 1 (λ e. omega (arith, e))) (ne_eqb l 10 (λ e. omega (arith, e)))
read-chain (suc n) ins l ts low high = between (l == 1) (l == 10) _ _ _ (ne_eqb l 1 (λ e. omega (arith, e))) (ne_eqb l 10 (λ e. omega (arith, e)))

seen : (b : Bool) (c : Terminal) (room inner : ℕ) (ts r : List Terminal) → (if b then open_at room ts else Err (unexpected, ts)) ≡ Ok (inner, r) → open_at room ts ≡ Ok (inner, r)
seen true c room inner ts r e = e
seen false c room inner ts r e = cc

pub enter-under : (c : Terminal) (room inner : ℕ) (ts r : List Terminal) → enter c room ts ≡ Ok (inner, r) → under room ≡ read inner
unfolding enter
enter-under c room inner ts r e = open-under room inner ts r (seen (sees c ts) c room inner ts r e)

pub enter-less : (c : Terminal) (room inner : ℕ) (ts r : List Terminal) → enter c room ts ≡ Ok (inner, r) → inner < room
unfolding enter
enter-less c room inner ts r e = open-less room inner ts r (seen (sees c ts) c room inner ts r e)
