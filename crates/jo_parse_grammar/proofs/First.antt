-- The terminals that expressions and statements begin with.
use Rattle.std.proofs.Common.{◌≡◌, Bool, true, false, ℕ, ◌+◌, List, [], ◌∷◌, ◌++◌, refl, sym, ◌∙◌, ap}
use Rattle.jo_lex.specs.declared.punct.Punct.TheVariants as p
use Rattle.jo_parse_tree.specs.declared.keyword.Keyword.{Keyword}
use Rattle.jo_parse_tree.specs.declared.keyword.Keyword.TheVariants as kw
use Rattle.jo_parse_tree.specs.declared.operator.UnaryOperator.TheVariants as u
use Rattle.jo_parse_grammar.specs.declared.terminal.Terminal.{Terminal}
use Rattle.jo_parse_grammar.specs.declared.terminal.Terminal.TheVariants as t
use Rattle.jo_parse_tree.specs.Trees.{Tree, number, literal, constant, variable, group, object, cas, member, unary, delete, chain, choose, assign, Statement, empty, block, when, either, while, for, break, continue, print, print_names, evaluate}
use Rattle.jo_parse_grammar.specs.Operators.{is_constant}
use Rattle.jo_parse_grammar.specs.Expressions.{Symbol, punct, MayStand, spelling, first}
use Rattle.jo_parse_grammar.specs.Statements.{FitStatement, statement}
use Rattle.jo_parse_grammar.specs.Refusals.{Language, terms}
use Rattle.jo_parse_grammar.specs.inner.Read.{peek}
use Rattle.jo_parse_grammar.proofs.Outcome.{terms-split}
use Rattle.jo_parse_grammar.proofs.Levels.{at, first-is, first-at}

-- ---- expressions

-- some expression begins with the terminal
abbrev pub begins_tree : Terminal → Bool
begins_tree (t.Ident x) = true
begins_tree (t.Number i) = true
begins_tree (t.Text s) = true
begins_tree (t.Punct p.OpenParen) = true
begins_tree (t.Punct p.OpenBrace) = true
begins_tree (t.Punct p.Minus) = true
begins_tree (t.Punct p.Bang) = true
begins_tree (t.Keyword kw.Cas) = true
begins_tree (t.Keyword kw.Delete) = true
begins_tree (t.Keyword w) = is_constant w
begins_tree _ = false

constant-begins : (w : Keyword) → is_constant w ≡ true → begins_tree (t.Keyword w) ≡ true
constant-begins kw.Cas h = refl
constant-begins kw.Delete h = refl
constant-begins _ h = h

pub first-begins : (ins : Bool) (l : ℕ) (e : Tree) → MayStand ins l e → begins_tree (first e) ≡ true
first-begins ins l (number i) f = refl
first-begins ins l (literal s) f = refl
first-begins ins l (constant w) f = constant-begins w f
first-begins ins l (variable x) f = refl
first-begins ins l (group e) f = refl
first-begins ins l (object ps comma) f = refl
first-begins ins l (cas o k a b) f = refl
first-begins ins l (member e xs) f = first-begins ins 11 e f.1
first-begins ins l (unary u.Minus e) f = refl
first-begins ins l (unary u.Not e) f = refl
first-begins ins l (delete e) f = refl
first-begins ins l (chain k e ls) f = first-begins ins (k + 1) e f.1
first-begins ins l (choose a b c) f = first-begins ins 3 a f.1
first-begins ins l (assign o a b) f = first-begins ins 10 a f.2

pub tree-begins : (ins : Bool) (l d : ℕ) (e : Tree) (m : List Symbol) (r : List Terminal) → at ins l d e m → begins_tree (peek (terms m ++ r)) ≡ true
tree-begins ins l d e m r k = ap begins_tree (first-at ins l d e m r k) ∙ first-begins ins l e k.0

-- what begins no expression begins none
pub not-first : (c : Terminal) → begins_tree c ≡ false → (ins : Bool) (l d : ℕ) (e : Tree) (m : List Symbol) (r : List Terminal) → at ins l d e m → peek (terms m ++ r) ≡ c → ⊥
not-first c h ins l d e m r k g = let f : true ≡ false = sym (tree-begins ins l d e m r k) ∙ (ap begins_tree g ∙ h) in cc

-- ---- statements

-- some statement begins with the terminal
abbrev pub begins_statement : Terminal → Bool
begins_statement (t.Punct p.Semicolon) = true
begins_statement (t.Keyword kw.If) = true
begins_statement (t.Keyword kw.While) = true
begins_statement (t.Keyword kw.For) = true
begins_statement (t.Keyword kw.Break) = true
begins_statement (t.Keyword kw.Continue) = true
begins_statement (t.Keyword kw.Print) = true
begins_statement (t.Keyword kw.PrintNames) = true
begins_statement c = begins_tree c

tree-is-statement : (c : Terminal) → begins_tree c ≡ true → begins_statement c ≡ true
tree-is-statement (t.Punct p.Semicolon) h = refl
tree-is-statement (t.Keyword kw.If) h = refl
tree-is-statement (t.Keyword kw.While) h = refl
tree-is-statement (t.Keyword kw.For) h = refl
tree-is-statement (t.Keyword kw.Break) h = refl
tree-is-statement (t.Keyword kw.Continue) h = refl
tree-is-statement (t.Keyword kw.Print) h = refl
tree-is-statement (t.Keyword kw.PrintNames) h = refl
tree-is-statement _ h = h

-- an expression as a statement begins as the expression does
pub run-is : (d : ℕ) (e : Tree) (r : List Terminal) → peek (terms (spelling d e ++ punct p.Semicolon ∷ []) ++ r) ≡ first e
run-is d e r = ap peek (terms-split (spelling d e) (punct p.Semicolon ∷ []) r) ∙ first-is d e (terms (punct p.Semicolon ∷ []) ++ r)

pub statement-begins : (loops : Bool) (d : ℕ) (s : Statement) (r : List Terminal) → FitStatement loops s → begins_statement (peek (terms (statement d s) ++ r)) ≡ true
statement-begins loops d empty r f = refl
statement-begins loops d (block ss) r f = refl
statement-begins loops d (when c s) r f = refl
statement-begins loops d (either c a b) r f = refl
statement-begins loops d (while c s) r f = refl
statement-begins loops d (for h c u s) r f = refl
statement-begins loops d break r f = refl
statement-begins loops d continue r f = refl
statement-begins loops d (print es) r f = refl
statement-begins loops d (print_names e) r f = refl
statement-begins loops d (evaluate e) r f = ap begins_statement (run-is d e r) ∙ tree-is-statement (first e) (first-begins true 1 e f.0)

-- the statements, where d constructs are open; the flag says whether they stand inside the body of a loop
abbrev pub statement_language : Bool → ℕ → Language Statement
statement_language loops d s m = FitStatement loops s × (m ≡ statement d s)

-- what begins no statement begins none
pub not-statement : (c : Terminal) → begins_statement c ≡ false → (loops : Bool) (d : ℕ) (s : Statement) (m : List Symbol) (r : List Terminal) → statement_language loops d s m → peek (terms m ++ r) ≡ c → ⊥
not-statement c h loops d s m r k g =
    let f : begins_statement (peek (terms m ++ r)) ≡ true = ap (λ v. begins_statement (peek (terms v ++ r))) k.1 ∙ statement-begins loops d s r k.0 in
    let q : true ≡ false = sym f ∙ (ap begins_statement g ∙ h) in cc
