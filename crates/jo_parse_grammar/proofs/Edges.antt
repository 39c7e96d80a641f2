-- The terminal that a tree begins with, and the bracket that it may begin with.
use Rattle.std.proofs.Common.{refl, ap, ◌∙◌}
use Rattle.std.proofs.lemmas.List.{append_assoc}
use Rattle.std.specs.Prelude.{◌≡◌, ℕ, ◌+◌, List, [], ◌∷◌, ◌++◌}
use Rattle.jo_lex.specs.declared.punct.Punct.TheVariants as p
use Rattle.jo_parse_tree.specs.declared.operator.UnaryOperator.TheVariants as un
use Rattle.jo_parse_grammar.specs.declared.terminal.Terminal.{Terminal}
use Rattle.jo_parse_grammar.specs.declared.terminal.Terminal.TheVariants as t
use Rattle.jo_parse_tree.specs.Trees.{Tree, number, literal, constant, variable, group, object, cas, member, unary, delete, chain, choose, assign}
use Rattle.jo_parse_grammar.specs.Expressions.{Symbol, punct, spelling, accesses, links, first}
use Rattle.jo_parse_grammar.specs.Operators.{assign_token}

-- the terminals begin with this one
abbrev pub IsLedBy : Terminal → List Symbol → Type 0
IsLedBy c m = (o : ℕ) × (r : List Symbol) × (m ≡ (c, o) ∷ r)

pub led_further : (c : Terminal) (m n : List Symbol) → IsLedBy c m → IsLedBy c (m ++ n)
led_further c m n h = (h.0, h.1 ++ n, ap (λ k. k ++ n) h.2)

-- each expression begins with its first terminal
pub led_by_first : (d : ℕ) (e : Tree) → IsLedBy (first e) (spelling d e)
led_by_first d (number i) = (0, [], refl)
led_by_first d (literal s) = (0, [], refl)
led_by_first d (constant w) = (0, [], refl)
led_by_first d (variable x) = (0, [], refl)
led_by_first d (group e) = (d + 1, _, refl)
led_by_first d (object ps comma) = (d + 1, _, refl)
led_by_first d (cas o k a b) = (0, _, refl)
led_by_first d (member e xs) = led_further (first e) (spelling d e) (accesses d xs) (led_by_first d e)
led_by_first d (unary o e) = (d + 1, _, refl)
led_by_first d (delete e) = (d + 1, _, refl)
led_by_first d (chain k e ls) = led_further (first e) (spelling d e) (links d ls) (led_by_first d e)
led_by_first d (choose a b c) =
    led_further (first a) (spelling d a) ((t.Punct p.Question, d + 1) ∷ (spelling (d + 1) b ++ punct p.Colon ∷ spelling (d + 1) c)) (led_by_first d a)
led_by_first d (assign o a b) = led_further (first a) (spelling d a) ((assign_token o, d + 1) ∷ spelling (d + 1) b) (led_by_first d a)

-- an expression in round brackets
abbrev pub IsBracketed : ℕ → List Symbol → Type 0
IsBracketed d m = (g : Tree) × (r : List Symbol) × (m ≡ (t.Punct p.OpenParen, d + 1) ∷ (spelling (d + 1) g ++ r))

pub bracketed_further : (d : ℕ) (m n : List Symbol) → IsBracketed d m → IsBracketed d (m ++ n)
bracketed_further d m n h =
    (h.0, h.1 ++ n, ap (λ k. k ++ n) h.2 ∙ ap (λ k. (t.Punct p.OpenParen, d + 1) ∷ k) (append_assoc (spelling (d + 1) h.0) h.1 n))

-- what begins with a bracket begins with an expression in brackets
pub bracketed_by_first : (d : ℕ) (e : Tree) → first e ≡ t.Punct p.OpenParen → IsBracketed d (spelling d e)
bracketed_by_first d (number i) h = absurd cc
bracketed_by_first d (literal s) h = absurd cc
bracketed_by_first d (constant w) h = absurd cc
bracketed_by_first d (variable x) h = absurd cc
bracketed_by_first d (group e) h = (e, punct p.CloseParen ∷ [], refl)
bracketed_by_first d (object ps comma) h = absurd cc
bracketed_by_first d (cas o k a b) h = absurd cc
bracketed_by_first d (member e xs) h = bracketed_further d (spelling d e) (accesses d xs) (bracketed_by_first d e h)
bracketed_by_first d (unary un.Minus e) h = absurd cc
bracketed_by_first d (unary un.Not e) h = absurd cc
bracketed_by_first d (delete e) h = absurd cc
bracketed_by_first d (chain k e ls) h = bracketed_further d (spelling d e) (links d ls) (bracketed_by_first d e h)
bracketed_by_first d (choose a b c) h =
    bracketed_further d (spelling d a) ((t.Punct p.Question, d + 1) ∷ (spelling (d + 1) b ++ punct p.Colon ∷ spelling (d + 1) c)) (bracketed_by_first d a h)
bracketed_by_first d (assign o a b) h =
    bracketed_further d (spelling d a) ((assign_token o, d + 1) ∷ spelling (d + 1) b) (bracketed_by_first d a h)
