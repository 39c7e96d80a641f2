-- Which block a use means, and which variable.
use Rattle.std.specs.Prelude.{ℕ, ◌≤◌, ◌<◌, Bool, true, false, List, [], ◌∷◌, ◌++◌, length}
use Rattle.jo_parse_tree.specs.declared.word.Ident.{Ident}
use Rattle.jo_parse_grammar.specs.Declarations.{Scope, is_among}

-- the names of these scopes, as the meaning has them: those of the innermost block first
abbrev pub around : List Scope → List ℕ
around [] = []
around (scope ∷ outer) = scope.names ++ around outer

-- variables are counted from the outermost block: this one is the scope's own
abbrev pub IsOwn : Scope → List Scope → ℕ → Type 0
IsOwn scope outer k = (length (around outer) ≤ k) × (k < length (scope.names ++ around outer))

abbrev pub one_of : Bool → Type 0 → Type 0 → Type 0
one_of true A B = A
one_of false A B = B

-- the variable is that of the innermost scope that declares the name
abbrev pub IsMeant : List Scope → Ident → ℕ → Type 0
IsMeant [] x k = ⊥
IsMeant (scope ∷ outer) x k = one_of (is_among scope.names x.text.0) (IsOwn scope outer k) (IsMeant outer x k)
