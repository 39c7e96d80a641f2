-- What private functions do to the names of blocks, and what they answer.
use Rattle.std.specs.Prelude.{◌≡◌, ℕ, List, [], ◌∷◌, ◌++◌, Result, Ok, Err}
use Rattle.jo_parse_tree.specs.Blocks.{names_of}
use Rattle.jo_parse_tree.specs.ScriptViews.{let_list, option_tree, statement_tree}
use Rattle.jo_parse_tree.specs.declared.script.For.{For}
use Rattle.jo_parse_tree.specs.Trees.{Binding}
use Rattle.jo_parse_tree.specs.declared.script.Item.{Item}
use Rattle.jo_parse_tree.specs.declared.script.Item.TheVariants as i
use Rattle.jo_lex.specs.declared.refusal.ParseFault.{ParseFault}
use Rattle.jo_lex.specs.declared.refusal.Refusal.{Refusal}
use Rattle.jo_lex.specs.declared.refusal.ParseFault.TheVariants.{Memory, Refused}
use Rattle.jo_parse_grammar.specs.Declarations.{Scope, is_among, scope_after_all, Found, uses_of_optional, faults_of, faults_of_bindings, faults_of_name, faults_of_uses}
use Rattle.jo_parse_grammar.specs.NameRefusals.{refusal_for}

-- both have the same names
abbrev pub HasSame : List ℕ → List ℕ → Type 0
HasSame names others = (name : ℕ) → is_among names name ≡ is_among others name

-- both declare the same names, and bindings of the same names have ended in both
abbrev pub IsAlike : Scope → Scope → Type 0
IsAlike scope other = HasSame scope.names other.names × HasSame scope.ended other.ended

-- the new block declares this name too
abbrev pub Declares : Scope → ℕ → Scope → Type 0
Declares scope name new = IsAlike new (record scope { names = name ∷ scope.names })

-- the block if it declares these names too
abbrev pub with_names : Scope → List ℕ → Scope
with_names scope names = record scope { names = names ++ scope.names }

-- the new block declares these names too
abbrev pub DeclaresAll : Scope → List ℕ → Scope → Type 0
DeclaresAll scope names new = IsAlike new (with_names scope names)

-- a binding of this name has ended too
abbrev pub Ends : Scope → ℕ → Scope → Type 0
Ends scope name new = IsAlike new (record scope { ended = name ∷ scope.ended })

-- the names that an item declares in its block
abbrev pub item_names : Item → List ℕ
item_names (i.Let l) = names_of (let_list l)
item_names (i.Statement x) = []

-- the innermost block, and those around it, the innermost first
abbrev pub Scopes : Type 0
Scopes = Scope × List Scope

abbrev pub all_of : Scopes → List Scope
all_of scopes = scopes.0 ∷ scopes.1

-- the scopes once the innermost block has ended
abbrev pub left : Scopes → Scopes
left (scope, []) = (scope, [])
left (scope, before ∷ outer) = (before, outer)

-- the innermost block at another place in it, alike to the given one, and the same blocks around it
abbrev pub Moves : Scopes → Scope → Scopes → Type 0
Moves scopes scope new = IsAlike new.0 scope × (new.1 ≡ scopes.1)

-- a new block is entered that is alike to the given one
abbrev pub Enters : Scopes → Scope → Scopes → Type 0
Enters scopes scope new = IsAlike new.0 scope × (new.1 ≡ all_of scopes)

-- the faults of a binding
abbrev pub binding_faults : Scopes → Binding → List Found
binding_faults scopes b = faults_of_name scopes.0 b.0 ++ faults_of_uses (all_of scopes) (uses_of_optional b.1)

-- the faults of an item of the innermost block
abbrev pub item_faults : Scopes → Item → List Found
item_faults scopes (i.Let l) = faults_of_bindings scopes.0 scopes.1 (let_list l)
item_faults scopes (i.Statement x) = faults_of (all_of scopes) (statement_tree x)

-- the faults after the head of a `for`, in its block and those around it
abbrev pub round_faults : List Scope → For → List Found
round_faults scopes x = faults_of_uses scopes (uses_of_optional (option_tree x.condition) ++ uses_of_optional (option_tree x.step)) ++ faults_of scopes (statement_tree x.body)

-- the block after an item of it
abbrev pub scope_after_item : Scope → Item → Scope
scope_after_item scope (i.Let l) = scope_after_all scope (let_list l)
scope_after_item scope (i.Statement x) = scope

-- the refusal for the first of these faults, where there is one
abbrev pub answer_to : List Found → Result (Unit {0}) Refusal
answer_to [] = Ok tt
answer_to (found ∷ faults) = Err (refusal_for found)

-- the first answer, and the second one where the first finds no fault
abbrev pub and_then : Result (Unit {0}) Refusal → Result (Unit {0}) Refusal → Result (Unit {0}) Refusal
and_then (Ok x) answer = answer
and_then (Err refusal) answer = Err refusal

-- Memory, or what is answered to these faults
abbrev pub Judges : List Found → Result (Unit {0}) ParseFault → Type 0
Judges faults (Ok x) = answer_to faults ≡ Ok x
Judges faults (Err Memory) = Unit {0}
Judges faults (Err (Refused refusal)) = answer_to faults ≡ Err refusal

-- the answer of the code
abbrev pub refused : Result (Unit {0}) Refusal → Result (Unit {0}) ParseFault
refused (Ok x) = Ok x
refused (Err refusal) = Err (Refused refusal)
