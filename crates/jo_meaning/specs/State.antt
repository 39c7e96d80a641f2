-- The state of a script that runs, and how it goes on.
use Rattle.std.specs.Prelude.{ℕ, zero, suc, ◌==◌, if◌then◌else◌, List, length, [], ◌∷◌, Option, Some, None, Result, Ok, Err}
use Rattle.jo_value.specs.declared.value.NameId.{NameId}
use Rattle.jo_value.specs.declared.value.Value.{Value}
use Rattle.jo_value.specs.declared.value.Value.TheVariants as value
use Rattle.jo_parse_tree.specs.declared.word.Ident.{Ident}
use Rattle.jo_model.specs.declared.call.Call.{Call}
use Rattle.jo_model.specs.declared.call.Outcome.{Outcome}
use Rattle.jo_model.specs.declared.call.Outcome.TheVariants as outcome
use Rattle.jo_model.specs.declared.call.Reply.{Reply}
use Rattle.jo_model.specs.declared.call.Reply.TheVariants as reply
use Rattle.jo_meaning.specs.Runs.{Interaction, Ends, Asks, Takes}

-- the turns that are left, the value of each variable, and the bytes of the lines so far
pub record State : Type 0 where
  pub turns : ℕ
  pub variables : ℕ → Value
  pub lines : List ℕ

-- what comes next, from a state on
abbrev pub Next : Type 0
Next = State → Interaction

-- the script ends with this outcome
abbrev pub ends : Outcome → Next
ends outcome s = Ends outcome s.lines

-- a fault ends the script, and a value goes on (ReturnIfAbrupt)
abbrev pub unless_fault : {A : Type 0} → Result A Outcome → (A → Next) → Next
unless_fault (Ok a) next = next a
unless_fault (Err fault) next = ends fault

-- ---- calls

-- a call that is refused ends the script with that outcome
abbrev pub unless_refused : Reply → Next → Next
unless_refused (reply.Made o) next = next
unless_refused (reply.Found v) next = next
unless_refused (reply.Flag b) next = next
unless_refused (reply.Names names) next = next
unless_refused reply.Done next = next
unless_refused reply.TooManyNames next = ends outcome.TooManyNames
unless_refused reply.ObjectsSpent next = ends outcome.ObjectsSpent
unless_refused (reply.Spent spent) next = ends outcome.Spent

-- a call, and what comes next at its reply
abbrev pub asks : Call → (Reply → Next) → Next
asks call next s = Asks call s.lines (λ reply. unless_refused reply (next reply) s)

-- the object in the reply to a New; any other reply that goes on reads as undefined, as in the next two
abbrev pub made_in : Reply → Value
made_in (reply.Made o) = value.Object o
made_in (reply.Found v) = value.Undefined
made_in (reply.Flag b) = value.Undefined
made_in (reply.Names names) = value.Undefined
made_in reply.Done = value.Undefined
made_in reply.TooManyNames = value.Undefined
made_in reply.ObjectsSpent = value.Undefined
made_in (reply.Spent spent) = value.Undefined

-- the value in the reply to a Get or a Cas
abbrev pub found_in : Reply → Value
found_in (reply.Made o) = value.Undefined
found_in (reply.Found v) = v
found_in (reply.Flag b) = value.Undefined
found_in (reply.Names names) = value.Undefined
found_in reply.Done = value.Undefined
found_in reply.TooManyNames = value.Undefined
found_in reply.ObjectsSpent = value.Undefined
found_in (reply.Spent spent) = value.Undefined

-- the truth value in the reply to a Has
abbrev pub flag_in : Reply → Value
flag_in (reply.Made o) = value.Undefined
flag_in (reply.Found v) = value.Undefined
flag_in (reply.Flag b) = value.Bool b
flag_in (reply.Names names) = value.Undefined
flag_in reply.Done = value.Undefined
flag_in reply.TooManyNames = value.Undefined
flag_in reply.ObjectsSpent = value.Undefined
flag_in (reply.Spent spent) = value.Undefined

-- the names in the reply to a Names; there are none in a reply of another kind
abbrev pub names_in : Reply → List NameId
names_in (reply.Made o) = []
names_in (reply.Found v) = []
names_in (reply.Flag b) = []
names_in (reply.Names names) = names
names_in reply.Done = []
names_in reply.TooManyNames = []
names_in reply.ObjectsSpent = []
names_in (reply.Spent spent) = []

-- ---- turns

-- goes on with a turn less, or ends where none is left
abbrev pub take_turn : ℕ → Next → Next
take_turn zero next s = Ends outcome.TurnsSpent s.lines
take_turn (suc left) next s = Takes (next (record s { turns = left }))

-- ---- variables

-- the names that the enclosing blocks declare, the innermost block first, each as the id of its text
abbrev pub Environment : Type 0
Environment = List ℕ

-- Which variable a name means: that of the innermost block in which it is declared, if any.
-- Variables are counted from the outermost block on. Nothing is done with them where a block begins:
-- no accepted script reads a variable before its `let` has run.
abbrev pub variable_of : Environment → Ident → Option ℕ
variable_of [] x = None
variable_of (name ∷ environment) x = if name == x.text.0 then Some (length environment) else variable_of environment x

-- the value of a variable; what is not declared reads as undefined
abbrev pub value_at : Option ℕ → State → Value
value_at None s = value.Undefined
value_at (Some n) s = s.variables n

-- the state in which a variable has this value
abbrev pub with_value_at : Option ℕ → Value → State → State
with_value_at None v s = s
with_value_at (Some n) v s = record s { variables = λ m. if m == n then v else s.variables m }
