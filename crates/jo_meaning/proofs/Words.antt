-- The words of the worked cases: trees, calls, replies and runs.
use Rattle.std.specs.Prelude.{ℕ, pos, false, List, [], ◌∷◌, codes, Some, None}
use Rattle.jo_value.specs.declared.value.Key.{Key}
use Rattle.jo_value.specs.declared.value.Key.TheVariants.{Name}
use Rattle.jo_value.specs.declared.value.Value.{Value}
use Rattle.jo_value.specs.declared.value.Value.TheVariants as value
use Rattle.jo_value.specs.Texts.{Table}
use Rattle.jo_parse_tree.specs.declared.keyword.Keyword.TheVariants as kw
use Rattle.jo_parse_tree.specs.declared.operator.AssignOperator.TheVariants as assign_op
use Rattle.jo_parse_tree.specs.declared.operator.BinaryOperator.{BinaryOperator}
use Rattle.jo_parse_tree.specs.declared.operator.BinaryOperator.TheVariants as op
use Rattle.jo_parse_tree.specs.declared.operator.UnaryOperator.TheVariants as unary_op
use Rattle.jo_parse_tree.specs.declared.word.Ident.{Ident}
use Rattle.jo_parse_tree.specs.declared.word.Name.TheVariants as word
use Rattle.jo_parse_tree.specs.Trees.{Tree, number, literal, constant, variable, member, unary, chain, assign, no_accesses, field, index, no_links, link, Binding, Statement, print, evaluate, Items, no_items, declare, perform}
use Rattle.jo_model.specs.declared.call.Call.{Call}
use Rattle.jo_model.specs.declared.call.Call.TheVariants as call
use Rattle.jo_model.specs.declared.call.Outcome.{Outcome}
use Rattle.jo_model.specs.declared.call.Outcome.TheVariants as outcome
use Rattle.jo_model.specs.declared.call.Reply.{Reply}
use Rattle.jo_model.specs.declared.call.Reply.TheVariants as reply
use Rattle.jo_model.specs.Heaps.{shared}
use Rattle.jo_meaning.specs.Runs.{Run, Waits, Ended}
use Rattle.jo_meaning.specs.Scripts.{does}

-- the texts of all cases; text 12 is one that the table lacks
abbrev pub texts : Table
texts =
    codes "x" ∷ codes "y" ∷ codes "z" ∷ codes "" ∷ codes "0" ∷ codes "1023" ∷ codes "1024" ∷ codes "4294967294" ∷ codes "4294967295" ∷ codes "05"
    ∷ codes "if" ∷ codes "ab" ∷ []

-- ---- trees

abbrev pub ident : ℕ → Ident
ident n = record { text = record { 0 = n }; place = 0; is_proto = false }

-- three variables
abbrev pub x : Tree
x = variable (ident 0)

abbrev pub y : Tree
y = variable (ident 1)

abbrev pub z : Tree
z = variable (ident 2)

-- a number, a text by its id, and a word of the language, each as an expression
abbrev pub natural : ℕ → Tree
natural n = number (pos n)

abbrev pub text : ℕ → Tree
text n = literal (record { text = record { 0 = n }; is_proto = false })

abbrev pub null_word : Tree
null_word = constant kw.Null

abbrev pub undefined_word : Tree
undefined_word = constant kw.Undefined

abbrev pub true_word : Tree
true_word = constant kw.True

abbrev pub false_word : Tree
false_word = constant kw.False

abbrev pub shared_word : Tree
shared_word = constant kw.Shared

-- a property by its name, and by a key
abbrev pub dot : Tree → ℕ → Tree
dot e n = member e (field (word.Ident (ident n)) no_accesses)

abbrev pub at : Tree → Tree → Tree
at e key = member e (index key no_accesses)

-- `shared.x`, `shared.y` and `shared.z`
abbrev pub shared_x : Tree
shared_x = dot shared_word 0

abbrev pub shared_y : Tree
shared_y = dot shared_word 1

abbrev pub shared_z : Tree
shared_z = dot shared_word 2

abbrev pub minus : Tree → Tree
minus e = unary unary_op.Minus e

-- an operator between two operands, and two between three; the level says nothing of the meaning
abbrev pub two : Tree → BinaryOperator → Tree → Tree
two a o b = chain 0 a (link o b no_links)

abbrev pub three : Tree → BinaryOperator → Tree → BinaryOperator → Tree → Tree
three a o b p c = chain 0 a (link o b (link p c no_links))

abbrev pub sum : Tree → Tree → Tree
sum a b = two a op.Plus b

-- `t = e` and `t += e`
abbrev pub set : Tree → Tree → Tree
set t e = assign assign_op.Set t e

abbrev pub add : Tree → Tree → Tree
add t e = assign assign_op.Add t e

-- ---- statements and scripts

abbrev pub show : Tree → Statement
show e = print (e ∷ [])

abbrev pub all : List Statement → Items
all [] = no_items
all (s ∷ statements) = perform s (all statements)

abbrev pub binding : ℕ → Tree → Binding
binding n e = (ident n, Some e)

abbrev pub bare : ℕ → Binding
bare n = (ident n, None)

-- `let` of one variable with a value, and what follows it
abbrev pub with : ℕ → Tree → Items → Items
with n e items = declare (binding n e ∷ []) items

-- ---- calls and replies

abbrev pub name : ℕ → Key
name n = Name (record { 0 = n })

abbrev pub integer : ℕ → Value
integer n = value.Int (pos n)

abbrev pub get : Key → Call
get key = call.Get shared key

abbrev pub put : Key → Value → Call
put key v = call.Put shared key v

abbrev pub found : ℕ → Reply
found n = reply.Found (integer n)

-- ---- runs

-- a script with five turns, at these replies
abbrev pub after : Items → List Reply → Run
after script replies = does script texts 5 replies

-- what `print` of one expression does
abbrev pub printing : Tree → List Reply → Run
printing e replies = after (all (show e ∷ [])) replies

-- what an expression does as a statement
abbrev pub running : Tree → List Reply → Run
running e replies = after (all (evaluate e ∷ [])) replies

-- a run that ended, with its calls, its turns and its lines
abbrev pub ended : Outcome → List Call → ℕ → List ℕ → Run
ended o calls turns lines = record { calls = calls; turns = turns; lines = lines; stand = Ended o }

-- a run that is done and took no turn
abbrev pub done : List Call → List ℕ → Run
done calls lines = ended outcome.Done calls 0 lines

-- a run that ended by an outcome, and printed nothing and took no turn
abbrev pub fails : Outcome → List Call → Run
fails o calls = ended o calls 0 []

-- a run that waits for the reply to its last call
abbrev pub waits : Call → List Call → List ℕ → Run
waits c calls lines = record { calls = calls; turns = 0; lines = lines; stand = Waits c }
