-- How the terminals of an expression are read, step by step. The methods of the parser have these functions as their contracts; what they answer is proved exact, so nobody need believe them.
use Rattle.std.specs.Prelude.{ℕ, zero, suc, ◌+◌, ◌-◌, ◌==◌, Bool, true, false, ◌&&◌, if◌then◌else◌, List, [], ◌∷◌, length, Option, None, Some, Result, Ok, Err}
use Rattle.jo_lex.specs.declared.punct.Punct.{Punct}
use Rattle.jo_lex.specs.declared.punct.Punct.TheVariants as p
use Rattle.jo_parse_tree.specs.declared.keyword.Keyword.{Keyword}
use Rattle.jo_parse_tree.specs.declared.keyword.Keyword.TheVariants as kw
use Rattle.jo_parse_tree.specs.declared.operator.AssignOperator.{AssignOperator}
use Rattle.jo_parse_tree.specs.declared.operator.AssignOperator.TheVariants as a
use Rattle.jo_parse_tree.specs.declared.operator.BinaryOperator.{BinaryOperator}
use Rattle.jo_parse_tree.specs.declared.operator.BinaryOperator.TheVariants as bin
use Rattle.jo_parse_tree.specs.declared.operator.UnaryOperator.{UnaryOperator}
use Rattle.jo_parse_tree.specs.declared.operator.UnaryOperator.TheVariants as u
use Rattle.jo_parse_grammar.specs.declared.terminal.Terminal.{Terminal}
use Rattle.jo_parse_grammar.specs.declared.terminal.Terminal.TheVariants as t
use Rattle.jo_parse_tree.specs.declared.word.Name.{Name}
use Rattle.jo_parse_tree.specs.declared.word.Name.TheVariants as n
use Rattle.jo_parse_tree.specs.declared.word.PropKey.{PropKey}
use Rattle.jo_parse_tree.specs.declared.word.PropKey.TheVariants as q
use Rattle.jo_parse_tree.specs.Trees.{Tree, number, literal, constant, variable, group, object, cas, member, unary, delete, chain, choose, assign, Props, no_props, prop, Accesses, no_accesses, field, index, Links, no_links, link}
use Rattle.jo_parse_grammar.specs.Operators.{is_constant}
use Rattle.jo_parse_grammar.specs.Refusals.{Fault, unexpected, too_deep}

-- a value and the terminals after it, or a fault and the terminals from the offending one on
abbrev pub Reading : Type 0 → Type 0
Reading A = Result (A × List Terminal) (Fault × List Terminal)

abbrev pub and_then : {A B : Type 0} → Reading A → (A → List Terminal → Reading B) → Reading B
and_then (Ok r) f = f r.0 r.1
and_then (Err e) f = Err e

abbrev pub Reader : Type 0 → Type 0
Reader A = List Terminal → Reading A

-- ---- one terminal

-- the next terminal, which is End where there is none
abbrev pub peek : List Terminal → Terminal
peek [] = t.End
peek (c ∷ r) = c

abbrev pub next : List Terminal → List Terminal
next [] = []
next (c ∷ r) = r

-- a code for each punctuator, keyword and kind of terminal
abbrev pub punct_code : Punct → ℕ
punct_code p.OpenBrace = 0
punct_code p.CloseBrace = 1
punct_code p.OpenParen = 2
punct_code p.CloseParen = 3
punct_code p.OpenBracket = 4
punct_code p.CloseBracket = 5
punct_code p.Dot = 6
punct_code p.Semicolon = 7
punct_code p.Comma = 8
punct_code p.Less = 9
punct_code p.Greater = 10
punct_code p.LessEqual = 11
punct_code p.GreaterEqual = 12
punct_code p.Same = 13
punct_code p.NotSame = 14
punct_code p.Plus = 15
punct_code p.Minus = 16
punct_code p.Star = 17
punct_code p.Percent = 18
punct_code p.Bang = 19
punct_code p.AndAnd = 20
punct_code p.OrOr = 21
punct_code p.Question = 22
punct_code p.Colon = 23
punct_code p.Assign = 24
punct_code p.PlusAssign = 25
punct_code p.MinusAssign = 26

abbrev pub keyword_code : Keyword → ℕ
keyword_code kw.Break = 0
keyword_code kw.Cas = 1
keyword_code kw.Continue = 2
keyword_code kw.Delete = 3
keyword_code kw.Else = 4
keyword_code kw.False = 5
keyword_code kw.For = 6
keyword_code kw.If = 7
keyword_code kw.In = 8
keyword_code kw.Let = 9
keyword_code kw.Null = 10
keyword_code kw.Print = 11
keyword_code kw.PrintNames = 12
keyword_code kw.Shared = 13
keyword_code kw.True = 14
keyword_code kw.Undefined = 15
keyword_code kw.While = 16

abbrev pub code : Terminal → ℕ
code (t.Ident x) = 0
code (t.Reserved x) = 1
code (t.Number i) = 2
code (t.Text s) = 3
code t.End = 4
code (t.Punct c) = 5 + punct_code c
code (t.Keyword w) = 32 + keyword_code w

-- the next terminal is the one wanted, which is a punctuator or a keyword
abbrev pub sees : Terminal → List Terminal → Bool
sees c ts = code (peek ts) == code c

unfoldable pub expect : Terminal → Reader (Unit {0})
expect c ts = if sees c ts then Ok (tt, next ts) else Err (unexpected, ts)

-- takes a terminal that opens a construct, and says how many more may stand in it
abbrev pub open_at : ℕ → Reader ℕ
open_at zero ts = Err (too_deep, ts)
open_at (suc n) ts = Ok (n, next ts)

-- takes this bracket, which opens a construct
unfoldable pub enter : Terminal → ℕ → Reader ℕ
enter c room ts = if sees c ts then open_at room ts else Err (unexpected, ts)

abbrev pub take : {A : Type 0} → Option A → Reader A
take (Some x) ts = Ok (x, next ts)
take None ts = Err (unexpected, ts)

abbrev pub name_of : Terminal → Option Name
name_of (t.Ident x) = Some (n.Ident x)
name_of (t.Keyword w) = Some (n.Keyword w)
name_of (t.Reserved x) = Some (n.Reserved x)
name_of _ = None

unfoldable pub name : Reader Name
name ts = take (name_of (peek ts)) ts

abbrev pub key_of : Terminal → Option PropKey
key_of (t.Ident x) = if x.is_proto then None else Some (q.Name (n.Ident x))
key_of (t.Keyword w) = Some (q.Name (n.Keyword w))
key_of (t.Reserved x) = Some (q.Name (n.Reserved x))
key_of (t.Text s) = if s.is_proto then None else Some (q.Text s)
key_of (t.Number i) = Some (q.Number i)
key_of _ = None

unfoldable pub key : Reader PropKey
key ts = take (key_of (peek ts)) ts

-- ---- operators

abbrev pub punct_rank : Punct → ℕ
punct_rank p.Assign = 1
punct_rank p.PlusAssign = 1
punct_rank p.MinusAssign = 1
punct_rank p.Question = 2
punct_rank p.OrOr = 3
punct_rank p.AndAnd = 4
punct_rank p.Same = 5
punct_rank p.NotSame = 5
punct_rank p.Less = 6
punct_rank p.Greater = 6
punct_rank p.LessEqual = 6
punct_rank p.GreaterEqual = 6
punct_rank p.Plus = 7
punct_rank p.Minus = 7
punct_rank p.Star = 8
punct_rank p.Percent = 8
punct_rank p.Dot = 10
punct_rank p.OpenBracket = 10
punct_rank _ = 0

-- how tightly a terminal that follows an expression holds on to it; the flag says whether `in` does
abbrev pub rank : Bool → Terminal → ℕ
rank ins (t.Punct c) = punct_rank c
rank true (t.Keyword kw.In) = 6
rank _ _ = 0

-- the operator of a terminal of the ranks 3 to 8
abbrev pub binary_of : Terminal → BinaryOperator
binary_of (t.Punct p.AndAnd) = bin.And
binary_of (t.Punct p.Same) = bin.Same
binary_of (t.Punct p.NotSame) = bin.NotSame
binary_of (t.Punct p.Less) = bin.Less
binary_of (t.Punct p.Greater) = bin.Greater
binary_of (t.Punct p.LessEqual) = bin.LessEqual
binary_of (t.Punct p.GreaterEqual) = bin.GreaterEqual
binary_of (t.Keyword kw.In) = bin.In
binary_of (t.Punct p.Plus) = bin.Plus
binary_of (t.Punct p.Minus) = bin.Minus
binary_of (t.Punct p.Star) = bin.Times
binary_of (t.Punct p.Percent) = bin.Remainder
binary_of _ = bin.Or

-- the operator of a terminal of rank 1
abbrev pub assign_of : Terminal → AssignOperator
assign_of (t.Punct p.PlusAssign) = a.Add
assign_of (t.Punct p.MinusAssign) = a.Subtract
assign_of _ = a.Set

-- the terminal is an operator before its operand, other than `delete`
abbrev pub is_sign : Terminal → Bool
is_sign (t.Punct p.Minus) = true
is_sign (t.Punct p.Bang) = true
is_sign _ = false

abbrev pub sign_of : Terminal → UnaryOperator
sign_of (t.Punct p.Bang) = u.Not
sign_of _ = u.Minus

-- ---- lists, with one more at the end

abbrev pub with_field : Accesses → Name → Accesses
with_field no_accesses x = field x no_accesses
with_field (field y xs) x = field y (with_field xs x)
with_field (index e xs) x = index e (with_field xs x)

abbrev pub with_index : Accesses → Tree → Accesses
with_index no_accesses i = index i no_accesses
with_index (field y xs) i = field y (with_index xs i)
with_index (index e xs) i = index e (with_index xs i)

abbrev pub with_link : Links → BinaryOperator → Tree → Links
with_link no_links o e = link o e no_links
with_link (link q f ls) o e = link q f (with_link ls o e)

abbrev pub with_prop : Props → PropKey → Tree → Props
with_prop no_props k e = prop k e no_props
with_prop (prop j f ps) k e = prop j f (with_prop ps k e)

-- ---- rules. `below` reads what stands within one construct more, at a level.

abbrev pub Below : Type 0
Below = Bool → ℕ → Reader Tree

-- an expression and the bracket or comma that ends it
unfoldable pub ended : Below → Punct → Reader Tree
ended below c ts = and_then (below true 1 ts) (λ e r. and_then (expect (t.Punct c) r) (λ _ r. Ok (e, r)))

unfoldable pub property : Below → Reader (PropKey × Tree)
property below ts = and_then (key ts) (λ k r. and_then (expect (t.Punct p.Colon) r) (λ _ r. and_then (below true 1 r) (λ e r. Ok ((k, e), r))))

-- the rest of an object after a property
unfoldable pub props_from : Below → ℕ → Props → Reader Tree
props_from below zero found ts = Err (unexpected, ts)
props_from below (suc n) found ts =
    if sees (t.Punct p.CloseBrace) ts then Ok (object found false, next ts)
    else (if sees (t.Punct p.Comma) ts
    then (if sees (t.Punct p.CloseBrace) (next ts) then Ok (object found true, next (next ts))
    else and_then (property below (next ts)) (λ x r. props_from below n (with_prop found x.0 x.1) r))
    else Err (unexpected, ts))

unfoldable pub object_after : Below → Reader Tree
object_after below ts =
    if sees (t.Punct p.CloseBrace) ts then Ok (object no_props false, next ts)
    else and_then (property below ts) (λ x r. props_from below (length r) (prop x.0 x.1 no_props) r)

unfoldable pub group_after : Below → Reader Tree
group_after below ts = and_then (ended below p.CloseParen ts) (λ e r. Ok (group e, r))

unfoldable pub cas_after : Below → Reader Tree
cas_after below ts =
    and_then (ended below p.Comma ts) (λ o r. and_then (ended below p.Comma r) (λ k r. and_then (ended below p.Comma r) (λ x r. and_then (ended below p.CloseParen r) (λ y r. Ok (cas o k x y, r)))))

-- a keyword that is an expression or begins one
abbrev pub keyword_at : ℕ → Below → Keyword → Reader Tree
keyword_at room below kw.Cas ts = and_then (enter (t.Punct p.OpenParen) room (next ts)) (λ _ r. cas_after below r)
keyword_at room below w ts = if is_constant w then Ok (constant w, next ts) else Err (unexpected, ts)

abbrev pub bracket_at : ℕ → Below → Punct → Reader Tree
bracket_at room below p.OpenParen ts = and_then (open_at room ts) (λ _ r. group_after below r)
bracket_at room below p.OpenBrace ts = and_then (open_at room ts) (λ _ r. object_after below r)
bracket_at room below _ ts = Err (unexpected, ts)

abbrev pub primary_at : ℕ → Below → Terminal → Reader Tree
primary_at room below (t.Number i) ts = Ok (number i, next ts)
primary_at room below (t.Text s) ts = Ok (literal s, next ts)
primary_at room below (t.Ident x) ts = Ok (variable x, next ts)
primary_at room below (t.Keyword w) ts = keyword_at room below w ts
primary_at room below (t.Punct c) ts = bracket_at room below c ts
primary_at room below _ ts = Err (unexpected, ts)

unfoldable pub primary : ℕ → Below → Reader Tree
primary room below ts = primary_at room below (peek ts) ts

-- a key in brackets
unfoldable pub index_at : ℕ → Below → Reader Tree
index_at room below ts = and_then (open_at room ts) (λ _ r. ended below p.CloseBracket r)

unfoldable pub accesses_from : ℕ → Below → ℕ → Accesses → Reader Accesses
accesses_from room below zero found ts = Ok (found, ts)
accesses_from room below (suc n) found ts =
    if sees (t.Punct p.Dot) ts then and_then (name (next ts)) (λ x r. accesses_from room below n (with_field found x) r)
    else (if sees (t.Punct p.OpenBracket) ts then and_then (index_at room below ts) (λ e r. accesses_from room below n (with_index found e) r) else Ok (found, ts))

abbrev pub member_of : Tree → Accesses → Tree
member_of e no_accesses = e
member_of e (field x xs) = member e (field x xs)
member_of e (index i xs) = member e (index i xs)

unfoldable pub postfix : ℕ → Below → Reader Tree
postfix room below ts = and_then (primary room below ts) (λ e r. and_then (accesses_from room below (length r) no_accesses r) (λ xs r. Ok (member_of e xs, r)))

abbrev pub is_member : Tree → Bool
is_member (member e xs) = true
is_member _ = false

-- a postfix expression that is a property
unfoldable pub only_member : ℕ → Below → Reader Tree
only_member room below ts = and_then (postfix room below ts) (λ e r. if is_member e then Ok (e, r) else Err (unexpected, r))

unfoldable pub prefixed : ℕ → Below → Reader Tree
prefixed room below ts =
    if is_sign (peek ts) then and_then (open_at room ts) (λ _ r. and_then (below true 9 r) (λ e r. Ok (unary (sign_of (peek ts)) e, r)))
    else (if sees (t.Keyword kw.Delete) ts then and_then (open_at room ts) (λ _ r. and_then (below true 10 r) (λ e r. Ok (delete e, r))) else postfix room below ts)

unfoldable pub links_from : ℕ → Below → Bool → ℕ → ℕ → Links → Reader Links
links_from room below ins k zero found ts = Ok (found, ts)
links_from room below ins k (suc n) found ts =
    if rank ins (peek ts) == k then and_then (open_at room ts) (λ _ r. and_then (below ins (k + 1) r) (λ e r. links_from room below ins k n (with_link found (binary_of (peek ts)) e) r)) else Ok (found, ts)

abbrev pub chain_of : ℕ → Tree → Links → Tree
chain_of k e no_links = e
chain_of k e (link o f ls) = chain k e (link o f ls)

-- the levels of binary operators, of which n are left
unfoldable pub chains : ℕ → Below → Bool → ℕ → ℕ → Reader Tree
chains room below ins zero k ts = prefixed room below ts
chains room below ins (suc n) k ts =
    and_then (chains room below ins n (k + 1) ts) (λ e r. and_then (links_from room below ins k (length r) no_links r) (λ ls r. Ok (chain_of k e ls, r)))

unfoldable pub choice : Below → Bool → Tree → Reader Tree
choice below ins x ts = and_then (below ins 1 ts) (λ y r. and_then (expect (t.Punct p.Colon) r) (λ _ r. and_then (below ins 1 r) (λ z r. Ok (choose x y z, r))))

unfoldable pub condition : ℕ → Below → Bool → Reader Tree
condition room below ins ts =
    and_then (chains room below ins 6 3 ts) (λ x r. if sees (t.Punct p.Question) r then and_then (open_at room r) (λ _ r. choice below ins x r) else Ok (x, r))

abbrev pub is_target : Tree → Bool
is_target (variable x) = true
is_target (member e xs) = true
is_target _ = false

unfoldable pub assignment : ℕ → Below → Bool → Reader Tree
assignment room below ins ts =
    and_then (condition room below ins ts) (λ x r. if is_target x && (rank ins (peek r) == 1)
    then and_then (open_at room r) (λ _ s. and_then (below ins 1 s) (λ y s. Ok (assign (assign_of (peek r)) x y, s))) else Ok (x, r))

-- at a level: 1, one of 4 to 9, or 10, at which only a property is read
abbrev pub at_level : ℕ → Below → Bool → ℕ → Reader Tree
at_level room below ins l ts = if l == 1 then assignment room below ins ts else (if l == 10 then only_member room below ts else chains room below ins (9 - l) l ts)

abbrev pub no_room : Below
no_room ins l ts = Err (too_deep, ts)

unfoldable pub read : ℕ → Below
read zero ins l ts = at_level zero no_room ins l ts
read (suc n) ins l ts = at_level (suc n) (read n) ins l ts

-- what reads where one construct more is open
abbrev pub under : ℕ → Below
under zero = no_room
under (suc n) = read n
