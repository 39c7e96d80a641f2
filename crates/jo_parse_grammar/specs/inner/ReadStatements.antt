-- How the terminals of statements and scripts are read, step by step; as for expressions, nobody need believe these functions.
use Rattle.std.specs.Prelude.{ℕ, zero, suc, Bool, true, false, if◌then◌else◌, List, [], ◌∷◌, ◌++◌, length, Option, None, Some, Result, Ok, Err}
use Rattle.jo_lex.specs.declared.punct.Punct.{Punct}
use Rattle.jo_lex.specs.declared.punct.Punct.TheVariants as p
use Rattle.jo_parse_tree.specs.declared.keyword.Keyword.{Keyword}
use Rattle.jo_parse_tree.specs.declared.keyword.Keyword.TheVariants as kw
use Rattle.jo_parse_grammar.specs.declared.terminal.Terminal.{Terminal}
use Rattle.jo_parse_grammar.specs.declared.terminal.Terminal.TheVariants as t
use Rattle.jo_parse_tree.specs.declared.word.Ident.{Ident}
use Rattle.jo_parse_tree.specs.Trees.{Tree, Binding, Head, declares, begins, Statement, empty, block, when, either, while, for, break, continue, print, print_names, evaluate, Items, no_items, declare, perform}
use Rattle.jo_parse_grammar.specs.Refusals.{Fault, unexpected}
use Rattle.jo_parse_grammar.specs.inner.Read.{Reading, Reader, and_then, peek, next, sees, expect, open_at, enter, take, ended, read}

-- ---- declarations

abbrev pub ident_of : Terminal → Option Ident
ident_of (t.Ident x) = Some x
ident_of _ = None

unfoldable pub ident : Reader Ident
ident ts = take (ident_of (peek ts)) ts

unfoldable pub initial_at : ℕ → Bool → Reader (Option Tree)
initial_at room ins ts =
    if sees (t.Punct p.Assign) ts then and_then (open_at room ts) (λ inner r. and_then (read inner ins 1 r) (λ e r. Ok (Some e, r))) else Ok (None, ts)

unfoldable pub binding_at : ℕ → Bool → Reader Binding
binding_at room ins ts = and_then (ident ts) (λ x r. and_then (initial_at room ins r) (λ v r. Ok ((x, v), r)))

-- the rest of a declaration after a binding
unfoldable pub bindings_from : ℕ → Bool → ℕ → List Binding → Reader (List Binding)
bindings_from room ins zero found ts = Err (unexpected, ts)
bindings_from room ins (suc n) found ts =
    if sees (t.Punct p.Semicolon) ts then Ok (found, next ts)
    else (if sees (t.Punct p.Comma) ts then and_then (binding_at room ins (next ts)) (λ b r. bindings_from room ins n (found ++ b ∷ []) r) else Err (unexpected, ts))

-- a declaration after its `let`
unfoldable pub let_after : ℕ → Bool → Reader (List Binding)
let_after room ins ts = and_then (binding_at room ins ts) (λ b r. bindings_from room ins (length r) (b ∷ []) r)

-- ---- parts of statements

-- an expression in round brackets
unfoldable pub in_brackets_at : ℕ → Reader Tree
in_brackets_at room ts = and_then (enter (t.Punct p.OpenParen) room ts) (λ deep r. ended (read deep) p.CloseParen r)

-- an expression or none, and the terminal that ends it
unfoldable pub optional_ended : ℕ → Bool → Punct → Reader (Option Tree)
optional_ended room ins c ts =
    if sees (t.Punct c) ts then Ok (None, next ts) else and_then (read room ins 1 ts) (λ e r. and_then (expect (t.Punct c) r) (λ _ r. Ok (Some e, r)))

unfoldable pub head_at : ℕ → Reader Head
head_at room ts =
    if sees (t.Keyword kw.Let) ts then and_then (let_after room false (next ts)) (λ bs r. Ok (declares bs, r)) else and_then (optional_ended room false p.Semicolon ts) (λ e r. Ok (begins e, r))

-- the rest of the arguments after one
unfoldable pub arguments_from : ℕ → ℕ → List Tree → Reader (List Tree)
arguments_from room zero found ts = Err (unexpected, ts)
arguments_from room (suc n) found ts =
    if sees (t.Punct p.CloseParen) ts then Ok (found, next ts)
    else (if sees (t.Punct p.Comma) ts then and_then (read room true 1 (next ts)) (λ e r. arguments_from room n (found ++ e ∷ []) r) else Err (unexpected, ts))

-- arguments after their bracket
unfoldable pub arguments_after : ℕ → Reader (List Tree)
arguments_after room ts =
    if sees (t.Punct p.CloseParen) ts then Ok ([], next ts) else and_then (read room true 1 ts) (λ e r. arguments_from room (length r) (e ∷ []) r)

-- ---- statements. `within` reads a statement within one construct more; its flag says whether it is inside the body of a loop.

abbrev pub Within : Type 0
Within = Bool → Reader Statement

unfoldable pub run_at : ℕ → Reader Statement
run_at room ts = and_then (read room true 1 ts) (λ e r. and_then (expect (t.Punct p.Semicolon) r) (λ _ r. Ok (evaluate e, r)))

unfoldable pub print_after : ℕ → Reader Statement
print_after room ts =
    and_then (enter (t.Punct p.OpenParen) room ts) (λ inner r. and_then (arguments_after inner r) (λ es r. and_then (expect (t.Punct p.Semicolon) r) (λ _ r. Ok (print es, r))))

unfoldable pub print_names_after : ℕ → Reader Statement
print_names_after room ts = and_then (in_brackets_at room ts) (λ e r. and_then (expect (t.Punct p.Semicolon) r) (λ _ r. Ok (print_names e, r)))

-- a `break` or `continue`
unfoldable pub leave_at : Statement → Bool → Reader Statement
leave_at s loops ts = if loops then and_then (expect (t.Punct p.Semicolon) (next ts)) (λ _ r. Ok (s, r)) else Err (unexpected, ts)

unfoldable pub else_after : Within → Bool → Tree → Statement → Reader Statement
else_after within loops c x ts = if sees (t.Keyword kw.Else) ts then and_then (within loops (next ts)) (λ y r. Ok (either c x y, r)) else Ok (when c x, ts)

unfoldable pub if_after : ℕ → Within → Bool → Reader Statement
if_after room within loops ts = and_then (in_brackets_at room ts) (λ c r. and_then (within loops r) (λ x r. else_after within loops c x r))

unfoldable pub while_after : ℕ → Within → Reader Statement
while_after room within ts = and_then (in_brackets_at room ts) (λ c r. and_then (within true r) (λ x r. Ok (while c x, r)))

unfoldable pub for_after : ℕ → Within → Reader Statement
for_after room within ts =
    and_then (enter (t.Punct p.OpenParen) room ts) (λ deep r. and_then (head_at deep r) (λ h r. and_then (optional_ended deep true p.Semicolon r) (λ c r. and_then (optional_ended deep true p.CloseParen r) (λ u r. and_then (within true r) (λ x r. Ok (for h c u x, r))))))

-- ---- items

-- an item of a block or of a script
pub data Item : Type 0 where
  a_declaration : List Binding → Item
  a_statement : Statement → Item

abbrev pub with_item : Items → Item → Items
with_item no_items (a_declaration bs) = declare bs no_items
with_item no_items (a_statement s) = perform s no_items
with_item (declare bs is) x = declare bs (with_item is x)
with_item (perform s is) x = perform s (with_item is x)

unfoldable pub item_at : ℕ → Reader Statement → Reader Item
item_at room statement ts =
    if sees (t.Keyword kw.Let) ts then and_then (let_after room true (next ts)) (λ bs r. Ok (a_declaration bs, r)) else and_then (statement ts) (λ s r. Ok (a_statement s, r))

-- the rest of a block
unfoldable pub block_from : ℕ → Reader Statement → ℕ → Items → Reader Items
block_from room statement zero found ts = Err (unexpected, ts)
block_from room statement (suc n) found ts =
    if sees (t.Punct p.CloseBrace) ts then Ok (found, next ts) else and_then (item_at room statement ts) (λ x r. block_from room statement n (with_item found x) r)

unfoldable pub block_after : ℕ → Reader Statement → Reader Statement
block_after room statement ts = and_then (block_from room statement (length ts) no_items ts) (λ is r. Ok (block is, r))

-- ---- the statement at the front

abbrev pub keyword_statement : ℕ → Within → Bool → Keyword → Reader Statement
keyword_statement room within loops kw.If ts = and_then (open_at room ts) (λ inner r. if_after inner within loops r)
keyword_statement room within loops kw.While ts = and_then (open_at room ts) (λ inner r. while_after inner within r)
keyword_statement room within loops kw.For ts = and_then (open_at room ts) (λ inner r. for_after inner within r)
keyword_statement room within loops kw.Break ts = leave_at break loops ts
keyword_statement room within loops kw.Continue ts = leave_at continue loops ts
keyword_statement room within loops kw.Print ts = print_after room (next ts)
keyword_statement room within loops kw.PrintNames ts = print_names_after room (next ts)
keyword_statement room within loops _ ts = run_at room ts

abbrev pub punct_statement : ℕ → Within → Bool → Punct → Reader Statement
punct_statement room within loops p.Semicolon ts = Ok (empty, next ts)
punct_statement room within loops p.OpenBrace ts = and_then (open_at room ts) (λ inner r. block_after inner (within loops) r)
punct_statement room within loops _ ts = run_at room ts

abbrev pub statement_at : ℕ → Within → Bool → Terminal → Reader Statement
statement_at room within loops (t.Keyword w) ts = keyword_statement room within loops w ts
statement_at room within loops (t.Punct c) ts = punct_statement room within loops c ts
statement_at room within loops _ ts = run_at room ts

abbrev pub nothing_within : Within
nothing_within loops ts = Err (unexpected, ts)

unfoldable pub read_statement : ℕ → Within
read_statement zero loops ts = statement_at zero nothing_within loops (peek ts) ts
read_statement (suc n) loops ts = statement_at (suc n) (read_statement n) loops (peek ts) ts

-- ---- the whole of the terminals

abbrev pub Answer : Type 0
Answer = Result Items (Fault × List Terminal)

abbrev pub item_then : Reading Item → (Item → List Terminal → Answer) → Answer
item_then (Ok x) f = f x.0 x.1
item_then (Err e) f = Err e

unfoldable pub script_from : ℕ → ℕ → Items → List Terminal → Answer
script_from room n found [] = Ok found
script_from room zero found (c ∷ r) = Err (unexpected, c ∷ r)
script_from room (suc n) found (c ∷ r) = item_then (item_at room (read_statement room false) (c ∷ r)) (λ x r. script_from room n (with_item found x) r)

unfoldable pub whole_script : ℕ → List Terminal → Answer
whole_script limit ts = script_from limit (length ts) no_items ts
