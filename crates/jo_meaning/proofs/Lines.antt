-- What a script has printed is a list of lines, each without a line feed but the one that closes it, at every reply and at its end.
use Rattle.std.proofs.Common.{◌≡◌, ℕ, zero, suc, ◌+◌, Bool, true, false, List, [], ◌∷◌, ◌++◌, length, Option, Some, None, Result, Ok, Err, if◌then◌else◌, refl, ap, ◌∙◌, append_assoc}
use Rattle.std.proofs.lemmas.List.{flat_map_more}
use Rattle.std.specs.Prelude.{nat_le, codes, decimal}
use Rattle.std.specs.List.{flat_map}
use Rattle.jo_value.specs.declared.limits.TheConstants.{MOST_LINE_BYTES}
use Rattle.jo_value.specs.declared.value.Key.{Key}
use Rattle.jo_value.specs.declared.value.ObjId.{ObjId}
use Rattle.jo_value.specs.declared.value.Value.{Value}
use Rattle.jo_value.specs.declared.value.Value.TheVariants as value
use Rattle.jo_value.specs.Texts.{Table}
use Rattle.jo_parse_tree.specs.Blocks.{declared_in, declared_by}
use Rattle.jo_parse_tree.specs.declared.operator.AssignOperator.{AssignOperator}
use Rattle.jo_parse_tree.specs.declared.operator.AssignOperator.TheVariants as assign_op
use Rattle.jo_parse_tree.specs.declared.operator.BinaryOperator.{BinaryOperator}
use Rattle.jo_parse_tree.specs.declared.operator.BinaryOperator.TheVariants as binary
use Rattle.jo_parse_tree.specs.Trees.{Tree, number, literal, constant, variable, group, object, cas, member, unary, delete, chain, choose, assign, Props, no_props, prop, Accesses, no_accesses, field, index, Links, no_links, link, Binding, Head, declares, begins, Statement, empty, block, when, either, while, for, break, continue, print, print_names, evaluate, Items, no_items, declare, perform}
use Rattle.jo_model.specs.declared.call.Call.{Call}
use Rattle.jo_model.specs.declared.call.Call.TheVariants as call
use Rattle.jo_model.specs.declared.call.Outcome.{Outcome}
use Rattle.jo_model.specs.declared.call.Outcome.TheVariants as outcome
use Rattle.jo_model.specs.declared.call.Reply.{Reply}
use Rattle.jo_model.specs.declared.call.Reply.TheVariants as reply
use Rattle.jo_model.specs.Printed.{line_of}
use Rattle.jo_model.specs.Rendered.{headed, run_bytes}
use Rattle.jo_meaning.specs.Runs.{Interaction, Ends, Asks, Takes, follow}
use Rattle.jo_meaning.specs.State.{State, Next, Environment, ends, unless_fault, unless_refused, asks, made_in, found_in, flag_in, names_in, take_turn, variable_of, value_at, with_value_at}
use Rattle.jo_meaning.specs.Values.{is_falsy, apply, apply_unary, object_in}
use Rattle.jo_meaning.specs.Keys.{key_in, name_value, prop_value}
use Rattle.jo_meaning.specs.Printed.{line_of_names, prints}
use Rattle.jo_meaning.specs.Expressions.{Giving, constant_value, Reference, plain, named, property, on_property, get_value, put_value, deletes, adjusts, assigns, operates, evaluates, refers, reaches, fills, operates_each, evaluates_each}
use Rattle.jo_meaning.specs.Statements.{evaluates_or, steps, binds, starts, repeats, loops, loops_for, executes, executes_all}
use Rattle.jo_meaning.specs.Scripts.{state_at_start, interaction_of, does}
use Rattle.jo_meaning.specs.Histories.{run_in}
use Rattle.jo_meaning.specs.Output.{stand_bytes, script_bytes}
use Rattle.jo_model.specs.History.{History, replies_of}
use Rattle.jo_parse_grammar.specs.Sets.{IsAcceptedSet}
use Rattle.jo_meaning.proofs.LineFeeds.{IsOneLine, AreOneLine, are_one_line-push, no_line_feeds}
use Rattle.jo_meaning.proofs.Headed.{headed_lines}
use Rattle.jo_meaning.proofs.OneLine.{line_of_is_one_line, line_of_names_is_one_line}

-- ---- lines

-- the bytes are lines without line feeds, each closed by one
pub record IsLines (bytes : List ℕ) : Type 0 where
  pub lines : List (List ℕ)
  pub one_line : AreOneLine lines
  pub bytes_are : bytes ≡ flat_map (λ line. line ++ 10 ∷ []) lines

no_lines : IsLines []
no_lines = record { lines = []; one_line = tt; bytes_are = refl }

one_more : (bytes line : List ℕ) → IsLines bytes → IsOneLine line → IsLines (bytes ++ line ++ 10 ∷ [])
one_more bytes line h k = record {
  lines = h.lines ++ line ∷ [];
  one_line = are_one_line-push h.lines line h.one_line k;
  bytes_are =
      append_assoc bytes line (10 ∷ []) ∙ ap (λ t. t ++ (line ++ 10 ∷ [])) h.bytes_are
      ∙ flat_map_more (λ l. l ++ 10 ∷ []) [] h.lines line;
}

-- at each call and at the end, what was printed is lines
abbrev pub PrintsLines : Interaction → Type 0
PrintsLines (Ends outcome lines) = IsLines lines
PrintsLines (Asks call lines answered) = IsLines lines × ((reply : Reply) → PrintsLines (answered reply))
PrintsLines (Takes rest) = PrintsLines rest

-- what comes next prints lines after lines
pub record Prints (k : Next) : Type 0 where
  pub by : (s : State) → IsLines s.lines → PrintsLines (k s)

-- what gives a value keeps it
abbrev pub KeepsLines : {A : Type 0} → Giving A → Type 0
KeepsLines {A} give = (k : A → Next) → ((a : A) → Prints (k a)) → Prints (give k)

-- so does what has one way to go on
abbrev pub KeepsLinesOne : (Next → Next) → Type 0
KeepsLinesOne f = (k : Next) → Prints k → Prints (f k)

ends_lines : (o : Outcome) → Prints (ends o)
ends_lines o = record { by = λ s l. l }

if_lines : (b : Bool) (f g : Next) → Prints f → Prints g → Prints (if b then f else g)
if_lines true f g p q = p
if_lines false f g p q = q

fault_lines : {A : Type 0} → (r : Result A Outcome) → KeepsLines (unless_fault r)
fault_lines (Ok a) k h = h a
fault_lines (Err fault) k h = ends_lines fault

refused_lines : (r : Reply) (k : Next) (s : State) → IsLines s.lines → PrintsLines (k s) → PrintsLines (unless_refused r k s)
refused_lines (reply.Made o) k s l h = h
refused_lines (reply.Found v) k s l h = h
refused_lines (reply.Flag b) k s l h = h
refused_lines (reply.Names names) k s l h = h
refused_lines reply.Done k s l h = h
refused_lines reply.TooManyNames k s l h = l
refused_lines reply.ObjectsSpent k s l h = l
refused_lines (reply.Spent spent) k s l h = l

asks_lines : (c : Call) → KeepsLines (asks c)
asks_lines c k h = record { by = λ s l. (l, λ r. refused_lines r (k r) s l ((h r).by s l)) }

print_lines : (line : List ℕ) → IsOneLine line → KeepsLinesOne (prints line)
print_lines line one k h = record {
  by = λ s l. room (nat_le (length s.lines + length line + 1) MOST_LINE_BYTES) s _ l
      (h.by (record s { lines = s.lines ++ line ++ 10 ∷ [] }) (one_more s.lines line l one));
} where
  room : (b : Bool) (s : State) (x : Interaction) → IsLines s.lines → PrintsLines x → PrintsLines (if b then x else ends outcome.OutputFull s)
  room true s x l p = p
  room false s x l p = l

turn_lines : (n : ℕ) (f : Next) → Prints f → (s : State) → IsLines s.lines → PrintsLines (take_turn n f s)
turn_lines zero f h s l = l
turn_lines (suc n) f h s l = h.by (record s { turns = n }) l

module _ (texts : Table) where
  -- ---- expressions

  on_lines : (base key : Value) (k : ObjId → Key → Next) → ((o : ObjId) (key : Key) → Prints (k o key)) → Prints (on_property texts base key k)
  on_lines base key k h = fault_lines (object_in base) _ (λ o. fault_lines (key_in texts key) _ (h o))

  get_lines : (r : Reference) → KeepsLines (get_value texts r)
  get_lines (plain v) k h = h v
  get_lines (named x) k h = record { by = λ s l. (h (value_at x s)).by s l }
  get_lines (property base key) k h = on_lines base key _ (λ o p. asks_lines (call.Get o p) _ (λ r. h (found_in r)))

  put_lines : (r : Reference) (new : Value) → KeepsLinesOne (put_value texts r new)
  put_lines (plain v) new k h = h
  put_lines (named None) new k h = record { by = λ s l. h.by s l }
  put_lines (named (Some x)) new k h = record { by = λ s l. h.by (with_value_at (Some x) new s) l }
  put_lines (property base key) new k h = on_lines base key _ (λ o p. asks_lines (call.Put o p new) _ (λ r. h))

  delete_lines : (r : Reference) → KeepsLinesOne (deletes texts r)
  delete_lines (plain v) k h = h
  delete_lines (named x) k h = h
  delete_lines (property base key) k h = on_lines base key _ (λ o p. asks_lines (call.Delete o p) _ (λ r. h))

  operator_lines : (operator : BinaryOperator) (x : Value) (right : Giving Value) → KeepsLines right → KeepsLines (operates texts operator x right)
  operator_lines binary.Or x right give k h = if_lines (is_falsy texts x) _ _ (give k h) (h x)
  operator_lines binary.And x right give k h = if_lines (is_falsy texts x) _ _ (h x) (give k h)
  operator_lines binary.In x right give k h = give _ (λ y. on_lines y x _ (λ o p. asks_lines (call.Has o p) _ (λ r. h (flag_in r))))
  operator_lines binary.Same x right give k h = give _ (λ y. fault_lines (apply binary.Same x y) k h)
  operator_lines binary.NotSame x right give k h = give _ (λ y. fault_lines (apply binary.NotSame x y) k h)
  operator_lines binary.Less x right give k h = give _ (λ y. fault_lines (apply binary.Less x y) k h)
  operator_lines binary.Greater x right give k h = give _ (λ y. fault_lines (apply binary.Greater x y) k h)
  operator_lines binary.LessEqual x right give k h = give _ (λ y. fault_lines (apply binary.LessEqual x y) k h)
  operator_lines binary.GreaterEqual x right give k h = give _ (λ y. fault_lines (apply binary.GreaterEqual x y) k h)
  operator_lines binary.Plus x right give k h = give _ (λ y. fault_lines (apply binary.Plus x y) k h)
  operator_lines binary.Minus x right give k h = give _ (λ y. fault_lines (apply binary.Minus x y) k h)
  operator_lines binary.Times x right give k h = give _ (λ y. fault_lines (apply binary.Times x y) k h)
  operator_lines binary.Remainder x right give k h = give _ (λ y. fault_lines (apply binary.Remainder x y) k h)

  adjust_lines : (operator : BinaryOperator) (r : Reference) (right : Giving Value) → KeepsLines right → KeepsLines (adjusts texts operator r right)
  adjust_lines operator r right give k h =
      get_lines r _ (λ old. operator_lines operator old right give _ (λ new. put_lines r new _ (h new)))

  assign_lines : (operator : AssignOperator) (r : Reference) (right : Giving Value) → KeepsLines right → KeepsLines (assigns texts operator r right)
  assign_lines assign_op.Set r right give k h = give _ (λ v. put_lines r v _ (h v))
  assign_lines assign_op.Add r right give k h = adjust_lines binary.Plus r right give k h
  assign_lines assign_op.Subtract r right give k h = adjust_lines binary.Minus r right give k h

  mutual
    expression_lines : (environment : Environment) (e : Tree) → KeepsLines (evaluates texts environment e)
    expression_lines environment (number i) k h = h (value.Int i)
    expression_lines environment (literal t) k h = h (value.Text t.text)
    expression_lines environment (constant w) k h = h (constant_value w)
    expression_lines environment (variable x) k h = get_lines (named (variable_of environment x)) k h
    expression_lines environment (group e) k h = expression_lines environment e k h
    expression_lines environment (object props comma) k h =
        asks_lines call.New _ (λ r. props_lines environment (made_in r) props _ (h (made_in r)))
    expression_lines environment (cas o key old new) k h =
        expression_lines environment o _ (λ o. expression_lines environment key _ (λ key. expression_lines environment old _ (λ old. expression_lines environment new _ (λ new.
        on_lines o key _ (λ o p. asks_lines (call.Cas o p old new) _ (λ r. h (found_in r)))))))
    expression_lines environment (member e accesses) k h =
        expression_lines environment e _ (λ v. accesses_lines environment (plain v) accesses _ (λ r. get_lines r k h))
    expression_lines environment (unary operator e) k h = expression_lines environment e _ (λ v. fault_lines (apply_unary texts operator v) k h)
    expression_lines environment (delete e) k h = target_lines environment e _ (λ r. delete_lines r _ (h (value.Bool true)))
    expression_lines environment (chain level e links) k h = expression_lines environment e _ (λ v. links_lines environment v links k h)
    expression_lines environment (choose c a b) k h =
        expression_lines environment c _ (λ v. if_lines (is_falsy texts v) _ _ (expression_lines environment b k h) (expression_lines environment a k h))
    expression_lines environment (assign operator target e) k h =
        target_lines environment target _ (λ r. assign_lines operator r (evaluates texts environment e) (expression_lines environment e) k h)

    target_lines : (environment : Environment) (e : Tree) → KeepsLines (refers texts environment e)
    target_lines environment (variable x) k h = h (named (variable_of environment x))
    target_lines environment (member e accesses) k h = expression_lines environment e _ (λ v. accesses_lines environment (plain v) accesses k h)
    target_lines environment (number i) k h = h (plain value.Undefined)
    target_lines environment (literal t) k h = h (plain value.Undefined)
    target_lines environment (constant w) k h = h (plain value.Undefined)
    target_lines environment (group e) k h = h (plain value.Undefined)
    target_lines environment (object props comma) k h = h (plain value.Undefined)
    target_lines environment (cas o key old new) k h = h (plain value.Undefined)
    target_lines environment (unary operator e) k h = h (plain value.Undefined)
    target_lines environment (delete e) k h = h (plain value.Undefined)
    target_lines environment (chain level e links) k h = h (plain value.Undefined)
    target_lines environment (choose c a b) k h = h (plain value.Undefined)
    target_lines environment (assign operator target e) k h = h (plain value.Undefined)

    accesses_lines : (environment : Environment) (r : Reference) (accesses : Accesses) → KeepsLines (reaches texts environment r accesses)
    accesses_lines environment r no_accesses k h = h r
    accesses_lines environment r (field name more) k h =
        get_lines r _ (λ base. accesses_lines environment (property base (name_value texts name)) more k h)
    accesses_lines environment r (index e more) k h =
        get_lines r _ (λ base. expression_lines environment e _ (λ key. accesses_lines environment (property base key) more k h))

    props_lines : (environment : Environment) (o : Value) (props : Props) → KeepsLinesOne (fills texts environment o props)
    props_lines environment o no_props k h = h
    props_lines environment o (prop key e more) k h =
        expression_lines environment e _ (λ v. put_lines (property o (prop_value texts key)) v _ (props_lines environment o more k h))

    links_lines : (environment : Environment) (x : Value) (links : Links) → KeepsLines (operates_each texts environment x links)
    links_lines environment x no_links k h = h x
    links_lines environment x (link operator e more) k h =
        operator_lines operator x (evaluates texts environment e) (expression_lines environment e) _ (λ v. links_lines environment v more k h)

  each_lines : (environment : Environment) (es : List Tree) → KeepsLines (evaluates_each texts environment es)
  each_lines environment [] k h = h []
  each_lines environment (e ∷ more) k h = expression_lines environment e _ (λ v. each_lines environment more _ (λ values. h (v ∷ values)))

  -- ---- statements

  or_lines : (other : Value) (environment : Environment) (e : Option Tree) → KeepsLines (evaluates_or texts other environment e)
  or_lines other environment None k h = h other
  or_lines other environment (Some e) k h = expression_lines environment e k h

  steps_lines : (environment : Environment) (e : Option Tree) → KeepsLinesOne (steps texts environment e)
  steps_lines environment e k h = or_lines value.Undefined environment e _ (λ v. h)

  binds_lines : (environment : Environment) (bindings : List Binding) → KeepsLinesOne (binds texts environment bindings)
  binds_lines environment [] k h = h
  binds_lines environment (b ∷ bindings) k h =
      or_lines value.Undefined environment b.1 _ (λ v. put_lines (named (variable_of environment b.0)) v _ (binds_lines environment bindings k h))

  starts_lines : (environment : Environment) (head : Head) → KeepsLinesOne (starts texts environment head)
  starts_lines environment (declares bindings) k h = binds_lines environment bindings k h
  starts_lines environment (begins e) k h = steps_lines environment e k h

  repeats_lines : (most : ℕ) (test : Giving Value) (body : Next → Next) → KeepsLines test → KeepsLinesOne body → KeepsLinesOne (repeats texts most test body)
  repeats_lines zero test body t b k h = ends_lines outcome.TurnsSpent
  repeats_lines (suc most) test body t b k h =
      let again = repeats_lines most test body t b k h in
      record { by = λ s l. turn_lines s.turns _ (t _ (λ v. if_lines (is_falsy texts v) _ _ h (b _ again))) s l }

  loops_lines : (test : Giving Value) (body : Next → Next) → KeepsLines test → KeepsLinesOne body → KeepsLinesOne (loops texts test body)
  loops_lines test body t b k h = record { by = λ s l. (repeats_lines s.turns test body t b k h).by s l }

  -- what has three ways to go on keeps it
  abbrev KeepsLinesThree : (Next → Next → Next → Next) → Type 0
  KeepsLinesThree f = (k b c : Next) → Prints k → Prints b → Prints c → Prints (f k b c)

  for_lines : (environment : Environment) (head : Head) (c step : Option Tree) (body : Environment → Next → Next → Next → Next)
      → KeepsLinesThree (body environment) → KeepsLinesOne (loops_for texts environment head c step body)
  for_lines environment head c step body keeps k h =
      starts_lines environment head _ (loops_lines (evaluates_or texts (value.Bool true) environment c)
      (λ again. body environment (steps texts environment step again) k (steps texts environment step again))
      (or_lines (value.Bool true) environment c)
      (λ again p. keeps _ _ _ (steps_lines environment step again p) h (steps_lines environment step again p)) k h)

  module _ (none : AreOneLine texts) where
    mutual
      statement_lines : (environment : Environment) (statement : Statement) → KeepsLinesThree (executes texts environment statement)
      statement_lines environment empty k b c hk hb hc = hk
      statement_lines environment (block items) k b c hk hb hc = items_lines (declared_in items ++ environment) items _ _ _ hk hb hc
      statement_lines environment (when e a) k b c hk hb hc =
          expression_lines environment e _ (λ v. if_lines (is_falsy texts v) _ _ hk (statement_lines environment a _ _ _ hk hb hc))
      statement_lines environment (either e a other) k b c hk hb hc =
          expression_lines environment e _ (λ v. if_lines (is_falsy texts v) _ _ (statement_lines environment other _ _ _ hk hb hc) (statement_lines environment a _ _ _ hk hb hc))
      statement_lines environment (while e body) k b c hk hb hc =
          loops_lines (evaluates texts environment e) (λ again. executes texts environment body again k again) (expression_lines environment e)
          (λ again p. statement_lines environment body _ _ _ p hk p) k hk
      statement_lines environment (for head e step body) k b c hk hb hc =
          for_lines (declared_by head ++ environment) head e step (λ inner. executes texts inner body) (statement_lines (declared_by head ++ environment) body) k hk
      statement_lines environment break k b c hk hb hc = hb
      statement_lines environment continue k b c hk hb hc = hc
      statement_lines environment (print es) k b c hk hb hc =
          each_lines environment es _ (λ values. print_lines (line_of texts values) (line_of_is_one_line texts none values) _ hk)
      statement_lines environment (print_names e) k b c hk hb hc =
          expression_lines environment e _ (λ v. fault_lines (object_in v) _ (λ o. asks_lines (call.Names o) _ (λ r.
          print_lines (line_of_names texts (names_in r)) (line_of_names_is_one_line texts none (names_in r)) _ hk)))
      statement_lines environment (evaluate e) k b c hk hb hc = expression_lines environment e _ (λ v. hk)

      items_lines : (environment : Environment) (items : Items) → KeepsLinesThree (executes_all texts environment items)
      items_lines environment no_items k b c hk hb hc = hk
      items_lines environment (declare bindings items) k b c hk hb hc = binds_lines environment bindings _ (items_lines environment items _ _ _ hk hb hc)
      items_lines environment (perform statement items) k b c hk hb hc =
          statement_lines environment statement _ _ _ (items_lines environment items _ _ _ hk hb hc) hb hc

-- ---- runs

follow_lines : (i : Interaction) (replies : List Reply) → PrintsLines i → IsLines (follow i replies).lines
follow_lines (Ends o lines) replies h = h
follow_lines (Takes rest) replies h = follow_lines rest replies h
follow_lines (Asks c lines answered) [] h = h.0
follow_lines (Asks c lines answered) (r ∷ replies) h = follow_lines (answered r) replies (h.1 r)

module _ (script : Items) (texts : Table) (none : AreOneLine texts) (turns : ℕ) where
  -- a script with a table without line feeds prints lines, whatever is replied
  pub interaction_lines : PrintsLines (interaction_of script texts turns)
  interaction_lines =
      (items_lines texts none (declared_in script) script (ends outcome.Done) (ends outcome.Done) (ends outcome.Done)
      (ends_lines outcome.Done) (ends_lines outcome.Done) (ends_lines outcome.Done)).by (state_at_start turns) no_lines

  pub does_lines : (replies : List Reply) → IsLines (does script texts turns replies).lines
  does_lines replies = follow_lines (interaction_of script texts turns) replies interaction_lines

-- what a head before each line makes of them
pub headed_bytes : (head bytes : List ℕ) (h : IsLines bytes) → headed head true bytes ≡ flat_map (λ line. head ++ line ++ 10 ∷ []) h.lines
headed_bytes head bytes h = ap (headed head true) h.bytes_are ∙ headed_lines head h.lines h.one_line

-- so the part of a script in the output has each line after its head, and then the line of its outcome
pub run_bytes_by_lines : (t : ℕ) (bytes word : List ℕ) (h : IsLines bytes)
    → run_bytes t bytes word ≡ flat_map (λ line. decimal t ++ codes "| " ++ line ++ 10 ∷ []) h.lines ++ decimal t ++ codes "= " ++ word ++ codes "\n"
run_bytes_by_lines t bytes word h =
    ap (λ x. x ++ decimal t ++ codes "= " ++ word ++ codes "\n") (headed_bytes (decimal t ++ codes "| ") bytes h)

-- a script with the table of an accepted set prints lines
pub set_lines : (bytes : List ℕ) (scripts : List Items) (texts : Table) → IsAcceptedSet bytes scripts texts
    → (script : Items) (turns : ℕ) (replies : List Reply) → IsLines (does script texts turns replies).lines
set_lines bytes scripts texts h script turns replies = does_lines script texts (no_line_feeds bytes scripts texts h) turns replies

-- so the part of script t in the output is its lines, each after its head, and then its outcome
pub script_bytes_by_lines : (bytes : List ℕ) (scripts : List Items) (texts : Table) (h : IsAcceptedSet bytes scripts texts) (turns : ℕ) (w : History) (t : ℕ) (script : Items)
    → script_bytes texts turns w (t, script)
    ≡ flat_map (λ line. decimal t ++ codes "| " ++ line ++ 10 ∷ []) (set_lines bytes scripts texts h script turns (replies_of t w)).lines
    ++ decimal t ++ codes "= " ++ stand_bytes (run_in w t script texts turns).stand ++ codes "\n"
script_bytes_by_lines bytes scripts texts h turns w t script =
    run_bytes_by_lines t (run_in w t script texts turns).lines (stand_bytes (run_in w t script texts turns).stand)
    (set_lines bytes scripts texts h script turns (replies_of t w))
