-- Where two ways to go on agree at some numbers of turns, so does what expressions do before them; and what statements do, where they agree up to a number.
use Rattle.std.proofs.Common.{◌≡◌, ◌<◌, sym, ◌∙◌, ℕ, zero, suc, ◌≤◌, Bool, true, false, List, [], ◌∷◌, refl, ap, arith, if◌then◌else◌}
use Rattle.std.specs.Prelude.{◌++◌, ◌+◌, nat_le, length, Option, Some, None, Result, Ok, Err}
use mathlib.Core.Path.{fun_ext}
use Rattle.jo_value.specs.declared.value.Key.{Key}
use Rattle.jo_value.specs.declared.value.ObjId.{ObjId}
use Rattle.jo_value.specs.declared.value.Value.{Value}
use Rattle.jo_value.specs.declared.value.Value.TheVariants as value
use Rattle.jo_value.specs.Texts.{Table}
use Rattle.jo_parse_tree.specs.declared.operator.AssignOperator.{AssignOperator}
use Rattle.jo_parse_tree.specs.declared.operator.AssignOperator.TheVariants as assign_op
use Rattle.jo_parse_tree.specs.declared.operator.BinaryOperator.{BinaryOperator}
use Rattle.jo_parse_tree.specs.declared.operator.BinaryOperator.TheVariants as binary
use Rattle.jo_parse_tree.specs.Trees.{Tree, number, literal, constant, variable, group, object, cas, member, unary, delete, chain, choose, assign, Props, no_props, prop, Accesses, no_accesses, field, index, Links, no_links, link, Binding, Head, declares, begins, Statement, empty, block, when, either, while, for, break, continue, print, print_names, evaluate, Items, no_items, declare, perform}
use Rattle.jo_model.specs.declared.call.Call.{Call}
use Rattle.jo_model.specs.declared.call.Call.TheVariants as call
use Rattle.jo_model.specs.declared.call.Outcome.{Outcome}
use Rattle.jo_model.specs.declared.call.Outcome.TheVariants as outcome
use Rattle.jo_model.specs.declared.call.Reply.{Reply}
use Rattle.jo_model.specs.declared.call.Reply.TheVariants as reply
use Rattle.jo_model.specs.Printed.{line_of}
use Rattle.jo_meaning.specs.Runs.{Interaction, Ends, Asks, Takes}
use Rattle.jo_meaning.specs.State.{State, Next, Environment, ends, unless_fault, unless_refused, asks, made_in, found_in, flag_in, names_in, take_turn, variable_of, value_at, with_value_at}
use Rattle.jo_meaning.specs.Values.{is_falsy, apply, apply_unary, object_in}
use Rattle.jo_meaning.specs.Keys.{key_in, name_value, prop_value}
use Rattle.jo_value.specs.declared.limits.TheConstants.{MOST_LINE_BYTES}
use Rattle.jo_meaning.specs.Printed.{line_of_names, prints}
use Rattle.jo_meaning.specs.Expressions.{Giving, constant_value, Reference, plain, named, property, on_property, get_value, put_value, deletes, adjusts, assigns, operates, evaluates, refers, reaches, fills, operates_each, evaluates_each}
use Rattle.jo_parse_tree.specs.Blocks.{declared_in, declared_by}
use Rattle.jo_meaning.specs.Statements.{evaluates_or, steps, binds, starts, repeats, loops, loops_for, executes, executes_all}

-- two ways to go on agree where the number of turns that are left is one of these
pub record Agree (P : ℕ → Type 0) (k k' : Next) : Type 0 where
  pub by : (s : State) → P s.turns → k s ≡ k' s

pub same : (P : ℕ → Type 0) (k : Next) → Agree P k k
same P k = record { by = λ s le. refl }

-- at most n turns
abbrev pub AtMost : ℕ → ℕ → Type 0
AtMost n m = m ≤ n

-- what gives a value keeps it
abbrev pub Keeps : {A : Type 0} → Giving A → Type 1
Keeps {A} give = (P : ℕ → Type 0) (k k' : A → Next) → ((a : A) → Agree P (k a) (k' a)) → Agree P (give k) (give k')

-- so does what has one way to go on
abbrev pub KeepsOne : (Next → Next) → Type 1
KeepsOne f = (P : ℕ → Type 0) (k k' : Next) → Agree P k k' → Agree P (f k) (f k')

pub agree_if : (P : ℕ → Type 0) (b : Bool) (f f' g g' : Next) → Agree P f f' → Agree P g g' → Agree P (if b then f else g) (if b then f' else g')
agree_if P true f f' g g' p q = p
agree_if P false f f' g g' p q = q

pub agree_fault : {A : Type 0} → (r : Result A Outcome) → Keeps (unless_fault r)
agree_fault (Ok a) P k k' h = h a
agree_fault (Err fault) P k k' h = same P (ends fault)

refused : (r : Reply) (k k' : Next) (s : State) → k s ≡ k' s → unless_refused r k s ≡ unless_refused r k' s
refused (reply.Made o) k k' s e = e
refused (reply.Found v) k k' s e = e
refused (reply.Flag b) k k' s e = e
refused (reply.Names names) k k' s e = e
refused reply.Done k k' s e = e
refused reply.TooManyNames k k' s e = refl
refused reply.ObjectsSpent k k' s e = refl
refused (reply.Spent spent) k k' s e = refl

pub agree_asks : (c : Call) → Keeps (asks c)
agree_asks c P k k' h = record { by = λ s le. ap (Asks c s.lines) (fun_ext (λ r. refused r (k r) (k' r) s ((h r).by s le))) }

pub agree_line : (line : List ℕ) → KeepsOne (prints line)
agree_line line P k k' h = record {
  by = λ s le. agree_room (nat_le (length s.lines + length line + 1) MOST_LINE_BYTES) s (h.by (record s { lines = s.lines ++ line ++ 10 ∷ [] }) le);
} where
  agree_room : (b : Bool) (s : State) {x y : Interaction} → x ≡ y → (if b then x else ends outcome.OutputFull s) ≡ (if b then y else ends outcome.OutputFull s)
  agree_room true s e = e
  agree_room false s e = refl

-- ---- expressions

module _ (texts : Table) where
  pub agree_on : (base key : Value) (P : ℕ → Type 0) (k k' : ObjId → Key → Next) → ((o : ObjId) (key : Key) → Agree P (k o key) (k' o key))
      → Agree P (on_property texts base key k) (on_property texts base key k')
  agree_on base key P k k' h = agree_fault (object_in base) P _ _ (λ o. agree_fault (key_in texts key) P _ _ (h o))

  pub agree_get : (r : Reference) → Keeps (get_value texts r)
  agree_get (plain v) P k k' h = h v
  agree_get (named x) P k k' h = record { by = λ s le. (h (value_at x s)).by s le }
  agree_get (property base key) P k k' h = agree_on base key P _ _ (λ o p. agree_asks (call.Get o p) P _ _ (λ r. h (found_in r)))

  pub agree_put : (r : Reference) (new : Value) → KeepsOne (put_value texts r new)
  agree_put (plain v) new P k k' h = h
  agree_put (named None) new P k k' h = h
  agree_put (named (Some x)) new P k k' h = record { by = λ s le. h.by (with_value_at (Some x) new s) le }
  agree_put (property base key) new P k k' h = agree_on base key P _ _ (λ o p. agree_asks (call.Put o p new) P _ _ (λ r. h))

  pub agree_delete : (r : Reference) → KeepsOne (deletes texts r)
  agree_delete (plain v) P k k' h = h
  agree_delete (named x) P k k' h = h
  agree_delete (property base key) P k k' h = agree_on base key P _ _ (λ o p. agree_asks (call.Delete o p) P _ _ (λ r. h))

  pub agree_operator : (operator : BinaryOperator) (x : Value) (right : Giving Value) → Keeps right → Keeps (operates texts operator x right)
  agree_operator binary.Or x right give P k k' h = agree_if P (is_falsy texts x) _ _ _ _ (give P k k' h) (h x)
  agree_operator binary.And x right give P k k' h = agree_if P (is_falsy texts x) _ _ _ _ (h x) (give P k k' h)
  agree_operator binary.In x right give P k k' h = give P _ _ (λ y. agree_on y x P _ _ (λ o p. agree_asks (call.Has o p) P _ _ (λ r. h (flag_in r))))
  agree_operator binary.Same x right give P k k' h = give P _ _ (λ y. agree_fault (apply binary.Same x y) P k k' h)
  agree_operator binary.NotSame x right give P k k' h = give P _ _ (λ y. agree_fault (apply binary.NotSame x y) P k k' h)
  agree_operator binary.Less x right give P k k' h = give P _ _ (λ y. agree_fault (apply binary.Less x y) P k k' h)
  agree_operator binary.Greater x right give P k k' h = give P _ _ (λ y. agree_fault (apply binary.Greater x y) P k k' h)
  agree_operator binary.LessEqual x right give P k k' h = give P _ _ (λ y. agree_fault (apply binary.LessEqual x y) P k k' h)
  agree_operator binary.GreaterEqual x right give P k k' h = give P _ _ (λ y. agree_fault (apply binary.GreaterEqual x y) P k k' h)
  agree_operator binary.Plus x right give P k k' h = give P _ _ (λ y. agree_fault (apply binary.Plus x y) P k k' h)
  agree_operator binary.Minus x right give P k k' h = give P _ _ (λ y. agree_fault (apply binary.Minus x y) P k k' h)
  agree_operator binary.Times x right give P k k' h = give P _ _ (λ y. agree_fault (apply binary.Times x y) P k k' h)
  agree_operator binary.Remainder x right give P k k' h = give P _ _ (λ y. agree_fault (apply binary.Remainder x y) P k k' h)

  agree_adjust : (operator : BinaryOperator) (r : Reference) (right : Giving Value) → Keeps right → Keeps (adjusts texts operator r right)
  agree_adjust operator r right give P k k' h =
      agree_get r P _ _ (λ old. agree_operator operator old right give P _ _ (λ new. agree_put r new P _ _ (h new)))

  pub agree_assign : (operator : AssignOperator) (r : Reference) (right : Giving Value) → Keeps right → Keeps (assigns texts operator r right)
  agree_assign assign_op.Set r right give P k k' h = give P _ _ (λ v. agree_put r v P _ _ (h v))
  agree_assign assign_op.Add r right give P k k' h = agree_adjust binary.Plus r right give P k k' h
  agree_assign assign_op.Subtract r right give P k k' h = agree_adjust binary.Minus r right give P k k' h

  mutual
    pub agree_expression : (environment : Environment) (e : Tree) → Keeps (evaluates texts environment e)
    agree_expression environment (number i) P k k' h = h (value.Int i)
    agree_expression environment (literal t) P k k' h = h (value.Text t.text)
    agree_expression environment (constant w) P k k' h = h (constant_value w)
    agree_expression environment (variable x) P k k' h = agree_get (named (variable_of environment x)) P k k' h
    agree_expression environment (group e) P k k' h = agree_expression environment e P k k' h
    agree_expression environment (object props comma) P k k' h =
        agree_asks call.New P _ _ (λ r. agree_props environment (made_in r) props P _ _ (h (made_in r)))
    agree_expression environment (cas o key old new) P k k' h =
        agree_expression environment o P _ _ (λ o. agree_expression environment key P _ _ (λ key. agree_expression environment old P _ _ (λ old. agree_expression environment new P _ _ (λ new.
        agree_on o key P _ _ (λ o p. agree_asks (call.Cas o p old new) P _ _ (λ r. h (found_in r)))))))
    agree_expression environment (member e accesses) P k k' h =
        agree_expression environment e P _ _ (λ v. agree_accesses environment (plain v) accesses P _ _ (λ r. agree_get r P k k' h))
    agree_expression environment (unary operator e) P k k' h = agree_expression environment e P _ _ (λ v. agree_fault (apply_unary texts operator v) P k k' h)
    agree_expression environment (delete e) P k k' h = agree_target environment e P _ _ (λ r. agree_delete r P _ _ (h (value.Bool true)))
    agree_expression environment (chain level e links) P k k' h = agree_expression environment e P _ _ (λ v. agree_links environment v links P k k' h)
    agree_expression environment (choose c a b) P k k' h =
        agree_expression environment c P _ _ (λ v. agree_if P (is_falsy texts v) _ _ _ _ (agree_expression environment b P k k' h) (agree_expression environment a P k k' h))
    agree_expression environment (assign operator target e) P k k' h =
        agree_target environment target P _ _ (λ r. agree_assign operator r (evaluates texts environment e) (agree_expression environment e) P k k' h)

    agree_target : (environment : Environment) (e : Tree) → Keeps (refers texts environment e)
    agree_target environment (variable x) P k k' h = h (named (variable_of environment x))
    agree_target environment (member e accesses) P k k' h = agree_expression environment e P _ _ (λ v. agree_accesses environment (plain v) accesses P k k' h)
    agree_target environment (number i) P k k' h = h (plain value.Undefined)
    agree_target environment (literal t) P k k' h = h (plain value.Undefined)
    agree_target environment (constant w) P k k' h = h (plain value.Undefined)
    agree_target environment (group e) P k k' h = h (plain value.Undefined)
    agree_target environment (object props comma) P k k' h = h (plain value.Undefined)
    agree_target environment (cas o key old new) P k k' h = h (plain value.Undefined)
    agree_target environment (unary operator e) P k k' h = h (plain value.Undefined)
    agree_target environment (delete e) P k k' h = h (plain value.Undefined)
    agree_target environment (chain level e links) P k k' h = h (plain value.Undefined)
    agree_target environment (choose c a b) P k k' h = h (plain value.Undefined)
    agree_target environment (assign operator target e) P k k' h = h (plain value.Undefined)

    agree_accesses : (environment : Environment) (r : Reference) (accesses : Accesses) → Keeps (reaches texts environment r accesses)
    agree_accesses environment r no_accesses P k k' h = h r
    agree_accesses environment r (field name more) P k k' h =
        agree_get r P _ _ (λ base. agree_accesses environment (property base (name_value texts name)) more P k k' h)
    agree_accesses environment r (index e more) P k k' h =
        agree_get r P _ _ (λ base. agree_expression environment e P _ _ (λ key. agree_accesses environment (property base key) more P k k' h))

    agree_props : (environment : Environment) (o : Value) (props : Props) → KeepsOne (fills texts environment o props)
    agree_props environment o no_props P k k' h = h
    agree_props environment o (prop key e more) P k k' h =
        agree_expression environment e P _ _ (λ v. agree_put (property o (prop_value texts key)) v P _ _ (agree_props environment o more P k k' h))

    agree_links : (environment : Environment) (x : Value) (links : Links) → Keeps (operates_each texts environment x links)
    agree_links environment x no_links P k k' h = h x
    agree_links environment x (link operator e more) P k k' h =
        agree_operator operator x (evaluates texts environment e) (agree_expression environment e) P _ _ (λ v. agree_links environment v more P k k' h)

  pub agree_each : (environment : Environment) (es : List Tree) → Keeps (evaluates_each texts environment es)
  agree_each environment [] P k k' h = h []
  agree_each environment (e ∷ more) P k k' h = agree_expression environment e P _ _ (λ v. agree_each environment more P _ _ (λ values. h (v ∷ values)))

  -- ---- statements

  pub agree_or : (other : Value) (environment : Environment) (e : Option Tree) → Keeps (evaluates_or texts other environment e)
  agree_or other environment None P k k' h = h other
  agree_or other environment (Some e) P k k' h = agree_expression environment e P k k' h

  pub agree_steps : (environment : Environment) (e : Option Tree) → KeepsOne (steps texts environment e)
  agree_steps environment e P k k' h = agree_or value.Undefined environment e P _ _ (λ v. h)

  pub agree_binds : (environment : Environment) (bindings : List Binding) → KeepsOne (binds texts environment bindings)
  agree_binds environment [] P k k' h = h
  agree_binds environment (b ∷ bindings) P k k' h =
      agree_or value.Undefined environment b.1 P _ _ (λ v. agree_put (named (variable_of environment b.0)) v P _ _ (agree_binds environment bindings P k k' h))

  pub agree_starts : (environment : Environment) (head : Head) → KeepsOne (starts texts environment head)
  agree_starts environment (declares bindings) P k k' h = agree_binds environment bindings P k k' h
  agree_starts environment (begins e) P k k' h = agree_steps environment e P k k' h

  -- what has three ways to go on keeps it where they agree up to n turns
  abbrev pub KeepsThree : (Next → Next → Next → Next) → Type 0
  KeepsThree f =
      (n : ℕ) (k k' b b' c c' : Next) → Agree (AtMost n) k k' → Agree (AtMost n) b b' → Agree (AtMost n) c c' → Agree (AtMost n) (f k b c) (f k' b' c')

  -- a body of a loop, with what comes again and what comes after the loop
  abbrev pub KeepsTwo : (Next → Next → Next) → Type 0
  KeepsTwo f = (n : ℕ) (k k' b b' : Next) → Agree (AtMost n) k k' → Agree (AtMost n) b b' → Agree (AtMost n) (f k b) (f k' b')

  agree_turn : (n m : ℕ) → m ≤ n → (f f' : Next) → Agree (AtMost n) f f' → (s : State) → take_turn m f s ≡ take_turn m f' s
  agree_turn n zero le f f' h s = refl
  agree_turn n (suc m) le f f' h s = ap Takes (h.by (record s { turns = m }) (omega (arith, le)))

  pub agree_repeats : (most : ℕ) (test : Giving Value) (body : Next → Next → Next) → Keeps test → KeepsTwo body → (n : ℕ) (k k' : Next) → Agree (AtMost n) k k'
      → Agree (AtMost n) (repeats texts most test (λ again. body again k) k) (repeats texts most test (λ again. body again k') k')
  agree_repeats zero test body t b n k k' h = same (AtMost n) (ends outcome.TurnsSpent)
  agree_repeats (suc most) test body t b n k k' h =
      let again = agree_repeats most test body t b n k k' h in
      record { by = λ s le. agree_turn n s.turns le _ _ (t (AtMost n) _ _ (λ v. agree_if (AtMost n) (is_falsy texts v) _ _ _ _ h (b n _ _ _ _ again h))) s }

  agree_loops : (test : Giving Value) (body : Next → Next → Next) → Keeps test → KeepsTwo body → (n : ℕ) (k k' : Next) → Agree (AtMost n) k k'
      → Agree (AtMost n) (loops texts test (λ again. body again k) k) (loops texts test (λ again. body again k') k')
  agree_loops test body t b n k k' h = record { by = λ s le. (agree_repeats s.turns test body t b n k k' h).by s le }

  -- each test costs a turn, which is paid first, and what comes again is the loop itself
  module _ (test : Giving Value) (body : Next → Next → Next) (t : Keeps test) (b : KeepsTwo body) (after : Next) where
    abbrev up_to : ℕ → Next
    up_to most = repeats texts most test (λ again. body again after) after

    abbrev one_test : Next → Next
    one_test again = test (λ v. if is_falsy texts v then after else body again after)

    agree_one : (n : ℕ) (again again' : Next) → ((s : State) → s.turns < n → again s ≡ again' s) → (s : State)
        → take_turn n (one_test again) s ≡ take_turn n (one_test again') s
    agree_one zero again again' h s = refl
    agree_one (suc n) again again' h s =
        ap Takes ((t (AtMost n) _ _ (λ v. agree_if (AtMost n) (is_falsy texts v) _ _ _ _ (same (AtMost n) after)
        (b n _ _ _ _ (record { by = λ s le. h s (omega (arith, le)) }) (same (AtMost n) after)))).by (record s { turns = n }) (omega arith))

    none_left : (n : ℕ) (f : Next) (s : State) → n ≤ 0 → take_turn n f s ≡ Ends outcome.TurnsSpent s.lines
    none_left zero f s le = refl
    none_left (suc n) f s le = absurd (omega (arith, le))

    bounds : (m k : ℕ) (s : State) → s.turns ≤ m → s.turns ≤ k → up_to m s ≡ up_to k s
    bounds zero zero s p q = refl
    bounds zero (suc k) s p q = sym (none_left s.turns (one_test (up_to k)) s p)
    bounds (suc m) zero s p q = none_left s.turns (one_test (up_to m)) s q
    bounds (suc m) (suc k) s p q =
        agree_one s.turns (up_to m) (up_to k) (λ s' lt. bounds m k s' (omega (arith, lt, p)) (omega (arith, lt, q))) s

    abbrev whole : Next
    whole = loops texts test (λ again. body again after) after

    pub turn_by_turn : (s : State) → whole s ≡ take_turn s.turns (one_test whole) s
    turn_by_turn s =
        bounds s.turns (suc s.turns) s (omega arith) (omega arith)
        ∙ agree_one s.turns (up_to s.turns) whole (λ s' lt. bounds s.turns s'.turns s' (omega (arith, lt)) (omega arith)) s

  agree_for : (environment : Environment) (head : Head) (c step : Option Tree) (body : Environment → Next → Next → Next → Next) → KeepsThree (body environment)
      → (n : ℕ) (k k' : Next) → Agree (AtMost n) k k'
      → Agree (AtMost n) (loops_for texts environment head c step body k) (loops_for texts environment head c step body k')
  agree_for environment head c step body keeps n k k' h =
      agree_starts environment head (AtMost n) _ _ (agree_loops (evaluates_or texts (value.Bool true) environment c)
      (λ again after. body environment (steps texts environment step again) after (steps texts environment step again))
      (agree_or (value.Bool true) environment c)
      (λ n a a' b b' ha hb. keeps n _ _ _ _ _ _ (agree_steps environment step (AtMost n) a a' ha) hb (agree_steps environment step (AtMost n) a a' ha)) n k k' h)

  mutual
    pub agree_statement : (environment : Environment) (statement : Statement) → KeepsThree (executes texts environment statement)
    agree_statement environment empty n k k' b b' c c' hk hb hc = hk
    agree_statement environment (block items) n k k' b b' c c' hk hb hc = agree_items (declared_in items ++ environment) items n _ _ _ _ _ _ hk hb hc
    agree_statement environment (when e a) n k k' b b' c c' hk hb hc =
        agree_expression environment e (AtMost n) _ _ (λ v. agree_if (AtMost n) (is_falsy texts v) _ _ _ _ hk (agree_statement environment a n _ _ _ _ _ _ hk hb hc))
    agree_statement environment (either e a other) n k k' b b' c c' hk hb hc =
        agree_expression environment e (AtMost n) _ _ (λ v. agree_if (AtMost n) (is_falsy texts v) _ _ _ _ (agree_statement environment other n _ _ _ _ _ _ hk hb hc) (agree_statement environment a n _ _ _ _ _ _ hk hb hc))
    agree_statement environment (while e body) n k k' b b' c c' hk hb hc =
        agree_loops (evaluates texts environment e) (λ again after. executes texts environment body again after again) (agree_expression environment e)
        (λ n a a' b b' ha hb. agree_statement environment body n _ _ _ _ _ _ ha hb ha) n k k' hk
    agree_statement environment (for head e step body) n k k' b b' c c' hk hb hc =
        agree_for (declared_by head ++ environment) head e step (λ inner. executes texts inner body) (agree_statement (declared_by head ++ environment) body) n k k' hk
    agree_statement environment break n k k' b b' c c' hk hb hc = hb
    agree_statement environment continue n k k' b b' c c' hk hb hc = hc
    agree_statement environment (print es) n k k' b b' c c' hk hb hc = agree_each environment es (AtMost n) _ _ (λ values. agree_line (line_of texts values) (AtMost n) _ _ hk)
    agree_statement environment (print_names e) n k k' b b' c c' hk hb hc =
        agree_expression environment e (AtMost n) _ _ (λ v. agree_fault (object_in v) (AtMost n) _ _ (λ o. agree_asks (call.Names o) (AtMost n) _ _ (λ r. agree_line (line_of_names texts (names_in r)) (AtMost n) _ _ hk)))
    agree_statement environment (evaluate e) n k k' b b' c c' hk hb hc = agree_expression environment e (AtMost n) _ _ (λ v. hk)

    pub agree_items : (environment : Environment) (items : Items) → KeepsThree (executes_all texts environment items)
    agree_items environment no_items n k k' b b' c c' hk hb hc = hk
    agree_items environment (declare bindings items) n k k' b b' c c' hk hb hc = agree_binds environment bindings (AtMost n) _ _ (agree_items environment items n _ _ _ _ _ _ hk hb hc)
    agree_items environment (perform statement items) n k k' b b' c c' hk hb hc =
        agree_statement environment statement n _ _ _ _ _ _ (agree_items environment items n _ _ _ _ _ _ hk hb hc) hb hc

  -- a `while`, turn by turn
  pub while_by_turns : (environment : Environment) (e : Tree) (body : Statement) (next broken continued : Next) (s : State)
      → executes texts environment (while e body) next broken continued s
      ≡ take_turn s.turns (evaluates texts environment e (λ v. if is_falsy texts v then next
      else executes texts environment body (executes texts environment (while e body) next broken continued) next (executes texts environment (while e body) next broken continued))) s
  while_by_turns environment e body next broken continued s =
      turn_by_turn (evaluates texts environment e) (λ again after. executes texts environment body again after again) (agree_expression environment e)
      (λ n a a' b b' ha hb. agree_statement environment body n _ _ _ _ _ _ ha hb ha) next s
