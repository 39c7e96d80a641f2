-- What an expression means. Each part is given what comes next with its value.
use Rattle.std.specs.Prelude.{true, false, if◌then◌else◌, ℕ, Option, List, [], ◌∷◌}
use Rattle.jo_value.specs.declared.value.Key.{Key}
use Rattle.jo_value.specs.declared.value.ObjId.{ObjId}
use Rattle.jo_value.specs.declared.value.Value.{Value}
use Rattle.jo_value.specs.declared.value.Value.TheVariants as value
use Rattle.jo_value.specs.Texts.{Table}
use Rattle.jo_parse_tree.specs.declared.keyword.Keyword.{Keyword}
use Rattle.jo_parse_tree.specs.declared.keyword.Keyword.TheVariants as keyword
use Rattle.jo_parse_tree.specs.declared.operator.AssignOperator.{AssignOperator}
use Rattle.jo_parse_tree.specs.declared.operator.AssignOperator.TheVariants as assign_op
use Rattle.jo_parse_tree.specs.declared.operator.BinaryOperator.{BinaryOperator}
use Rattle.jo_parse_tree.specs.declared.operator.BinaryOperator.TheVariants as binary
use Rattle.jo_parse_tree.specs.Trees.{Tree, number, literal, constant, variable, group, object, cas, member, unary, delete, chain, choose, assign, Props, no_props, prop, Accesses, no_accesses, field, index, Links, no_links, link}
use Rattle.jo_model.specs.declared.call.Call.TheVariants as call
use Rattle.jo_model.specs.Heaps.{shared}
use Rattle.jo_meaning.specs.State.{Next, Environment, unless_fault, asks, made_in, found_in, flag_in, variable_of, value_at, with_value_at}
use Rattle.jo_meaning.specs.Values.{is_falsy, apply, apply_unary, object_in}
use Rattle.jo_meaning.specs.Keys.{key_in, name_value, prop_value}

-- what gives a value, or something else: it takes what comes next with it
abbrev pub Giving : Type 0 → Type 0
Giving A = (A → Next) → Next

-- the value of a keyword that is a constant; no accepted script has another keyword as one
abbrev pub constant_value : Keyword → Value
constant_value keyword.Undefined = value.Undefined
constant_value keyword.Null = value.Null
constant_value keyword.True = value.Bool true
constant_value keyword.False = value.Bool false
constant_value keyword.Shared = value.Object shared
constant_value keyword.Break = value.Undefined
constant_value keyword.Cas = value.Undefined
constant_value keyword.Continue = value.Undefined
constant_value keyword.Delete = value.Undefined
constant_value keyword.Else = value.Undefined
constant_value keyword.For = value.Undefined
constant_value keyword.If = value.Undefined
constant_value keyword.In = value.Undefined
constant_value keyword.Let = value.Undefined
constant_value keyword.Print = value.Undefined
constant_value keyword.PrintNames = value.Undefined
constant_value keyword.While = value.Undefined

-- what an expression refers to before its value is read (a Reference Record): a value alone, a variable,
-- or a property by its base and key
pub data Reference : Type 0 where
  plain : (v : Value) → Reference
  named : (variable : Option ℕ) → Reference
  property : (base : Value) (key : Value) → Reference

module _ (texts : Table) where
  -- TypeFault unless the base is an object, and then KeyOutside unless the key is one
  abbrev pub on_property : Value → Value → (ObjId → Key → Next) → Next
  on_property base key next = unless_fault (object_in base) (λ o. unless_fault (key_in texts key) (next o))

  -- the value of what is referred to (GetValue)
  abbrev pub get_value : Reference → Giving Value
  get_value (plain v) next = next v
  get_value (named x) next = λ s. next (value_at x s) s
  get_value (property base key) next = on_property base key (λ o k. asks (call.Get o k) (λ reply. next (found_in reply)))

  -- gives what is referred to a value (PutValue); no accepted script assigns to a value alone
  abbrev pub put_value : Reference → Value → Next → Next
  put_value (plain v) new next = next
  put_value (named x) new next = λ s. next (with_value_at x new s)
  put_value (property base key) new next = on_property base key (λ o k. asks (call.Put o k new) (λ reply. next))

  -- deletes a property; no accepted script deletes anything else
  abbrev pub deletes : Reference → Next → Next
  deletes (property base key) next = on_property base key (λ o k. asks (call.Delete o k) (λ reply. next))
  deletes _ next = next

  -- a binary operator, of which the left operand is evaluated
  abbrev pub operates : BinaryOperator → Value → Giving Value → Giving Value
  operates binary.Or x right next = if is_falsy texts x then right next else next x
  operates binary.And x right next = if is_falsy texts x then next x else right next
  operates binary.In x right next = right (λ y. on_property y x (λ o k. asks (call.Has o k) (λ reply. next (flag_in reply))))
  operates operator x right next = right (λ y. unless_fault (apply operator x y) next)

  -- `+=` and `-=` read the old value first, and then are the binary operator
  abbrev pub adjusts : BinaryOperator → Reference → Giving Value → Giving Value
  adjusts operator r right next = get_value r (λ old. operates operator old right (λ new. put_value r new (next new)))

  -- an assignment, whose value is the one assigned
  abbrev pub assigns : AssignOperator → Reference → Giving Value → Giving Value
  assigns assign_op.Set r right next = right (λ v. put_value r v (next v))
  assigns assign_op.Add r right next = adjusts binary.Plus r right next
  assigns assign_op.Subtract r right next = adjusts binary.Minus r right next

  abbrev mutual
    -- the value of an expression
    pub evaluates : Environment → Tree → Giving Value
    evaluates environment (number i) next = next (value.Int i)
    evaluates environment (literal t) next = next (value.Text t.text)
    evaluates environment (constant w) next = next (constant_value w)
    evaluates environment (variable x) next = get_value (named (variable_of environment x)) next
    evaluates environment (group e) next = evaluates environment e next
    evaluates environment (object props comma) next =
        asks call.New (λ reply. fills environment (made_in reply) props (next (made_in reply)))
    evaluates environment (cas base key expected desired) next =
        evaluates environment base (λ b. evaluates environment key (λ k. evaluates environment expected (λ old. evaluates environment desired (λ new.
        on_property b k (λ object at. asks (call.Cas object at old new) (λ reply. next (found_in reply)))))))
    evaluates environment (member e accesses) next =
        evaluates environment e (λ v. reaches environment (plain v) accesses (λ r. get_value r next))
    evaluates environment (unary operator e) next = evaluates environment e (λ v. unless_fault (apply_unary texts operator v) next)
    evaluates environment (delete e) next = refers environment e (λ r. deletes r (next (value.Bool true)))
    evaluates environment (chain level e links) next = evaluates environment e (λ v. operates_each environment v links next)
    evaluates environment (choose c a b) next =
        evaluates environment c (λ v. if is_falsy texts v then evaluates environment b next else evaluates environment a next)
    evaluates environment (assign operator target e) next =
        refers environment target (λ r. assigns operator r (evaluates environment e) next)

    -- what a target refers to; no accepted script has another one than a variable or a property
    pub refers : Environment → Tree → Giving Reference
    refers environment (variable x) next = next (named (variable_of environment x))
    refers environment (member e accesses) next = evaluates environment e (λ v. reaches environment (plain v) accesses next)
    refers environment _ next = next (plain value.Undefined)

    -- from what is referred to on through the accesses, where each but the last is read
    pub reaches : Environment → Reference → Accesses → Giving Reference
    reaches environment r no_accesses next = next r
    reaches environment r (field name more) next =
        get_value r (λ base. reaches environment (property base (name_value texts name)) more next)
    reaches environment r (index e more) next =
        get_value r (λ base. evaluates environment e (λ key. reaches environment (property base key) more next))

    -- puts each property of a literal on its object
    pub fills : Environment → Value → Props → Next → Next
    fills environment o no_props next = next
    fills environment o (prop key e more) next =
        evaluates environment e (λ v. put_value (property o (prop_value texts key)) v (fills environment o more next))

    -- the operators of a chain, from left to right
    pub operates_each : Environment → Value → Links → Giving Value
    operates_each environment x no_links next = next x
    operates_each environment x (link operator e more) next =
        operates operator x (evaluates environment e) (λ v. operates_each environment v more next)

  -- the values of several expressions, from left to right (ArgumentListEvaluation)
  abbrev pub evaluates_each : Environment → List Tree → Giving (List Value)
  evaluates_each environment [] next = next []
  evaluates_each environment (e ∷ more) next = evaluates environment e (λ v. evaluates_each environment more (λ values. next (v ∷ values)))
