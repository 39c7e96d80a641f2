-- What a statement means. It is given what comes next after it, after a `break` and after a `continue`.
use Rattle.std.specs.Prelude.{true, ℕ, zero, suc, if◌then◌else◌, List, [], ◌∷◌, ◌++◌, Option, Some, None}
use Rattle.jo_value.specs.declared.value.Value.{Value}
use Rattle.jo_value.specs.declared.value.Value.TheVariants as value
use Rattle.jo_value.specs.Texts.{Table}
use Rattle.jo_parse_tree.specs.Blocks.{declared_in, declared_by}
use Rattle.jo_parse_tree.specs.Trees.{Tree, Binding, Head, declares, begins, Statement, empty, block, when, either, while, for, break, continue, print, print_names, evaluate, Items, no_items, declare, perform}
use Rattle.jo_model.specs.declared.call.Call.TheVariants as call
use Rattle.jo_model.specs.declared.call.Outcome.TheVariants.{TurnsSpent}
use Rattle.jo_model.specs.Printed.{line_of}
use Rattle.jo_meaning.specs.State.{Next, Environment, ends, unless_fault, asks, names_in, take_turn, variable_of}
use Rattle.jo_meaning.specs.Values.{is_falsy, object_in}
use Rattle.jo_meaning.specs.Printed.{line_of_names, prints}
use Rattle.jo_meaning.specs.Expressions.{Giving, named, put_value, evaluates, evaluates_each}

module _ (texts : Table) where
  -- the value of an expression, or another value where none is written
  abbrev pub evaluates_or : Value → Environment → Option Tree → Giving Value
  evaluates_or other environment None next = next other
  evaluates_or other environment (Some e) next = evaluates texts environment e next

  -- a `let` that is run sets its variables anew, one after another: to the value written, or to undefined
  abbrev pub binds : Environment → List Binding → Next → Next
  binds environment [] next = next
  binds environment (b ∷ bindings) next =
      evaluates_or value.Undefined environment b.1 (λ v. put_value texts (named (variable_of environment b.0)) v (binds environment bindings next))

  -- an expression that is evaluated for what it does, where one is written
  abbrev pub steps : Environment → Option Tree → Next → Next
  steps environment step next = evaluates_or value.Undefined environment step (λ v. next)

  -- the first part of a `for`
  abbrev pub starts : Environment → Head → Next → Next
  starts environment (declares bindings) next = binds environment bindings next
  starts environment (begins e) next = steps environment e next

  -- ---- loops

  -- A loop with a bound on its tests. Each test costs a turn, which is paid first. A falsy value leaves the loop,
  -- and any other runs the body, which is given what comes again.
  abbrev pub repeats : ℕ → Giving Value → (Next → Next) → Next → Next
  repeats zero test body after = ends TurnsSpent
  repeats (suc most) test body after = λ s.
      take_turn s.turns (test (λ v. if is_falsy texts v then after else body (repeats most test body after))) s

  -- a loop: the turns that are left bound the tests, so that the recursion ends; it ends no loop that has a turn left
  abbrev pub loops : Giving Value → (Next → Next) → Next → Next
  loops test body after s = repeats s.turns test body after s

  -- A `for`, whose head, test, step and body see the names that the head declares. A test that is not written passes,
  -- and the step comes after the body and after each `continue`.
  abbrev pub loops_for : Environment → Head → Option Tree → Option Tree → (Environment → Next → Next → Next → Next) → Next → Next
  loops_for environment head c step body next =
      starts environment head (loops (evaluates_or (value.Bool true) environment c)
      (λ again. body environment (steps environment step again) next (steps environment step again)) next)

  -- ---- statements

  abbrev mutual
    -- what a statement does; the three that come last are what comes next, after a `break` and after a `continue`
    pub executes : Environment → Statement → Next → Next → Next → Next
    executes environment empty next broken continued = next
    executes environment (block items) next broken continued =
        executes_all (declared_in items ++ environment) items next broken continued
    executes environment (when c a) next broken continued =
        evaluates texts environment c (λ v. if is_falsy texts v then next else executes environment a next broken continued)
    executes environment (either c a b) next broken continued =
        evaluates texts environment c (λ v. if is_falsy texts v then executes environment b next broken continued else executes environment a next broken continued)
    executes environment (while c body) next broken continued =
        loops (evaluates texts environment c) (λ again. executes environment body again next again) next
    executes environment (for head c step body) next broken continued =
        loops_for (declared_by head ++ environment) head c step (λ inner. executes inner body) next
    executes environment break next broken continued = broken
    executes environment continue next broken continued = continued
    executes environment (print es) next broken continued =
        evaluates_each texts environment es (λ values. prints (line_of texts values) next)
    executes environment (print_names e) next broken continued =
        evaluates texts environment e (λ v. unless_fault (object_in v) (λ o.
        asks (call.Names o) (λ reply. prints (line_of_names texts (names_in reply)) next)))
    executes environment (evaluate e) next broken continued = evaluates texts environment e (λ v. next)

    -- the items of a block, one after another
    pub executes_all : Environment → Items → Next → Next → Next → Next
    executes_all environment no_items next broken continued = next
    executes_all environment (declare bindings items) next broken continued =
        binds environment bindings (executes_all environment items next broken continued)
    executes_all environment (perform statement items) next broken continued =
        executes environment statement (executes_all environment items next broken continued) broken continued
