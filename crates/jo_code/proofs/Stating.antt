-- What the calls for each kind of statement come to.
use Rattle.std.proofs.Common.{◌≡◌, ℕ, suc, ◌+◌, ◌-◌, List, [], ◌∷◌, length, Option, Some, Result, Ok, Err, refl, sym, ap, ◌∙◌}
use Rattle.std.specs.Prelude.{IfOk, OnOk}
use Rattle.jo_parse_tree.specs.declared.expr.Expr.{Expr}
use Rattle.jo_parse_tree.specs.ScriptViews.{if_tree, trees_list}
use Rattle.jo_parse_tree.specs.Trees.{Tree, Statement, when}
use Rattle.jo_parse_tree.proofs.ScriptShapes.{script_shapes, statement_tree-block}
use Rattle.jo_meaning.specs.State.{Environment}
use Rattle.jo_code.specs.declared.instruction.Instruction.{Instruction}
use Rattle.jo_code.specs.declared.instruction.Instruction.TheVariants.{Go, Again}
use Rattle.jo_code.specs.inner.Code.{gap}
use Rattle.jo_code.specs.inner.Stated.{IsClosed, either_before, skipped_of, test_code}
use Rattle.jo_code.specs.inner.StatementCode.{condition_code, loop_code, statement_code, step_code, turn_code}
use Rattle.jo_code.proofs.Closing.{loop_closed}
use Rattle.jo_code.proofs.ExtendsStatements.{extends_condition, extends_statement, extends_step}

-- as many trees as expressions
pub trees_list-length : (es : List Expr) → length (trees_list es) ≡ length es
trees_list-length [] = refl
trees_list-length (e ∷ es) = ap suc (trees_list-length es)

-- what follows on an `Ok`
pub on_ok : {A E P Q : Type 0} (r : Result A E) → (P → Q) → OnOk r P → OnOk r Q
on_ok (Ok x) f p = f p
on_ok (Err e) f p = p

-- what follows of the value of an `Ok`
pub if_ok : {A E : Type 0} {P Q : A → Type 0} (r : Result A E) → ((x : A) → P x → Q x) → IfOk r P → IfOk r Q
if_ok (Ok x) f p = f x p
if_ok (Err e) f p = p

module _ (environment : Environment) where
  -- a statement and its test
  pub when_put : (inner : Environment) (c d : Tree) (a : Statement) (broken continued rest : ℕ) (code behind new : List Instruction)
      → rest ≡ length code → behind ≡ statement_code environment a broken continued code → inner ≡ environment → d ≡ c
      → new ≡ test_code inner d rest behind → new ≡ statement_code environment (when c a) broken continued code
  when_put inner c d a broken continued rest code behind new rest_is behind_is inner_is d_is new_is =
      new_is ∙ ap (λ n. test_code n d rest behind) inner_is ∙ ap (λ e. test_code environment e rest behind) d_is
      ∙ ap (λ n. test_code environment c n behind) rest_is ∙ ap (test_code environment c (length code)) behind_is

  -- the first of two and its test, before the other one
  pub either_put : (inner : Environment) (c d : Tree) (a : Statement) (broken continued rest far skipped broken' continued' other : ℕ) (code put behind new : List Instruction)
      → other ≡ length code → far ≡ length code - rest → put ≡ Go far ∷ code → skipped ≡ length put - rest → broken' ≡ broken + skipped → continued' ≡ continued + skipped
      → behind ≡ statement_code environment a broken' continued' put → inner ≡ environment → d ≡ c
      → new ≡ test_code inner d other behind → new ≡ either_before environment c a broken continued rest code
  either_put inner c d a broken continued rest far skipped broken' continued' other code put behind new other_is far_is put_is skipped_is broken_is continued_is behind_is inner_is d_is new_is =
      let there : put ≡ skipped_of rest code = put_is ∙ ap (λ n. Go n ∷ code) far_is in
      let n : skipped ≡ length (skipped_of rest code) - rest = skipped_is ∙ ap (λ code. length code - rest) there in
      let whole : behind ≡ statement_code environment a (broken + (length (skipped_of rest code) - rest)) (continued + (length (skipped_of rest code) - rest)) (skipped_of rest code) =
      behind_is ∙ ap (λ b. statement_code environment a b continued' put) (broken_is ∙ ap (λ n. broken + n) n)
      ∙ ap (λ k. statement_code environment a (broken + (length (skipped_of rest code) - rest)) k put) (continued_is ∙ ap (λ n. continued + n) n)
      ∙ ap (statement_code environment a (broken + (length (skipped_of rest code) - rest)) (continued + (length (skipped_of rest code) - rest))) there in
      new_is ∙ ap (λ n. test_code n d other behind) inner_is ∙ ap (λ e. test_code environment e other behind) d_is
      ∙ ap (λ n. test_code environment c n behind) other_is ∙ ap (test_code environment c (length code)) whole

  -- one of two
  pub branch_put : (inner : Environment) (c : Tree) (a b : Statement) (o : Option Statement) (broken continued rest : ℕ) (code other new : List Instruction)
      → rest ≡ length code → other ≡ statement_code environment b broken continued code → inner ≡ environment → o ≡ Some b
      → new ≡ either_before inner c a broken continued rest other → new ≡ statement_code environment (if_tree c a o) broken continued code
  branch_put inner c a b o broken continued rest code other new rest_is other_is inner_is o_is new_is =
      new_is ∙ ap (λ n. either_before n c a broken continued rest other) inner_is
      ∙ ap (λ n. either_before environment c a broken continued n other) rest_is
      ∙ ap (either_before environment c a broken continued (length code)) other_is
      ∙ ap (λ o. statement_code environment (if_tree c a o) broken continued code) (sym o_is)

  -- a loop with a test and a step
  pub round_put : (inner : Environment) (e step : Option Tree) (a : Statement) (rest broken skip : ℕ) (code put stepped behind made new : List Instruction)
      → rest ≡ length code → put ≡ Again 0 ∷ code → stepped ≡ step_code environment step put → broken ≡ length stepped - rest
      → behind ≡ statement_code environment a broken 0 stepped → inner ≡ environment → skip ≡ length behind - rest
      → made ≡ condition_code inner e skip behind → IsClosed rest made new
      → new ≡ loop_code (condition_code environment e) (λ broken. statement_code environment a broken 0) (step_code environment step) code
  round_put inner e step a rest broken skip code put stepped behind made new rest_is put_is stepped_is broken_is behind_is inner_is skip_is made_is closed =
      let there : stepped ≡ step_code environment step (Again 0 ∷ code) = stepped_is ∙ ap (step_code environment step) put_is in
      let far : broken ≡ gap code (step_code environment step (Again 0 ∷ code)) = broken_is ∙ ap (λ n. length stepped - n) rest_is ∙ ap (gap code) there in
      let inside = statement_code environment a (gap code (step_code environment step (Again 0 ∷ code))) 0 (step_code environment step (Again 0 ∷ code)) in
      let whole : behind ≡ inside =
      behind_is ∙ ap (λ n. statement_code environment a n 0 stepped) far ∙ ap (statement_code environment a (gap code (step_code environment step (Again 0 ∷ code))) 0) there in
      let turn : made ≡ turn_code (condition_code environment e) (λ broken. statement_code environment a broken 0) (step_code environment step) 0 code =
      made_is ∙ ap (λ n. condition_code n e skip behind) inner_is
      ∙ ap (λ n. condition_code environment e n behind) (skip_is ∙ ap (λ n. length behind - n) rest_is ∙ ap (gap code) whole)
      ∙ ap (condition_code environment e (gap code inside)) whole in
      loop_closed (condition_code environment e) (λ broken. statement_code environment a broken 0) (step_code environment step)
      (extends_condition environment e) (λ n. extends_statement environment a n 0) (extends_step environment step) code made new rest rest_is turn closed

-- the trees of statements
pub ruleset stating = (script_shapes, statement_tree-block)
