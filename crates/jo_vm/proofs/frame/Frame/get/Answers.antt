use Rattle.std.proofs.Common.{◌≡◌, ap}
use Rattle.std.specs.Prelude.{ℕ, Ok, Err}
use Rattle.std.proofs.Math.Nat.{le-max_left}
use Rattle.jo_meaning.specs.Runs.{Ends}
use Rattle.jo_meaning.specs.State.{Next}
use Rattle.jo_model.specs.declared.call.Call.TheVariants as call
use Rattle.jo_code.specs.declared.instruction.Instruction.TheVariants as instruction
use Rattle.jo_code.specs.Machine.{Place}
use Rattle.jo_vm.specs.declared.frame.Due.TheVariants as due
use Rattle.jo_vm.specs.inner.State.{Asking, Owns, acting, state_of}
use Rattle.jo_vm.proofs.Operands.{on_two}
use Rattle.jo_vm.proofs.frame.Frame.get.Goals as goal

pub returns-in-Ok-clause-acted : goal.returns-in-Ok-clause-acted
returns-in-Ok-clause-acted c =
    let f = c.args.self.now in
    on_two (λ o k g. Owns g.texts.now o k (Ok (c.in-Ok.object, c.in-Ok.key))
    → Asking (instruction.Get c.args.to.now c.args.object.now c.args.key.now) f (call.Get c.in-Ok.object c.in-Ok.key) (due.Found c.args.to.now) g)
    f c.value-key.new.self c.value-object.new.self c.args.object.now c.args.key.now
    c.value-key.ensures.value c.value-key.ensures.rest c.value-object.ensures.value c.value-object.ensures.rest
    (λ owns. record { asked = λ ahead back. ap (λ n. n (state_of f)) (owns _); reach = le-max_left _ _ })
    c.in-Ok.ensures

pub returns-in-Err-clause-acted : goal.returns-in-Err-clause-acted
returns-in-Err-clause-acted c =
    let f = c.args.self.now in
    on_two (λ o k g. Owns g.texts.now o k (Err c.in-Err.fault) → (ahead : ℕ → Place) (back : ℕ → Next)
    → acting (instruction.Get c.args.to.now c.args.object.now c.args.key.now) ahead back f ≡ Ends c.in-Err.fault g.lines)
    f c.value-key.new.self c.value-object.new.self c.args.object.now c.args.key.now
    c.value-key.ensures.value c.value-key.ensures.rest c.value-object.ensures.value c.value-object.ensures.rest
    (λ owns ahead back. ap (λ n. n (state_of f)) (owns _))
    c.in-Err.ensures
