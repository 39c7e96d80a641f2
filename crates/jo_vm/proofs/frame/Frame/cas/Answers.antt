use Rattle.std.proofs.Common.{◌≡◌, ap, arith}
use Rattle.std.specs.Prelude.{ℕ, Ok, Err}
use Rattle.jo_code.specs.declared.instruction.Destination.TheVariants as destination
use Rattle.jo_meaning.specs.Runs.{Ends}
use Rattle.jo_meaning.specs.State.{Next}
use Rattle.jo_model.specs.declared.call.Call.TheVariants as call
use Rattle.jo_code.specs.declared.instruction.Instruction.TheVariants as instruction
use Rattle.jo_code.specs.Machine.{Place}
use Rattle.jo_vm.specs.declared.frame.Due.TheVariants as due
use Rattle.jo_vm.specs.inner.State.{Asking, Owns, acting, state_of}
use Rattle.jo_vm.proofs.Operands.{on_cas}
use Rattle.jo_vm.proofs.frame.Frame.cas.Goals as goal

pub returns-in-Ok-clause-acted : goal.returns-in-Ok-clause-acted
returns-in-Ok-clause-acted c =
    let f = c.args.self.now in
    on_cas (λ o k x y g. Owns g.texts.now o k (Ok (c.in-Ok.object, c.in-Ok.key))
    → Asking (instruction.Cas c.args.object.now c.args.key.now c.args.expected.now c.args.desired.now) f (call.Cas c.in-Ok.object c.in-Ok.key x y) (due.Found destination.Top) g)
    f c.value-desired.new.self c.value-expected.new.self c.value-key.new.self c.base-object.new.self c.args.object.now c.args.key.now c.args.expected.now c.args.desired.now
    c.value-desired.ensures.value c.value-desired.ensures.rest c.value-expected.ensures.value c.value-expected.ensures.rest c.value-key.ensures.value c.value-key.ensures.rest c.base-object.ensures.value c.base-object.ensures.rest
    (λ owns. record { asked = λ ahead back. ap (λ n. n (state_of f)) (owns _); reach = omega arith })
    c.in-Ok.ensures

pub returns-in-Err-clause-acted : goal.returns-in-Err-clause-acted
returns-in-Err-clause-acted c =
    let f = c.args.self.now in
    on_cas (λ o k x y g. Owns g.texts.now o k (Err c.in-Err.fault) → (ahead : ℕ → Place) (back : ℕ → Next)
    → acting (instruction.Cas c.args.object.now c.args.key.now c.args.expected.now c.args.desired.now) ahead back f ≡ Ends c.in-Err.fault g.lines)
    f c.value-desired.new.self c.value-expected.new.self c.value-key.new.self c.base-object.new.self c.args.object.now c.args.key.now c.args.expected.now c.args.desired.now
    c.value-desired.ensures.value c.value-desired.ensures.rest c.value-expected.ensures.value c.value-expected.ensures.rest c.value-key.ensures.value c.value-key.ensures.rest c.base-object.ensures.value c.base-object.ensures.rest
    (λ owns ahead back. ap (λ n. n (state_of f)) (owns _))
    c.in-Err.ensures
