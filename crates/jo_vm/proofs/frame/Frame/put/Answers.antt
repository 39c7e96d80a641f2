use Rattle.std.proofs.Common.{◌≡◌, ap, subst, sym, true, false, arith}
use Rattle.std.specs.Prelude.{ℕ, Ok, Err}
use Rattle.jo_meaning.specs.Runs.{Ends}
use Rattle.jo_meaning.specs.State.{Next}
use Rattle.jo_model.specs.declared.call.Call.TheVariants as call
use Rattle.jo_code.specs.declared.instruction.Instruction.TheVariants as instruction
use Rattle.jo_code.specs.Machine.{Place}
use Rattle.jo_vm.specs.declared.frame.Due.TheVariants as due
use Rattle.jo_vm.specs.inner.State.{Asking, Owns, acting, state_of}
use Rattle.jo_vm.proofs.Operands.{on_three}
use Rattle.jo_vm.proofs.frame.Frame.put.Goals as goal

pub returns-then-keep-clause-acted : goal.returns-then-keep-clause-acted
returns-then-keep-clause-acted c =
    let f = c.args.self.now in
    subst (λ b. Asking (instruction.Put b c.args.object.now c.args.key.now c.args.new.now) f
    (call.Put c.in-Ok.object c.in-Ok.key c.value-value.result) (due.Kept c.value-value.result) c.value-object.new.self) (sym c.if-keep.true)
    (on_three (λ o k v g. Owns g.texts.now o k (Ok (c.in-Ok.object, c.in-Ok.key))
    → Asking (instruction.Put true c.args.object.now c.args.key.now c.args.new.now) f (call.Put c.in-Ok.object c.in-Ok.key v) (due.Kept v) g)
    f c.value-value.new.self c.value-key.new.self c.value-object.new.self c.args.object.now c.args.key.now c.args.new.now
    c.value-value.ensures.value c.value-value.ensures.rest c.value-key.ensures.value c.value-key.ensures.rest c.value-object.ensures.value c.value-object.ensures.rest
    (λ owns. record { asked = λ ahead back. ap (λ n. n (state_of f)) (owns _); reach = omega arith })
    c.in-Ok.ensures)

pub returns-else-keep-clause-acted : goal.returns-else-keep-clause-acted
returns-else-keep-clause-acted c =
    let f = c.args.self.now in
    subst (λ b. Asking (instruction.Put b c.args.object.now c.args.key.now c.args.new.now) f
    (call.Put c.in-Ok.object c.in-Ok.key c.value-value.result) due.Done c.value-object.new.self) (sym c.if-keep.false)
    (on_three (λ o k v g. Owns g.texts.now o k (Ok (c.in-Ok.object, c.in-Ok.key))
    → Asking (instruction.Put false c.args.object.now c.args.key.now c.args.new.now) f (call.Put c.in-Ok.object c.in-Ok.key v) due.Done g)
    f c.value-value.new.self c.value-key.new.self c.value-object.new.self c.args.object.now c.args.key.now c.args.new.now
    c.value-value.ensures.value c.value-value.ensures.rest c.value-key.ensures.value c.value-key.ensures.rest c.value-object.ensures.value c.value-object.ensures.rest
    (λ owns. record { asked = λ ahead back. ap (λ n. n (state_of f)) (owns _); reach = omega arith })
    c.in-Ok.ensures)

pub returns-in-Err-clause-acted : goal.returns-in-Err-clause-acted
returns-in-Err-clause-acted c =
    let f = c.args.self.now in
    on_three (λ o k v g. Owns g.texts.now o k (Err c.in-Err.fault) → (ahead : ℕ → Place) (back : ℕ → Next)
    → acting (instruction.Put c.args.keep c.args.object.now c.args.key.now c.args.new.now) ahead back f ≡ Ends c.in-Err.fault g.lines)
    f c.value-value.new.self c.value-key.new.self c.value-object.new.self c.args.object.now c.args.key.now c.args.new.now
    c.value-value.ensures.value c.value-value.ensures.rest c.value-key.ensures.value c.value-key.ensures.rest c.value-object.ensures.value c.value-object.ensures.rest
    (λ owns ahead back. ap (λ n. n (state_of f)) (owns _))
    c.in-Err.ensures
