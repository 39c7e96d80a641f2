use Rattle.std.proofs.Common.{◌≡◌, ap, subst, arith}
use Rattle.std.specs.Prelude.{ℕ, Ok, Err}
use Rattle.jo_meaning.specs.Runs.{Ends}
use Rattle.jo_meaning.specs.State.{Next}
use Rattle.jo_model.specs.declared.call.Call.TheVariants as call
use Rattle.jo_code.specs.declared.instruction.Instruction.TheVariants as instruction
use Rattle.jo_code.specs.Machine.{Place, top}
use Rattle.jo_vm.specs.declared.frame.Due.TheVariants as due
use Rattle.jo_vm.specs.inner.State.{Asking, Owns, acting, state_of}
use Rattle.jo_vm.proofs.Operands.{on_two}
use Rattle.jo_vm.proofs.frame.Frame.fill.Goals as goal

pub returns-in-Ok-clause-acted : goal.returns-in-Ok-clause-acted
returns-in-Ok-clause-acted c =
    let f = c.args.self.now in
    on_two (λ k v g. Owns g.texts.now (top g.stack.1) k (Ok (c.in-Ok.object, c.in-Ok.key))
    → Asking (instruction.Fill c.args.key.now c.args.new.now) f (call.Put c.in-Ok.object c.in-Ok.key v) due.Done g)
    f c.value-value.new.self c.value-key.new.self c.args.key.now c.args.new.now
    c.value-value.ensures.value c.value-value.ensures.rest c.value-key.ensures.value c.value-key.ensures.rest
    (λ owns. record { asked = λ ahead back. ap (λ n. n (state_of f)) (owns _); reach = omega arith })
    (subst (λ t. Owns c.value-key.new.self.texts.now t c.value-key.result (Ok (c.in-Ok.object, c.in-Ok.key))) c.top.ensures c.in-Ok.ensures)

pub returns-in-Err-clause-acted : goal.returns-in-Err-clause-acted
returns-in-Err-clause-acted c =
    let f = c.args.self.now in
    on_two (λ k v g. Owns g.texts.now (top g.stack.1) k (Err c.in-Err.fault) → (ahead : ℕ → Place) (back : ℕ → Next)
    → acting (instruction.Fill c.args.key.now c.args.new.now) ahead back f ≡ Ends c.in-Err.fault g.lines)
    f c.value-value.new.self c.value-key.new.self c.args.key.now c.args.new.now
    c.value-value.ensures.value c.value-value.ensures.rest c.value-key.ensures.value c.value-key.ensures.rest
    (λ owns ahead back. ap (λ n. n (state_of f)) (owns _))
    (subst (λ t. Owns c.value-key.new.self.texts.now t c.value-key.result (Err c.in-Err.fault)) c.top.ensures c.in-Err.ensures)
