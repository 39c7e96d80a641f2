use Rattle.std.proofs.Common.{◌≡◌, ◌-◌, sym, subst, ℕ, arith}
use Rattle.jo_value.specs.declared.value.Key.{Key}
use Rattle.jo_value.specs.declared.value.Key.TheVariants.{Name, Index}
use Rattle.jo_model.specs.One.{put_in}
use Rattle.jo_rule.specs.Steps.{IsFilled}
use Rattle.jo_dict.specs.Blocks.{MayAppend}
use Rattle.jo_dict.proofs.filling.fill.Goals as goal

pub returns-in-Name-clause-block : goal.returns-in-Name-clause-block
returns-in-Name-clause-block c k elements z here filled may =
    let first : c.args.address - c.address_of.result ≡ k = omega (arith, here, c.address_of.ensures) in
    let before = subst (λ (n : ℕ). IsFilled c.args.pass.now.view.storage n elements z) (sym first) filled in
    let appends = subst (MayAppend elements z) c.in-Name.is may in
    let after = c.fill_name.ensures.block elements z before appends in
    subst (λ (key : Key). IsFilled c.fill_name.new.pass.view.storage k elements (put_in z key c.args.value).0) (sym c.in-Name.is)
    (subst (λ (n : ℕ). IsFilled c.fill_name.new.pass.view.storage n elements (put_in z (Name c.in-Name.name) c.args.value).0) first after)

pub returns-in-Index-clause-block : goal.returns-in-Index-clause-block
returns-in-Index-clause-block c k elements z here filled may =
    let first : c.args.address - c.address_of.result ≡ k = omega (arith, here, c.address_of.ensures) in
    let before = subst (λ (n : ℕ). IsFilled c.args.pass.now.view.storage n elements z) (sym first) filled in
    let after = c.fill_element.ensures.block elements z before in
    subst (λ (key : Key). IsFilled c.fill_element.new.pass.view.storage k elements (put_in z key c.args.value).0) (sym c.in-Index.is)
    (subst (λ (n : ℕ). IsFilled c.fill_element.new.pass.view.storage n elements (put_in z (Index c.in-Index.index) c.args.value).0) first after)
