use Rattle.std.proofs.Common.{sym, ap, ◌∙◌, inl}
use Rattle.jo_value.specs.declared.capacities.TheConstants.{ELEMENT_CAPACITIES}
use Rattle.jo_value.specs.declared.value.Key.TheVariants.{Index}
use Rattle.jo_model.specs.One.{put_in}
use Rattle.jo_rule.specs.Owned.{address_of}
use Rattle.jo_rule.specs.Views.{View}
use Rattle.jo_steps.specs.Holding.{lock_of}
use Rattle.jo_write.specs.Answers.{least_above}
use Rattle.jo_write.proofs.Held.{made_with}
use Rattle.jo_write.proofs.rooms.block_with.Goals as goal

pub returns-clause-made : goal.returns-clause-made
returns-clause-made c =
    let v = c.args.pass.now.view in
    let w = c.block_of.new.pass.view in
    let z = (lock_of v).content in
    let room = c.capacity_above.result in
    let made = c.in_ok-address.ensures.made z c.requires.block in
    let at = v.storage.used in
    let here = made.here ∙ ap (λ (x : View). address_of x.number at) (sym made.only) in
    made_with v w c.fill.new.pass.view room (least_above ELEMENT_CAPACITIES c.args.index) c.in_ok-address.address z (put_in z (Index c.args.index) c.args.value).0 c.capacity_above.ensures.least made
    (c.fill.ensures.block at room z here made.filled c.capacity_above.ensures.above) (λ j lt. c.fill.ensures.others at room j z here made.filled (inl lt)) c.fill.ensures.used c.fill.ensures.named c.fill.ensures.only
