use Rattle.std.proofs.Common.{◌≡◌, ◌∙◌, ap, arith, rules, subst, sym}
use Rattle.jo_value.specs.declared.value.ObjId.{ObjId}
use Rattle.jo_model.specs.declared.call.Call.TheVariants as call
use Rattle.jo_model.specs.declared.call.Reply.TheVariants as reply
use Rattle.jo_rule.specs.Views.{View}
use Rattle.jo_steps.specs.Holding.{next_object}
use Rattle.jo_steps.specs.Effects.{Born}
use Rattle.jo_guard.specs.Placing.{HasPlaced}
use Rattle.jo_write.proofs.Births.{birth_placed, birth_ready, birth_used}
use Rattle.jo_write.proofs.making.bear.Goals.{After-store_own}
use Rattle.jo_write.proofs.making.bear.Goals as goal

pub born_cell-requires : goal.born_cell-requires
born_cell-requires c = omega (arith, c.requires.ready.of_heap.number, c.requires.ready.of_heap.few, c.number.ensures, ap (λ (x : View). x.number) c.in_ok-address.ensures.made.only)

born : (c : After-store_own) → Born c.args.heap.now.passes c.args.pass.now.view.storage.used 0 c.empty_block.new.pass.view c.store_own.new.pass.view
born c = c.store_own.ensures.view.born c.args.pass.now.view.storage.used 0 (search rules)

next : (c : After-store_own) → record { pass = c.number.result; serial = c.objects.result } ≡ next_object c.args.pass.now.view
next c =
    let w = c.empty_block.new.pass.view in
    let is : record { pass = c.number.result; serial = c.objects.result } ≡ next_object w = (λ i. record { pass = c.number.ensures i; serial = c.objects.ensures i }) in
    is ∙ ap next_object c.in_ok-address.ensures.made.only

pub returns-clause-object : goal.returns-clause-object
returns-clause-object c = next c

pub returns-clause-ready : goal.returns-clause-ready
returns-clause-ready c = birth_ready c.args.heap.now c.args.pass.now c.empty_block.new.pass c.store_own.new.pass c.args.pass.now.view.storage.used c.in_ok-address.address c.requires.ready c.in_ok-address.ensures.made c.store_own.ensures.pass (born c)

pub returns-clause-placed : goal.returns-clause-placed
returns-clause-placed c =
    let v = c.args.pass.now.view in
    let w = c.empty_block.new.pass.view in
    let P = c.args.heap.now.passes in
    let u = c.store_own.new.pass.view in
    let is : next_object v ≡ record { pass = c.number.result; serial = c.objects.result } = sym (next c) in
    subst (λ (o : ObjId). HasPlaced P call.New (reply.Made o) v u) is
    (birth_placed P v.storage.used c.in_ok-address.address v w u c.in_ok-address.ensures.made (born c) c.requires.few)

pub returns-clause-used : goal.returns-clause-used
returns-clause-used c = birth_used c.args.heap.now.passes c.args.pass.now.view.storage.used c.in_ok-address.address c.args.pass.now.view c.empty_block.new.pass.view c.store_own.new.pass.view c.in_ok-address.ensures.made (born c)
