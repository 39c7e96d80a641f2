use Rattle.std.proofs.Common.{arith, length, ◌-◌, ◌∙◌, ap, refl, sym}
use Rattle.std.specs.Prelude.{◌==◌}
use Rattle.jo_parse_tree.specs.declared.expr.Binary.{out-Binary}
use Rattle.jo_parse_tree.specs.declared.expr.Link.{Link}
use Rattle.jo_parse_tree.specs.Views.{accesses_list, chain_tree, expr_tree, primary_tree}
use Rattle.jo_code.specs.declared.usage.Use.TheVariants as usage
use Rattle.jo_code.specs.inner.Code.{code_of, late_of}
use Rattle.jo_code.proofs.Accessed.{accesses-turn, deletes-put, is_none-empty, is_none-list, member-put}
use Rattle.jo_code.proofs.Assigned.{assign-same, base-assigned, expr-assign, postfix-member, property-assigned, unary-delete}
use Rattle.jo_code.proofs.Answered.{on_ok}
use Rattle.jo_code.proofs.Chained.{fused-end, fused-turn, joined-pushed, joined-whole, links-given, links-turn}
use Rattle.jo_code.proofs.Exchanged.{base-same, before-same, cas-put, primary-cas}
use Rattle.jo_code.proofs.draft.Draft.+expressions.Goals as goal

pub fused-loop-at-preserved : goal.fused-loop-at-preserved
fused-loop-at-preserved t c = record {
  within = omega (arith, c.loop-at.invariant.within);
  done = fused-turn c.args.scope.now c.decided_by-decided.result c.args.when c.args.skip c.as_slice-links.result.now (c.loop-at.at - 1) c.loop-at.at c.index-links-at.result
      (omega (arith, c.loop-at-test.true)) (omega (arith, c.loop-at-test.true, c.loop-at.invariant.within)) c.index-links-at.is
      c.args.self.now c.loop-at.self c.chain.new.self c.loop-at.to c.in_ok-to.to c.loop-at.invariant.done
      (c.in_ok-chain.ensures ∙ ap (λ (x : Link). code_of c.args.scope.now (chain_tree x.operand) c.loop-at.to c.loop-at.self) (sym c.index-links-at.is))
      (cc (c.in_ok-to.ensures, c.saturating_sub.ensures, c.len.ensures, c.len-end.ensures));
}

pub links-loop-at-preserved : goal.links-loop-at-preserved
links-loop-at-preserved t c = record {
  within = omega (arith, c.loop-at.invariant.within);
  given = links-given c.args.scope.now c.args.links.now (c.loop-at.at - 1) c.loop-at.at c.index-links-at.result
      (omega (arith, c.loop-at-test.true)) (omega (arith, c.loop-at-test.true, c.loop-at.invariant.within)) c.index-links-at.is c.args.to;
  done = links-turn c.args.scope.now c.args.links.now (c.loop-at.at - 1) c.loop-at.at c.index-links-at.result
      (omega (arith, c.loop-at-test.true)) (omega (arith, c.loop-at-test.true, c.loop-at.invariant.within)) c.index-links-at.is
      c.args.first c.left_at.result c.args.to c.loop-at.to c.args.self.now c.loop-at.self c.link.new.self
      c.left_at.ensures c.loop-at.invariant.given c.loop-at.invariant.done c.in_ok-link.ensures;
}

pub fused-returns : goal.fused-returns
fused-returns t c =
    on_ok c.chain-2.result
    (λ h. fused-end c.args.scope.now (chain_tree (out-Binary c.args.binary.now).first) c.args.when c.args.skip (out-Binary c.args.binary.now).links c.as_slice-links.result.now c.loop-at.at c.loop-at-test.false
    c.as_slice-links.ensures c.decided_by-decided.result c.decided_by-decided.ensures c.args.self.now c.loop-at.self c.chain-2.new.self c.loop-at.to c.loop-at.invariant.done h)
    c.chain-2.ensures

pub joined-returns-in-Top : goal.joined-returns-in-Top
joined-returns-in-Top t c =
    on_ok c.chain-in-Top.result
    (λ h. joined-pushed c.args.scope.now (chain_tree (out-Binary c.args.binary.now).first) (out-Binary c.args.binary.now).links c.as_slice-links.result.now (sym c.is_empty.ensures ∙ c.if-is_empty.false)
    c.as_slice-links.ensures c.first_operand-first.result c.args.to c.args.self.now c.links.new.self c.chain-in-Top.new.self c.first_operand-first.ensures c.in-Top.is c.in_ok-links.ensures h)
    c.chain-in-Top.ensures

pub binary-returns-in-Top : goal.binary-returns-in-Top
binary-returns-in-Top t c =
    on_ok c.joined-in-Top.result
    (joined-whole c.args.scope.now c.args.binary.now c.args.to usage.Top c.args.self.now c.joined-in-Top.new.self c.in-Top.is (λ level e links. refl))
    c.joined-in-Top.ensures

pub binary-returns-in-Variable : goal.binary-returns-in-Variable
binary-returns-in-Variable t c =
    on_ok c.joined-in-Variable.result
    (joined-whole c.args.scope.now c.args.binary.now c.args.to (usage.Variable c.in-Variable.field-0) c.args.self.now c.joined-in-Variable.new.self c.in-Variable.is (λ level e links. refl))
    c.joined-in-Variable.ensures

pub binary-returns-in-Nowhere : goal.binary-returns-in-Nowhere
binary-returns-in-Nowhere t c =
    on_ok c.joined-in-Nowhere.result
    (joined-whole c.args.scope.now c.args.binary.now c.args.to usage.Nowhere c.args.self.now c.joined-in-Nowhere.new.self c.in-Nowhere.is (λ level e links. refl))
    c.joined-in-Nowhere.ensures

pub cas-returns : goal.cas-returns
cas-returns t c =
    let env = c.args.scope.now in
    let ops = c.cas_operands-operands.result in
    let e1 = before-same env ops.desired c.get.result.now c.args.cas.now.desired c.pushed.new.self c.expr_before.new.self c.get.ensures c.in_ok-expr_before.ensures in
    let e2 = before-same env ops.expected c.get-2.result.now c.args.cas.now.expected c.expr_before.new.self c.expr_before-2.new.self c.get-2.ensures c.in_ok-expr_before-2.ensures in
    let e3 = before-same env ops.key c.get-3.result.now c.args.cas.now.key c.expr_before-2.new.self c.expr_before-3.new.self c.get-3.ensures c.in_ok-expr_before-3.ensures in
    on_ok c.base_before.result
    (λ h. cas-put env c.args.cas.now ops.object ops.key ops.expected ops.desired c.args.to c.args.self.now c.pushed.new.self c.expr_before.new.self c.expr_before-2.new.self c.expr_before-3.new.self c.base_before.new.self
    c.cas_operands-operands.ensures.object c.cas_operands-operands.ensures.key c.cas_operands-operands.ensures.expected c.cas_operands-operands.ensures.desired
    c.in_ok-pushed.ensures e1 e2 e3
    (base-same env ops.object c.get-4.result.now c.args.cas.now.object c.expr_before-3.new.self c.base_before.new.self c.get-4.ensures h))
    c.base_before.ensures

pub primary-returns-in-Cas : goal.primary-returns-in-Cas
primary-returns-in-Cas t c =
    on_ok c.cas.result
    (primary-cas c.args.scope.now c.args.primary.now c.in-Cas.cas c.get-in-Cas.result.now c.args.to c.args.self.now c.cas.new.self c.in-Cas.is c.get-in-Cas.ensures)
    c.cas.ensures

pub accesses-loop-at-preserved : goal.accesses-loop-at-preserved
accesses-loop-at-preserved t c =
    let last = c.loop-at.at == length c.args.accesses.now in record {
      within = omega (arith, c.loop-at.invariant.within);
      done = accesses-turn c.args.scope.now c.args.accesses.now (c.loop-at.at - 1) c.loop-at.at c.index-accesses-at.result
          (omega (arith, c.loop-at-test.true)) (omega (arith, c.loop-at-test.true, c.loop-at.invariant.within)) c.index-accesses-at.is
          c.args.late c.args.base c.left_at.result last c.args.self.now c.loop-at.self c.access.new.self
          c.left_at.ensures refl c.loop-at.invariant.done
          c.in_ok-access.ensures;
    }

pub member-returns : goal.member-returns
member-returns t c =
    let m = c.args.member.now in
    on_ok c.place.result
    (member-put c.args.scope.now (primary_tree m.base) (accesses_list m.accesses) c.args.to c.destination_of.result c.args.self.now c.settled.new.self c.put.new.self c.place.new.self
    c.spot-spot.result.object c.spot-spot.result.key
    (is_none-list m.accesses c.as_slice.result.now c.as_slice.ensures (sym c.is_empty.ensures ∙ c.if-is_empty.false))
    c.spot-spot.ensures.object c.spot-spot.ensures.key c.in_ok-settled.ensures c.destination_of.ensures c.in_ok-put.ensures)
    c.place.ensures

pub deletes-returns : goal.deletes-returns
deletes-returns t c =
    let m = c.args.member.now in
    on_ok c.place.result
    (deletes-put c.args.scope.now (primary_tree m.base) (accesses_list m.accesses) c.args.self.now c.put.new.self c.place.new.self
    c.spot-spot.result.object c.spot-spot.result.key
    (is_none-list m.accesses c.as_slice.result.now c.as_slice.ensures (sym c.is_empty.ensures ∙ c.if-is_empty.false))
    c.spot-spot.ensures.object c.spot-spot.ensures.key c.in_ok-put.ensures)
    c.place.ensures

pub assign-returns-then-is_empty : goal.assign-returns-then-is_empty
assign-returns-then-is_empty t c =
    let env = c.args.scope.now in
    let v = c.args.assign.now in
    let m = c.get-member.result.now in
    on_ok c.primary.result
    (λ h. assign-same env v c.in-Member.member m c.get-value.result.now c.args.to c.args.self.now c.primary.new.self c.in-Member.is c.get-member.ensures c.get-value.ensures
    (base-assigned env v.operator (primary_tree m.base) (expr_tree c.get-value.result.now) (accesses_list m.accesses) c.args.to c.base_use.result c.args.self.now c.after_base.new.self c.primary.new.self
    (is_none-empty m.accesses c.as_slice.result.now c.as_slice.ensures (sym c.is_empty.ensures ∙ c.if-is_empty.true)) c.base_use.ensures c.in_ok-after_base-in-Member.ensures h))
    c.primary.ensures

pub assign-returns-in_ok-assign_property-in-Member : goal.assign-returns-in_ok-assign_property-in-Member
assign-returns-in_ok-assign_property-in-Member t c =
    let env = c.args.scope.now in
    let v = c.args.assign.now in
    let m = c.get-member.result.now in
    on_ok c.place.result
    (λ h. assign-same env v c.in-Member.member m c.get-value.result.now c.args.to c.args.self.now c.place.new.self c.in-Member.is c.get-member.ensures c.get-value.ensures
    (property-assigned env v.operator (primary_tree m.base) (expr_tree c.get-value.result.now) (accesses_list m.accesses) c.args.to c.args.self.now c.assign_property.new.self c.place.new.self
    c.late_of-late.result c.spot-spot.result.object c.spot-spot.result.key
    (is_none-list m.accesses c.as_slice.result.now c.as_slice.ensures (sym c.is_empty.ensures ∙ c.if-is_empty.false))
    (c.late_of-late.ensures ∙ ap late_of c.expr_reading.ensures) c.spot-spot.ensures.object c.spot-spot.ensures.key c.in_ok-assign_property-in-Member.ensures h))
    c.place.ensures

pub expr-returns-in-Assign : goal.expr-returns-in-Assign
expr-returns-in-Assign t c =
    on_ok c.assign.result
    (expr-assign c.args.scope.now c.args.expr.now c.in-Assign.assign c.get.result.now c.args.to c.args.self.now c.assign.new.self c.in-Assign.is c.get.ensures)
    c.assign.ensures

pub postfix-returns-in-Member : goal.postfix-returns-in-Member
postfix-returns-in-Member t c =
    on_ok c.member.result
    (postfix-member c.args.scope.now c.args.postfix.now c.in-Member.member c.get.result.now c.args.to c.args.self.now c.member.new.self c.in-Member.is c.get.ensures)
    c.member.ensures

pub unary-returns-in_ok-load-in-Delete : goal.unary-returns-in_ok-load-in-Delete
unary-returns-in_ok-load-in-Delete t c =
    on_ok c.deletes.result
    (unary-delete c.args.scope.now c.args.unary.now c.in-Delete.member c.get-in-Delete.result.now c.args.to c.args.self.now c.load.new.self c.deletes.new.self c.in-Delete.is c.get-in-Delete.ensures c.in_ok-load-in-Delete.ensures)
    c.deletes.ensures
