use Rattle.std.proofs.Common.{◌≡◌, ◌∙◌, ◌<◌, ◌≤◌, sym, subst, arith, ⊎_elim, None}
use Rattle.std.proofs.lemmas.Bool.{cases_lt}
use Rattle.jo_value.specs.declared.value.Key.TheVariants.{Index}
use Rattle.jo_model.specs.Heaps.{object_of}
use Rattle.jo_model.specs.Objects.{property}
use Rattle.jo_model.proofs.Elements.{first-found, none-found}
use Rattle.jo_model.proofs.WellFormed.{object-at, well_formed-after}
use Rattle.jo_heap.specs.Closing.{heap_left}
use Rattle.jo_heap.proofs.Written.{written}
use Rattle.jo_heap.proofs.closed.ClosedObjects.element_from.Goals as goal

pub returns-in_err-block-clause-value : goal.returns-in_err-block-clause-value
returns-in_err-block-clause-value c =
    let object = object_of (heap_left c.args.self.now) c.args.o in
    let stands = written c.self.inside.words c.args.self.now c.args.o c.self.view_is c.self.invariant c.requires in
    absurd (c.in_err-block.ensures.whole object stands)

pub returns-in_err-block-clause-well_formed : goal.returns-in_err-block-clause-well_formed
returns-in_err-block-clause-well_formed c =
    object-at (heap_left c.args.self.now) c.args.o (well_formed-after c.args.self.now.passes c.args.self.now.view.past.seen)

pub loop-index-preserved : goal.loop-index-preserved
loop-index-preserved c =
    let object = object_of (heap_left c.args.self.now) c.args.o in
    let stands = written c.self.inside.words c.args.self.now c.args.o c.self.view_is c.self.invariant c.requires in
    let index = c.loop-index.index in
    let before = c.loop-index.invariant in
    let here : property object (Index index) ≡ None = sym (c.element.ensures object (c.in_ok-block.ensures.whole object stands)) ∙ c.in_default.is in
    let so_far = before.from in record {
      from = omega (arith, so_far);
      none = λ i from below. ⊎_elim (λ (lt : i < index). before.none i from lt)
          (λ (ge : index ≤ i). let same : index ≡ i = omega (arith, ge, below) in subst (λ k. property object (Index k) ≡ None) same here)
          (cases_lt i index);
    }

pub returns-in-Some-clause-value : goal.returns-in-Some-clause-value
returns-in-Some-clause-value c =
    let object = object_of (heap_left c.args.self.now) c.args.o in
    let stands = written c.self.inside.words c.args.self.now c.args.o c.self.view_is c.self.invariant c.requires in
    let formed = object-at (heap_left c.args.self.now) c.args.o (well_formed-after c.args.self.now.passes c.args.self.now.view.past.seen) in
    let before = c.loop-index.invariant in
    let found = c.element.ensures object (c.in_ok-block.ensures.whole object stands) in
    sym (first-found c.args.low c.loop-index.index c.in-Some.value object.elements formed.rising before.from before.none (sym found ∙ c.in-Some.is))

pub returns-in-Some-clause-well_formed : goal.returns-in-Some-clause-well_formed
returns-in-Some-clause-well_formed c =
    object-at (heap_left c.args.self.now) c.args.o (well_formed-after c.args.self.now.passes c.args.self.now.view.past.seen)

-- the indexes that were looked at, and those for which there is no room
pub returns-clause-value : goal.returns-clause-value
returns-clause-value c =
    let object = object_of (heap_left c.args.self.now) c.args.o in
    let stands = written c.self.inside.words c.args.self.now c.args.o c.self.view_is c.self.invariant c.requires in
    let block = c.in_ok-block.ensures.whole object stands in
    let end = c.from-index-end.ensures in
    let all = c.loop-index-test.false in
    sym (none-found c.args.low object.elements (λ i from. ⊎_elim
    (λ (lt : i < c.loop-index.index). c.loop-index.invariant.none i from lt)
    (λ (ge : c.loop-index.index ≤ i). block.properties.beyond i (omega (arith, ge, end, all)))
    (cases_lt i c.loop-index.index)))

pub returns-clause-well_formed : goal.returns-clause-well_formed
returns-clause-well_formed c =
    object-at (heap_left c.args.self.now) c.args.o (well_formed-after c.args.self.now.passes c.args.self.now.view.past.seen)
