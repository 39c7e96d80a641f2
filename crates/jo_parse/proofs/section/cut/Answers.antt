use Rattle.std.proofs.Common.{◌≡◌, ◌+◌, ◌<◌, length, true, false, ap, refl, sym, subst, ◌∙◌, arith, rules}
use Rattle.std.proofs.lemmas.List.{length-map, nil_from_length}
use Rattle.jo_value.specs.declared.limits.TheConstants.{MOST_SCRIPTS}
use Rattle.jo_parse_grammar.specs.Cuts.{AreWithin, is_separator, sections_of}
use Rattle.jo_parse.specs.inner.CutScripts.{IsCutFault, sections_in, section_of}
use Rattle.jo_parse.proofs.Cutting.{IsUnderWay, begun, gone-on, begun-anew, last-is, one-too-many}
use Rattle.jo_parse.proofs.Bounds.{sections_are_within}
use Rattle.jo_parse.proofs.section.cut.Goals as goal

pub loop-line-init : goal.loop-line-init
loop-line-init c =
    let input = c.args.input.now in
    (search rules, search rules, subst (IsUnderWay input input input) (sym (ap sections_in c.new-parts.ensures.items)) (begun input))

pub returns-then-len-eq-MOST_SCRIPTS-clause-refused : goal.returns-then-len-eq-MOST_SCRIPTS-clause-refused
returns-then-len-eq-MOST_SCRIPTS-clause-refused c =
    let parts = sections_in c.loop-line.parts.items in
    let part = section_of c.script-part.result in
    let is : is_separator c.first_line.result.0.now ≡ true = search rules in
    let full : length parts + 1 ≡ MOST_SCRIPTS = omega (arith, length-map c.loop-line.parts.items section_of) in
    subst (IsCutFault c.args.input.now) (sym c.too_many.ensures) (
      refl,
      one-too-many c.args.input.now c.loop-line.from.now c.loop-line.rest.now c.first_line.result.0.now c.first_line.result.1.now part.input part.start parts c.loop-line.invariant.2
          c.first_line.ensures.lines c.first_line.ensures.parts is c.script-part.ensures.start c.script-part.ensures.input full,
    )

pub loop-line-preserved-in_ok-add : goal.loop-line-preserved-in_ok-add
loop-line-preserved-in_ok-add c =
    let parts = sections_in c.loop-line.parts.items in
    let part = section_of c.script-part.result in
    let is : is_separator c.first_line.result.0.now ≡ true = search rules in
    let few : length parts + 1 < MOST_SCRIPTS = omega (arith, c.loop-line.invariant.2.few, length-map c.loop-line.parts.items section_of) in (
      search rules,
      search rules,
      subst (IsUnderWay c.args.input.now c.first_line.result.1.now c.first_line.result.1.now) (sym c.in_ok-add.ensures.ok)
          (begun-anew c.args.input.now c.loop-line.from.now c.loop-line.rest.now c.first_line.result.0.now c.first_line.result.1.now part.input part.start parts c.loop-line.invariant.2
          c.first_line.ensures.lines c.first_line.ensures.parts is c.script-part.ensures.start c.script-part.ensures.input few),
    )

pub loop-line-preserved : goal.loop-line-preserved
loop-line-preserved c =
    let plain : is_separator c.first_line.result.0.now ≡ false = search rules in (
      search rules,
      search rules,
      gone-on c.args.input.now c.loop-line.from.now c.loop-line.rest.now c.first_line.result.0.now c.first_line.result.1.now (sections_in c.loop-line.parts.items) c.loop-line.invariant.2
          c.first_line.ensures.lines c.first_line.ensures.parts plain,
    )

cut-ok : (c : goal.In_ok-add-2) → sections_in c.add-2.new.parts.items ≡ sections_of c.args.input.now
cut-ok c =
    let part = section_of c.script.result in
    let none : length c.loop-line.rest.now ≡ 0 = search rules in
    c.in_ok-add-2.ensures.ok
    ∙ last-is c.args.input.now c.loop-line.from.now c.loop-line.rest.now part.input part.start (sections_in c.loop-line.parts.items) c.loop-line.invariant.2
    (nil_from_length c.loop-line.rest.now none) c.script.ensures.start c.script.ensures.input

pub returns-clause-ok : goal.returns-clause-ok
returns-clause-ok c = cut-ok c

pub returns-clause-within : goal.returns-clause-within
returns-clause-within c = subst (AreWithin (length c.args.input.now)) (sym (cut-ok c)) (sections_are_within c.args.input.now)
