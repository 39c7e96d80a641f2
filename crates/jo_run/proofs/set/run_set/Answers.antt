use Rattle.std.proofs.Common.{◌∙◌, subst, arith}
use Rattle.jo_parse_tree.specs.ScriptViews.{script_tree}
use Rattle.jo_parse.specs.Parsed.{trees_of}
use Rattle.jo_run.specs.inner.Begun.{AreAtCodes}
use Rattle.jo_run.proofs.Places.{len_map}
use Rattle.jo_run.proofs.Whole.{at_start, all_may_run}
use Rattle.jo_run.proofs.set.run_set.Goals as goal

pub run_over-requires-clause-machines : goal.run_over-requires-clause-machines
run_over-requires-clause-machines g c κs within =
    let set = c.args.set.now in
    let machines = c.in_ok-machines.machines.items in
    let at_codes : AreAtCodes set.1 c.args.turns c.in_ok-codes.codes.items machines =
    subst (λ texts. AreAtCodes texts c.args.turns c.in_ok-codes.codes.items machines) c.texts.ensures
    (subst (λ codes. AreAtCodes c.texts.result.now c.args.turns codes machines) c.deref.ensures.value c.in_ok-machines.ensures) in
    let begun = at_start (trees_of set) set.1 c.args.turns c.in_ok-codes.codes.items machines c.in_ok-codes.ensures at_codes in
    let as_many = begun.all ∙ len_map script_tree set.0 in
    let some = c.len-3.ensures.bounds.0 in
    let count = c.len-3.ensures.len in
    (omega (arith, as_many, some, count), all_may_run (trees_of set) set.1 c.args.turns machines begun)

pub returns : goal.returns
returns g c =
    let set = c.args.set.now in
    let machines = c.in_ok-machines.machines.items in
    let at_codes : AreAtCodes set.1 c.args.turns c.in_ok-codes.codes.items machines =
    subst (λ texts. AreAtCodes texts c.args.turns c.in_ok-codes.codes.items machines) c.texts.ensures
    (subst (λ codes. AreAtCodes c.texts.result.now c.args.turns codes machines) c.deref.ensures.value c.in_ok-machines.ensures) in
    c.run_over.ensures (trees_of set) set.1 c.args.turns (at_start (trees_of set) set.1 c.args.turns c.in_ok-codes.codes.items machines c.in_ok-codes.ensures at_codes)
