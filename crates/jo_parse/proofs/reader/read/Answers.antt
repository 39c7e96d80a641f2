use Rattle.std.proofs.Common.{◌≡◌, ◌≤◌, ap, sym, subst, [], length, map, arith, rules}
use Rattle.std.proofs.lemmas.List.{length-map}
use Rattle.jo_value.specs.declared.limits.TheConstants.{MOST_INPUT, MOST_SCRIPTS}
use Rattle.jo_parse_tree.specs.ScriptViews.{script_tree}
use Rattle.jo_parse_grammar.specs.Cuts.{AreWithin}
use Rattle.jo_parse_grammar.specs.Sets.{IsAcceptedSet, IsParsed}
use Rattle.jo_parse_grammar.proofs.SetsAreSound.{sets_are_few, sets_are_sound}
use Rattle.jo_parse.specs.Parsed.{IsSetFault}
use Rattle.jo_parse.specs.inner.CutScripts.{IsCutFault, sections_in}
use Rattle.jo_parse.specs.inner.Stages.{IsFirstNameFault}
use Rattle.jo_parse.proofs.Faults.{cut_fault, name_fault}
use Rattle.jo_parse.proofs.Whole.{is_accepted, is_parsed, tokens_refused, trees_refused}
use Rattle.jo_parse.proofs.Within.{within_more}
use Rattle.jo_parse.proofs.reader.read.Goals as goal

pub lex-requires : goal.lex-requires
lex-requires c =
    let within = within_more (length c.in_ok-input.input.now) MOST_INPUT (sections_in c.in_ok-sections.sections.items)
    (omega (arith, c.requires, ap length c.in_ok-input.ensures.same)) c.in_ok-sections.ensures.within in
    subst (λ v. AreWithin MOST_INPUT (sections_in v)) (sym c.as_slice.ensures.value) within

pub returns-in_err-sections-clause-refused : goal.returns-in_err-sections-clause-refused
returns-in_err-sections-clause-refused c =
    let fault = c.in_err-sections.field-0.0 in
    let refused : IsSetFault c.args.bytes.now fault =
    cut_fault c.args.bytes.now fault c.in_ok-input.ensures.ok (subst (λ v. IsCutFault v fault) c.in_ok-input.ensures.same c.in_err-sections.ensures.refused) in
    search rules

pub returns-in_err-lexed-clause-refused : goal.returns-in_err-lexed-clause-refused
returns-in_err-lexed-clause-refused c =
    let refused : IsSetFault c.args.bytes.now c.in_err-lexed.field-0.0 =
    tokens_refused c.args.bytes.now c.in_ok-input.input.now c.in_ok-sections.sections.items c.as_slice.result.now c.in_ok-input.ensures.ok c.in_ok-input.ensures.same
    c.in_ok-sections.ensures.ok c.in_ok-sections.ensures.few c.as_slice.ensures.value c.in_err-lexed.field-0.0 c.in_err-lexed.ensures.refused in
    search rules

pub returns-in_err-scripts-clause-refused : goal.returns-in_err-scripts-clause-refused
returns-in_err-scripts-clause-refused c =
    let lexed = c.in_ok-lexed.lexed in
    let refused : IsSetFault c.args.bytes.now c.in_err-scripts.field-0.0 =
    trees_refused c.args.bytes.now c.in_ok-input.input.now c.in_ok-sections.sections.items c.as_slice.result.now c.in_ok-input.ensures.ok c.in_ok-input.ensures.same
    c.in_ok-sections.ensures.ok c.in_ok-sections.ensures.few c.as_slice.ensures.value lexed.lists.items c.as_slice-2.result.now lexed.texts c.as_slice-2.ensures.value
    c.in_ok-lexed.ensures.ok c.in_ok-lexed.ensures.something c.in_err-scripts.field-0.0 c.in_err-scripts.ensures.refused in
    search rules

pub returns-in_err-check_all_scopes-clause-refused : goal.returns-in_err-check_all_scopes-clause-refused
returns-in_err-check_all_scopes-clause-refused c =
    let bytes = c.args.bytes.now in
    let fault = c.in_err-check_all_scopes.field-0.0 in
    let lexed = c.in_ok-lexed.lexed in
    let scripts = map script_tree c.in_ok-scripts.scripts.items in
    let parsed : IsParsed bytes scripts lexed.texts =
    is_parsed bytes c.in_ok-input.input.now c.in_ok-sections.sections.items c.as_slice.result.now c.in_ok-input.ensures.ok c.in_ok-input.ensures.same
    c.in_ok-sections.ensures.ok c.in_ok-sections.ensures.few c.as_slice.ensures.value lexed.lists.items c.as_slice-2.result.now lexed.texts c.as_slice-2.ensures.value
    c.in_ok-lexed.ensures.ok c.in_ok-lexed.ensures.something scripts c.in_ok-scripts.ensures.ok in
    let refused : IsSetFault bytes fault =
    name_fault bytes scripts lexed.texts fault parsed (subst (λ v. IsFirstNameFault (map script_tree v) fault) c.as_slice-3.ensures.value c.in_err-check_all_scopes.ensures.refused) in
    search rules

pub returns-clause-ok : goal.returns-clause-ok
returns-clause-ok c =
    is_accepted c.args.bytes.now c.in_ok-input.input.now c.in_ok-sections.sections.items c.as_slice.result.now c.in_ok-input.ensures.ok c.in_ok-input.ensures.same
    c.in_ok-sections.ensures.ok c.in_ok-sections.ensures.few c.as_slice.ensures.value c.in_ok-lexed.lexed.lists.items c.as_slice-2.result.now c.in_ok-lexed.lexed.texts
    c.as_slice-2.ensures.value c.in_ok-lexed.ensures.ok c.in_ok-lexed.ensures.something c.in_ok-scripts.scripts.items c.as_slice-3.result.now c.as_slice-3.ensures.value
    c.in_ok-scripts.ensures.ok c.in_ok-check_all_scopes.ensures.ok

pub invariant_of-result : goal.invariant_of-result
invariant_of-result c =
    let bytes = c.args.bytes.now in
    let texts = c.in_ok-lexed.lexed.texts in
    let scripts = c.in_ok-scripts.scripts.items in
    let set : IsAcceptedSet bytes (map script_tree scripts) texts =
    is_accepted c.args.bytes.now c.in_ok-input.input.now c.in_ok-sections.sections.items c.as_slice.result.now c.in_ok-input.ensures.ok c.in_ok-input.ensures.same
    c.in_ok-sections.ensures.ok c.in_ok-sections.ensures.few c.as_slice.ensures.value c.in_ok-lexed.lexed.lists.items c.as_slice-2.result.now c.in_ok-lexed.lexed.texts
    c.as_slice-2.ensures.value c.in_ok-lexed.ensures.ok c.in_ok-lexed.ensures.something c.in_ok-scripts.scripts.items c.as_slice-3.result.now c.as_slice-3.ensures.value
    c.in_ok-scripts.ensures.ok c.in_ok-check_all_scopes.ensures.ok in
    let few = sets_are_few bytes (map script_tree scripts) texts set in
    let same : length (map script_tree scripts) ≡ length scripts = length-map scripts script_tree in
    let most : length scripts ≤ MOST_SCRIPTS = omega (arith, few.1, same) in
    let least : 1 ≤ length scripts = omega (arith, few.0, same) in
    (least, most, sets_are_sound bytes (map script_tree scripts) texts c.requires set)
