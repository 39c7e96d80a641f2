-- What is answered of a whole script.
use Rattle.std.proofs.Common.{◌≡◌, List, [], ◌∷◌, Some, Result, Ok, Err, refl, ap, sym, subst, arith}
use Rattle.std.specs.Prelude.{OnOk, IfErr}
use Rattle.jo_lex.specs.declared.refusal.ParseFault.{ParseFault}
use Rattle.jo_lex.specs.declared.refusal.ParseFault.TheVariants.{Memory, Refused}
use Rattle.jo_lex.specs.declared.refusal.Refusal.{Refusal}
use Rattle.jo_parse_tree.specs.declared.script.Item.{Item}
use Rattle.jo_parse_tree.specs.Blocks.{declared_in}
use Rattle.jo_parse_tree.specs.ScriptViews.{items_list}
use Rattle.jo_parse_tree.specs.Trees.{Items}
use Rattle.jo_parse_grammar.specs.Declarations.{Scope, Found, IsDeclared, at_beginning, faults, faults_of_items, first_of_faults, is_bound}
use Rattle.jo_parse_names.specs.inner.Blocks.{Scopes, IsAlike, Judges, answer_to}
use Rattle.jo_parse_grammar.specs.NameRefusals.{IsNameFault, refusal_for}
use Rattle.jo_parse_names.proofs.Alike.{items-same}
use Rattle.jo_parse_names.proofs.Judging.{judged_same}

none-found : (founds : List Found) {x : Unit {0}} → answer_to founds ≡ Ok x → founds ≡ []
none-found [] e = refl
none-found (found ∷ founds) e = grind (arith, e)

first-found : (founds : List Found) (refusal : Refusal) → answer_to founds ≡ Err refusal → (found : Found) × (first_of_faults founds ≡ Some found) × (refusal ≡ refusal_for found)
first-found [] refusal e = grind (arith, e)
first-found (found ∷ founds) refusal e = (found, refl, grind (arith, e))

pub declared_ok : (script : Items) (result : Result (Unit {0}) ParseFault) → Judges (faults script) result → OnOk result (IsDeclared script)
declared_ok script (Ok x) j = none-found (faults script) j
declared_ok script (Err fault) j = tt

pub declared_err : (script : Items) (result : Result (Unit {0}) ParseFault) → Judges (faults script) result → IfErr result (IsNameFault script)
declared_err script (Ok x) j = tt
declared_err script (Err Memory) j = tt
declared_err script (Err (Refused refusal)) j = first-found (faults script) refusal j

pub script-judged : (scopes : Scopes) (block : Scope) (items : List Item) (result : Result (Unit {0}) ParseFault) → scopes ≡ (block, []) → IsAlike block (at_beginning (declared_in (items_list items)))
    → Judges (faults_of_items scopes.0 scopes.1 (items_list items)) result → Judges (faults (items_list items)) result
script-judged scopes block items result new a j =
    let scope = at_beginning (declared_in (items_list items)) in
    let inner = subst (λ s. IsAlike s.0 scope) (sym new) a in
    judged_same (faults (items_list items)) (faults_of_items scopes.0 scopes.1 (items_list items)) result
    (ap answer_to (sym (items-same scopes.0 scope scopes.1 [] (items_list items) inner (λ name. ap (λ s. is_bound s.1 name) new)))) j
